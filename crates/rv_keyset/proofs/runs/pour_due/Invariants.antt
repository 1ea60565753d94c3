use Rattle.std.proofs.Common.{◌≡◌, ◌++◌, vec_len, IsPermutation}
use Rattle.std.specs.Vec.{vec_capacity}
use Rattle.rv_keyset.specs.Sets.{Pours, flat}
use Rattle.rv_keyset.proofs.runs.pour_due.Given as goal

abbrev pub invariant-lists : goal.invariant-lists
invariant-lists l = record {
  pours : Pours l.lists.items l.put;
  keys : IsPermutation (flat l.initial.lists.items ++ l.initial.put.keys) (flat l.lists.items ++ l.put.keys);
  capacity : vec_capacity l.lists ≡ vec_capacity l.initial.lists;
}

abbrev pub decreases-lists : goal.decreases-lists
decreases-lists l = vec_len l.lists
