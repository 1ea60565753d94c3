use Rattle.std.proofs.Common.{◌∙◌, ◌++◌}
use Rattle.std.proofs.lemmas.List.Sorted.{IsPermutation-trans}
use Rattle.rv_keyset.specs.Sets.{flat}
use Rattle.rv_keyset.proofs.runs.pour_due.Goals as goal

pub lists-preserved : goal.lists-preserved
lists-preserved c = record {
  pours = c.pour_last.ensures.pours;
  keys = IsPermutation-trans (flat c.args.lists.now.items ++ c.args.put.now.keys) (flat c.lists.lists.items ++ c.lists.put.keys) (flat c.pour_last.new.lists.items ++ c.pour_last.new.put.keys) c.lists.invariant.keys c.pour_last.ensures.keys;
  capacity = c.pour_last.ensures.capacity ∙ c.lists.invariant.capacity;
}
