use Rattle.std.proofs.Common.{◌≡◌}
use Rattle.rv_reader.specs.Entries.{Ascend}
use Rattle.rv_overlay.specs.Laying.{with_all}
use Rattle.rv_overlay.proofs.laying.put_all.Given as goal

abbrev pub invariant-added : goal.invariant-added
invariant-added l = record {
  ascend : Ascend l.entries.items;
  all : l.entries.items ≡ with_all l.yielded l.initial.entries.items;
}
