use Rattle.std.proofs.Common.{◌≡◌, take}
use Rattle.rv_view.specs.Making.{Keeps}
use Rattle.rv_view.proofs.making.keep_changes.Given as goal

-- what is frozen so far is what the changes so far make
abbrev pub invariant-changes : goal.invariant-changes
invariant-changes g l = record {
  keeps : Keeps (g.R.Reader.shown l.reader) l.frozen l.written;
  changes : l.frozen.changes ≡ take l.change-index l.changes;
  base : l.frozen.base ≡ l.fn.frozen.base;
}
