use Rattle.std.proofs.Common.{◌≡◌, take}
use Rattle.rv_rows.specs.Changes.{with_changes}
use Rattle.rv_view.specs.Making.{Keeps}
use Rattle.rv_own.proofs.views.kept_on.Given as goal

-- the view so far is what the changes so far make
abbrev pub invariant-changes : goal.invariant-changes
invariant-changes g l = record {
  base : l.view.base ≡ l.fn.kept.view.base;
  changes : l.view.changes ≡ with_changes (take l.change-index l.new) l.fn.kept.view.changes;
  keeps : Keeps (g.S.Reader.shown l.store) l.view l.written;
}
