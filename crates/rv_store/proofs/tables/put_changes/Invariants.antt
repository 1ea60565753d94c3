use Rattle.std.proofs.Common.{take}
use Rattle.rv_store.specs.Tables.{AreOpen, AreSameBelow, AreChanged}
use Rattle.rv_store.proofs.tables.put_changes.Given as goal

abbrev pub invariant-changes : goal.invariant-changes
invariant-changes l = record {
  same : AreSameBelow l.commit l.initial.tables.items l.tables.items;
  open_ : AreOpen l.commit l.tables.items;
  changed : AreChanged l.commit (take l.change-index l.changes) l.initial.tables.items l.tables.items;
}
