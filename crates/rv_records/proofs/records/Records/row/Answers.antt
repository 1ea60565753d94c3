use Rattle.std.proofs.Common.{◌∙◌, ◌/◌, ap, sym, arith, refl}
use Rattle.rv_reader.specs.Tables.{row_at}
use Rattle.rv_records.proofs.Keeping.{row_read, row_none, row_past, table_is}
use Rattle.rv_records.proofs.records.Records.row.Goals as goal

pub returns-in-Some-clause-row : goal.returns-in-Some-clause-row
returns-in-Some-clause-row c = rw (← c.self.view_is) (c.find_row.ensures ∙ ap (λ rows. row_at rows c.args.row.0) c.as_slice.ensures.same ∙ row_read _ c.args.snap c.args.row.0 (c.args.row.0 / 32) c.in-Some.rows.now c.self.invariant (rw (← c.self.view_is) at c.requires) refl c.in-Some.ensures)

pub returns-in-None-clause-row : goal.returns-in-None-clause-row
returns-in-None-clause-row c = rw (← c.self.view_is) (row_none _ c.args.snap c.args.row.0 (c.args.row.0 / 32) c.self.invariant (rw (← c.self.view_is) at c.requires) refl c.in-None.ensures)

pub returns-then-row-from-clause-row : goal.returns-then-row-from-clause-row
returns-then-row-from-clause-row c = rw (← c.self.view_is) (sym (row_past _ c.args.snap c.args.row.0 c.self.invariant (rw (← c.self.view_is) at c.requires) (omega arith)))

pub returns-in-Some-clause-ascend : goal.returns-in-Some-clause-ascend
returns-in-Some-clause-ascend c = rw (← c.self.view_is) (table_is _ c.args.snap c.self.invariant (rw (← c.self.view_is) at c.requires)).ascend

pub returns-in-None-clause-ascend : goal.returns-in-None-clause-ascend
returns-in-None-clause-ascend c = rw (← c.self.view_is) (table_is _ c.args.snap c.self.invariant (rw (← c.self.view_is) at c.requires)).ascend

pub returns-then-row-from-clause-ascend : goal.returns-then-row-from-clause-ascend
returns-then-row-from-clause-ascend c = rw (← c.self.view_is) (table_is _ c.args.snap c.self.invariant (rw (← c.self.view_is) at c.requires)).ascend
