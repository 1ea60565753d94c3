use Rattle.std.proofs.Common.{◌∙◌, sym}
use Rattle.rv_rows.proofs.Forms.{all_listed, all_mapped}
use Rattle.rv_rows.proofs.changes.Changes.to_vec.Goals as goal

pub returns-then-is_empty-clause-same : goal.returns-then-is_empty-clause-same
returns-then-is_empty-clause-same c = rw (← (all_mapped c.self.inside.listed c.self.inside.mapped.entries (sym c.is_empty.ensures ∙ c.if-is_empty.true) ∙ c.self.view_is)) c.copy_entries.ensures

pub returns-clause-same : goal.returns-clause-same
returns-clause-same c = rw (← (c.as_slice.ensures ∙ all_listed c.self.inside.listed c.self.inside.mapped.entries c.self.invariant (sym c.is_empty.ensures ∙ c.if-is_empty.false) ∙ c.self.view_is)) c.copy_slice.ensures
