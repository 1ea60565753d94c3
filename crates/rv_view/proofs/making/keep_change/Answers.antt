use Rattle.std.proofs.Common.{◌∙◌, sym}
use Rattle.rv_overlay.specs.Rows.{changed_row}
use Rattle.rv_view.proofs.making.keep_change.Goals as goal

pub keep_rows-kept-requires-clause-base : goal.keep_rows-kept-requires-clause-base
keep_rows-kept-requires-clause-base g c = c.as_ref-2.ensures.value ∙ c.in_ok-base.ensures.row

pub keep_rows-kept-requires-clause-before : goal.keep_rows-kept-requires-clause-before
keep_rows-kept-requires-clause-before g c = c.as_ref-3.ensures.value ∙ c.in-Ok.ensures ∙ (λ i. changed_row (c.change_of-earlier.ensures i) ((c.as_ref.ensures.value ∙ sym c.as_ref-2.ensures.value) i))

pub keep_rows-kept-requires-clause-after : goal.keep_rows-kept-requires-clause-after
keep_rows-kept-requires-clause-after g c = c.as_ref-4.ensures.value ∙ c.in-Ok-row_of.ensures
