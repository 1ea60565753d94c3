use Rattle.std.proofs.Common.{sym, ap, ◌∙◌, ◌/◌, ◌==◌, filter}
use Rattle.rv_value.specs.declared.record.Record.{Record}
use Rattle.rv_rows.specs.Changes.{is_before, rows_with_changes}
use Rattle.rv_rows.specs.Rows.{comes_below}
use Rattle.rv_rows.proofs.Puts.{rising_filter}
use Rattle.rv_overlay.specs.Fronts.{is_on}
use Rattle.rv_overlay.specs.Rows.{on_page}
use Rattle.rv_overlay.proofs.Tabling.{page_applied, on_applied}
use Rattle.rv_overlay.proofs.rows.page_over.Goals as goal

pub lay_changes-requires-clause-ascend : goal.lay_changes-requires-clause-ascend
lay_changes-requires-clause-ascend g c = rw c.in_ok-page.ensures.rows (rising_filter comes_below (λ (r : Record). r.row.0 / 32 == c.args.n) _ c.requires.ascend)

pub lay_changes-requires-clause-rise : goal.lay_changes-requires-clause-rise
lay_changes-requires-clause-rise g c = rw (c.as_slice.ensures.value, c.in_ok-changes.ensures) (rising_filter is_before (is_on c.args.table c.args.n) _ c.requires.rise)

pub returns-clause-rows : goal.returns-clause-rows
returns-clause-rows g c =
    c.in_ok-rows.ensures
    ∙ ap (λ cs. rows_with_changes c.args.table (on_page c.args.n cs) c.in_ok-page.page.items) (c.as_slice.ensures.value ∙ c.in_ok-changes.ensures)
    ∙ on_applied c.args.table c.args.n c.args.frozen.now.changes c.in_ok-page.page.items
    ∙ ap (rows_with_changes c.args.table (on_page c.args.n c.args.frozen.now.changes)) c.in_ok-page.ensures.rows
    ∙ sym (page_applied c.args.table c.args.n c.args.frozen.now.changes _ c.requires.ascend)
