use Rattle.std.proofs.Common.{sym, ap, ◌∙◌}
use Rattle.rv_overlay.specs.Rows.{change_of, changed_row}
use Rattle.rv_overlay.proofs.Tabling.{row_applied}
use Rattle.rv_overlay.proofs.rows.fetch_over.Goals as goal

pub returns-clause-row : goal.returns-clause-row
returns-clause-row g c =
    c.in_ok-row.ensures
    ∙ ap (λ o. changed_row o c.in_ok-found.found) c.change_of-change.ensures
    ∙ ap (changed_row (change_of c.args.table c.args.row.0 c.args.frozen.now.changes)) c.in_ok-found.ensures.row
    ∙ sym (row_applied c.args.table c.args.row.0 c.args.frozen.now.changes _ c.requires.rise)
