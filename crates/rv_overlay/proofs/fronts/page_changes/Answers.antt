use Rattle.std.proofs.Common.{◌∙◌}
use Rattle.rv_overlay.proofs.Runs.{before_parted, span_on, until_page_parted}
use Rattle.rv_overlay.proofs.fronts.page_changes.Goals as goal

pub count-at-requires : goal.count-at-requires
count-at-requires c = before_parted c.args.table c.args.page c.args.changes.now c.requires

pub count-end-requires : goal.count-end-requires
count-end-requires c = until_page_parted c.args.table c.args.page c.args.changes.now c.requires

pub returns : goal.returns
returns c = c.in_ok-run.ensures ∙ span_on c.args.table c.args.page c.count-at.result c.count-end.result _ c.args.changes.now c.count-at.ensures.front c.count-at.ensures.back c.count-end.ensures.front c.count-end.ensures.back c.saturating_sub.ensures
