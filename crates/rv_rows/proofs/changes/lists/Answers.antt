use Rattle.std.proofs.Common.{◌∙◌, ap}
use Rattle.rv_rows.specs.Kept.{begins_at}
use Rattle.rv_rows.proofs.Forms.{has_listed}
use Rattle.rv_rows.proofs.changes.lists.Goals as goal

pub returns : goal.returns
returns c = c.stands_at.ensures ∙ ap (begins_at c.args.key.table c.args.key.row.0) c.changes_ahead-place.ensures.back ∙ has_listed c.args.key.table c.args.key.row.0 c.args.listed.now c.requires
