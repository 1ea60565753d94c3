use Rattle.std.proofs.Common.{◌∙◌}
use Rattle.rv_rows.proofs.Forms.{from_least_row}
use Rattle.rv_rows.proofs.changes.listed_from.Goals as goal

pub returns : goal.returns
returns c = c.split_at.ensures.back ∙ c.changes_ahead.ensures.back ∙ from_least_row c.args.table c.args.listed.now
