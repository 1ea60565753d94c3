use Rattle.std.proofs.Common.{◌∙◌, ap}
use Rattle.rv_rows.specs.Kept.{begins_in}
use Rattle.rv_rows.proofs.Forms.{touches_listed}
use Rattle.rv_rows.proofs.changes.lists_table.Goals as goal

pub returns : goal.returns
returns c = c.starts_in.ensures ∙ ap (begins_in c.args.table) c.listed_from.ensures ∙ touches_listed c.args.table c.args.listed.now c.requires
