use Rattle.std.proofs.Common.{◌∙◌, refl, None}
use Rattle.rv_overlay.proofs.Runs.{change_is}
use Rattle.rv_overlay.proofs.rows.change_of.Goals as goal

pub returns : goal.returns
returns c = c.find.ensures ∙ change_is c.args.table c.args.row.0 (record { table = c.args.table; row = c.args.row; values = None }) c.args.changes.now refl refl
