use Rattle.std.proofs.Common.{◌∙◌, refl}
use Rattle.rv_overlay.proofs.Runs.{size_is}
use Rattle.rv_overlay.proofs.rows.size_of.Goals as goal

pub returns : goal.returns
returns c = c.find.ensures ∙ size_is c.args.table (record { table = c.args.table; pages = 0; rows = 0 }) c.args.sizes.now refl
