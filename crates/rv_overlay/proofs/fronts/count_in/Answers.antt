use Rattle.std.proofs.Common.{◌∙◌, ap, length}
use Rattle.rv_overlay.proofs.Runs.{in_range}
use Rattle.rv_overlay.proofs.fronts.count_in.Goals as goal

pub returns : goal.returns
returns c = c.span_of.ensures.count ∙ ap length (in_range c.args.range.now c.args.entries.now)
