use Rattle.std.proofs.Common.{◌∙◌}
use Rattle.skew_judges.specs.Guard.{parts}
use Rattle.skew_judges.proofs.Guarding.{sunk_is}
use Rattle.skew_judges.proofs.guard.is_sunk.Goals as goal

pub returns : goal.returns
returns c =
    c.comes_to.ensures
    ∙ sunk_is c.parts_of-times.result (parts c.args.facts.now.scan) c.from-factor.result c.from-beside.result c.args.facts.now.spent c.args.facts.now.guaranteed c.parts_of-times.ensures c.from-factor.ensures (c.from-beside.ensures ∙ c.saturating_sub.ensures)
