use Rattle.std.proofs.Common.{◌∙◌, ◌*◌, ◌^◌, ◌-◌, ap, arith, min, nat_le}
use Rattle.skew_judges.proofs.Guarding.{held_tests}
use Rattle.skew_judges.proofs.guard.comes_to.Goals as goal

pub returns : goal.returns
returns c =
    ap (λ n. nat_le n c.saturating_mul.result) c.from.ensures
    ∙ ap (λ x. nat_le c.args.number x) (c.saturating_mul.ensures ∙ ap (λ x. min (c.args.count * x) (2 ^ 128 - 1)) c.saturating_pow.ensures)
    ∙ held_tests c.args.count (2 ^ c.args.doublings) (2 ^ 128 - 1) c.args.number (omega (arith, c.ranges.number.fits))
