use Rattle.std.proofs.Common.{◌≡◌, ap, arith, false}
use Rattle.std.proofs.lemmas.Bool.Decides.{nat_tests}
use Rattle.rv_value.proofs.Lists.{on_err}
use Rattle.rv_race.specs.Raced.{Raced}
use Rattle.rv_final.specs.Shell.{scanning}
use Rattle.rv_race.specs.Given.{turn_lane}
use Rattle.rv_race.proofs.Takes.{none_took}
use Rattle.rv_race.proofs.race.Race.take_piece.Goals as goal

pub returns-then-not-is_racing-clause-took : goal.returns-then-not-is_racing-clause-took
returns-then-not-is_racing-clause-took g c =
    let off : scanning c.args.self.now.control ≡ false = grind (arith, nat_tests, c.is_racing.ensures, c.if-not-is_racing.true) in
    none_took c.args.self.now (g.R.Reader.shown c.args.reader.now) c.args.steps.now off c.requires.fits

pub returns-in_err-take_awaited-clause-untaken : goal.returns-in_err-take_awaited-clause-untaken
returns-in_err-take_awaited-clause-untaken g c = on_err _ _ (ap (λ (x : Raced). (turn_lane x).held) c.in_err-take_awaited.ensures.err)
