use Rattle.std.proofs.Common.{◌≡◌, ap, arith, false}
use Rattle.std.proofs.lemmas.Bool.Decides.{nat_tests}
use Rattle.rv_value.proofs.Lists.{on_err}
use Rattle.rv_union.specs.Unioned.{Unioned}
use Rattle.rv_final.specs.Shell.{scanning}
use Rattle.rv_union.proofs.Takes.{none_took}
use Rattle.rv_union.proofs.uniting.Union.take_piece.Goals as goal

pub returns-then-not-is_scanning-clause-took : goal.returns-then-not-is_scanning-clause-took
returns-then-not-is_scanning-clause-took g c =
    let off : scanning c.args.self.now.control ≡ false = grind (arith, nat_tests, c.is_scanning.ensures, c.if-not-is_scanning.true) in
    none_took c.args.self.now (g.R.Reader.shown c.args.reader.now) c.args.steps.now off c.requires.fits

pub returns-in_err-take_awaited-clause-untaken : goal.returns-in_err-take_awaited-clause-untaken
returns-in_err-take_awaited-clause-untaken g c = on_err _ _ (ap (λ (x : Unioned). x.lane.held) c.in_err-take_awaited.ensures.err)
