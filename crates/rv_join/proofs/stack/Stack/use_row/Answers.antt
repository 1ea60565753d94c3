use Rattle.std.proofs.Common.{refl, sym, ◌∙◌}
use Rattle.rv_join.specs.Alone.Onward.{Rests, Uses}
use Rattle.rv_join.proofs.Accounting.{used_first}
use Rattle.rv_join.proofs.Stacking.{delivers}
use Rattle.rv_join.proofs.stack.Stack.use_row.Goals as goal

pub returns-in_ok-offer-clause-moves : goal.returns-in_ok-offer-clause-moves
returns-in_ok-offer-clause-moves g c = delivers c.args.asked.now (g.R.Reader.shown c.args.reader.now) c.args.self.now c.drop_row.new.self c.in_ok-offer.offer c.requires.fits c.requires.some (sym c.is_last.ensures ∙ c.if-is_last.true) c.in_ok-offer.ensures.is c.drop_row.ensures

pub returns-in_ok-offer-clause-alone : goal.returns-in_ok-offer-clause-alone
returns-in_ok-offer-clause-alone g c one = rw c.drop_row.ensures (used_first c.args.self.now, refl)

pub returns-in_ok-offer-clause-first : goal.returns-in_ok-offer-clause-first
returns-in_ok-offer-clause-first g c = rw c.drop_row.ensures (used_first c.args.self.now)

pub returns-in_ok-offer-clause-used : goal.returns-in_ok-offer-clause-used
returns-in_ok-offer-clause-used g c one = c.drop_row.ensures

pub returns-in_ok-offer-clause-goes : goal.returns-in_ok-offer-clause-goes
returns-in_ok-offer-clause-goes g c = (Uses, (c.drop_row.ensures, refl))

pub returns-in_err-offer-clause-goes : goal.returns-in_err-offer-clause-goes
returns-in_err-offer-clause-goes g c = (Rests, (refl, refl))
