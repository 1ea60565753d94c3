use Rattle.std.proofs.Common.{rules}
use Rattle.rv_join.proofs.Collecting.{first_more}
use Rattle.rv_join.proofs.Planning.{gathered_more, moving_is}
use Rattle.rv_join.proofs.gather.Gathered.gather.Goals as goal

pub returns-in-Row-clause-gathers : goal.returns-in-Row-clause-gathers
returns-in-Row-clause-gathers g c = gathered_more c.args.asked.now (g.R.Reader.shown c.args.reader.now) c.in-Row.offer c.args.stack.now c.advance.new.self c.args.self.now _ (rw c.in-Row.is at c.in_ok-offer.ensures.moves) (first_more c.self.inside.offers.items c.reserve.new.self.items c.in-Row.offer c.args.self.now _ (search rules) c.self.view_is c.keep.ensures)

pub returns-in-Working-clause-gathers : goal.returns-in-Working-clause-gathers
returns-in-Working-clause-gathers g c = moving_is c.args.asked.now (g.R.Reader.shown c.args.reader.now) c.args.stack.now c.advance.new.self c.args.self.now _ (rw c.in-Working.is at c.in_ok-offer.ensures.moves) (search rules)

pub returns-in-Row-clause-spends : goal.returns-in-Row-clause-spends
returns-in-Row-clause-spends g c = λ one. (let spends = c.in_ok-offer.ensures.spends one in rw c.in-Row.is at spends)

pub returns-in-Working-clause-spends : goal.returns-in-Working-clause-spends
returns-in-Working-clause-spends g c = λ one. (let spends = c.in_ok-offer.ensures.spends one in rw c.in-Working.is at spends)

pub returns-in-End-clause-spends : goal.returns-in-End-clause-spends
returns-in-End-clause-spends g c = λ one. (let spends = c.in_ok-offer.ensures.spends one in rw c.in-End.is at spends)

pub returns-in-Row-clause-fetches : goal.returns-in-Row-clause-fetches
returns-in-Row-clause-fetches g c = c.in_ok-offer.ensures.fetches

pub returns-in-Working-clause-fetches : goal.returns-in-Working-clause-fetches
returns-in-Working-clause-fetches g c = c.in_ok-offer.ensures.fetches

pub returns-in-End-clause-fetches : goal.returns-in-End-clause-fetches
returns-in-End-clause-fetches g c = c.in_ok-offer.ensures.fetches

pub returns-in-Row-clause-alone : goal.returns-in-Row-clause-alone
returns-in-Row-clause-alone g c = c.advance.ensures.alone

pub returns-in-Row-clause-stays : goal.returns-in-Row-clause-stays
returns-in-Row-clause-stays g c = c.advance.ensures.stays

pub returns-in-Row-clause-asks : goal.returns-in-Row-clause-asks
returns-in-Row-clause-asks g c = c.advance.ensures.asks

pub returns-in-Row-clause-once : goal.returns-in-Row-clause-once
returns-in-Row-clause-once g c = c.advance.ensures.once

pub returns-in-Row-clause-plans : goal.returns-in-Row-clause-plans
returns-in-Row-clause-plans g c = c.advance.ensures.plans

pub returns-in-Working-clause-alone : goal.returns-in-Working-clause-alone
returns-in-Working-clause-alone g c = c.advance.ensures.alone

pub returns-in-Working-clause-stays : goal.returns-in-Working-clause-stays
returns-in-Working-clause-stays g c = c.advance.ensures.stays

pub returns-in-Working-clause-asks : goal.returns-in-Working-clause-asks
returns-in-Working-clause-asks g c = c.advance.ensures.asks

pub returns-in-Working-clause-once : goal.returns-in-Working-clause-once
returns-in-Working-clause-once g c = c.advance.ensures.once

pub returns-in-Working-clause-plans : goal.returns-in-Working-clause-plans
returns-in-Working-clause-plans g c = c.advance.ensures.plans

pub returns-in-End-clause-alone : goal.returns-in-End-clause-alone
returns-in-End-clause-alone g c = c.advance.ensures.alone

pub returns-in-End-clause-stays : goal.returns-in-End-clause-stays
returns-in-End-clause-stays g c = c.advance.ensures.stays

pub returns-in-End-clause-asks : goal.returns-in-End-clause-asks
returns-in-End-clause-asks g c = c.advance.ensures.asks

pub returns-in-End-clause-once : goal.returns-in-End-clause-once
returns-in-End-clause-once g c = c.advance.ensures.once

pub returns-in-End-clause-plans : goal.returns-in-End-clause-plans
returns-in-End-clause-plans g c = c.advance.ensures.plans

pub returns-in_err-offer-clause-alone : goal.returns-in_err-offer-clause-alone
returns-in_err-offer-clause-alone g c = c.advance.ensures.alone

pub returns-in_err-offer-clause-stays : goal.returns-in_err-offer-clause-stays
returns-in_err-offer-clause-stays g c = c.advance.ensures.stays

pub returns-in_err-offer-clause-asks : goal.returns-in_err-offer-clause-asks
returns-in_err-offer-clause-asks g c = c.advance.ensures.asks

pub returns-in_err-offer-clause-once : goal.returns-in_err-offer-clause-once
returns-in_err-offer-clause-once g c = c.advance.ensures.once

pub returns-in_err-offer-clause-plans : goal.returns-in_err-offer-clause-plans
returns-in_err-offer-clause-plans g c = c.advance.ensures.plans
