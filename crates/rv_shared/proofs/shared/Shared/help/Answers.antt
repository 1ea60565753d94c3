use Rattle.std.proofs.Common.{rules}
use Rattle.rv_shared.proofs.Onward.{unanswered_after}
use Rattle.rv_shared.proofs.shared.Shared.help.Goals as goal

pub returns-in-Ok-clause-seen : goal.returns-in-Ok-clause-seen
returns-in-Ok-clause-seen g c = unanswered_after c.args.pass.now.number c.take.new.pass.number c.args.pass.now.seen c.take.new.pass.seen c.give.new.pass.seen c.take.ensures.own.1 c.take.ensures.seen.goes_on c.give.ensures.seen

pub returns-in-Err-give-clause-seen : goal.returns-in-Err-give-clause-seen
returns-in-Err-give-clause-seen g c = unanswered_after c.args.pass.now.number c.take.new.pass.number c.args.pass.now.seen c.take.new.pass.seen c.give.new.pass.seen c.take.ensures.own.1 c.take.ensures.seen.goes_on c.give.ensures.seen
