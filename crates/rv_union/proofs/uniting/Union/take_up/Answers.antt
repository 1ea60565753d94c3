use Rattle.rv_jscan.specs.Steps.{held_next}
use Rattle.rv_final.proofs.Givings.{right_of}
use Rattle.rv_union.proofs.Lanes.{obeys_by}
use Rattle.rv_union.proofs.uniting.Union.take_up.Goals as goal

pub returns-clause-obeys : goal.returns-clause-obeys
returns-clause-obeys g c = obeys_by (right_of c.ask_unless.ensures.stays) _ _ c.args.sieved.now c.args.self.now c.accept_as.new.self c.ask_unless.new.self c.is_last-last.result (held_next c.args.self.now.lane.held) c.is_last-last.ensures c.in_ok-accept_as.ensures.last c.in_ok-accept_as.ensures.more c.ask_unless.ensures.last c.ask_unless.ensures.quiet c.ask_unless.ensures.ruled
