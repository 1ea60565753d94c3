use Rattle.rv_race.specs.Given.{turn_lane}
use Rattle.rv_jscan.specs.Steps.{held_next}
use Rattle.rv_final.proofs.Givings.{right_of}
use Rattle.rv_race.proofs.Lanes.{obeys_by}
use Rattle.rv_race.proofs.race.Race.give_piece.Goals as goal

pub returns-clause-obeys : goal.returns-clause-obeys
returns-clause-obeys g c = obeys_by (right_of c.go_by.ensures.stays) _ _ c.args.sieved c.args.self.now c.accept-accepted.new.self c.go_by.new.self c.in_ok-last.last (held_next (turn_lane c.args.self.now).held) c.in_ok-last.ensures.last c.in_ok-last.ensures.ok c.go_by.ensures.last c.go_by.ensures.ruled
