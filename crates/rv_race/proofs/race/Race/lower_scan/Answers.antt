use Rattle.std.proofs.Common.{◌≡◌, ◌<◌, length, subst}
use Rattle.rv_race.specs.Raced.{Raced}
use Rattle.rv_race.specs.Ways.{lower}
use Rattle.rv_race.proofs.Lanes.{lower_within}
use Rattle.rv_race.proofs.race.Race.lower_scan.Goals as goal

pub returns-clause-planned : goal.returns-clause-planned
returns-clause-planned c = lower_within c.args.self.now c.lower.result (subst (λ (r : Raced). c.lower.result ≡ lower r.running) c.self.view_is c.lower.ensures) (subst (λ (r : Raced). r.running.turn.scan < length r.plans) c.self.view_is c.self.invariant.turn_planned)
