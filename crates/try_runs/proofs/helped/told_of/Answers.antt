use Rattle.std.proofs.lemmas.List.Elements.{All-pop}
use Rattle.rv_turn.specs.State.{IsPassOf}
use Rattle.try_runs.proofs.helped.told_of.Goals as goal

pub close-core-requires-clause-sessions : goal.close-core-requires-clause-sessions
close-core-requires-clause-sessions g c κs within = (All-pop (λ p. IsPassOf c.in-Ok.field-0.shared.turn p) _ c.pop.new.self.items c.pop.result c.pop.ensures.items c.in-Ok.ensures.sessions.1).0
