use Rattle.std.proofs.lemmas.Result.{IfOk-weaker}
use Rattle.std.proofs.lemmas.List.Elements.{All-weaker}
use Rattle.rv_shared.specs.Told.{IsFresh}
use Rattle.rv_turn.specs.State.{IsPassOf}
use Rattle.own_sessions.proofs.sessions.share.Goals as goal

pub returns-clause-sessions : goal.returns-clause-sessions
returns-clause-sessions g c =
    IfOk-weaker c.open.result _ _ (λ o fresh. (fresh.0, All-weaker (λ p. IsFresh o.shared.turn p) (λ p. IsPassOf o.shared.turn p) (λ p is. is.own) o.sessions.items fresh.1)) c.open.ensures.sessions

pub returns-clause-helpers : goal.returns-clause-helpers
returns-clause-helpers g c =
    IfOk-weaker c.open.result _ _ (λ o fresh. (fresh.0, All-weaker (λ p. IsFresh o.shared.turn p) (λ p. IsPassOf o.shared.turn p) (λ p is. is.own) o.helpers.items fresh.1)) c.open.ensures.helpers
