use Rattle.std.proofs.Common.{[]}
use Rattle.rv_words.specs.Words.{asked_of}
use Rattle.own_judge.proofs.Writing.{legal_of, nothing_asked}
use Rattle.own_judge.proofs.run_shared.Goals as goal

pub returns : goal.returns
returns g c = record { done = λ done. legal_of c.run_plain-ran.result.core (λ core. core.engine.history) _ _ _ (c.run_plain-ran.ensures.done (asked_of []) nothing_asked done) }
