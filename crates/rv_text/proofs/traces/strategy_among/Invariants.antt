use Rattle.std.proofs.Common.{◌≡◌, bytes_eq, find, length}
use Rattle.rv_judge.specs.Words.{strategy_word}
use Rattle.rv_text.proofs.traces.strategy_among.Given as goal

abbrev pub invariant-strategies : goal.invariant-strategies
invariant-strategies l = find (λ s. bytes_eq (strategy_word s) l.word) l.rest ≡ find (λ s. bytes_eq (strategy_word s) l.word) l.strategies

abbrev pub decreases-strategies : goal.decreases-strategies
decreases-strategies l = length l.rest
