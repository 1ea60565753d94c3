use Rattle.std.proofs.Common.{◌∙◌, ap, sym, bytes_eq}
use Rattle.rv_judge.specs.Words.{strategy_word}
use Rattle.rv_text.proofs.Finding.{find_rest}
use Rattle.rv_text.proofs.traces.strategy_among.Goals as goal

pub strategies-preserved : goal.strategies-preserved
strategies-preserved c = find_rest (λ w. bytes_eq (strategy_word w) c.args.word.now) c.strategies.rest.now _ c.in-len1-up.len_at_least (ap (λ ws. bytes_eq ws c.args.word.now) (sym (c.as_bytes.ensures.value ∙ c.word.ensures)) ∙ sym c.eq.ensures ∙ c.if-eq.false) ∙ c.strategies.invariant
