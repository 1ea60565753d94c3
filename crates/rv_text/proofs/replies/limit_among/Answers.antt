use Rattle.std.proofs.Common.{◌∙◌, ap, sym, bytes_eq}
use Rattle.rv_model.specs.Transcript.{limit_word}
use Rattle.rv_text.proofs.Finding.{find_rest}
use Rattle.rv_text.proofs.replies.limit_among.Goals as goal

pub limits-preserved : goal.limits-preserved
limits-preserved c = find_rest (λ w. bytes_eq (limit_word w) c.args.word.now) c.limits.rest.now _ c.in-len1-up.len_at_least (ap (λ ws. bytes_eq ws c.args.word.now) (sym c.limit_word.ensures) ∙ sym c.eq.ensures ∙ c.if-eq.false) ∙ c.limits.invariant
