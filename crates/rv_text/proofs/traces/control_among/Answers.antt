use Rattle.std.proofs.Common.{◌∙◌, ap, sym, bytes_eq}
use Rattle.rv_judge.specs.Words.{control_word}
use Rattle.rv_text.proofs.Finding.{find_rest}
use Rattle.rv_text.proofs.traces.control_among.Goals as goal

pub controls-preserved : goal.controls-preserved
controls-preserved c = find_rest (λ w. bytes_eq (control_word w) c.args.word.now) c.controls.rest.now _ c.in-len1-up.len_at_least (ap (λ ws. bytes_eq ws c.args.word.now) (sym (c.as_bytes.ensures.value ∙ c.word.ensures)) ∙ sym c.eq.ensures ∙ c.if-eq.false) ∙ c.controls.invariant
