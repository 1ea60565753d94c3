use Rattle.std.proofs.Common.{◌∷◌, codes, ap, sym, ◌∙◌}
use Rattle.rv_text.specs.Traces.{counted, counts_at}
use Rattle.rv_text.proofs.Passing.{words_last, words_two}
use Rattle.rv_text.proofs.traces.last_count.Goals as goal

pub returns-in-Some : goal.returns-in-Some
returns-in-Some c = ap (λ ws. counts_at (c.args.pages.now ∷ codes "leaves" ∷ c.args.leaves.now ∷ codes "fetches" ∷ ws)) (sym (words_two c.args.text.now c.cut_at.result.0.now c.cut_at.result.1 c.in-Some.field-0 c.cut_at.ensures.word c.cut_at.ensures.more c.in-Some.is))

pub returns-in-None : goal.returns-in-None
returns-in-None c =
    c.counted.ensures ∙ (λ i. counted (c.number.ensures i) (c.number-in-None.ensures i) (c.number-in-None-2.ensures i))
    ∙ ap (λ ws. counts_at (c.args.pages.now ∷ codes "leaves" ∷ c.args.leaves.now ∷ codes "fetches" ∷ ws)) (sym (words_last c.args.text.now c.cut_at.result.0.now c.cut_at.result.1 c.cut_at.ensures.word c.cut_at.ensures.more c.in-None.is))
