use Rattle.std.proofs.Common.{◌∷◌, codes, ap, sym, ◌∙◌}
use Rattle.rv_text.specs.Traces.{counts_at}
use Rattle.rv_text.proofs.Passing.{words_last, words_some}
use Rattle.rv_text.proofs.traces.leaves_count.Goals as goal

pub returns-in-Some : goal.returns-in-Some
returns-in-Some c = c.fetches_word.ensures ∙ ap (λ ws. counts_at (c.args.pages.now ∷ codes "leaves" ∷ ws)) (sym (words_some c.args.text.now c.cut_at.result.0.now c.cut_at.result.1 c.in-Some.behind c.cut_at.ensures.word c.cut_at.ensures.more c.in-Some.is))

pub returns-in-None : goal.returns-in-None
returns-in-None c = ap (λ ws. counts_at (c.args.pages.now ∷ codes "leaves" ∷ ws)) (sym (words_last c.args.text.now c.cut_at.result.0.now c.cut_at.result.1 c.cut_at.ensures.word c.cut_at.ensures.more c.in-None.is))
