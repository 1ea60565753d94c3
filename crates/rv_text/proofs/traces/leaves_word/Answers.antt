use Rattle.std.proofs.Common.{◌∷◌, codes, ap, sym, ◌∙◌}
use Rattle.rv_text.specs.Lines.{cut}
use Rattle.rv_text.specs.Traces.{counts_at, words, words_of}
use Rattle.rv_text.proofs.Leaves.{same_bytes}
use Rattle.rv_text.proofs.Passing.{no_leaves, words_last, words_some, words_two}
use Rattle.rv_text.proofs.traces.leaves_word.Goals as goal

pub returns-then-is_word : goal.returns-then-is_word
returns-then-is_word c =
    let same = same_bytes c.cut_at.result.0.now (codes "leaves") (sym c.is_word.ensures ∙ c.if-is_word.true) in
    c.leaves_count.ensures ∙ ap (λ ws. counts_at (c.args.pages.now ∷ ws)) (sym (words_some c.args.text.now c.cut_at.result.0.now c.cut_at.result.1 c.in-Some.behind c.cut_at.ensures.word c.cut_at.ensures.more c.in-Some.is ∙ ap (λ w. w ∷ words c.in-Some.behind.now) same))

pub returns-else-is_word : goal.returns-else-is_word
returns-else-is_word c =
    no_leaves c.args.pages.now c.cut_at.result.0.now (cut 32 c.in-Some.behind.now).word (words_of (cut 32 c.in-Some.behind.now).more) (sym c.is_word.ensures ∙ c.if-is_word.false)
    ∙ ap (λ ws. counts_at (c.args.pages.now ∷ ws)) (sym (words_two c.args.text.now c.cut_at.result.0.now c.cut_at.result.1 c.in-Some.behind c.cut_at.ensures.word c.cut_at.ensures.more c.in-Some.is))

pub returns-in-None : goal.returns-in-None
returns-in-None c = ap (λ ws. counts_at (c.args.pages.now ∷ ws)) (sym (words_last c.args.text.now c.cut_at.result.0.now c.cut_at.result.1 c.cut_at.ensures.word c.cut_at.ensures.more c.in-None.is))
