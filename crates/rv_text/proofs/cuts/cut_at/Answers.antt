use Rattle.std.proofs.Common.{ap, sym}
use Rattle.rv_text.specs.Lines.{Cut}
use Rattle.rv_text.proofs.Finding.{found_at, found_nowhere}
use Rattle.rv_text.proofs.cuts.cut_at.Goals as goal

pub returns-in-Some-clause-word : goal.returns-in-Some-clause-word
returns-in-Some-clause-word c = ap (λ (x : Cut). x.word) (sym (found_at c.args.byte c.args.text.now c.in-Some.at c.in-Some.ensures))

pub returns-in-Some-clause-more : goal.returns-in-Some-clause-more
returns-in-Some-clause-more c = ap (λ (x : Cut). x.more) (sym (found_at c.args.byte c.args.text.now c.in-Some.at c.in-Some.ensures))

pub returns-in-None-clause-word : goal.returns-in-None-clause-word
returns-in-None-clause-word c = ap (λ (x : Cut). x.word) (sym (found_nowhere c.args.byte c.args.text.now c.in-None.ensures))

pub returns-in-None-clause-more : goal.returns-in-None-clause-more
returns-in-None-clause-more c = ap (λ (x : Cut). x.more) (sym (found_nowhere c.args.byte c.args.text.now c.in-None.ensures))
