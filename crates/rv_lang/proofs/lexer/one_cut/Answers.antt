use Rattle.std.proofs.Common.{[]}
use Rattle.rv_lang.proofs.Cuts.{of_cuts, of_cut_to, one_offset, cut_once, ended_nil}
use Rattle.rv_lang.proofs.lexer.one_cut.Goals as goal

pub returns-clause-tokens : goal.returns-clause-tokens
returns-clause-tokens c = λ text ts us h k. let e = cut_once text ts us [] [] h ended_nil k ended_nil in e.0

pub returns-clause-excluded : goal.returns-clause-excluded
returns-clause-excluded c = λ text ts offset h k. let e = of_cuts text ts h in let f = of_cut_to text offset k in absurd cc

pub returns-clause-offset : goal.returns-clause-offset
returns-clause-offset c = λ text m n h k. one_offset text m n h k
