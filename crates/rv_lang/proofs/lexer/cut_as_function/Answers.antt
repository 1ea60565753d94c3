use Rattle.rv_lang.proofs.Cuts.{cuts_of, of_cuts, of_cut_to}
use Rattle.rv_lang.proofs.lexer.cut_as_function.Goals as goal

pub returns-clause-cuts : goal.returns-clause-cuts
returns-clause-cuts c = cuts_of

pub returns-clause-gives : goal.returns-clause-gives
returns-clause-gives c = of_cuts

pub returns-clause-none : goal.returns-clause-none
returns-clause-none c = of_cut_to
