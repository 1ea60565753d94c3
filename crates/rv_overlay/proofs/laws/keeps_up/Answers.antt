use Rattle.rv_overlay.proofs.Moving.{keeps_up, nothing_kept, others_keep_up}
use Rattle.rv_overlay.proofs.laws.keeps_up.Goals as goal

pub returns-clause-none : goal.returns-clause-none
returns-clause-none c = nothing_kept

pub returns-clause-own : goal.returns-clause-own
returns-clause-own c = keeps_up

pub returns-clause-others : goal.returns-clause-others
returns-clause-others c = others_keep_up
