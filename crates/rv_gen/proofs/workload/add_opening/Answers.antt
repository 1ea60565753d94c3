use Rattle.rv_gen.proofs.Runs.{line_then}
use Rattle.rv_gen.proofs.workload.add_opening.Goals as goal

pub returns-clause-lines : goal.returns-clause-lines
returns-clause-lines c = line_then _ _ _ _ _ (c.in_ok-add.ensures) (c.in_ok-add_open.ensures.lines)
