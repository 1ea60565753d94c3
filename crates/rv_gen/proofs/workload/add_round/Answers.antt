use Rattle.rv_gen.proofs.Runs.{line_then, lines_then}
use Rattle.rv_gen.proofs.workload.add_round.Goals as goal

pub returns-clause-lines : goal.returns-clause-lines
returns-clause-lines c =
    lines_then _ _ _ _ _ c.in_ok-add_fetches.ensures (line_then _ _ _ _ _ c.in_ok-add.ensures (line_then _ _ _ _ _ c.in_ok-add_update.ensures.lines c.in_ok-add-2.ensures))
