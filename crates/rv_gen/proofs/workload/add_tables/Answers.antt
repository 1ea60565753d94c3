use Rattle.rv_gen.specs.Workload.{tables}
use Rattle.rv_gen.proofs.Runs.{line_then}
use Rattle.rv_gen.proofs.workload.add_tables.Goals as goal

pub returns : goal.returns
unfolding tables
returns c = line_then _ _ _ _ _ c.in_ok-add.ensures (line_then _ _ _ _ _ c.in_ok-add-2.ensures (line_then _ _ _ _ _ c.in_ok-add-3.ensures c.in_ok-add-4.ensures))
