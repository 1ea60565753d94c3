use Rattle.rv_rivals.proofs.Points.{point_runs}
use Rattle.rv_rivals.proofs.laws.point_runs.Goals as goal

pub returns : goal.returns
returns c = point_runs
