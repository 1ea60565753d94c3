use Rattle.rv_sums.proofs.Pieces.{fetch_takes, step_takes}
use Rattle.rv_sums.proofs.Spending.{life_bounded, moves_spend}
use Rattle.rv_sums.proofs.laws.reads_are_bounded.Goals as goal

pub returns-clause-moves : goal.returns-clause-moves
returns-clause-moves c = moves_spend

pub returns-clause-life : goal.returns-clause-life
returns-clause-life c = life_bounded

pub returns-clause-step : goal.returns-clause-step
returns-clause-step c = step_takes

pub returns-clause-fetch : goal.returns-clause-fetch
returns-clause-fetch c = fetch_takes
