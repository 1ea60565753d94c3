use Rattle.rv_cursor.proofs.Fewer.{backs_lose, fetch_loses, moves_few, turn_loses}
use Rattle.rv_cursor.proofs.laws.few_are_fetched.Goals as goal

pub returns-clause-few : goal.returns-clause-few
returns-clause-few c = moves_few

pub returns-clause-fetch : goal.returns-clause-fetch
returns-clause-fetch c = fetch_loses

pub returns-clause-turn : goal.returns-clause-turn
returns-clause-turn c = turn_loses

pub returns-clause-step : goal.returns-clause-step
returns-clause-step c = backs_lose
