use Rattle.rv_core.proofs.Shorts.{call_moves, fetch_moves, step_moves, still_moves, turn_moves}
use Rattle.rv_core.proofs.laws.calls_are_moves.Goals as goal

pub returns-clause-any : goal.returns-clause-any
returns-clause-any c = call_moves

pub returns-clause-fetch : goal.returns-clause-fetch
returns-clause-fetch c = fetch_moves c.few_are_fetched.ensures.fetch

pub returns-clause-turn : goal.returns-clause-turn
returns-clause-turn c = turn_moves c.few_are_fetched.ensures.turn

pub returns-clause-step : goal.returns-clause-step
returns-clause-step c = step_moves c.few_are_fetched.ensures.step

pub returns-clause-still : goal.returns-clause-still
returns-clause-still c = still_moves
