use Rattle.rv_bounded.proofs.CoreCalls.{call_spent, give_given, moves_lose_few, still_spent, take_spent}
use Rattle.rv_bounded.proofs.calls_are_spent.Goals as goal

pub returns-clause-moves : goal.returns-clause-moves
returns-clause-moves c = call_spent

pub returns-clause-still : goal.returns-clause-still
returns-clause-still c = still_spent

pub returns-clause-takes : goal.returns-clause-takes
returns-clause-takes c = take_spent

pub returns-clause-gives : goal.returns-clause-gives
returns-clause-gives c = give_given

pub returns-clause-few : goal.returns-clause-few
returns-clause-few c = moves_lose_few
