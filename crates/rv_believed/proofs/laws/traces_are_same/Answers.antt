use Rattle.rv_believed.proofs.ShowsSame.{shows_from, shows_to}
use Rattle.rv_believed.proofs.laws.traces_are_same.Goals as goal

pub returns-clause-works : goal.returns-clause-works
returns-clause-works c = shows_from

pub returns-clause-believed : goal.returns-clause-believed
returns-clause-believed c = shows_to
