use Rattle.rv_core.proofs.Shorts.{short_few, take_moves}
use Rattle.rv_core.proofs.laws.short_range_is_few.Goals as goal

pub returns-clause-few : goal.returns-clause-few
returns-clause-few c = short_few c.few_are_fetched.ensures.few

pub returns-clause-take : goal.returns-clause-take
returns-clause-take c = take_moves
