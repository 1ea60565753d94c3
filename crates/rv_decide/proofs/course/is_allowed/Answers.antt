use Rattle.rv_decide.proofs.course.is_allowed.Goals as goal
use Rattle.rv_decide.proofs.Deciding.{decides}

pub returns : goal.returns
returns c = decides c.is_read.result c.args.strategy c.args.events.now c.args.indexes.now c.is_read.ensures
