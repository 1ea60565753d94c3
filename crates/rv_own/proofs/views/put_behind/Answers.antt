use Rattle.rv_own.proofs.Steps.{put_or_not}
use Rattle.rv_own.proofs.views.put_behind.Goals as goal

pub returns : goal.returns
returns c = put_or_not c.push.result c.push.ensures.ok c.push.ensures.err
