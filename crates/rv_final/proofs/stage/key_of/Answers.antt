use Rattle.std.proofs.Common.{arith}
use Rattle.rv_final.proofs.Lists.{next_key}
use Rattle.rv_final.proofs.stage.key_of.Goals as goal

pub returns-then-at-len : goal.returns-then-at-len
returns-then-at-len c = next_key c.args.list.now.keys c.args.at c.get.result.0 c.get.ensures c.len.ensures.once (omega arith)
