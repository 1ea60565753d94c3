use Rattle.std.proofs.Common.{◌+◌, arith}
use Rattle.rv_versions.proofs.Values.{chains_more}
use Rattle.try_stores.proofs.versions.abandon.Goals as goal

pub returns : goal.returns
returns c = chains_more c.args.newest (c.args.newest + 1) c.abandon.new.self c.abandon.ensures.below (omega arith)
