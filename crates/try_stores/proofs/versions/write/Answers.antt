use Rattle.std.proofs.Common.{◌+◌, arith}
use Rattle.rv_versions.proofs.Values.{chains_more}
use Rattle.try_stores.proofs.versions.write.Goals as goal

pub write-requires : goal.write-requires
write-requires c = chains_more (c.args.newest + 1) (c.args.commit + 1) c.args.versions.now c.requires.below (let test = c.if-commit-newest.false in omega (arith, test))
