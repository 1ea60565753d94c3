use Rattle.std.proofs.Common.{◌+◌}
use Rattle.try_stores.proofs.versions.purge.Goals as goal

pub returns : goal.returns
returns c = c.purge.ensures.below (c.args.newest + 1) c.requires.below
