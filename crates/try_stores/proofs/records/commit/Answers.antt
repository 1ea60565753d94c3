use Rattle.std.proofs.Common.{◌+◌, arith}
use Rattle.rv_records.proofs.Keeping.{below_more}
use Rattle.try_stores.proofs.records.commit.Goals as goal

pub change_all-requires-clause-newest : goal.change_all-requires-clause-newest
change_all-requires-clause-newest c = below_more (c.args.clock.last + 1) (c.args.clock.last + 1 + 1) c.args.records.now c.requires.stands.newest (omega arith)
