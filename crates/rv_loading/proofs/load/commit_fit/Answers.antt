use Rattle.std.proofs.Common.{arith}
use Rattle.rv_loading.proofs.Fitting.{can_commit}
use Rattle.rv_loading.proofs.load.commit_fit.Goals as goal

pub commit-requires-clause-changes : goal.commit-requires-clause-changes
commit-requires-clause-changes g c = can_commit c.args._schema.now c.args._layout (g.S.Reader.shown c.args.store.now) c.args.changes.now c.requires.laid c.requires.fit

pub commit-requires-clause-room : goal.commit-requires-clause-room
commit-requires-clause-room g c =
    let newest = c.requires.laid.counts.newest in
    let room = c.requires.room in
    omega arith
