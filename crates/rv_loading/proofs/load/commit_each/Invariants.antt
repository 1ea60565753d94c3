use Rattle.rv_loading.specs.Laid.{Laid}
use Rattle.rv_loading.proofs.load.commit_each.Given as goal

abbrev pub invariant-commits : goal.invariant-commits
invariant-commits g l = Laid l.schema l.layout (g.S.Reader.shown l.store)
