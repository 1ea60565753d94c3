use Rattle.rv_loading.specs.Laid.{Laid}
use Rattle.rv_loading.proofs.load.lay_indexes.Given as goal

abbrev pub invariant-indexes : goal.invariant-indexes
invariant-indexes g l = Laid l.schema l.layout (g.S.Reader.shown l.store)
