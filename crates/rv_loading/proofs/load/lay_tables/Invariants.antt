use Rattle.rv_loading.specs.Laid.{Laid}
use Rattle.rv_loading.proofs.load.lay_tables.Given as goal

abbrev pub invariant-tables : goal.invariant-tables
invariant-tables g l = Laid l.schema l.layout (g.S.Reader.shown l.store)
