use Rattle.rv_loading.specs.Laid.{Laid}
use Rattle.try_stores.proofs.scans.load.fill.Given as goal

abbrev pub invariant-tens : goal.invariant-tens
invariant-tens g l = Laid l.schema l.layout (g.S.Reader.shown l.store)
