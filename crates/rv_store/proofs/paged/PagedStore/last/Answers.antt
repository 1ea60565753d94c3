use Rattle.rv_store.proofs.Standing.{stored_is}
use Rattle.rv_store.proofs.paged.PagedStore.last.Goals as goal

pub returns-clause-stored : goal.returns-clause-stored
returns-clause-stored c = rw (← c.self.view_is) (stored_is _ c.self.invariant)
