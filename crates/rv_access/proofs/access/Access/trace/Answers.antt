use Rattle.rv_retrieval.specs.Runs.{indexes_asked}
use Rattle.rv_jscan.specs.Planned.{indexes_of, indexes_of as united_indexes}
use Rattle.rv_access.proofs.Boxes.{has_race, has_union}
use Rattle.rv_access.proofs.OfRaces.{wider}
use Rattle.rv_access.proofs.access.Access.trace.Goals as goal

pub returns-in-Racing-clause-allowed : goal.returns-in-Racing-clause-allowed
returns-in-Racing-clause-allowed c = rw (has_race c.in-Racing.is c.deref-in-Racing.ensures) (λ t. wider c.trace-in-Racing.result.now (indexes_of c.deref-in-Racing.result.now.race.plans) (indexes_asked c.deref-in-Racing.result.now.query) t.known (c.trace-in-Racing.ensures.allowed t.tells))

pub returns-in-Uniting-clause-allowed : goal.returns-in-Uniting-clause-allowed
returns-in-Uniting-clause-allowed c = rw (has_union c.in-Uniting.is c.deref-in-Uniting.ensures) (λ t. wider c.trace-in-Uniting.result.now (united_indexes c.deref-in-Uniting.result.now.union.plans) (indexes_asked c.deref-in-Uniting.result.now.query) t.known (c.trace-in-Uniting.ensures.allowed t.tells))
