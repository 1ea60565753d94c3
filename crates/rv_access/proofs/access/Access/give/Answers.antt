use Rattle.std.proofs.Common.{ap, refl}
use Rattle.rv_access.proofs.Accesses.{numbered, race_answers, retrieval_answers, retrieval_keeps, retrieval_number, retrieval_plans, same_race, same_retrieval, same_union, union_answers}
use Rattle.rv_access.proofs.Boxes.{has_race, has_retrieval, has_union, with_retrieval}
use Rattle.rv_access.proofs.OfRaces.{gives_as_raced, raced_keeps, tells_on}
use Rattle.rv_access.proofs.OfUnions.{gives_as_united, tells_on as union_tells_on, united_keeps}
use Rattle.rv_access.proofs.access.Access.give.Goals as goal

pub returns-in-Competing-clause-given : goal.returns-in-Competing-clause-given
returns-in-Competing-clause-given g c = rw (has_retrieval c.in-Competing.is c.deref_mut.ensures.value) (retrieval_answers c.give.result c.in-Competing.retrieval _ _ c.args.sieved c.give.ensures.given)

pub returns-in-Competing-clause-number : goal.returns-in-Competing-clause-number
returns-in-Competing-clause-number g c = rw (has_retrieval c.in-Competing.is c.deref_mut.ensures.value) (retrieval_number c.give.result _ _ _ c.args.sieved _ _ c.give.ensures.obeys)

pub returns-in-Competing-clause-plans : goal.returns-in-Competing-clause-plans
returns-in-Competing-clause-plans g c = rw (has_retrieval c.in-Competing.is c.deref_mut.ensures.value) (retrieval_plans c.give.result _ _ _ c.args.sieved c.in-Competing.retrieval _ _ c.give.ensures.obeys c.give.ensures.err)

pub returns-in-Competing-clause-err : goal.returns-in-Competing-clause-err
returns-in-Competing-clause-err g c = rw (has_retrieval c.in-Competing.is c.deref_mut.ensures.value) (same_retrieval c.give.result c.in-Competing.retrieval _ _ c.give.ensures.err)

pub returns-in-Competing-clause-keeps : goal.returns-in-Competing-clause-keeps
returns-in-Competing-clause-keeps g c = rw (has_retrieval c.in-Competing.is c.deref_mut.ensures.value) (retrieval_keeps c.in-Competing.retrieval _ _ c.give.ensures.keeps)

pub returns-in-Competing-clause-settled : goal.returns-in-Competing-clause-settled
returns-in-Competing-clause-settled g c = rw (has_retrieval c.in-Competing.is c.deref_mut.ensures.value) (λ s. (ap (with_retrieval c.in-Competing.retrieval) (c.give.ensures.settled s).0, (c.give.ensures.settled s).1))

pub returns-in-Racing-clause-given : goal.returns-in-Racing-clause-given
returns-in-Racing-clause-given g c = rw (has_race c.in-Racing.is c.deref_mut-in-Racing.ensures.value) (race_answers c.give-in-Racing.result c.in-Racing.raced c.deref_mut-in-Racing.result.now c.give-in-Racing.new.self c.args.sieved c.give-in-Racing.ensures.given)

pub returns-in-Racing-clause-obeys : goal.returns-in-Racing-clause-obeys
returns-in-Racing-clause-obeys g c = rw (has_race c.in-Racing.is c.deref_mut-in-Racing.ensures.value) (gives_as_raced c.give-in-Racing.result _ _ _ c.args.sieved c.deref_mut-in-Racing.result.now c.give-in-Racing.new.self c.give-in-Racing.ensures.obeys c.give-in-Racing.ensures.turns)

pub returns-in-Racing-clause-number : goal.returns-in-Racing-clause-number
returns-in-Racing-clause-number g c = numbered c.give-in-Racing.result _ _ _ c.args.sieved c.args.self.now _ (returns-in-Racing-clause-obeys g c)

pub returns-in-Racing-clause-plans : goal.returns-in-Racing-clause-plans
returns-in-Racing-clause-plans g c = rw (has_race c.in-Racing.is c.deref_mut-in-Racing.ensures.value) (record { query = refl; strategy = refl; plans = c.give-in-Racing.ensures.same.plans })

pub returns-in-Racing-clause-err : goal.returns-in-Racing-clause-err
returns-in-Racing-clause-err g c = rw (has_race c.in-Racing.is c.deref_mut-in-Racing.ensures.value) (same_race c.give-in-Racing.result c.in-Racing.raced c.deref_mut-in-Racing.result.now c.give-in-Racing.new.self c.give-in-Racing.ensures.err)

pub returns-in-Racing-clause-counts : goal.returns-in-Racing-clause-counts
returns-in-Racing-clause-counts g c = rw (has_race c.in-Racing.is c.deref_mut-in-Racing.ensures.value) c.give-in-Racing.ensures.counts

pub returns-in-Racing-clause-keeps : goal.returns-in-Racing-clause-keeps
returns-in-Racing-clause-keeps g c = rw (has_race c.in-Racing.is c.deref_mut-in-Racing.ensures.value) (raced_keeps c.in-Racing.raced c.deref_mut-in-Racing.result.now c.give-in-Racing.new.self c.give-in-Racing.ensures.same c.give-in-Racing.ensures.keeps)

pub returns-in-Racing-clause-tells : goal.returns-in-Racing-clause-tells
returns-in-Racing-clause-tells g c = rw (has_race c.in-Racing.is c.deref_mut-in-Racing.ensures.value) (tells_on c.deref_mut-in-Racing.result.now c.give-in-Racing.new.self c.give-in-Racing.ensures.same c.give-in-Racing.ensures.tells)

pub returns-in-Racing-clause-less : goal.returns-in-Racing-clause-less
returns-in-Racing-clause-less g c = rw (has_race c.in-Racing.is c.deref_mut-in-Racing.ensures.value) (λ shown f. c.give-in-Racing.ensures.less shown f.race)

pub returns-in-Racing-clause-spends : goal.returns-in-Racing-clause-spends
returns-in-Racing-clause-spends g c = rw (has_race c.in-Racing.is c.deref_mut-in-Racing.ensures.value) (λ shown f. c.give-in-Racing.ensures.spends shown f.race)

pub returns-in-Racing-clause-kind : goal.returns-in-Racing-clause-kind
returns-in-Racing-clause-kind g c = rw (has_race c.in-Racing.is c.deref_mut-in-Racing.ensures.value) refl

pub returns-in-Racing-clause-settled : goal.returns-in-Racing-clause-settled
returns-in-Racing-clause-settled g c = rw (has_race c.in-Racing.is c.deref_mut-in-Racing.ensures.value) (λ s. absurd s)

pub returns-in-Uniting-clause-given : goal.returns-in-Uniting-clause-given
returns-in-Uniting-clause-given g c = rw (has_union c.in-Uniting.is c.deref_mut-in-Uniting.ensures.value) (union_answers c.give-in-Uniting.result c.in-Uniting.united c.deref_mut-in-Uniting.result.now c.give-in-Uniting.new.self c.args.sieved c.give-in-Uniting.ensures.given)

pub returns-in-Uniting-clause-obeys : goal.returns-in-Uniting-clause-obeys
returns-in-Uniting-clause-obeys g c = rw (has_union c.in-Uniting.is c.deref_mut-in-Uniting.ensures.value) (gives_as_united c.give-in-Uniting.result _ _ _ c.args.sieved c.deref_mut-in-Uniting.result.now c.give-in-Uniting.new.self c.give-in-Uniting.ensures.obeys)

pub returns-in-Uniting-clause-number : goal.returns-in-Uniting-clause-number
returns-in-Uniting-clause-number g c = numbered c.give-in-Uniting.result _ _ _ c.args.sieved c.args.self.now _ (returns-in-Uniting-clause-obeys g c)

pub returns-in-Uniting-clause-plans : goal.returns-in-Uniting-clause-plans
returns-in-Uniting-clause-plans g c = rw (has_union c.in-Uniting.is c.deref_mut-in-Uniting.ensures.value) (record { query = refl; strategy = refl; plans = c.give-in-Uniting.ensures.same.plans })

pub returns-in-Uniting-clause-err : goal.returns-in-Uniting-clause-err
returns-in-Uniting-clause-err g c = rw (has_union c.in-Uniting.is c.deref_mut-in-Uniting.ensures.value) (same_union c.give-in-Uniting.result c.in-Uniting.united c.deref_mut-in-Uniting.result.now c.give-in-Uniting.new.self c.give-in-Uniting.ensures.err)

pub returns-in-Uniting-clause-counts : goal.returns-in-Uniting-clause-counts
returns-in-Uniting-clause-counts g c = rw (has_union c.in-Uniting.is c.deref_mut-in-Uniting.ensures.value) c.give-in-Uniting.ensures.counts

pub returns-in-Uniting-clause-keeps : goal.returns-in-Uniting-clause-keeps
returns-in-Uniting-clause-keeps g c = rw (has_union c.in-Uniting.is c.deref_mut-in-Uniting.ensures.value) (united_keeps c.in-Uniting.united c.deref_mut-in-Uniting.result.now c.give-in-Uniting.new.self c.give-in-Uniting.ensures.same c.give-in-Uniting.ensures.keeps)

pub returns-in-Uniting-clause-tells : goal.returns-in-Uniting-clause-tells
returns-in-Uniting-clause-tells g c = rw (has_union c.in-Uniting.is c.deref_mut-in-Uniting.ensures.value) (union_tells_on c.deref_mut-in-Uniting.result.now c.give-in-Uniting.new.self c.give-in-Uniting.ensures.same c.give-in-Uniting.ensures.tells)

pub returns-in-Uniting-clause-less : goal.returns-in-Uniting-clause-less
returns-in-Uniting-clause-less g c = rw (has_union c.in-Uniting.is c.deref_mut-in-Uniting.ensures.value) (λ shown f. c.give-in-Uniting.ensures.less shown f.union)

pub returns-in-Uniting-clause-spends : goal.returns-in-Uniting-clause-spends
returns-in-Uniting-clause-spends g c = rw (has_union c.in-Uniting.is c.deref_mut-in-Uniting.ensures.value) (λ shown f. c.give-in-Uniting.ensures.spends shown f.union)

pub returns-in-Uniting-clause-kind : goal.returns-in-Uniting-clause-kind
returns-in-Uniting-clause-kind g c = rw (has_union c.in-Uniting.is c.deref_mut-in-Uniting.ensures.value) refl

pub returns-in-Uniting-clause-settled : goal.returns-in-Uniting-clause-settled
returns-in-Uniting-clause-settled g c = rw (has_union c.in-Uniting.is c.deref_mut-in-Uniting.ensures.value) (λ s. absurd s)

pub returns-in-Uniting-clause-nearer : goal.returns-in-Uniting-clause-nearer
returns-in-Uniting-clause-nearer g c = rw (has_union c.in-Uniting.is c.deref_mut-in-Uniting.ensures.value) c.give-in-Uniting.ensures.nearer
