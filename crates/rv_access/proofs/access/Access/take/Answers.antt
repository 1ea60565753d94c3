use Rattle.std.proofs.Common.{refl}
use Rattle.rv_access.proofs.Accesses.{race_takes, race_undropped, retrieval_takes, retrieval_undropped, settled_take, take_keeps_piece, take_keeps_plans, union_takes, union_undropped}
use Rattle.rv_access.specs.declared.access.Access.TheVariants.{Competing, Racing}
use Rattle.rv_access.proofs.Boxes.{has_race, has_retrieval, has_union, race_fits, union_fits, with_race, with_retrieval}
use Rattle.rv_access.proofs.Nearing.{none_near, union_near}
use Rattle.rv_access.proofs.OfRaces.{fits_on, leaf_pieces, leaf_plans, tells_on}
use Rattle.rv_access.proofs.OfUnions.{fits_on as union_fits_on, leaf_pieces as union_leaf_pieces, leaf_plans as union_leaf_plans, tells_on as union_tells_on}
use Rattle.rv_access.proofs.access.Access.take.Goals as goal

pub returns-in-Competing-clause-taken : goal.returns-in-Competing-clause-taken
returns-in-Competing-clause-taken g c = retrieval_takes c.take.result c.in-Competing.retrieval c.take.new.self c.take.ensures.taken

pub returns-in-Competing-clause-leaves : goal.returns-in-Competing-clause-leaves
returns-in-Competing-clause-leaves g c = rw (has_retrieval c.in-Competing.is c.deref_mut.ensures.value) (record { same = c.take.ensures.same; leaves = c.take.ensures.leaves; course = c.take.ensures.course })

pub returns-in-Competing-clause-plans : goal.returns-in-Competing-clause-plans
returns-in-Competing-clause-plans g c = rw (has_retrieval c.in-Competing.is c.deref_mut.ensures.value) (take_keeps_plans c.in-Competing.retrieval _ _ c.take.ensures.same c.take.ensures.leaves)

pub returns-in-Competing-clause-pieces : goal.returns-in-Competing-clause-pieces
returns-in-Competing-clause-pieces g c = rw (has_retrieval c.in-Competing.is c.deref_mut.ensures.value) (take_keeps_piece c.in-Competing.retrieval _ _ c.take.ensures.same c.take.ensures.leaves)

pub returns-in-Competing-clause-undropped : goal.returns-in-Competing-clause-undropped
returns-in-Competing-clause-undropped g c = rw (has_retrieval c.in-Competing.is c.deref_mut.ensures.value) (λ t. retrieval_undropped c.take.result c.in-Competing.retrieval c.take.new.self (c.take.ensures.undropped t))

pub returns-in-Competing-clause-settled : goal.returns-in-Competing-clause-settled
returns-in-Competing-clause-settled g c = rw (has_retrieval c.in-Competing.is c.deref_mut.ensures.value) (λ s. settled_take (g.R.Reader.shown c.args.reader.now) _ _ c.in-Competing.retrieval _ _ c.take.ensures.same c.take.ensures.leaves s (c.take.ensures.settled s))

pub returns-in-Competing-clause-nearer : goal.returns-in-Competing-clause-nearer
returns-in-Competing-clause-nearer g c = rw (has_retrieval c.in-Competing.is c.deref_mut.ensures.value) (none_near c.take.result (g.R.Reader.shown c.args.reader.now) c.args.steps.now c.take.new.steps (Competing c.in-Competing.retrieval) (with_retrieval c.in-Competing.retrieval c.take.new.self) refl)

pub take-requires-in-Racing : goal.take-requires-in-Racing
take-requires-in-Racing g c = record { fits = (race_fits c.in-Racing.raced (g.R.Reader.shown c.args.reader.now) (has_race c.in-Racing.is c.deref_mut-in-Racing.ensures.value) c.requires.fits).race }

pub returns-in-Racing-clause-counts : goal.returns-in-Racing-clause-counts
returns-in-Racing-clause-counts g c = rw (has_race c.in-Racing.is c.deref_mut-in-Racing.ensures.value) c.take-in-Racing.ensures.counts

pub returns-in-Racing-clause-taken : goal.returns-in-Racing-clause-taken
returns-in-Racing-clause-taken g c = race_takes c.take-in-Racing.result c.in-Racing.raced (record c.deref_mut-in-Racing.result.now { race = c.take-in-Racing.new.self }) c.take-in-Racing.ensures.taken

pub returns-in-Racing-clause-query : goal.returns-in-Racing-clause-query
returns-in-Racing-clause-query g c = rw (has_race c.in-Racing.is c.deref_mut-in-Racing.ensures.value) refl

pub returns-in-Racing-clause-leaves : goal.returns-in-Racing-clause-leaves
returns-in-Racing-clause-leaves g c = rw (has_race c.in-Racing.is c.deref_mut-in-Racing.ensures.value) (record { same = refl; leaves = c.take-in-Racing.ensures.leaves })

pub returns-in-Racing-clause-plans : goal.returns-in-Racing-clause-plans
returns-in-Racing-clause-plans g c = rw (has_race c.in-Racing.is c.deref_mut-in-Racing.ensures.value) (leaf_plans c.in-Racing.raced c.deref_mut-in-Racing.result.now c.take-in-Racing.new.self c.take-in-Racing.ensures.leaves)

pub returns-in-Racing-clause-pieces : goal.returns-in-Racing-clause-pieces
returns-in-Racing-clause-pieces g c = rw (has_race c.in-Racing.is c.deref_mut-in-Racing.ensures.value) (leaf_pieces c.in-Racing.raced c.deref_mut-in-Racing.result.now c.take-in-Racing.new.self c.take-in-Racing.ensures.leaves c.take-in-Racing.ensures.awaits)

pub returns-in-Racing-clause-untaken : goal.returns-in-Racing-clause-untaken
returns-in-Racing-clause-untaken g c = rw (has_race c.in-Racing.is c.deref_mut-in-Racing.ensures.value) c.take-in-Racing.ensures.untaken

pub returns-in-Racing-clause-fits : goal.returns-in-Racing-clause-fits
returns-in-Racing-clause-fits g c = fits_on c.deref_mut-in-Racing.result.now c.take-in-Racing.new.self (g.R.Reader.shown c.args.reader.now) c.take-in-Racing.ensures.same (race_fits c.in-Racing.raced (g.R.Reader.shown c.args.reader.now) (has_race c.in-Racing.is c.deref_mut-in-Racing.ensures.value) c.requires.fits) c.take-in-Racing.ensures.fits

pub returns-in-Racing-clause-rest : goal.returns-in-Racing-clause-rest
returns-in-Racing-clause-rest g c = rw (has_race c.in-Racing.is c.deref_mut-in-Racing.ensures.value) c.take-in-Racing.ensures.rest

pub returns-in-Racing-clause-reads : goal.returns-in-Racing-clause-reads
returns-in-Racing-clause-reads g c = rw (has_race c.in-Racing.is c.deref_mut-in-Racing.ensures.value) c.take-in-Racing.ensures.reads

pub returns-in-Racing-clause-tells : goal.returns-in-Racing-clause-tells
returns-in-Racing-clause-tells g c = rw (has_race c.in-Racing.is c.deref_mut-in-Racing.ensures.value) (tells_on c.deref_mut-in-Racing.result.now c.take-in-Racing.new.self c.take-in-Racing.ensures.same c.take-in-Racing.ensures.tells)

pub returns-in-Racing-clause-undropped : goal.returns-in-Racing-clause-undropped
returns-in-Racing-clause-undropped g c = rw (has_race c.in-Racing.is c.deref_mut-in-Racing.ensures.value) (λ t. race_undropped c.take-in-Racing.result c.in-Racing.raced (record c.deref_mut-in-Racing.result.now { race = c.take-in-Racing.new.self }) (c.take-in-Racing.ensures.undropped t.tells))

pub returns-in-Racing-clause-tries : goal.returns-in-Racing-clause-tries
returns-in-Racing-clause-tries g c = rw (has_race c.in-Racing.is c.deref_mut-in-Racing.ensures.value) c.take-in-Racing.ensures.tries

pub returns-in-Racing-clause-spends : goal.returns-in-Racing-clause-spends
returns-in-Racing-clause-spends g c = rw (has_race c.in-Racing.is c.deref_mut-in-Racing.ensures.value) c.take-in-Racing.ensures.spends

pub returns-in-Racing-clause-kind : goal.returns-in-Racing-clause-kind
returns-in-Racing-clause-kind g c = rw (has_race c.in-Racing.is c.deref_mut-in-Racing.ensures.value) refl

pub returns-in-Racing-clause-nearer : goal.returns-in-Racing-clause-nearer
returns-in-Racing-clause-nearer g c = rw (has_race c.in-Racing.is c.deref_mut-in-Racing.ensures.value) (none_near c.take-in-Racing.result (g.R.Reader.shown c.args.reader.now) c.args.steps.now c.take-in-Racing.new.steps (Racing c.in-Racing.raced) (with_race c.in-Racing.raced (record c.deref_mut-in-Racing.result.now { race = c.take-in-Racing.new.self })) refl)

pub returns-in-Racing-clause-settled : goal.returns-in-Racing-clause-settled
returns-in-Racing-clause-settled g c = rw (has_race c.in-Racing.is c.deref_mut-in-Racing.ensures.value) (λ s. absurd s)

pub take-requires-in-Uniting : goal.take-requires-in-Uniting
take-requires-in-Uniting g c = record { fits = (union_fits c.in-Uniting.united (g.R.Reader.shown c.args.reader.now) (has_union c.in-Uniting.is c.deref_mut-in-Uniting.ensures.value) c.requires.fits).union }

pub returns-in-Uniting-clause-counts : goal.returns-in-Uniting-clause-counts
returns-in-Uniting-clause-counts g c = rw (has_union c.in-Uniting.is c.deref_mut-in-Uniting.ensures.value) c.take-in-Uniting.ensures.counts

pub returns-in-Uniting-clause-taken : goal.returns-in-Uniting-clause-taken
returns-in-Uniting-clause-taken g c = union_takes c.take-in-Uniting.result c.in-Uniting.united (record c.deref_mut-in-Uniting.result.now { union = c.take-in-Uniting.new.self }) c.take-in-Uniting.ensures.taken

pub returns-in-Uniting-clause-query : goal.returns-in-Uniting-clause-query
returns-in-Uniting-clause-query g c = rw (has_union c.in-Uniting.is c.deref_mut-in-Uniting.ensures.value) refl

pub returns-in-Uniting-clause-leaves : goal.returns-in-Uniting-clause-leaves
returns-in-Uniting-clause-leaves g c = rw (has_union c.in-Uniting.is c.deref_mut-in-Uniting.ensures.value) (record { same = refl; leaves = c.take-in-Uniting.ensures.leaves })

pub returns-in-Uniting-clause-plans : goal.returns-in-Uniting-clause-plans
returns-in-Uniting-clause-plans g c = rw (has_union c.in-Uniting.is c.deref_mut-in-Uniting.ensures.value) (union_leaf_plans c.in-Uniting.united c.deref_mut-in-Uniting.result.now c.take-in-Uniting.new.self c.take-in-Uniting.ensures.leaves)

pub returns-in-Uniting-clause-pieces : goal.returns-in-Uniting-clause-pieces
returns-in-Uniting-clause-pieces g c = rw (has_union c.in-Uniting.is c.deref_mut-in-Uniting.ensures.value) (union_leaf_pieces c.in-Uniting.united c.deref_mut-in-Uniting.result.now c.take-in-Uniting.new.self c.take-in-Uniting.ensures.leaves c.take-in-Uniting.ensures.awaits)

pub returns-in-Uniting-clause-untaken : goal.returns-in-Uniting-clause-untaken
returns-in-Uniting-clause-untaken g c = rw (has_union c.in-Uniting.is c.deref_mut-in-Uniting.ensures.value) c.take-in-Uniting.ensures.untaken

pub returns-in-Uniting-clause-fits : goal.returns-in-Uniting-clause-fits
returns-in-Uniting-clause-fits g c = union_fits_on c.deref_mut-in-Uniting.result.now c.take-in-Uniting.new.self (g.R.Reader.shown c.args.reader.now) c.take-in-Uniting.ensures.same (union_fits c.in-Uniting.united (g.R.Reader.shown c.args.reader.now) (has_union c.in-Uniting.is c.deref_mut-in-Uniting.ensures.value) c.requires.fits) c.take-in-Uniting.ensures.fits

pub returns-in-Uniting-clause-rest : goal.returns-in-Uniting-clause-rest
returns-in-Uniting-clause-rest g c = rw (has_union c.in-Uniting.is c.deref_mut-in-Uniting.ensures.value) c.take-in-Uniting.ensures.rest

pub returns-in-Uniting-clause-reads : goal.returns-in-Uniting-clause-reads
returns-in-Uniting-clause-reads g c = rw (has_union c.in-Uniting.is c.deref_mut-in-Uniting.ensures.value) c.take-in-Uniting.ensures.reads

pub returns-in-Uniting-clause-tells : goal.returns-in-Uniting-clause-tells
returns-in-Uniting-clause-tells g c = rw (has_union c.in-Uniting.is c.deref_mut-in-Uniting.ensures.value) (union_tells_on c.deref_mut-in-Uniting.result.now c.take-in-Uniting.new.self c.take-in-Uniting.ensures.same c.take-in-Uniting.ensures.tells)

pub returns-in-Uniting-clause-undropped : goal.returns-in-Uniting-clause-undropped
returns-in-Uniting-clause-undropped g c = rw (has_union c.in-Uniting.is c.deref_mut-in-Uniting.ensures.value) (λ t. union_undropped c.take-in-Uniting.result c.in-Uniting.united (record c.deref_mut-in-Uniting.result.now { union = c.take-in-Uniting.new.self }) (c.take-in-Uniting.ensures.undropped t.tells))

pub returns-in-Uniting-clause-tries : goal.returns-in-Uniting-clause-tries
returns-in-Uniting-clause-tries g c = rw (has_union c.in-Uniting.is c.deref_mut-in-Uniting.ensures.value) c.take-in-Uniting.ensures.tries

pub returns-in-Uniting-clause-spends : goal.returns-in-Uniting-clause-spends
returns-in-Uniting-clause-spends g c = rw (has_union c.in-Uniting.is c.deref_mut-in-Uniting.ensures.value) c.take-in-Uniting.ensures.spends

pub returns-in-Uniting-clause-kind : goal.returns-in-Uniting-clause-kind
returns-in-Uniting-clause-kind g c = rw (has_union c.in-Uniting.is c.deref_mut-in-Uniting.ensures.value) refl

pub returns-in-Uniting-clause-nearer : goal.returns-in-Uniting-clause-nearer
returns-in-Uniting-clause-nearer g c = rw (has_union c.in-Uniting.is c.deref_mut-in-Uniting.ensures.value) (union_near c.take-in-Uniting.result (g.R.Reader.shown c.args.reader.now) c.args.steps.now c.take-in-Uniting.new.steps c.in-Uniting.united c.deref_mut-in-Uniting.result.now (record c.deref_mut-in-Uniting.result.now { union = c.take-in-Uniting.new.self }) c.take-in-Uniting.ensures.nearer)

pub returns-in-Uniting-clause-settled : goal.returns-in-Uniting-clause-settled
returns-in-Uniting-clause-settled g c = rw (has_union c.in-Uniting.is c.deref_mut-in-Uniting.ensures.value) (λ s. absurd s)
