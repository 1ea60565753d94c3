use Rattle.std.proofs.Common.{refl}
use Rattle.rv_access.proofs.Accesses.{none_fewer, retrieval_gives}
use Rattle.rv_access.specs.declared.access.Access.TheVariants.{Competing, Racing}
use Rattle.rv_access.proofs.Boxes.{has_race, has_retrieval, has_union, race_fits, union_fits, with_race, with_retrieval}
use Rattle.rv_access.proofs.Nearing.{none_near, union_near}
use Rattle.rv_access.proofs.OfRaces.{course_if, does_as, ends_done, fits_on, gives_step, still_if, tells_on}
use Rattle.rv_access.proofs.OfUnions.{course_if as union_course_if, does_as as union_does_as, ends_done as union_ends_done, fits_on as union_fits_on, gives_step as union_gives_step, still_if as union_still_if, tells_on as union_tells_on}
use Rattle.rv_access.proofs.access.Access.fg_step.Goals as goal

pub returns-in-Competing-clause-step : goal.returns-in-Competing-clause-step
returns-in-Competing-clause-step g c = rw (has_retrieval c.in-Competing.is c.deref_mut.ensures.value) (retrieval_gives c.fg_step.result c.in-Competing.retrieval c.deref_mut.result.now c.fg_step.new.self (g.R.Reader.shown c.args.reader.now) c.fg_step.ensures.step)

pub returns-in-Competing-clause-nearer : goal.returns-in-Competing-clause-nearer
returns-in-Competing-clause-nearer g c = rw (has_retrieval c.in-Competing.is c.deref_mut.ensures.value) (none_near c.fg_step.result (g.R.Reader.shown c.args.reader.now) c.args.steps.now c.fg_step.new.steps (Competing c.in-Competing.retrieval) (with_retrieval c.in-Competing.retrieval c.fg_step.new.self) refl)

pub returns-in-Competing-clause-counts : goal.returns-in-Competing-clause-counts
returns-in-Competing-clause-counts g c = rw (has_retrieval c.in-Competing.is c.deref_mut.ensures.value) c.fg_step.ensures.counts

pub returns-in-Competing-clause-query : goal.returns-in-Competing-clause-query
returns-in-Competing-clause-query g c = rw (has_retrieval c.in-Competing.is c.deref_mut.ensures.value) c.fg_step.ensures.query

pub returns-in-Competing-clause-err : goal.returns-in-Competing-clause-err
returns-in-Competing-clause-err g c = rw (has_retrieval c.in-Competing.is c.deref_mut.ensures.value) c.fg_step.ensures.err

pub returns-in-Competing-clause-does : goal.returns-in-Competing-clause-does
returns-in-Competing-clause-does g c = rw (has_retrieval c.in-Competing.is c.deref_mut.ensures.value) c.fg_step.ensures.does

pub returns-in-Competing-clause-may_read : goal.returns-in-Competing-clause-may_read
returns-in-Competing-clause-may_read g c = rw (has_retrieval c.in-Competing.is c.deref_mut.ensures.value) c.fg_step.ensures.may_read

pub returns-in-Competing-clause-still : goal.returns-in-Competing-clause-still
returns-in-Competing-clause-still g c = rw (has_retrieval c.in-Competing.is c.deref_mut.ensures.value) c.fg_step.ensures.still

pub returns-in-Competing-clause-fewer : goal.returns-in-Competing-clause-fewer
returns-in-Competing-clause-fewer g c = rw (has_retrieval c.in-Competing.is c.deref_mut.ensures.value) c.fg_step.ensures.fewer

pub returns-in-Competing-clause-course : goal.returns-in-Competing-clause-course
returns-in-Competing-clause-course g c = rw (has_retrieval c.in-Competing.is c.deref_mut.ensures.value) c.fg_step.ensures.course

pub returns-in-Competing-clause-tells : goal.returns-in-Competing-clause-tells
returns-in-Competing-clause-tells g c = rw (has_retrieval c.in-Competing.is c.deref_mut.ensures.value) c.fg_step.ensures.tells

pub returns-in-Competing-clause-tries : goal.returns-in-Competing-clause-tries
returns-in-Competing-clause-tries g c = rw (has_retrieval c.in-Competing.is c.deref_mut.ensures.value) c.fg_step.ensures.tries

pub returns-in-Competing-clause-spends : goal.returns-in-Competing-clause-spends
returns-in-Competing-clause-spends g c = rw (has_retrieval c.in-Competing.is c.deref_mut.ensures.value) c.fg_step.ensures.spends

pub returns-in-Competing-clause-awaiting : goal.returns-in-Competing-clause-awaiting
returns-in-Competing-clause-awaiting g c = rw (has_retrieval c.in-Competing.is c.deref_mut.ensures.value) c.fg_step.ensures.awaiting

pub returns-in-Competing-clause-settled : goal.returns-in-Competing-clause-settled
returns-in-Competing-clause-settled g c = rw (has_retrieval c.in-Competing.is c.deref_mut.ensures.value) c.fg_step.ensures.settled

pub returns-in-Competing-clause-unasked : goal.returns-in-Competing-clause-unasked
returns-in-Competing-clause-unasked g c = rw (has_retrieval c.in-Competing.is c.deref_mut.ensures.value) c.fg_step.ensures.unasked

pub returns-in-Competing-clause-pages : goal.returns-in-Competing-clause-pages
returns-in-Competing-clause-pages g c = rw (has_retrieval c.in-Competing.is c.deref_mut.ensures.value) c.fg_step.ensures.pages

pub returns-in-Competing-clause-records : goal.returns-in-Competing-clause-records
returns-in-Competing-clause-records g c = rw (has_retrieval c.in-Competing.is c.deref_mut.ensures.value) c.fg_step.ensures.records

pub returns-in-Competing-clause-again : goal.returns-in-Competing-clause-again
returns-in-Competing-clause-again g c = rw (has_retrieval c.in-Competing.is c.deref_mut.ensures.value) c.fg_step.ensures.again

pub returns-in-Competing-clause-fits : goal.returns-in-Competing-clause-fits
returns-in-Competing-clause-fits g c = c.fg_step.ensures.fits

pub returns-in-Competing-clause-ends : goal.returns-in-Competing-clause-ends
returns-in-Competing-clause-ends g c = c.fg_step.ensures.ends

pub returns-in-Competing-clause-quiet : goal.returns-in-Competing-clause-quiet
returns-in-Competing-clause-quiet g c = c.fg_step.ensures.quiet

pub returns-in-Competing-clause-stays : goal.returns-in-Competing-clause-stays
returns-in-Competing-clause-stays g c = c.fg_step.ensures.stays

pub returns-in-Competing-clause-kind : goal.returns-in-Competing-clause-kind
returns-in-Competing-clause-kind g c = rw (has_retrieval c.in-Competing.is c.deref_mut.ensures.value) refl

pub step-requires : goal.step-requires
step-requires g c = record { fits = (race_fits c.in-Racing.raced (g.R.Reader.shown c.args.reader.now) (has_race c.in-Racing.is c.deref_mut-in-Racing.ensures.value) c.requires.fits).race }

pub returns-in-Racing-clause-counts : goal.returns-in-Racing-clause-counts
returns-in-Racing-clause-counts g c = rw (has_race c.in-Racing.is c.deref_mut-in-Racing.ensures.value) c.step.ensures.counts

pub returns-in-Racing-clause-query : goal.returns-in-Racing-clause-query
returns-in-Racing-clause-query g c = rw (has_race c.in-Racing.is c.deref_mut-in-Racing.ensures.value) refl

pub returns-in-Racing-clause-fits : goal.returns-in-Racing-clause-fits
returns-in-Racing-clause-fits g c = fits_on c.deref_mut-in-Racing.result.now c.step.new.self (g.R.Reader.shown c.args.reader.now) c.step.ensures.same (race_fits c.in-Racing.raced (g.R.Reader.shown c.args.reader.now) (has_race c.in-Racing.is c.deref_mut-in-Racing.ensures.value) c.requires.fits) c.step.ensures.fits

pub returns-in-Racing-clause-step : goal.returns-in-Racing-clause-step
returns-in-Racing-clause-step g c = rw (has_race c.in-Racing.is c.deref_mut-in-Racing.ensures.value) (gives_step c.step.result c.in-Racing.raced c.deref_mut-in-Racing.result.now c.step.new.self (g.R.Reader.shown c.args.reader.now) (race_fits c.in-Racing.raced (g.R.Reader.shown c.args.reader.now) (has_race c.in-Racing.is c.deref_mut-in-Racing.ensures.value) c.requires.fits).over.order c.step.ensures.step)

pub returns-in-Racing-clause-ends : goal.returns-in-Racing-clause-ends
returns-in-Racing-clause-ends g c = ends_done c.step.result c.step.new.self c.step.ensures.ends

pub returns-in-Racing-clause-again : goal.returns-in-Racing-clause-again
returns-in-Racing-clause-again g c = rw (has_race c.in-Racing.is c.deref_mut-in-Racing.ensures.value) c.step.ensures.again

pub returns-in-Racing-clause-err : goal.returns-in-Racing-clause-err
returns-in-Racing-clause-err g c = rw (has_race c.in-Racing.is c.deref_mut-in-Racing.ensures.value) c.step.ensures.err

pub returns-in-Racing-clause-does : goal.returns-in-Racing-clause-does
returns-in-Racing-clause-does g c = rw (has_race c.in-Racing.is c.deref_mut-in-Racing.ensures.value) (λ t. does_as c.step.result _ _ _ (g.R.Reader.shown c.args.reader.now) c.args.steps.now c.step.new.steps c.deref_mut-in-Racing.result.now c.step.new.self c.step.ensures.same c.step.ensures.does)

pub returns-in-Racing-clause-quiet : goal.returns-in-Racing-clause-quiet
returns-in-Racing-clause-quiet g c = c.step.ensures.quiet

pub returns-in-Racing-clause-may_read : goal.returns-in-Racing-clause-may_read
returns-in-Racing-clause-may_read g c = rw (has_race c.in-Racing.is c.deref_mut-in-Racing.ensures.value) (λ t. c.step.ensures.may_read)

pub returns-in-Racing-clause-still : goal.returns-in-Racing-clause-still
returns-in-Racing-clause-still g c = rw (has_race c.in-Racing.is c.deref_mut-in-Racing.ensures.value) (still_if c.step.result c.deref_mut-in-Racing.result.now c.step.new.self c.step.ensures.still)

pub returns-in-Racing-clause-fewer : goal.returns-in-Racing-clause-fewer
returns-in-Racing-clause-fewer g c = rw (has_race c.in-Racing.is c.deref_mut-in-Racing.ensures.value) (none_fewer c.step.result)

pub returns-in-Racing-clause-stays : goal.returns-in-Racing-clause-stays
returns-in-Racing-clause-stays g c = c.step.ensures.stays

pub returns-in-Racing-clause-course : goal.returns-in-Racing-clause-course
returns-in-Racing-clause-course g c = rw (has_race c.in-Racing.is c.deref_mut-in-Racing.ensures.value) (course_if c.step.result c.deref_mut-in-Racing.result.now c.step.new.self c.step.ensures.still)

pub returns-in-Racing-clause-tells : goal.returns-in-Racing-clause-tells
returns-in-Racing-clause-tells g c = rw (has_race c.in-Racing.is c.deref_mut-in-Racing.ensures.value) (tells_on c.deref_mut-in-Racing.result.now c.step.new.self c.step.ensures.same c.step.ensures.tells)

pub returns-in-Racing-clause-tries : goal.returns-in-Racing-clause-tries
returns-in-Racing-clause-tries g c = rw (has_race c.in-Racing.is c.deref_mut-in-Racing.ensures.value) c.step.ensures.tries

pub returns-in-Racing-clause-spends : goal.returns-in-Racing-clause-spends
returns-in-Racing-clause-spends g c = rw (has_race c.in-Racing.is c.deref_mut-in-Racing.ensures.value) (λ a. c.step.ensures.spends)

pub returns-in-Racing-clause-kind : goal.returns-in-Racing-clause-kind
returns-in-Racing-clause-kind g c = rw (has_race c.in-Racing.is c.deref_mut-in-Racing.ensures.value) refl

pub returns-in-Racing-clause-nearer : goal.returns-in-Racing-clause-nearer
returns-in-Racing-clause-nearer g c = rw (has_race c.in-Racing.is c.deref_mut-in-Racing.ensures.value) (none_near c.step.result (g.R.Reader.shown c.args.reader.now) c.args.steps.now c.step.new.steps (Racing c.in-Racing.raced) (with_race c.in-Racing.raced (record c.deref_mut-in-Racing.result.now { race = c.step.new.self })) refl)

pub returns-in-Racing-clause-unasked : goal.returns-in-Racing-clause-unasked
returns-in-Racing-clause-unasked g c = rw (has_race c.in-Racing.is c.deref_mut-in-Racing.ensures.value) (λ s. absurd s)

pub returns-in-Racing-clause-pages : goal.returns-in-Racing-clause-pages
returns-in-Racing-clause-pages g c = rw (has_race c.in-Racing.is c.deref_mut-in-Racing.ensures.value) (λ s. absurd s)

pub returns-in-Racing-clause-records : goal.returns-in-Racing-clause-records
returns-in-Racing-clause-records g c = rw (has_race c.in-Racing.is c.deref_mut-in-Racing.ensures.value) (λ s. absurd s)

pub step-requires-in-Uniting : goal.step-requires-in-Uniting
step-requires-in-Uniting g c = record { fits = (union_fits c.in-Uniting.united (g.R.Reader.shown c.args.reader.now) (has_union c.in-Uniting.is c.deref_mut-in-Uniting.ensures.value) c.requires.fits).union }

pub returns-in-Uniting-clause-counts : goal.returns-in-Uniting-clause-counts
returns-in-Uniting-clause-counts g c = rw (has_union c.in-Uniting.is c.deref_mut-in-Uniting.ensures.value) c.step-in-Uniting.ensures.counts

pub returns-in-Uniting-clause-query : goal.returns-in-Uniting-clause-query
returns-in-Uniting-clause-query g c = rw (has_union c.in-Uniting.is c.deref_mut-in-Uniting.ensures.value) refl

pub returns-in-Uniting-clause-fits : goal.returns-in-Uniting-clause-fits
returns-in-Uniting-clause-fits g c = union_fits_on c.deref_mut-in-Uniting.result.now c.step-in-Uniting.new.self (g.R.Reader.shown c.args.reader.now) c.step-in-Uniting.ensures.same (union_fits c.in-Uniting.united (g.R.Reader.shown c.args.reader.now) (has_union c.in-Uniting.is c.deref_mut-in-Uniting.ensures.value) c.requires.fits) c.step-in-Uniting.ensures.fits

pub returns-in-Uniting-clause-step : goal.returns-in-Uniting-clause-step
returns-in-Uniting-clause-step g c = rw (has_union c.in-Uniting.is c.deref_mut-in-Uniting.ensures.value) (union_gives_step c.step-in-Uniting.result c.in-Uniting.united c.deref_mut-in-Uniting.result.now c.step-in-Uniting.new.self (g.R.Reader.shown c.args.reader.now) (union_fits c.in-Uniting.united (g.R.Reader.shown c.args.reader.now) (has_union c.in-Uniting.is c.deref_mut-in-Uniting.ensures.value) c.requires.fits).over.order c.step-in-Uniting.ensures.step)

pub returns-in-Uniting-clause-ends : goal.returns-in-Uniting-clause-ends
returns-in-Uniting-clause-ends g c = union_ends_done c.step-in-Uniting.result c.step-in-Uniting.new.self c.step-in-Uniting.ensures.ends

pub returns-in-Uniting-clause-again : goal.returns-in-Uniting-clause-again
returns-in-Uniting-clause-again g c = rw (has_union c.in-Uniting.is c.deref_mut-in-Uniting.ensures.value) c.step-in-Uniting.ensures.again

pub returns-in-Uniting-clause-err : goal.returns-in-Uniting-clause-err
returns-in-Uniting-clause-err g c = rw (has_union c.in-Uniting.is c.deref_mut-in-Uniting.ensures.value) c.step-in-Uniting.ensures.err

pub returns-in-Uniting-clause-does : goal.returns-in-Uniting-clause-does
returns-in-Uniting-clause-does g c = rw (has_union c.in-Uniting.is c.deref_mut-in-Uniting.ensures.value) (λ t. union_does_as c.step-in-Uniting.result _ _ _ (g.R.Reader.shown c.args.reader.now) c.args.steps.now c.step-in-Uniting.new.steps c.deref_mut-in-Uniting.result.now c.step-in-Uniting.new.self c.step-in-Uniting.ensures.same c.step-in-Uniting.ensures.does)

pub returns-in-Uniting-clause-quiet : goal.returns-in-Uniting-clause-quiet
returns-in-Uniting-clause-quiet g c = c.step-in-Uniting.ensures.quiet

pub returns-in-Uniting-clause-may_read : goal.returns-in-Uniting-clause-may_read
returns-in-Uniting-clause-may_read g c = rw (has_union c.in-Uniting.is c.deref_mut-in-Uniting.ensures.value) (λ t. c.step-in-Uniting.ensures.may_read)

pub returns-in-Uniting-clause-still : goal.returns-in-Uniting-clause-still
returns-in-Uniting-clause-still g c = rw (has_union c.in-Uniting.is c.deref_mut-in-Uniting.ensures.value) (union_still_if c.step-in-Uniting.result c.deref_mut-in-Uniting.result.now c.step-in-Uniting.new.self c.step-in-Uniting.ensures.still)

pub returns-in-Uniting-clause-fewer : goal.returns-in-Uniting-clause-fewer
returns-in-Uniting-clause-fewer g c = rw (has_union c.in-Uniting.is c.deref_mut-in-Uniting.ensures.value) (none_fewer c.step-in-Uniting.result)

pub returns-in-Uniting-clause-stays : goal.returns-in-Uniting-clause-stays
returns-in-Uniting-clause-stays g c = c.step-in-Uniting.ensures.stays

pub returns-in-Uniting-clause-course : goal.returns-in-Uniting-clause-course
returns-in-Uniting-clause-course g c = rw (has_union c.in-Uniting.is c.deref_mut-in-Uniting.ensures.value) (union_course_if c.step-in-Uniting.result c.deref_mut-in-Uniting.result.now c.step-in-Uniting.new.self c.step-in-Uniting.ensures.still)

pub returns-in-Uniting-clause-tells : goal.returns-in-Uniting-clause-tells
returns-in-Uniting-clause-tells g c = rw (has_union c.in-Uniting.is c.deref_mut-in-Uniting.ensures.value) (union_tells_on c.deref_mut-in-Uniting.result.now c.step-in-Uniting.new.self c.step-in-Uniting.ensures.same c.step-in-Uniting.ensures.tells)

pub returns-in-Uniting-clause-tries : goal.returns-in-Uniting-clause-tries
returns-in-Uniting-clause-tries g c = rw (has_union c.in-Uniting.is c.deref_mut-in-Uniting.ensures.value) c.step-in-Uniting.ensures.tries

pub returns-in-Uniting-clause-spends : goal.returns-in-Uniting-clause-spends
returns-in-Uniting-clause-spends g c = rw (has_union c.in-Uniting.is c.deref_mut-in-Uniting.ensures.value) (λ a. c.step-in-Uniting.ensures.spends)

pub returns-in-Uniting-clause-kind : goal.returns-in-Uniting-clause-kind
returns-in-Uniting-clause-kind g c = rw (has_union c.in-Uniting.is c.deref_mut-in-Uniting.ensures.value) refl

pub returns-in-Uniting-clause-nearer : goal.returns-in-Uniting-clause-nearer
returns-in-Uniting-clause-nearer g c = rw (has_union c.in-Uniting.is c.deref_mut-in-Uniting.ensures.value) (union_near c.step-in-Uniting.result (g.R.Reader.shown c.args.reader.now) c.args.steps.now c.step-in-Uniting.new.steps c.in-Uniting.united c.deref_mut-in-Uniting.result.now (record c.deref_mut-in-Uniting.result.now { union = c.step-in-Uniting.new.self }) c.step-in-Uniting.ensures.nearer)

pub returns-in-Uniting-clause-unasked : goal.returns-in-Uniting-clause-unasked
returns-in-Uniting-clause-unasked g c = rw (has_union c.in-Uniting.is c.deref_mut-in-Uniting.ensures.value) (λ s. absurd s)

pub returns-in-Uniting-clause-pages : goal.returns-in-Uniting-clause-pages
returns-in-Uniting-clause-pages g c = rw (has_union c.in-Uniting.is c.deref_mut-in-Uniting.ensures.value) (λ s. absurd s)

pub returns-in-Uniting-clause-records : goal.returns-in-Uniting-clause-records
returns-in-Uniting-clause-records g c = rw (has_union c.in-Uniting.is c.deref_mut-in-Uniting.ensures.value) (λ s. absurd s)
