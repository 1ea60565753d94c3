use Rattle.std.proofs.Common.{ℕ, ◌<◌, arith, subst}
use Rattle.rv_restrict.proofs.Branches.{long_as}
use Rattle.rv_choice.proofs.OfMembers.{none_before, none_here, none_serves, united}
use Rattle.rv_choice.proofs.uniting.members.Goals as goal

pub places-init : goal.places-init
places-init g c = none_before c.args.query.now (g.R.Reader.shown c.args.reader.now)

pub members_of-requires-clause-there : goal.members_of-requires-clause-there
members_of-requires-clause-there g c = subst (λ (n : ℕ). c.places.group < n) (long_as c.groups-group-end.result.now c.args.query.now.only c.groups-group-end.ensures) c.places-test.true

pub places-preserved : goal.places-preserved
places-preserved g c = none_here c.args.query.now (g.R.Reader.shown c.args.reader.now) c.places.group c.places.invariant (c.in_ok-plans.ensures.none c.in_default.is)

pub returns-in-Some-clause-some : goal.returns-in-Some-clause-some
returns-in-Some-clause-some g c = united c.args.query.now (g.R.Reader.shown c.args.reader.now) c.places.group c.in-Some.plans.items (subst (λ (n : ℕ). c.places.group < n) (long_as c.groups-group-end.result.now c.args.query.now.only c.groups-group-end.ensures) c.places-test.true) c.places.invariant (rw c.in-Some.is at c.in_ok-plans.ensures.serves) (rw c.in-Some.is at c.in_ok-plans.ensures.some)

pub returns-clause-none : goal.returns-clause-none
returns-clause-none g c = λ none. none_serves c.args.query.now (g.R.Reader.shown c.args.reader.now) c.places.group (let long = long_as c.groups-group-end.result.now c.args.query.now.only c.groups-group-end.ensures in omega arith) c.places.invariant
