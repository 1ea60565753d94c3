use Rattle.rv_choice.proofs.OfMembers.{is_member, unbounded}
use Rattle.rv_choice.proofs.uniting.member.Goals as goal

pub returns-in-None-clause-none : goal.returns-in-None-clause-none
returns-in-None-clause-none g c = λ none. unbounded c.args.query.now (g.R.Reader.shown c.args.reader.now) c.args.branch.now c.in_ok-candidates.candidates.items c.in_ok-candidates.ensures.are (rw (c.as_slice.ensures.value, c.in-None.is) at c.least.ensures)

pub returns-clause-some : goal.returns-clause-some
returns-clause-some g c = is_member c.args.query.now (g.R.Reader.shown c.args.reader.now) c.args.branch.now c.in_ok-candidates.candidates.items c.in-Some.at c.index.result.now _ c.in_ok-candidates.ensures.are (rw (c.as_slice.ensures.value, c.in-Some.is) at c.least.ensures) c.index.ensures c.in_ok-plan-in-Some.ensures
