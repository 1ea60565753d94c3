use Rattle.rv_access.proofs.Nearing.{opened_ahead}
use Rattle.rv_access.proofs.Unites.{begins_union, can_unite, members_some, opened_counts}
use Rattle.rv_access.proofs.uniting.UnitedQuery.open.Goals as goal

pub open-requires-clause-can : goal.open-requires-clause-can
open-requires-clause-can g c = can_unite c.args.query (g.R.Reader.shown c.args.reader.now) c.args.members.items c.in-Ok.only c.in-Ok.ensures c.requires.can c.requires.members

pub open-requires-clause-some : goal.open-requires-clause-some
open-requires-clause-some g c = members_some c.args.query (g.R.Reader.shown c.args.reader.now) c.args.members.items c.requires.members

pub returns-clause-begins : goal.returns-clause-begins
returns-clause-begins g c = begins_union c.args.query (g.R.Reader.shown c.args.reader.now) c.args.members.items c.in-Ok.only c.args.cursor c.args.opening c.in-Ok-open.union c.in-Ok.ensures c.requires.order c.requires.members c.in-Ok-open.ensures.opened c.in-Ok-open.ensures.fits c.in-Ok-open.ensures.rest c.in-Ok-open.ensures.tells c.in-Ok-open.ensures.life

pub returns-clause-counts : goal.returns-clause-counts
returns-clause-counts g c = opened_counts c.args.query.table c.args.query.snap c.in-Ok.only c.args.members.items c.args.cursor c.args.opening _ c.in-Ok-open.union _ _ c.in-Ok-open.ensures.opened c.open.ensures.reads

pub returns-clause-ahead : goal.returns-clause-ahead
returns-clause-ahead g c = opened_ahead c.args.query.table c.args.query.snap c.in-Ok.only c.args.members.items c.args.cursor c.args.opening _ c.in-Ok-open.union (g.R.Reader.shown c.args.reader.now) c.in-Ok-open.ensures.opened c.in-Ok-open.ensures.ahead
