use Rattle.rv_retrieval.proofs.Chosen.{few_scans}
use Rattle.rv_access.proofs.Chosen.{begins_race, can_race, opened_counts, two_scans}
use Rattle.rv_access.proofs.racing.RacedQuery.open.Goals as goal

pub open-requires-clause-can : goal.open-requires-clause-can
open-requires-clause-can g c = can_race c.args.query (g.R.Reader.shown c.args.reader.now) c.args.choice c.in-Ok.scans.items c.in-Ok-copy.only c.args.candidates.now c.in-Ok-copy.ensures c.requires.candidates c.requires.can c.requires.choice c.in-Ok.ensures

pub open-requires-clause-two : goal.open-requires-clause-two
open-requires-clause-two g c = two_scans c.args.choice c.args.candidates.now c.args.query.only c.in-Ok.scans.items c.requires.races c.in-Ok.ensures

pub open-requires-clause-few : goal.open-requires-clause-few
open-requires-clause-few g c = few_scans c.args.query (g.R.Reader.shown c.args.reader.now) c.args.choice.background c.in-Ok.scans.items c.args.candidates.now c.requires.candidates c.requires.can c.in-Ok.ensures

pub returns-clause-begins : goal.returns-clause-begins
returns-clause-begins g c = begins_race c.args.query (g.R.Reader.shown c.args.reader.now) c.args.choice c.in-Ok.scans.items c.in-Ok-copy.only c.args.candidates.now c.args.cursor c.args.opening c.in-Ok-open.race c.in-Ok-copy.ensures c.requires.candidates c.requires.can c.requires.choice c.in-Ok.ensures c.requires.races c.in-Ok-open.ensures.opened c.in-Ok-open.ensures.fits c.in-Ok-open.ensures.rest c.in-Ok-open.ensures.tells c.in-Ok-open.ensures.life

pub returns-clause-counts : goal.returns-clause-counts
returns-clause-counts g c = opened_counts c.args.query.table c.args.query.snap c.in-Ok-copy.only c.in-Ok.scans.items c.args.cursor c.args.opening _ c.in-Ok-open.race _ _ c.in-Ok-open.ensures.opened c.open.ensures.unread
