use Rattle.std.proofs.Common.{refl}
use Rattle.rv_access.specs.declared.access.Access.TheVariants.{Racing}
use Rattle.rv_access.specs.Opened.{Begins, Races}
use Rattle.rv_access.proofs.Boxes.{boxed_race}
use Rattle.rv_access.proofs.Nearing.{none_ahead}
use Rattle.rv_access.proofs.Chosen.{begun_race, not_short}
use Rattle.rv_access.proofs.access.Access.open_raced.Goals as goal

pub returns-clause-races : goal.returns-clause-races
returns-clause-races g c = boxed_race (Races c.args.query (g.R.Reader.shown c.args.reader.now) c.args.cursor c.args.opening c.args.choice) c.in_ok-boxed.boxed c.in_ok-raced.raced c.in_ok-boxed.ensures.ok c.in_ok-raced.ensures.begins.raced

pub returns-clause-begins : goal.returns-clause-begins
returns-clause-begins g c =
    let begins = c.in_ok-raced.ensures.begins in
    boxed_race (Begins c.args.query (g.R.Reader.shown c.args.reader.now) c.args.steps.now c.open.new.steps) c.in_ok-boxed.boxed c.in_ok-raced.raced c.in_ok-boxed.ensures.ok (begun_race c.args.query (g.R.Reader.shown c.args.reader.now) _ _ c.in_ok-boxed.boxed c.in_ok-raced.raced begins.raced.asked begins.fits begins.owes begins.tells begins.life c.in_ok-raced.ensures.counts c.open.ensures.unread)

pub returns-clause-short : goal.returns-clause-short
returns-clause-short g c = not_short c.args.query (g.R.Reader.shown c.args.reader.now) c.args.choice c.args.candidates.now c.requires.candidates c.requires.choice c.requires.races

pub returns-in_err-raced-clause-short : goal.returns-in_err-raced-clause-short
returns-in_err-raced-clause-short g c = not_short c.args.query (g.R.Reader.shown c.args.reader.now) c.args.choice c.args.candidates.now c.requires.candidates c.requires.choice c.requires.races

pub returns-in_err-boxed-clause-short : goal.returns-in_err-boxed-clause-short
returns-in_err-boxed-clause-short g c = not_short c.args.query (g.R.Reader.shown c.args.reader.now) c.args.choice c.args.candidates.now c.requires.candidates c.requires.choice c.requires.races

pub returns-clause-ahead : goal.returns-clause-ahead
returns-clause-ahead g c = none_ahead (g.R.Reader.shown c.args.reader.now) (Racing c.in_ok-boxed.boxed) refl
