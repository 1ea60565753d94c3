use Rattle.rv_access.specs.Ahead.{AllAhead}
use Rattle.rv_access.specs.Opened.{Begins, Unites}
use Rattle.rv_access.proofs.Boxes.{boxed_union}
use Rattle.rv_access.proofs.Chosen.{table_not_short, table_unordered}
use Rattle.rv_access.proofs.Nearing.{all_ahead}
use Rattle.rv_access.proofs.Unites.{begun_union}
use Rattle.rv_access.proofs.access.Access.open_united.Goals as goal

pub open-requires-clause-order : goal.open-requires-clause-order
open-requires-clause-order g c = table_unordered c.args.query (g.R.Reader.shown c.args.reader.now) c.args.choice c.args.candidates.now c.requires.candidates c.requires.can c.requires.choice c.requires.table

pub returns-clause-unites : goal.returns-clause-unites
returns-clause-unites g c = boxed_union (Unites c.args.query (g.R.Reader.shown c.args.reader.now) c.args.cursor c.args.opening) c.in_ok-boxed.boxed c.in_ok-united.united c.in_ok-boxed.ensures.ok c.in_ok-united.ensures.begins.united

pub returns-clause-begins : goal.returns-clause-begins
returns-clause-begins g c = boxed_union (Begins c.args.query (g.R.Reader.shown c.args.reader.now) c.args.steps.now c.open.new.steps) c.in_ok-boxed.boxed c.in_ok-united.united c.in_ok-boxed.ensures.ok (begun_union c.args.query (g.R.Reader.shown c.args.reader.now) c.args.cursor c.args.opening _ _ c.in_ok-boxed.boxed c.in_ok-united.united c.in_ok-united.ensures.begins c.in_ok-united.ensures.counts c.open.ensures.unread)

pub returns-clause-short : goal.returns-clause-short
returns-clause-short g c = table_not_short c.args.query (g.R.Reader.shown c.args.reader.now) c.args.choice c.args.candidates.now c.requires.candidates c.requires.choice c.requires.table

pub returns-in_err-united-clause-short : goal.returns-in_err-united-clause-short
returns-in_err-united-clause-short g c = table_not_short c.args.query (g.R.Reader.shown c.args.reader.now) c.args.choice c.args.candidates.now c.requires.candidates c.requires.choice c.requires.table

pub returns-in_err-boxed-clause-short : goal.returns-in_err-boxed-clause-short
returns-in_err-boxed-clause-short g c = table_not_short c.args.query (g.R.Reader.shown c.args.reader.now) c.args.choice c.args.candidates.now c.requires.candidates c.requires.choice c.requires.table

pub returns-clause-ahead : goal.returns-clause-ahead
returns-clause-ahead g c = boxed_union (AllAhead (g.R.Reader.shown c.args.reader.now)) c.in_ok-boxed.boxed c.in_ok-united.united c.in_ok-boxed.ensures.ok (all_ahead c.args.query (g.R.Reader.shown c.args.reader.now) c.in_ok-boxed.boxed c.in_ok-united.united c.in_ok-united.ensures.begins.united.asked c.in_ok-united.ensures.ahead)
