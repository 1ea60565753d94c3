use Rattle.std.proofs.Common.{None, ap, sym}
use Rattle.rv_rivals.specs.Points.{first_row}
use Rattle.rv_rivals.proofs.Finding.{lowest_is}
use Rattle.rv_rivals.proofs.looking.lowest_with.Goals as goal

pub returns : goal.returns
returns g c columns rows tells long = lowest_is (g.R.Reader.shown c.args.reader.now) c.args.index c.args.snap c.args.sought.now.key (g.T.RowTest.keeps c.args.test.now) c.args.sought.now.range c.in_ok-row.row c.requires.range c.in_ok-row.ensures columns rows tells long

pub returns-then-tells_none : goal.returns-then-tells_none
returns-then-tells_none g c columns rows tells long =
    lowest_is (g.R.Reader.shown c.args.reader.now) c.args.index c.args.snap c.args.sought.now.key (g.T.RowTest.keeps c.args.test.now) c.args.sought.now.range None c.requires.range
    (ap (first_row (g.T.RowTest.keeps c.args.test.now)) (sym (c.tells_none.ensures c.if-tells_none.true))) columns rows tells long
