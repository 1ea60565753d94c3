use Rattle.rv_scan.proofs.Fetches.{fetched_follows}
use Rattle.rv_scan.proofs.Telling.{follows_gone}
use Rattle.rv_scan.proofs.sscan.tell_along.Goals as goal

pub returns-in-Some-clause-follows : goal.returns-in-Some-clause-follows
returns-in-Some-clause-follows g c fits =
    let found = rw c.in-Some.is at c.in_ok-passed.ensures in
    rw c.pass.ensures (fetched_follows c.args.walk.now c.in-Some.passed ((g.R.Reader.shown c.args.reader.now).entries c.args.walk.now.index c.args.walk.now.snap) found.0 fits)

pub returns-in-None-clause-follows : goal.returns-in-None-clause-follows
returns-in-None-clause-follows g c fits =
    let shown = g.R.Reader.shown c.args.reader.now in
    follows_gone c.turn_on.result c.args.walk.now c.turn_on.new.walk (shown.entries c.args.walk.now.index c.args.walk.now.snap) (shown.cuts c.args.walk.now.index c.args.walk.now.snap) c.turn_on.ensures.goes c.turn_on.ensures.err fits
