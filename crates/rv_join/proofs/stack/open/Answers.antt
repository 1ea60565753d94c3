use Rattle.rv_join.proofs.Beginning.{starts}
use Rattle.rv_join.proofs.stack.open.Goals as goal

pub returns-clause-starts : goal.returns-clause-starts
returns-clause-starts g c = rw (c.new-2.ensures.items, c.new-3.ensures) (starts c.args.asked.now (g.R.Reader.shown c.args.reader.now) c.in_ok-here.here 1 c.requires c.in_ok-here.ensures.opens)
