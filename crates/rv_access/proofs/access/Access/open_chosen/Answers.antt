use Rattle.std.proofs.Common.{rules}
use Rattle.rv_access.proofs.Chosen.{competed, no_union, none_serve, united}
use Rattle.rv_access.proofs.access.Access.open_chosen.Goals as goal

pub returns-then-not-is_table-clause-opened : goal.returns-then-not-is_table-clause-opened
returns-then-not-is_table-clause-opened g c = competed c.open_competing.result c.args.query (g.R.Reader.shown c.args.reader.now) c.args.cursor c.args.opening c.args.choice (no_union c.args.query (g.R.Reader.shown c.args.reader.now) c.args.choice (search rules)) c.open_competing.ensures.competes

pub returns-in-Some-clause-opened : goal.returns-in-Some-clause-opened
returns-in-Some-clause-opened g c = united c.open_united.result c.args.query (g.R.Reader.shown c.args.reader.now) c.args.cursor c.args.opening c.args.choice c.in-Some.members.items (search rules) (rw c.in-Some.is at c.in-Ok.ensures.some) c.open_united.ensures.unites

pub returns-in-None-clause-opened : goal.returns-in-None-clause-opened
returns-in-None-clause-opened g c = competed c.open_competing-in-None.result c.args.query (g.R.Reader.shown c.args.reader.now) c.args.cursor c.args.opening c.args.choice (none_serve c.args.query (g.R.Reader.shown c.args.reader.now) c.args.choice (c.in-Ok.ensures.none c.in-None.is)) c.open_competing-in-None.ensures.competes
