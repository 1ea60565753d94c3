use Rattle.rv_join.proofs.OneItem.{opened_as, opened_counts, opened_life, opened_short}
use Rattle.rv_join.proofs.Binding.{opens_if}
use Rattle.rv_join.proofs.places.open_item.Goals as goal

pub returns-clause-opens : goal.returns-clause-opens
returns-clause-opens g c = opens_if c.open.result c.args.asked.now (g.R.Reader.shown c.args.reader.now) c.args.outer.now c.in_ok-query.query _ _ c.in_ok-query.ensures c.open.ensures.begins

pub returns-clause-opened : goal.returns-clause-opened
returns-clause-opened g c = opened_as c.open.result c.args.asked.now.race c.in_ok-query.query (g.R.Reader.shown c.args.reader.now) c.args.asked.now.cursor c.args.opening _ _ c.open.ensures.begins c.open.ensures.opened

pub returns-clause-counts : goal.returns-clause-counts
returns-clause-counts g c = opened_counts c.open.result c.in_ok-query.query (g.R.Reader.shown c.args.reader.now) _ _ c.open.ensures.begins

pub returns-clause-life : goal.returns-clause-life
returns-clause-life g c = opened_life c.open.result c.in_ok-query.query (g.R.Reader.shown c.args.reader.now) _ _ c.open.ensures.begins

pub returns-clause-short : goal.returns-clause-short
returns-clause-short g c = opened_short c.open.result c.in_ok-query.query (g.R.Reader.shown c.args.reader.now) _ _ c.open.ensures.begins c.open.ensures.short
