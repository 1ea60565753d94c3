use Rattle.rv_loading.proofs.Laying.{laid_none}
use Rattle.rv_loading.proofs.load.begin.Goals as goal

pub returns-clause-laid : goal.returns-clause-laid
returns-clause-laid g c = laid_none c.args._schema.now (g.S.Reader.shown c.args._store.now) c.requires
