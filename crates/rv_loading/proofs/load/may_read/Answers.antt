use Rattle.rv_loading.proofs.Offering.{offers_laid}
use Rattle.rv_loading.proofs.load.may_read.Goals as goal

pub returns : goal.returns
returns g c = offers_laid c.args._schema.now c.args._layout (g.S.Reader.shown c.args.store.now) c.args._snap c.last-last.ensures.stored c.requires.laid c.requires.low c.requires.high
