use Rattle.rv_loading.proofs.Offering.{offers_newest}
use Rattle.rv_loading.proofs.load.settle.Goals as goal

pub returns : goal.returns
returns g c = offers_newest c.args._schema.now c.args._layout (g.S.Reader.shown c.args.store.now) c.last-last.ensures.stored c.requires
