use Rattle.try_stores.proofs.Laying.{suits_all}
use Rattle.try_stores.proofs.views.reading.tell_leaf.Goals as goal

pub chunk-chunk-requires-clause-suits : goal.chunk-chunk-requires-clause-suits
chunk-chunk-requires-clause-suits g c = rw c.all-all.ensures (suits_all (g.R.Reader.shown c.args.reader.now) 0 1)
