use Rattle.try_stores.proofs.Laying.{suits_all}
use Rattle.try_stores.proofs.views.reading.tell_estimate.Goals as goal

pub estimate-requires-clause-suits : goal.estimate-requires-clause-suits
estimate-requires-clause-suits g c = rw c.all-all.ensures (suits_all (g.R.Reader.shown c.args.reader.now) 0 1)
