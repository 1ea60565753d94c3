use Rattle.rv_words.proofs.Told.{exactly_accepted}
use Rattle.rv_words.proofs.reading.accepted.Goals as goal

pub returns : goal.returns
returns c = exactly_accepted c.args.words.now c.fit.result c.fit.ensures
