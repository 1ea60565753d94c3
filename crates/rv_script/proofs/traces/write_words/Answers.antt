use Rattle.rv_io.proofs.Streams.{goes_then}
use Rattle.rv_script.proofs.traces.write_words.Goals as goal

pub returns : goal.returns
returns g c = goes_then c.write_word-front.ensures c.write_word.ensures
