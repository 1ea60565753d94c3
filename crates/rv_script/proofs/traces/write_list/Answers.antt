use Rattle.rv_io.proofs.Streams.{goes_then}
use Rattle.rv_script.proofs.Pushes.{list_words}
use Rattle.rv_script.proofs.traces.write_list.Goals as goal

pub returns : goal.returns
returns g c = rw list_words (goes_then c.write_words-list.ensures c.write_count.ensures)
