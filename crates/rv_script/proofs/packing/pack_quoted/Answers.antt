use Rattle.rv_script.proofs.Doubling.{cut_nowhere}
use Rattle.rv_script.proofs.packing.pack_quoted.Goals as goal

pub returns-in-None : goal.returns-in-None
returns-in-None c = rw (cut_nowhere c.args.bytes.now c.in-None.ensures) c.pack_between_quotes.ensures
