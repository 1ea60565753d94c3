use Rattle.rv_keylist.proofs.Zeros.{unset}
use Rattle.rv_keylist.proofs.filter.Filter.clear.Goals as goal

pub returns : goal.returns
returns c bit = unset c.clear_words.new.words.items c.clear_words.ensures.zero bit
