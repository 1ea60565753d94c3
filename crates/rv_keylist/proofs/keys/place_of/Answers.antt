use Rattle.rv_keylist.proofs.Searches.{is_place}
use Rattle.rv_keylist.proofs.keys.place_of.Goals as goal

pub returns : goal.returns
returns c = is_place _ _ c.in-Err.at _ c.requires.ascends c.binary_search.ensures.position c.in-Err.is
