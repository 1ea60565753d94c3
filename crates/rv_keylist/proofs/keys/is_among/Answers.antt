use Rattle.std.proofs.Common.{◌∙◌}
use Rattle.rv_keylist.proofs.Searches.{is_found}
use Rattle.rv_keylist.proofs.keys.is_among.Goals as goal

pub returns : goal.returns
returns c = c.is_ok.ensures.value ∙ is_found _ _ _ c.requires c.binary_search.ensures.position
