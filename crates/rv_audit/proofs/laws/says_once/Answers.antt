use Rattle.rv_audit.proofs.Alone.{says_once}
use Rattle.rv_audit.proofs.laws.says_once.Goals as goal

pub returns : goal.returns
returns c = says_once c.text_tells.ensures
