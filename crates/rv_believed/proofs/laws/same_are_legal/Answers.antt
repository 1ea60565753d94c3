use Rattle.rv_believed.proofs.LegalSame.{legal_from, legal_to}
use Rattle.rv_believed.proofs.laws.same_are_legal.Goals as goal

pub returns-clause-works : goal.returns-clause-works
returns-clause-works c = legal_to c.says_what_is_read.ensures.read c.says_what_is_read.ensures.said

pub returns-clause-believed : goal.returns-clause-believed
returns-clause-believed c = legal_from c.says_what_is_read.ensures.read c.says_what_is_read.ensures.said
