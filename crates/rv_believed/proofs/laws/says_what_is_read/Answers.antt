use Rattle.rv_believed.proofs.Texts.{says_read, read_says}
use Rattle.rv_believed.proofs.laws.says_what_is_read.Goals as goal

pub returns-clause-read : goal.returns-clause-read
returns-clause-read c = says_read c.statement_as_function.ensures.gives

pub returns-clause-said : goal.returns-clause-said
returns-clause-said c = read_says c.statement_as_function.ensures.derives
