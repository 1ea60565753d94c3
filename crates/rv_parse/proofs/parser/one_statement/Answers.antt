use Rattle.rv_parse.proofs.Again.{statement_again}
use Rattle.rv_parse.proofs.parser.one_statement.Goals as goal

pub returns : goal.returns
returns c = λ tokens s t h k. let e = statement_again tokens s h in let f = statement_again tokens t k in cc
