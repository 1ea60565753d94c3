use Rattle.rv_parse.proofs.TextStatements.{derived}
use Rattle.rv_parse.proofs.Again.{statement_again}
use Rattle.rv_parse.proofs.parser.derived_as_function.Goals as goal

pub returns-clause-derives : goal.returns-clause-derives
returns-clause-derives c = derived

pub returns-clause-gives : goal.returns-clause-gives
returns-clause-gives c = statement_again
