use Rattle.rv_parse.proofs.TextStatements.{statement_derived, statement_given}
use Rattle.rv_parse.proofs.parser.statement_as_function.Goals as goal

pub returns-clause-derives : goal.returns-clause-derives
returns-clause-derives c = statement_derived

pub returns-clause-gives : goal.returns-clause-gives
returns-clause-gives c = statement_given
