use Rattle.std.proofs.Common.{List, Option, Some, Result, Ok, Err, subst}
use Rattle.std.specs.Prelude.{IfOk}
use Rattle.rv_lang.specs.declared.token.Token.{Token}
use Rattle.rv_lang.specs.declared.statement.Statement.{Statement}
use Rattle.rv_lang.specs.Grammar.{Derives}
use Rattle.rv_parse.specs.declared.fault.ParseFault.{ParseFault}
use Rattle.rv_parse.specs.Reading.{Gives, parse_of}
use Rattle.rv_parse.proofs.Takes.{Finds, statement_takes}
use Rattle.rv_parse.proofs.Again.{statement_again}
use Rattle.rv_parse.proofs.parser.parse.Goals as goal

is_derived : (tokens : List Token) (r : Result Statement ParseFault) → Gives (λ x. x) r (parse_of tokens) → IfOk r (λ s. Derives tokens s)
is_derived tokens (Ok s) h = let found : Finds (Some s) (Derives tokens) = subst (λ (o : Option Statement). Finds o (Derives tokens)) h (statement_takes tokens) in found.it
is_derived tokens (Err e) h = tt

pub returns-clause-found : goal.returns-clause-found
returns-clause-found c = is_derived c.args.tokens.now c.statement.result c.statement.ensures

pub returns-clause-only : goal.returns-clause-only
returns-clause-only c = λ s h. rw (← statement_again c.args.tokens.now s h) c.statement.ensures
