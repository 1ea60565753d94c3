use Rattle.std.proofs.Common.{◌∙◌, rules, sym}
use Rattle.rv_core.proofs.Fetched.{fetch_named}
use Rattle.rv_core.proofs.statements.fetched.Goals as goal

pub returns : goal.returns
returns c = λ schema. fetch_named c.args.statement.now c.in-Some-Fetch.cursor schema (search rules) (sym c.long_name.ensures ∙ c.if-long_name.false)
