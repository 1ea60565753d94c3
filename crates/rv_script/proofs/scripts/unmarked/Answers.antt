use Rattle.rv_script.proofs.Marks.{mark_some, mark_none}
use Rattle.rv_script.proofs.scripts.unmarked.Goals as goal

pub returns-in-Some : goal.returns-in-Some
returns-in-Some c = mark_some c.args.text.now c.in-Some.rest.now c.in-Some.ensures.cases.0 c.in-Some.ensures.cases.1 c.in-Some.ensures.cases.2

pub returns-in-None : goal.returns-in-None
returns-in-None c = mark_none c.args.text.now c.in-None.ensures.cases
