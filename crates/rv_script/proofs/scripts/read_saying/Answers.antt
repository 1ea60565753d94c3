use Rattle.rv_script.proofs.Firsts.{fault_so, says_so}
use Rattle.rv_script.proofs.scripts.read_saying.Goals as goal

pub returns-in-Ok-clause-says : goal.returns-in-Ok-clause-says
returns-in-Ok-clause-says c = says_so c.checked.result c.args.number c.args.bytes.now c.in-Ok.ensures.cases.1 (rw (c.first_line.ensures, c.behind_mark.ensures, c.in-Ok.ensures.cases.0) at c.checked.ensures)

pub returns-in-Ok-clause-fault : goal.returns-in-Ok-clause-fault
returns-in-Ok-clause-fault c = fault_so c.checked.result c.args.number c.args.bytes.now c.in-Ok.ensures.cases.1 (rw (c.first_line.ensures, c.behind_mark.ensures, c.in-Ok.ensures.cases.0) at c.checked.ensures)
