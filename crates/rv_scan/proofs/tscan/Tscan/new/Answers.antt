use Rattle.std.proofs.Common.{ap, length, arith}
use Rattle.rv_scan.specs.Due.{due}
use Rattle.rv_scan.proofs.Pages.{all_from}
use Rattle.rv_scan.proofs.tscan.Tscan.new.Goals as goal

pub returns-clause-fits : goal.returns-clause-fits
returns-clause-fits c rows = (0, rw c.new.ensures.items (all_from rows))

pub returns-clause-rest : goal.returns-clause-rest
returns-clause-rest c rows only skip = rw c.new.ensures.items (ap (due only skip) (all_from rows))

pub returns-clause-work : goal.returns-clause-work
returns-clause-work c rows pages = rw c.new.ensures.items (let all = ap length (all_from rows) in omega arith)
