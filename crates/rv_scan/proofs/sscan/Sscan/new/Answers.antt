use Rattle.rv_scan.proofs.Telling.{told_reads, told_truth}
use Rattle.rv_scan.proofs.sscan.Sscan.new.Goals as goal

pub returns-clause-agrees : goal.returns-clause-agrees
returns-clause-agrees c columns row column h = told_reads columns row column h

pub returns-clause-qualify : goal.returns-clause-qualify
returns-clause-qualify c columns only row names = told_truth columns only row names
