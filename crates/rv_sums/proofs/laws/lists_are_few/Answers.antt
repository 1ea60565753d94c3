use Rattle.rv_sums.proofs.Uniting.{list_few, list_reads}
use Rattle.rv_sums.proofs.laws.lists_are_few.Goals as goal

pub returns-clause-keys : goal.returns-clause-keys
returns-clause-keys c = list_few

pub returns-clause-reads : goal.returns-clause-reads
returns-clause-reads c = list_reads
