use Rattle.rv_txn.proofs.Apart.{apart_at}
use Rattle.rv_txn.proofs.txns.Txns.put_changes.Goals as goal

pub invariant_of-self : goal.invariant_of-self
invariant_of-self c = apart_at c.self.inside.transactions.active c.in-Some.own c.at_mut.result.now c.put_all.new.self c.at_mut.ensures.value c.self.invariant
