use Rattle.rv_rows.specs.Kept.{lent_changes}
use Rattle.rv_core.proofs.storing.commit_own.Goals as goal
use Rattle.std.proofs.lemmas.Result.{IfOk-weaker}

pub commit_some-committed-requires-clause-changes : goal.commit_some-committed-requires-clause-changes
commit_some-committed-requires-clause-changes g c = c.requires.changes c.in-Ok.finished.txn c.in-Ok.finished.base (lent_changes c.in-Ok.finished.changes) c.in-Ok.ensures.ok c.in-Ok.ensures.rise

pub returns-clause-ok : goal.returns-clause-ok
returns-clause-ok g c = IfOk-weaker c.commit_some-committed.result _ _ (λ n told. record { txn = c.in-Ok.finished.txn; base = c.in-Ok.finished.base; changes = lent_changes c.in-Ok.finished.changes; did = c.in-Ok.ensures.ok; told = told }) c.commit_some-committed.ensures.ok
