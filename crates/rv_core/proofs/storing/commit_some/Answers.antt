use Rattle.rv_core.proofs.storing.commit_some.Goals as goal

pub commit-requires-clause-changes : goal.commit-requires-clause-changes
commit-requires-clause-changes g c = rw c.as_slice-changes.ensures c.requires.changes
