use Rattle.rv_store.proofs.Standing.{can_put, committed_is, failed_same, index_open, kept_committed, kept_failed, open_is, trees_committed}
use Rattle.rv_store.proofs.paged.PagedStore.commit.Goals as goal
use Rattle.rv_value.proofs.Lists.{on_err}

pub commit_changes-requires-clause-open : goal.commit_changes-requires-clause-open
commit_changes-requires-clause-open c = open_is _ c.self.invariant

pub commit_changes-requires-clause-can : goal.commit_changes-requires-clause-can
commit_changes-requires-clause-can c =
    let changes = rw (← c.self.view_is) at c.requires.changes in
    can_put (record { horizon = c.self.inside.horizon; newest = c.self.inside.newest; tables = c.self.inside.tables.items; indexes = c.self.inside.indexes.items; turns = c.self.inside.places }) c.args.changes.now changes.each

pub commit_changes-requires-clause-each : goal.commit_changes-requires-clause-each
commit_changes-requires-clause-each c index h = index_open _ index c.self.invariant h

pub invariant_of-self : goal.invariant_of-self
invariant_of-self c =
    kept_failed (record { horizon = c.self.inside.horizon; newest = c.self.inside.newest; tables = c.self.inside.tables.items; indexes = c.self.inside.indexes.items; turns = c.self.inside.places }) c.commit_changes.new.tables.items c.commit_changes.new.indexes.items c.commit_changes.new.places c.self.invariant
    c.commit_changes.ensures.tables c.commit_changes.ensures.indexes c.in_err-commit_changes.ensures.err

pub returns-in_err-commit_changes-clause-err : goal.returns-in_err-commit_changes-clause-err
returns-in_err-commit_changes-clause-err c =
    rw (← c.self.view_is) (on_err c.from_residual.result _
    (failed_same (record { horizon = c.self.inside.horizon; newest = c.self.inside.newest; tables = c.self.inside.tables.items; indexes = c.self.inside.indexes.items; turns = c.self.inside.places }) c.commit_changes.new.tables.items c.commit_changes.new.indexes.items c.commit_changes.new.places c.commit_changes.ensures.tables c.commit_changes.ensures.indexes))

pub invariant_of-self-2 : goal.invariant_of-self-2
invariant_of-self-2 c =
    let changes = rw (← c.self.view_is) at c.requires.changes in
    kept_committed (record { horizon = c.self.inside.horizon; newest = c.self.inside.newest; tables = c.self.inside.tables.items; indexes = c.self.inside.indexes.items; turns = c.self.inside.places }) c.args.changes.now c.commit_changes.new.tables.items c.commit_changes.new.indexes.items c.commit_changes.new.places c.self.invariant changes
    c.commit_changes.ensures.tables c.commit_changes.ensures.indexes c.in_ok-commit_changes.ensures.ok

pub returns-clause-ok : goal.returns-clause-ok
returns-clause-ok c =
    rw (← c.self.view_is) (committed_is (record { horizon = c.self.inside.horizon; newest = c.self.inside.newest; tables = c.self.inside.tables.items; indexes = c.self.inside.indexes.items; turns = c.self.inside.places }) c.args.changes.now c.commit_changes.new.tables.items c.commit_changes.new.indexes.items c.commit_changes.new.places c.self.invariant
    c.commit_changes.ensures.tables c.commit_changes.ensures.indexes c.in_ok-commit_changes.ensures.ok)

pub returns-clause-trees : goal.returns-clause-trees
returns-clause-trees c =
    rw (← c.self.view_is) (trees_committed (record { horizon = c.self.inside.horizon; newest = c.self.inside.newest; tables = c.self.inside.tables.items; indexes = c.self.inside.indexes.items; turns = c.self.inside.places }) c.args.changes.now c.commit_changes.new.tables.items c.commit_changes.new.indexes.items c.commit_changes.new.places c.self.invariant
    c.in_ok-commit_changes.ensures.ok)
