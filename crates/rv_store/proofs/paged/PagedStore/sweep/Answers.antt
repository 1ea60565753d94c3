use Rattle.rv_store.proofs.Standing.{kept_swept, swept_is}
use Rattle.rv_store.proofs.Turning.{from_trans, indexes_from_trans}
use Rattle.rv_store.proofs.paged.PagedStore.sweep.Goals as goal

pub invariant_of-self : goal.invariant_of-self
invariant_of-self c =
    kept_swept _ c.args.horizon c.purge_place.new.tables.items c.purge_place.new.indexes.items c.turn-place.new.self c.self.invariant
    (rw (← c.self.view_is) at c.requires.low) (rw (← c.self.view_is) at c.requires.high)
    (from_trans c.args.horizon c.self.inside.tables.items c.purge_written.new.tables.items c.purge_place.new.tables.items c.purge_written.ensures.tables c.purge_place.ensures.tables)
    (indexes_from_trans c.args.horizon c.self.inside.indexes.items c.purge_written.new.indexes.items c.purge_place.new.indexes.items c.purge_written.ensures.indexes c.purge_place.ensures.indexes)

pub returns-clause-swept : goal.returns-clause-swept
returns-clause-swept c =
    rw (← c.self.view_is) (swept_is (record { horizon = c.self.inside.horizon; newest = c.self.inside.newest; tables = c.self.inside.tables.items; indexes = c.self.inside.indexes.items; turns = c.self.inside.places }) c.args.horizon c.purge_place.new.tables.items c.purge_place.new.indexes.items c.turn-place.new.self
    (from_trans c.args.horizon c.self.inside.tables.items c.purge_written.new.tables.items c.purge_place.new.tables.items c.purge_written.ensures.tables c.purge_place.ensures.tables)
    (indexes_from_trans c.args.horizon c.self.inside.indexes.items c.purge_written.new.indexes.items c.purge_place.new.indexes.items c.purge_written.ensures.indexes c.purge_place.ensures.indexes))
