use Rattle.std.proofs.Common.{◌∙◌, sym, ap, length}
use Rattle.rv_core.proofs.Calling.{low_room}
use Rattle.rv_core.proofs.Databases.{creates_all, creates_standing, idle_sees, sees_again, stand_again, standing_same}
use Rattle.rv_core.proofs.Owning.{views_idle, views_same}
use Rattle.rv_core.proofs.database.Database.create.Goals as goal

pub invariant_of-self : goal.invariant_of-self
invariant_of-self g c =
    let standing = standing_same (g.S.Reader.shown c.self.inside.store) (g.S.Reader.shown c.add_table.new.store) c.self.inside.catalog c.add_table.new.catalog c.self.inside.txns c.self.inside.cursors c.self.inside.opened c.in-Err.ensures.err_catalog c.in-Err.ensures.err_store c.self.invariant.standing in
    record { standing = standing; views_kept = views_same (g.S.Reader.shown c.self.inside.store) (g.S.Reader.shown c.add_table.new.store) c.self.inside.catalog c.add_table.new.catalog c.self.inside.txns c.self.inside.views c.last-last.ensures.stored c.in-Err.ensures.err_store c.self.invariant.standing.tied standing.tied c.self.invariant.views_kept }

pub returns-in-Err-clause-err : goal.returns-in-Err-clause-err
returns-in-Err-clause-err g c = rw (← c.self.view_is) (stand_again (g.S.Reader.shown c.self.inside.store) (g.S.Reader.shown c.add_table.new.store) c.self.inside.catalog c.add_table.new.catalog c.self.inside.txns c.self.inside.cursors c.self.inside.opened c.in-Err.ensures.err_catalog c.in-Err.ensures.err_store c.self.invariant.standing)

pub invariant_of-self-2 : goal.invariant_of-self-2
invariant_of-self-2 g c =
    record {
      standing = creates_standing (g.S.Reader.shown c.self.inside.store) (g.S.Reader.shown c.add_table.new.store) c.self.inside.catalog c.add_table.new.catalog c.args.def c.self.inside.txns c.self.inside.cursors c.self.inside.opened (sym c.active.ensures ∙ c.in_default.is) c.in-Ok.ensures.catalog c.in-Ok.ensures.store c.self.invariant.standing;
      views_kept = views_idle (g.S.Reader.shown c.self.inside.store) (g.S.Reader.shown c.add_table.new.store) c.self.inside.txns.active c.self.inside.views (sym c.active.ensures ∙ c.in_default.is) c.self.invariant.views_kept;
    }

pub returns-clause-ok : goal.returns-clause-ok
returns-clause-ok g c =
    let room = low_room (length c.self.inside.catalog.tables) (length c.tables.result.now) (ap length c.tables.ensures.same) c.if-tables-gt63.false in
    rw (← c.self.view_is) (creates_all (g.S.Reader.shown c.self.inside.store) (g.S.Reader.shown c.add_table.new.store) c.self.inside.catalog c.add_table.new.catalog c.args.def c.self.inside.txns c.self.inside.cursors c.self.inside.opened (sym c.active.ensures ∙ c.in_default.is) room c.in-Ok.ensures.catalog c.in-Ok.ensures.store c.self.invariant.standing)

pub returns-in-Err-clause-sees : goal.returns-in-Err-clause-sees
returns-in-Err-clause-sees g c = rw (← c.self.view_is) (sees_again (g.S.Reader.shown c.self.inside.store) (g.S.Reader.shown c.add_table.new.store) c.self.inside.catalog c.self.inside.txns c.self.inside.cursors c.self.inside.opened c.in-Err.ensures.err_store c.self.invariant.standing)

pub returns-clause-sees : goal.returns-clause-sees
returns-clause-sees g c = rw (← c.self.view_is) (idle_sees (g.S.Reader.shown c.self.inside.store) (g.S.Reader.shown c.add_table.new.store) c.self.inside.catalog c.self.inside.txns c.self.inside.cursors c.self.inside.opened (sym c.active.ensures ∙ c.in_default.is) c.self.invariant.standing)
