use Rattle.rv_core.proofs.Databases.{rolls_all, rolls_standing}
use Rattle.rv_core.proofs.Owning.{views_undone}
use Rattle.rv_core.proofs.database.Database.rollback.Goals as goal

pub invariant_of-self-2 : goal.invariant_of-self-2
invariant_of-self-2 g c =
    record {
      standing = rolls_standing (g.S.Reader.shown c.self.inside.store) c.self.inside.catalog c.self.inside.txns c.rollback.new.self c.self.inside.cursors c.close_all.new.cursors c.self.inside.opened c.args.session c.in_default.ensures.ok c.close_all.ensures c.self.invariant.standing;
      views_kept = views_undone (g.S.Reader.shown c.self.inside.store) c.self.inside.txns c.rollback.new.self c.self.inside.views c.let_go.new.self c.args.session c.in_default.ensures.ok c.let_go.ensures c.self.invariant.views_kept;
    }

pub returns-clause-ok : goal.returns-clause-ok
returns-clause-ok g c = rw (← c.self.view_is) (rolls_all (g.S.Reader.shown c.self.inside.store) c.self.inside.catalog c.self.inside.txns c.rollback.new.self c.self.inside.cursors c.close_all.new.cursors c.args.session c.in_default.ensures.ok c.close_all.ensures)
