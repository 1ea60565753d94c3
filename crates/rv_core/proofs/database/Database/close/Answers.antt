use Rattle.rv_core.proofs.Databases.{closes_standing}
use Rattle.rv_core.proofs.database.Database.close.Goals as goal

pub invariant_of-self : goal.invariant_of-self
invariant_of-self g c =
    record {
      standing = closes_standing (g.S.Reader.shown c.self.inside.store) c.self.inside.catalog c.self.inside.txns c.self.inside.cursors c.close_at.new.cursors c.self.inside.opened c.in-Some.place c.close_at.ensures c.self.invariant.standing;
      views_kept = c.self.invariant.views_kept;
    }
