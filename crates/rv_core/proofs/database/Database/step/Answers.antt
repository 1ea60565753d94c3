use Rattle.rv_core.proofs.Databases.{opens_fit, standing_at}
use Rattle.rv_core.proofs.database.Database.step.Goals as goal

pub step_at-requires-clause-fits : goal.step_at-requires-clause-fits
step_at-requires-clause-fits g c = opens_fit (g.S.Reader.shown c.self.inside.store) c.self.inside.catalog c.self.inside.txns.active c.self.inside.cursors c.self.invariant.standing.opens

pub invariant_of-self : goal.invariant_of-self
invariant_of-self g c =
    record {
      standing = standing_at (g.S.Reader.shown c.self.inside.store) c.self.inside.catalog c.self.inside.txns c.self.inside.cursors c.step_at.new.cursors c.self.inside.opened c.step_at.ensures.opens c.step_at.ensures.listed c.self.invariant.standing;
      views_kept = c.self.invariant.views_kept;
    }

pub invariant_of-self-2 : goal.invariant_of-self-2
invariant_of-self-2 g c =
    record {
      standing = standing_at (g.S.Reader.shown c.self.inside.store) c.self.inside.catalog c.self.inside.txns c.self.inside.cursors c.step_at.new.cursors c.self.inside.opened c.step_at.ensures.opens c.step_at.ensures.listed c.self.invariant.standing;
      views_kept = c.self.invariant.views_kept;
    }
