use Rattle.rv_core.proofs.Databases.{opens_fit, standing_at, whole_opens}
use Rattle.rv_core.proofs.database.Database.give_piece.Goals as goal

pub invariant_of-self : goal.invariant_of-self
invariant_of-self g c =
    record {
      standing = standing_at (g.S.Reader.shown c.self.inside.store) c.self.inside.catalog c.self.inside.txns c.self.inside.cursors c.give_at.new.cursors c.self.inside.opened (c.give_at.ensures.opens (g.S.Reader.shown c.self.inside.store)) c.give_at.ensures.listed c.self.invariant.standing;
      views_kept = c.self.invariant.views_kept;
    }

pub returns-clause-same : goal.returns-clause-same
returns-clause-same g c = rw (← c.self.view_is) (whole_opens c.self.inside.store (g.S.Reader.shown c.self.inside.store) c.self.inside.catalog c.self.inside.txns c.self.inside.cursors c.give_at.new.cursors c.self.inside.opened (c.give_at.ensures.seen (g.S.Reader.shown c.self.inside.store) (opens_fit (g.S.Reader.shown c.self.inside.store) c.self.inside.catalog c.self.inside.txns.active c.self.inside.cursors c.self.invariant.standing.opens)))

pub returns-clause-settled : goal.returns-clause-settled
returns-clause-settled g c = rw (← c.self.view_is) (c.give_at.ensures.settled (g.S.Reader.shown c.self.inside.store) (opens_fit (g.S.Reader.shown c.self.inside.store) c.self.inside.catalog c.self.inside.txns.active c.self.inside.cursors c.self.invariant.standing.opens))
