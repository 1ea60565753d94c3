use Rattle.rv_core.proofs.Databases.{opens_fit, standing_at}
use Rattle.rv_core.proofs.database.Database.take_piece.Goals as goal

pub take_at-requires-clause-fits : goal.take_at-requires-clause-fits
take_at-requires-clause-fits g c = opens_fit (g.S.Reader.shown c.self.inside.store) c.self.inside.catalog c.self.inside.txns.active c.self.inside.cursors c.self.invariant.standing.opens

pub invariant_of-self : goal.invariant_of-self
invariant_of-self g c =
    record {
      standing = standing_at (g.S.Reader.shown c.self.inside.store) c.self.inside.catalog c.self.inside.txns c.self.inside.cursors c.take_at.new.cursors c.self.inside.opened c.take_at.ensures.opens c.take_at.ensures.listed c.self.invariant.standing;
      views_kept = c.self.invariant.views_kept;
    }

pub returns-clause-taken : goal.returns-clause-taken
returns-clause-taken g c = rw (← c.self.view_is, ← c.next_waiting.ensures, c.in-Some.is) c.take_at.ensures.taken

pub returns-clause-tried : goal.returns-clause-tried
returns-clause-tried g c = rw (← c.self.view_is, ← c.next_waiting.ensures, c.in-Some.is) c.take_at.ensures.tried
