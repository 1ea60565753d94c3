use Rattle.rv_core.proofs.Databases.{begins_standing}
use Rattle.rv_core.proofs.Owning.{views_begun}
use Rattle.rv_core.proofs.database.Database.begin.Goals as goal

pub invariant_of-self-2 : goal.invariant_of-self-2
invariant_of-self-2 g c =
    record {
      standing = begins_standing (g.S.Reader.shown c.self.inside.store) c.self.inside.catalog c.self.inside.txns c.begin.new.self c.self.inside.cursors c.self.inside.opened c.args.session c.args.read_only c.in-Ok.number (rw c.last-base.ensures.newest at c.in-Ok.ensures.ok) c.self.invariant.standing;
      views_kept = views_begun (g.S.Reader.shown c.self.inside.store) c.self.inside.txns c.begin.new.self c.self.inside.views c.args.session c.in-Ok.number c.args.read_only (rw c.last-base.ensures.newest at c.in-Ok.ensures.ok) c.self.invariant.views_kept;
    }
