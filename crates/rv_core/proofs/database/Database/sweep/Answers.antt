use Rattle.std.proofs.Common.{refl}
use Rattle.rv_core.proofs.Tied.{horizon_kept, horizon_last}
use Rattle.rv_core.proofs.Databases.{sweeps_all, sweeps_sees, sweeps_standing}
use Rattle.rv_core.proofs.Owning.{views_swept}
use Rattle.rv_core.proofs.database.Database.sweep.Goals as goal

pub sweep-requires-clause-low : goal.sweep-requires-clause-low
sweep-requires-clause-low g c = rw (c.horizon-horizon.ensures, c.last-last.ensures.newest) (horizon_kept (g.S.Reader.shown c.self.inside.store) c.self.inside.txns.touched c.self.inside.txns.active c.self.invariant.standing.tied.standing c.self.invariant.standing.tied.active)

pub sweep-requires-clause-high : goal.sweep-requires-clause-high
sweep-requires-clause-high g c = rw (c.horizon-horizon.ensures, c.last-last.ensures.newest) (horizon_last c.self.inside.txns.active (g.S.Reader.shown c.self.inside.store).newest)

pub invariant_of-self : goal.invariant_of-self
invariant_of-self g c =
    record {
      standing = sweeps_standing (g.S.Reader.shown c.self.inside.store) (g.S.Reader.shown c.sweep.new.self) c.self.inside.catalog c.self.inside.txns c.self.inside.cursors c.self.inside.opened c.last-last.result c.horizon-horizon.result c.last-last.ensures.newest c.horizon-horizon.ensures c.sweep.ensures c.self.invariant.standing;
      views_kept = views_swept (g.S.Reader.shown c.self.inside.store) (g.S.Reader.shown c.sweep.new.self) c.self.inside.catalog c.self.inside.txns c.self.inside.views c.last-last.result c.horizon-horizon.result c.last-last.ensures.stored c.last-last.ensures.newest c.horizon-horizon.ensures c.sweep.ensures c.self.invariant.standing.tied c.self.invariant.views_kept;
    }

pub returns-clause-same : goal.returns-clause-same
returns-clause-same g c =
    let e = sweeps_all (g.S.Reader.shown c.self.inside.store) (g.S.Reader.shown c.sweep.new.self) c.self.inside.catalog c.self.inside.txns c.self.inside.cursors c.self.inside.opened c.last-last.result c.horizon-horizon.result c.last-last.ensures.newest c.horizon-horizon.ensures c.sweep.ensures c.self.invariant.standing in
    rw (← c.self.view_is, e) refl

pub returns-clause-sees : goal.returns-clause-sees
returns-clause-sees g c = rw (← c.self.view_is) (sweeps_sees (g.S.Reader.shown c.self.inside.store) (g.S.Reader.shown c.sweep.new.self) c.self.inside.catalog c.self.inside.txns c.self.inside.cursors c.self.inside.opened c.last-last.result c.horizon-horizon.result c.last-last.ensures.newest c.horizon-horizon.ensures c.sweep.ensures c.self.invariant.standing)
