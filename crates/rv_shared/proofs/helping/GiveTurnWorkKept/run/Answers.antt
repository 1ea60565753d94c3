use Rattle.std.proofs.Common.{ap, inl, inr, ◌∙◌}
use Rattle.rv_shared.specs.Leads.{Event}
use Rattle.rv_shared.specs.Served.{Shown}
use Rattle.rv_shared.proofs.Leading.{leads_more}
use Rattle.rv_shared.proofs.helping.GiveTurnWorkKept.run.Goals as goal

pub invariant_of-held : goal.invariant_of-held
invariant_of-held g c =
    let e = c.give_piece.ensures in record {
      led = leads_more (Event g.C.Served.calls g.C.Served.parts g.C.Served.takes g.C.Served.gives g.C.Served.sweeps) _ c.args.held.now.core _ c.args.held.now.led (inr (inr (inr (inl (_, c.give_piece.result, e.given)))));
      phase = ap (λ (s : Shown). s.phase) e.same ∙ c.args.held.now.phase;
    }
