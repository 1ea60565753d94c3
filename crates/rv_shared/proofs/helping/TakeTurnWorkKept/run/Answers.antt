use Rattle.std.proofs.Common.{ap, ◌∙◌}
use Rattle.rv_shared.specs.Served.{Shown}
use Rattle.rv_shared.proofs.Leading.{cuts_lead}
use Rattle.rv_shared.proofs.helping.TakeTurnWorkKept.run.Goals as goal

pub invariant_of-held : goal.invariant_of-held
invariant_of-held g c =
    let e = c.cut.ensures in record {
      led = cuts_lead g.C.Served.calls g.C.Served.parts g.C.Served.takes g.C.Served.gives g.C.Served.sweeps _ c.args.held.now.core _ c.cut.result _ c.args.held.now.led e.cut;
      phase = ap (λ (s : Shown). s.phase) e.same ∙ c.args.held.now.phase;
    }
