use Rattle.std.proofs.Common.{inl, inr, ◌∙◌}
use Rattle.rv_shared.specs.Leads.{Event}
use Rattle.rv_shared.proofs.Leading.{leads_more, part_same, steps_on}
use Rattle.rv_shared.proofs.calling.StepTurnWorkKept.run.Goals as goal

pub invariant_of-held : goal.invariant_of-held
invariant_of-held g c =
    let e = c.call_step.ensures in record {
      led = leads_more (Event g.C.Served.calls g.C.Served.parts g.C.Served.takes g.C.Served.gives g.C.Served.sweeps) _ c.args.held.now.core _ c.args.held.now.led (inr (inl (c.args.self.now.session, c.args.self.now.text.now, c.call_step.result, e.called)));
      phase = part_same _ _ _ _ c.call_step.result e.ok e.err ∙ c.args.held.now.phase;
    }

pub returns-clause-means : goal.returns-clause-means
returns-clause-means g c = let e = c.call_step.ensures in steps_on _ _ _ _ _ c.call_step.result c.args.held.now.phase e.ok e.err e.legal
