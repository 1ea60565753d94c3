use Rattle.std.proofs.Common.{inl, ◌∙◌}
use Rattle.rv_shared.specs.Leads.{Event}
use Rattle.rv_shared.proofs.Leading.{call_same, calls_on, leads_more}
use Rattle.rv_shared.proofs.calling.CallTurnWorkKept.run.Goals as goal

pub invariant_of-held : goal.invariant_of-held
invariant_of-held g c =
    let e = c.call.ensures in record {
      led = leads_more (Event g.C.Served.calls g.C.Served.parts g.C.Served.takes g.C.Served.gives g.C.Served.sweeps) _ c.args.held.now.core _ c.args.held.now.led (inl (c.args.self.now.session, c.args.self.now.text.now, c.call.result, e.called));
      phase = call_same _ _ _ _ c.call.result e.ok e.err ∙ c.args.held.now.phase;
    }

pub returns-clause-means : goal.returns-clause-means
returns-clause-means g c = let e = c.call.ensures in calls_on _ _ _ _ _ c.call.result c.args.held.now.phase e.ok e.err e.legal
