use Rattle.std.proofs.Common.{ap, subst, ◌∙◌}
use Rattle.rv_shared.specs.Leads.{Event, Leads}
use Rattle.rv_shared.proofs.shared.Shared.close.Goals as goal

pub returns-clause-led : goal.returns-clause-led
returns-clause-led g c = subst (λ (first : g.row.C.Denot). Leads (Event g.C.Served.calls g.C.Served.parts g.C.Served.takes g.C.Served.gives g.C.Served.sweeps) first c.close-core.result.core) c.close-core.ensures.mark c.close-core.result.led

pub returns-clause-phase : goal.returns-clause-phase
returns-clause-phase g c = c.close-core.result.phase ∙ ap (λ (first : g.row.C.Denot). (g.C.Served.shown first).phase) c.close-core.ensures.mark
