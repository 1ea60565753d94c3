use Rattle.rv_shared.specs.Leads.{Event}
use Rattle.rv_shared.proofs.Leading.{leads_none}
use Rattle.rv_phases.proofs.Calls.{none_done}
use Rattle.rv_phases.proofs.phase.unbegun.Goals as goal

pub returns-clause-done : goal.returns-clause-done
returns-clause-done g c = none_done _ c.args.lines.now _ c.history-legal.ensures.legal

pub returns-clause-led : goal.returns-clause-led
returns-clause-led g c = leads_none (Event g.C.Served.calls g.C.Served.parts g.C.Served.takes g.C.Served.gives g.C.Served.sweeps) c.args.core
