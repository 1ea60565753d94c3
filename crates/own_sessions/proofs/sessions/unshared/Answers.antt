use Rattle.std.proofs.Common.{sym, append-nil, []}
use Rattle.rv_shared.specs.Leads.{Event}
use Rattle.rv_shared.proofs.Leading.{leads_none}
use Rattle.own_sessions.proofs.sessions.unshared.Goals as goal

pub returns-clause-led : goal.returns-clause-led
returns-clause-led g c = leads_none (Event g.C.Served.calls g.C.Served.parts g.C.Served.takes g.C.Served.gives g.C.Served.sweeps) c.args.core

pub returns-clause-goes_on : goal.returns-clause-goes_on
returns-clause-goes_on g c = ([], sym (append-nil (g.C.Served.shown c.args.core).history))
