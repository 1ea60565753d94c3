use Rattle.std.proofs.Common.{rules, subst, ◌≡◌}
use Rattle.rv_shared.specs.Leads.{Event, Leads}
use Rattle.own_sessions.proofs.sessions.by_threads.Goals as goal

pub returns-in-Ok-share-clause-led : goal.returns-in-Ok-share-clause-led
returns-in-Ok-share-clause-led g c =
    let mark : c.in-Ok-share.field-0.shared.turn.mark ≡ c.args.core = search rules in
    subst (λ (first : g.row.C.Denot). Leads (Event g.C.Served.calls g.C.Served.parts g.C.Served.takes g.C.Served.gives g.C.Served.sweeps) first c.finish.result) mark c.finish.ensures.led

pub returns-in-Err-clause-led : goal.returns-in-Err-clause-led
returns-in-Err-clause-led g c =
    let same : c.in-Err.core ≡ c.args.core = search rules in
    subst (λ (first : g.row.C.Denot). Leads (Event g.C.Served.calls g.C.Served.parts g.C.Served.takes g.C.Served.gives g.C.Served.sweeps) first c.unshared-in-Err.result) same c.unshared-in-Err.ensures.led
