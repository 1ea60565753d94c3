use Rattle.std.proofs.Common.{◌<◌, ◌∙◌, length, sym, rules}
use Rattle.std.proofs.lemmas.Result.{IfOk-weaker}
use Rattle.rv_core.proofs.Databases.{opens_fit, shows_plan, tells_plan}
use Rattle.rv_core.proofs.Facts.{any_ok}
use Rattle.rv_core.proofs.database.Database.show.Goals as goal

pub returns-in_default-clause-told : goal.returns-in_default-clause-told
returns-in_default-clause-told g c = rw (← c.self.view_is, ← c.cursor_named.ensures.named, c.in_default.is) (any_ok c.refused.result _ (λ replies. tt))

pub returns-clause-ok : goal.returns-clause-ok
returns-clause-ok g c =
    let shown = g.S.Reader.shown c.self.inside.store in
    let within : c.in-Some.place < length c.self.inside.cursors = search rules in
    let allowed = c.trace_at-trace.ensures.allowed shown (opens_fit shown c.self.inside.catalog c.self.inside.txns.active c.self.inside.cursors c.self.invariant.standing.opens) in
    rw (← c.self.view_is) (IfOk-weaker c.twice.result _ _ (λ replies k. shows_plan shown c.self.inside.catalog c.self.inside.txns c.self.inside.cursors c.self.inside.opened c.args.session c.args.name c.in-Some.place c.trace_at-trace.result c.in_ok-shown.shown replies c.self.invariant.standing within (sym (c.cursor_named.ensures.seen shown) ∙ c.in-Some.is) allowed (search rules) k) c.twice.ensures)

pub returns-clause-told : goal.returns-clause-told
returns-clause-told g c =
    rw (← c.self.view_is) (IfOk-weaker c.twice.result _ _ (λ replies k. tells_plan c.self.inside.cursors c.self.inside.catalog.indexes c.in-Some.place _ c.trace_at-trace.result c.in_ok-shown.shown replies.0 (sym c.cursor_named.ensures.named ∙ c.in-Some.is) c.trace_at-trace.ensures.told (search rules) k.0) c.twice.ensures)
