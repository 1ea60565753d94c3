use Rattle.std.proofs.Common.{rules, ap, sym, ◌∙◌, ◌≡◌, ◌+◌, ◌++◌, ◌∷◌, [], ℕ, List}
use Rattle.rv_phases.specs.Phase.{Call, call, own}
use Rattle.rv_phases.proofs.Calls.{asked_one, own_goes, own_replied}
use Rattle.rv_phases.proofs.jobs.make_call.Goals as goal

pub returns-in-Ok-clause-made : goal.returns-in-Ok-clause-made
returns-in-Ok-clause-made g c =
    let it : c.args.line.now.session ≡ c.args.pass.now.number + 1 = search rules in
    let phase = (g.C.Served.shown c.args.shared.now.turn.mark).phase in
    let before = own (c.args.pass.now.number + 1) c.args.pass.now.seen in
    λ _. own_replied _ _ _ _ _ _ c.in-Ok.ensures.ok ∙ (ap (λ (t : List ℕ). before ++ call phase t ∷ []) c.as_str.ensures.same ∙ ap (λ (cs : List Call). before ++ cs) (sym (asked_one (c.args.pass.now.number + 1) phase c.args.line.now it)))

pub returns-in-Err-clause-stopped : goal.returns-in-Err-clause-stopped
returns-in-Err-clause-stopped g c = λ _. own_goes _ _ _ c.in-Err.ensures.err.goes_on
