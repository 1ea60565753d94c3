use Rattle.std.proofs.Common.{rules, ◌≡◌, ◌++◌, ◌∷◌, ◌-◌, ◌∙◌, List, length, take, drop, true, ap, sym}
use Rattle.std.proofs.lemmas.Result.{IfOk-weaker}
use Rattle.rv_value.proofs.Lists.{written_more}
use Rattle.rv_jscan.specs.declared.jscan.ScanPlan.{ScanPlan}
use Rattle.rv_choice.specs.Choice.{is_scanned, plan_of, plans_of}
use Rattle.rv_choice.proofs.Choices.{plans_more}
use Rattle.rv_choice.proofs.choosing.+put_plans.Goals as goal

pub returns-in_ok-put_plan-in-len1-up-clause-are : goal.returns-in_ok-put_plan-in-len1-up-clause-are
returns-in_ok-put_plan-in-len1-up-clause-are t c =
    let only = c.args.only.now in
    let background = c.args.background in
    let cs = c.args.candidates.now in
    let item = c.candidate-item.result in
    let before = take c.args.at c.args.plans.now.items in
    let scanned : is_scanned background item ≡ true = search rules in
    let more : plans_of only background cs ≡ plan_of only item ∷ plans_of only background (take (length cs - 1) (drop 1 cs)) = plans_more only background cs item c.in-len1-up.len_at_least c.candidate-item.is scanned in
    IfOk-weaker c.put_plans-in-len1-up.result _ _ (λ n rest. written_more before (plan_of only item) _ _ _ rest c.in_ok-put_plan-in-len1-up.ensures.is ∙ ap (λ (ps : List ScanPlan). before ++ ps) (sym more)) c.put_plans-in-len1-up.ensures.are
