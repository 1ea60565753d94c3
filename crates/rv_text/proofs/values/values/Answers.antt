use Rattle.std.proofs.Common.{Some, None, arith, refl, ap, sym, ◌∙◌}
use Rattle.std.proofs.lemmas.Bool.Decides.{nat_tests}
use Rattle.std.specs.Option.{option_copied, option_map}
use Rattle.rv_text.proofs.Passing.{values_read}
use Rattle.rv_text.proofs.values.values.Goals as goal

pub returns-in_ok-row-in-Some-2 : goal.returns-in_ok-row-in-Some-2
returns-in_ok-row-in-Some-2 c = ap (λ vs. Some vs) c.in_ok-row-in-Some-2.ensures ∙ values_read c.args.text.now c.cut_value.result.0.now (option_copied c.cut_value.result.1) (Some c.in-Some.first) _ (grind (arith, nat_tests)) c.cut_value.ensures.word c.cut_value.ensures.more (sym c.in-Some.is ∙ c.in_ok-first.ensures) (ap (option_map (λ v. v.items)) (sym c.in-Some-2.is) ∙ c.in_ok-values-in-Some.ensures)

pub returns-in-None-2 : goal.returns-in-None-2
returns-in-None-2 c = values_read c.args.text.now c.cut_value.result.0.now (option_copied c.cut_value.result.1) (Some c.in-Some.first) None (grind (arith, nat_tests)) c.cut_value.ensures.word c.cut_value.ensures.more (sym c.in-Some.is ∙ c.in_ok-first.ensures) (ap (option_map (λ v. v.items)) (sym c.in-None-2.is) ∙ c.in_ok-values-in-Some.ensures)

pub returns-in-None : goal.returns-in-None
returns-in-None c = values_read c.args.text.now c.cut_value.result.0.now (option_copied c.cut_value.result.1) None None (grind (arith, nat_tests)) c.cut_value.ensures.word c.cut_value.ensures.more (sym c.in-None.is ∙ c.in_ok-first.ensures) refl
