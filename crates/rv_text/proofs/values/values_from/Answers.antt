use Rattle.std.proofs.Common.{Some, None, ap, sym, ◌∙◌}
use Rattle.std.specs.Option.{option_copied}
use Rattle.rv_text.specs.Values.{more_values, pieces_of}
use Rattle.rv_text.proofs.Passing.{values_behind, values_step, value_behind}
use Rattle.rv_text.proofs.values.values_from.Goals as goal

pub returns-in-None : goal.returns-in-None
returns-in-None c = values_step c.pieces.values.items c.pieces.left c.cut_value.result.1 c.in-Some.text c.cut_value.result.0.now None _ c.in-Some.is c.cut_value.ensures.word c.cut_value.ensures.more (sym c.in-None.is ∙ c.in_ok-value.ensures) c.pieces.invariant

pub pieces-preserved : goal.pieces-preserved
pieces-preserved c =
    let more = more_values (pieces_of (option_copied c.cut_value.result.1)) in
    ap (λ vs. values_behind vs more) c.in_ok-push-in-Some-2.ensures.items
    ∙ sym (value_behind c.pieces.values.items c.in-Some-2.value more)
    ∙ values_step c.pieces.values.items c.pieces.left c.cut_value.result.1 c.in-Some.text c.cut_value.result.0.now (Some c.in-Some-2.value) _ c.in-Some.is c.cut_value.ensures.word c.cut_value.ensures.more (sym c.in-Some-2.is ∙ c.in_ok-value.ensures) c.pieces.invariant
