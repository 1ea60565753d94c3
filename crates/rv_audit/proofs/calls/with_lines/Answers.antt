use Rattle.std.proofs.Common.{◌++◌, ◌∷◌, [], ap, sym, ◌∙◌, take, arith, append_assoc}
use Rattle.rv_audit.specs.Calls.{call_in, calls_in}
use Rattle.rv_audit.proofs.Gathering.{lines_more}
use Rattle.rv_audit.proofs.calls.with_lines.Goals as goal

pub lines-preserved : goal.lines-preserved
lines-preserved c =
    let before = calls_in c.args.number (take c.lines.line-index c.args.lines.now) in
    c.in_ok-push.ensures.items
    ∙ (λ i. c.lines.invariant i ++ record { phase = c.args.number; session = c.line-item.result.session; text = c.in_ok-text.ensures i } ∷ [])
    ∙ append_assoc c.args.calls.items before (call_in c.args.number c.line-item.result ∷ [])
    ∙ ap (λ cs. c.args.calls.items ++ cs) (sym (lines_more c.args.number c.args.lines.now c.lines.line-index c.line-item.result (omega arith) c.line-item.is))
