use Rattle.std.proofs.Common.{◌≡◌, ◌+◌, suc, ap, sym, ◌∙◌, drop, arith}
use Rattle.rv_audit.specs.Calls.{calls_by}
use Rattle.rv_audit.proofs.Placing.{found, none_found, skip_by}
use Rattle.rv_audit.proofs.calls.next_of.Goals as goal

pub calls-preserved : goal.calls-preserved
calls-preserved c =
    let one : c.calls.at + 1 ≡ suc c.calls.at = omega arith in
    ap (λ k. calls_by c.args.session (drop k c.args.calls.now)) one ∙ skip_by c.args.calls.now c.args.session c.calls.at (sym c.is_by.ensures ∙ c.if-is_by.false) ∙ c.calls.invariant

pub returns-then-is_by : goal.returns-then-is_by
returns-then-is_by c = found c.args.calls.now c.args.from c.args.session c.calls.at (omega arith) c.calls.invariant (sym c.is_by.ensures ∙ c.if-is_by.true)

pub returns : goal.returns
returns c = none_found c.args.calls.now c.args.from c.args.session c.calls.at (omega arith) c.calls.invariant
