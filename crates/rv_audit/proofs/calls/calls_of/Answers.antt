use Rattle.std.proofs.Common.{◌≡◌, ◌+◌, ◌++◌, sym, ◌∙◌, arith}
use Rattle.rv_audit.specs.Calls.{calls_in}
use Rattle.rv_audit.proofs.Gathering.{phases_more}
use Rattle.rv_audit.proofs.calls.calls_of.Goals as goal

pub phases-preserved : goal.phases-preserved
phases-preserved c =
    let count = c.phases.invariant.count in
    let place : c.phases.number + 1 ≡ c.phases.phase-index + 1 = omega (arith, count) in
    record {
      count = omega (arith, count);
      calls = c.in-Ok.ensures
          ∙ (λ i. c.phases.invariant.calls i ++ calls_in (place i) (c.as_slice.ensures i))
          ∙ sym (phases_more c.args.phases.now c.phases.phase-index c.phase-item.result (omega arith) c.phase-item.is);
    }
