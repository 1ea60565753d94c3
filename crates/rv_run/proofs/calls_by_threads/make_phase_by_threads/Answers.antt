use Rattle.std.proofs.Common.{sym, ◌∙◌}
use Rattle.rv_run.proofs.Led.{chain_moved, done_moved, rules_moved}
use Rattle.rv_run.proofs.calls_by_threads.make_phase_by_threads.Goals as goal

pub returns-clause-done : goal.returns-clause-done
returns-clause-done g c = done_moved _ _ _ _ _ _ (λ i. (c.lend-lent.ensures.core i).engine) (λ i. (sym c.give_back-core.ensures.core i).engine) c.call_phase-back.ensures.done

pub returns-clause-chain : goal.returns-clause-chain
returns-clause-chain g c =
    let start = c.lend-lent.ensures.core in
    let phase = c.call_phase-back.ensures in
    let back = sym c.give_back-core.ensures.core in
    chain_moved _ (λ j. (goal.Judge-dyn g (j.vtable, j.value)).would j.value) (λ j. (goal.Judge-dyn g (j.vtable, j.value)).state j.value) _ _ _ _ c.lend-lent.result.core.judge _ c.call_phase-back.result.core.core.judge _ _ _ _ (λ i. (start i).engine) (λ i. (start i).judge) (λ i. (start i).settings) (λ i. (back i).engine) (λ i. (back i).judge) (phase.settings ∙ (λ i. (start i).settings)) phase.chain

pub returns-clause-rules : goal.returns-clause-rules
returns-clause-rules g c =
    rules_moved (λ j. (goal.Judge-dyn g (j.vtable, j.value)).would j.value) c.lend-lent.result.core.judge _ c.call_phase-back.result.core.core.judge _ (λ i. (c.lend-lent.ensures.core i).judge) (λ i. (sym c.give_back-core.ensures.core i).judge) c.call_phase-back.ensures.rules
