use Rattle.std.proofs.Common.{◌+◌, ◌∙◌, List, ap, arith, map, refl, rules, sym}
use Rattle.std.proofs.lemmas.List.{drop_all}
use Rattle.rv_model.specs.declared.entry.Entry.{Entry}
use Rattle.rv_run.specs.Judges.{ruling_after}
use Rattle.rv_run.specs.Ruling.{judging}
use Rattle.rv_run.specs.Script.{calls_made, of_session}
use Rattle.rv_run.proofs.Led.{led_all, led_front, led_more, led_none, settled}
use Rattle.rv_run.proofs.Rulings.{phase_here, ruling_more}
use Rattle.rv_run.proofs.Threads.{all_phases, first_phases, phase_stops_at, phase_whole_at}
use Rattle.rv_run.proofs.calls_by_threads.make_calls_by_threads.Goals as goal

pub phases-init : goal.phases-init
phases-init g c = record {
  number = refl;
  phase = search rules;
  each = λ session low high. ap (λ (h : List Entry). of_session session (calls_made h)) c.requires.fresh;
  ruling = refl;
  led = led_none _ _ _ _ _;
  settings = refl;
}

pub returns-then-short-clause-first : goal.returns-then-short-clause-first
returns-then-short-clause-first g c = phase_stops_at c.phases.held.engine c.enter_phase.new.core.engine c.make_phase_by_threads-back.result.core.engine.history c.phases.number c.phases.phase-index c.args.phases.now c.phase-item.result c.as_slice.result.now c.make_phase_by_threads-back.result.short c.phases.invariant.number c.phases-test.true c.phase-item.is c.as_slice.ensures c.enter_phase.ensures.engine c.phases.invariant.each c.make_phase_by_threads-back.ensures.done

pub phases-preserved : goal.phases-preserved
phases-preserved g c = record {
  number = ap (λ k. k + 1) c.phases.invariant.number;
  phase = search rules;
  each = phase_whole_at c.phases.held.engine c.enter_phase.new.core.engine c.make_phase_by_threads-back.result.core.engine.history c.phases.number c.phases.phase-index c.args.phases.now c.phase-item.result c.as_slice.result.now c.make_phase_by_threads-back.result.short c.phases.invariant.number c.phases-test.true c.phase-item.is c.as_slice.ensures c.enter_phase.ensures.engine c.phases.invariant.each c.make_phase_by_threads-back.ensures.done c.if-short.false;
  ruling = ruling_more c.phases.judges.ruling c.enter_phase.new.judges.ruling _ _ _ c.phase-item.result (phase_here c.args.phases.now c.phases.phase-index c.phase-item.result c.phases-test.true c.phase-item.is) c.enter_phase.ensures.ruling c.phases.invariant.ruling;
  led = led_more _ _ (λ j. (goal.Judge-dyn g (j.vtable, j.value)).would j.value) (λ j. (goal.Judge-dyn g (j.vtable, j.value)).state j.value) _ _ _ _ c.phase-item.result _ _ _ _ c.phases.held.engine c.enter_phase.new.core.engine c.make_phase_by_threads-back.result.core.engine _ c.enter_phase.new.judges.places.zero c.enter_phase.new.judges.places.one c.enter_phase.new.judges.places.two c.enter_phase.new.core.judge c.make_phase_by_threads-back.result.core.judge c.phases.invariant.led (phase_here c.args.phases.now c.phases.phase-index c.phase-item.result c.phases-test.true c.phase-item.is) c.enter_phase.ensures.ruling c.enter_phase.ensures.engine (ap (map (λ j. judging ((goal.Judge-dyn g (j.vtable, j.value)).would j.value) ((goal.Judge-dyn g (j.vtable, j.value)).state j.value))) c.enter_phase.ensures.all) c.enter_phase.new.judges.known c.enter_phase.new.judges.apart c.make_phase_by_threads-back.ensures.rules (settled _ (λ j. (goal.Judge-dyn g (j.vtable, j.value)).would j.value) (λ j. (goal.Judge-dyn g (j.vtable, j.value)).state j.value) _ _ _ _ c.enter_phase.new.core.judge c.make_phase_by_threads-back.result.core.judge (c.enter_phase.ensures.settings ∙ c.phases.invariant.settings) c.make_phase_by_threads-back.ensures.chain);
  settings = c.make_phase_by_threads-back.ensures.settings ∙ (c.enter_phase.ensures.settings ∙ c.phases.invariant.settings);
}

pub returns-clause-whole : goal.returns-clause-whole
returns-clause-whole g c = λ done. all_phases c.phases.phase-index c.phases.held.engine.history c.args.phases.now (omega (arith, c.phases-test.false)) c.phases.invariant.each

pub returns-clause-first : goal.returns-clause-first
returns-clause-first g c = first_phases c.phases.phase-index c.phases.held.engine.history c.args.phases.now c.phases.invariant.each

pub returns-clause-ruling : goal.returns-clause-ruling
returns-clause-ruling g c = λ done. sym (ap (ruling_after c.phases.judges.ruling) (drop_all c.phases.phase-index c.args.phases.now (omega (arith, c.phases-test.false)))) ∙ c.phases.invariant.ruling

pub returns-then-short-clause-led_first : goal.returns-then-short-clause-led_first
returns-then-short-clause-led_first g c = led_front _ _ _ _ _ _ _ _ _ (led_more _ _ (λ j. (goal.Judge-dyn g (j.vtable, j.value)).would j.value) (λ j. (goal.Judge-dyn g (j.vtable, j.value)).state j.value) _ _ _ _ c.phase-item.result _ _ _ _ c.phases.held.engine c.enter_phase.new.core.engine c.make_phase_by_threads-back.result.core.engine _ c.enter_phase.new.judges.places.zero c.enter_phase.new.judges.places.one c.enter_phase.new.judges.places.two c.enter_phase.new.core.judge c.make_phase_by_threads-back.result.core.judge c.phases.invariant.led (phase_here c.args.phases.now c.phases.phase-index c.phase-item.result c.phases-test.true c.phase-item.is) c.enter_phase.ensures.ruling c.enter_phase.ensures.engine (ap (map (λ j. judging ((goal.Judge-dyn g (j.vtable, j.value)).would j.value) ((goal.Judge-dyn g (j.vtable, j.value)).state j.value))) c.enter_phase.ensures.all) c.enter_phase.new.judges.known c.enter_phase.new.judges.apart c.make_phase_by_threads-back.ensures.rules (settled _ (λ j. (goal.Judge-dyn g (j.vtable, j.value)).would j.value) (λ j. (goal.Judge-dyn g (j.vtable, j.value)).state j.value) _ _ _ _ c.enter_phase.new.core.judge c.make_phase_by_threads-back.result.core.judge (c.enter_phase.ensures.settings ∙ c.phases.invariant.settings) c.make_phase_by_threads-back.ensures.chain))

pub returns-clause-led : goal.returns-clause-led
returns-clause-led g c = λ done. led_all _ _ _ _ _ _ _ _ _ (drop_all c.phases.phase-index c.args.phases.now (omega (arith, c.phases-test.false))) c.phases.invariant.led

pub returns-clause-led_first : goal.returns-clause-led_first
returns-clause-led_first g c = led_front _ _ _ _ _ _ _ _ _ c.phases.invariant.led
