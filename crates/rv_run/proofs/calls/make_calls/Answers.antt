use Rattle.std.proofs.Common.{rules, ◌≡◌, ◌+◌, ◌∙◌, [], List, All, ap, arith, length, map, refl, subst, sym}
use Rattle.std.proofs.lemmas.List.{nil_from_length}
use Rattle.std.proofs.lemmas.List.Elements.{All-rest}
use Rattle.rv_value.proofs.Lists.{on_err}
use Rattle.rv_phases.proofs.Calls.{all_first}
use Rattle.rv_run.specs.Judges.{ruling_after}
use Rattle.rv_run.specs.Making.{FitsPhase}
use Rattle.rv_run.specs.Ruling.{judging, ruled_from}
use Rattle.rv_run.proofs.CallLists.{first_calls_at, whole_calls}
use Rattle.rv_run.proofs.Rulings.{begins, ends, phases_more, phases_stop, ruling_more, told_all, told_none, told_phase}
use Rattle.rv_run.proofs.calls.make_calls.Goals as goal

pub phases-init : goal.phases-init
phases-init g c =
    let all = c.into_iter-phase-iterator.ensures.into_iter_gives.0 in
    let size = ap (λ (ps : List _). length ps) all in
    record {
      few = omega (arith, size, c.requires.few);
      fits = subst (All FitsPhase) (sym all) c.requires.fits;
      phase = search rules;
      calls = told_none _ _ c.args.phases.items c.requires.fresh all;
      ruling = ap (ruling_after c.args.judges.now.ruling) all;
      ruled = begins _ _ _ _ _ (ap (ruled_from c.args.judges.now.ruling 1) all);
      settings = refl;
    }

pub enter_phase-requires-clause-few : goal.enter_phase-requires-clause-few
enter_phase-requires-clause-few g c = omega (arith, c.phases.invariant.few)

pub enter_phase-requires-clause-known : goal.enter_phase-requires-clause-known
enter_phase-requires-clause-known g c = (all_first FitsPhase _ _ _ c.phases.invariant.fits c.in-Some.ensures.steps.0).judge

pub make_phase-requires : goal.make_phase-requires
make_phase-requires g c = rw c.into_vec.ensures (all_first FitsPhase _ _ _ c.phases.invariant.fits c.in-Some.ensures.steps.0).calls

pub returns-in_err-make_phase-clause-first : goal.returns-in_err-make_phase-clause-first
returns-in_err-make_phase-clause-first g c = first_calls_at c.phases.core.engine c.enter_phase.new.core.engine c.make_phase.new.core.engine c.phases.number _ _ c.args.phases.items c.in-Some.phase c.into_vec.result.items c.in-Some.ensures.steps.0 c.into_vec.ensures c.enter_phase.ensures.engine c.phases.invariant.calls c.make_phase.ensures.part

pub returns-in_err-make_phase-clause-stopped : goal.returns-in_err-make_phase-clause-stopped
returns-in_err-make_phase-clause-stopped g c = on_err c.from_residual.result _ (phases_stop _ _ _ (λ j. (goal.Judge-dyn g (j.vtable, j.value)).would j.value) (λ j. (goal.Judge-dyn g (j.vtable, j.value)).state j.value) _ _ _ _ _ c.in-Some.phase c.into_vec.result.items _ _ c.phases.core.engine c.enter_phase.new.core.engine c.make_phase.new.core.engine _ c.enter_phase.new.judges.places.zero c.enter_phase.new.judges.places.one c.enter_phase.new.judges.places.two c.enter_phase.new.core.judge c.make_phase.new.core.judge c.phases.invariant.ruled c.in-Some.ensures.steps.0 c.into_vec.ensures c.enter_phase.ensures.ruling c.enter_phase.ensures.engine (ap (map (λ j. judging ((goal.Judge-dyn g (j.vtable, j.value)).would j.value) ((goal.Judge-dyn g (j.vtable, j.value)).state j.value))) c.enter_phase.ensures.all) c.enter_phase.new.judges.known c.enter_phase.new.judges.apart (c.enter_phase.ensures.settings ∙ c.phases.invariant.settings) c.in_err-make_phase.ensures.stopped)

pub phases-preserved : goal.phases-preserved
phases-preserved g c = record {
  few = let size = ap (λ (ps : List _). length ps) c.in-Some.ensures.steps.0 in omega (arith, size, c.phases.invariant.few);
  fits = All-rest FitsPhase _ _ _ c.in-Some.ensures.steps.0 c.phases.invariant.fits;
  phase = search rules;
  calls = told_phase c.phases.core.engine c.enter_phase.new.core.engine c.make_phase.new.core.engine.history (c.phases.number + 1) _ _ c.in-Some.phase c.into_vec.result.items _ c.in-Some.ensures.steps.0 c.into_vec.ensures c.enter_phase.ensures.engine c.phases.invariant.calls c.in_ok-make_phase.ensures.ok;
  ruling = ruling_more c.phases.judges.ruling c.enter_phase.new.judges.ruling _ _ _ c.in-Some.phase c.in-Some.ensures.steps.0 c.enter_phase.ensures.ruling c.phases.invariant.ruling;
  ruled = phases_more _ _ _ (λ j. (goal.Judge-dyn g (j.vtable, j.value)).would j.value) (λ j. (goal.Judge-dyn g (j.vtable, j.value)).state j.value) _ _ _ _ _ c.in-Some.phase c.into_vec.result.items _ _ c.phases.core.engine c.enter_phase.new.core.engine c.make_phase.new.core.engine _ c.enter_phase.new.judges.places.zero c.enter_phase.new.judges.places.one c.enter_phase.new.judges.places.two c.enter_phase.new.core.judge c.make_phase.new.core.judge c.phases.invariant.ruled c.in-Some.ensures.steps.0 c.into_vec.ensures c.enter_phase.ensures.ruling c.enter_phase.ensures.engine (ap (map (λ j. judging ((goal.Judge-dyn g (j.vtable, j.value)).would j.value) ((goal.Judge-dyn g (j.vtable, j.value)).state j.value))) c.enter_phase.ensures.all) c.enter_phase.new.judges.known c.enter_phase.new.judges.apart (c.enter_phase.ensures.settings ∙ c.phases.invariant.settings) c.make_phase.ensures.rules c.in_ok-make_phase.ensures.ruled;
  settings = c.make_phase.ensures.settings ∙ (c.enter_phase.ensures.settings ∙ c.phases.invariant.settings);
}

pub returns-clause-ok : goal.returns-clause-ok
returns-clause-ok g c =
    let none : c.phases.phase-iterator.rest.items ≡ [] = nil_from_length c.phases.phase-iterator.rest.items (sym c.phases.phase-iterator.rest.ok.0 ∙ c.in-None.ensures.steps.0) in
    told_all c.phases.core.engine.history (c.phases.number + 1) _ _ none c.phases.invariant.calls

pub returns-clause-first : goal.returns-clause-first
returns-clause-first g c =
    let none : c.phases.phase-iterator.rest.items ≡ [] = nil_from_length c.phases.phase-iterator.rest.items (sym c.phases.phase-iterator.rest.ok.0 ∙ c.in-None.ensures.steps.0) in
    whole_calls _ _ (told_all c.phases.core.engine.history (c.phases.number + 1) _ _ none c.phases.invariant.calls)

pub returns-clause-ruling : goal.returns-clause-ruling
returns-clause-ruling g c =
    let none : c.phases.phase-iterator.rest.items ≡ [] = nil_from_length c.phases.phase-iterator.rest.items (sym c.phases.phase-iterator.rest.ok.0 ∙ c.in-None.ensures.steps.0) in
    sym (ap (ruling_after c.phases.judges.ruling) none) ∙ c.phases.invariant.ruling

pub returns-clause-ruled : goal.returns-clause-ruled
returns-clause-ruled g c =
    let none : c.phases.phase-iterator.rest.items ≡ [] = nil_from_length c.phases.phase-iterator.rest.items (sym c.phases.phase-iterator.rest.ok.0 ∙ c.in-None.ensures.steps.0) in
    ends _ _ _ _ _ _ (ap (ruled_from c.phases.judges.ruling (c.phases.number + 1)) none) c.phases.invariant.ruled
