use Rattle.std.proofs.Common.{ap, map, rules, subst}
use Rattle.std.proofs.lemmas.Result.{on_ok_weaker}
use Rattle.rv_script.specs.Drafts.{said_by}
use Rattle.rv_run.specs.Making.{FitsSaying}
use Rattle.rv_run.specs.Ruling.{judging}
use Rattle.rv_run.proofs.Served.{makes_call, makes_next, makes_nothing, max_one}
use Rattle.rv_run.proofs.service.make_saying.Goals as goal

pub returns-in-Nothing-clause-ok : goal.returns-in-Nothing-clause-ok
returns-in-Nothing-clause-ok g c = rw c.in-Nothing.is (makes_nothing _ _ _ _)

pub make_call-requires : goal.make_call-requires
make_call-requires g c = rw c.in_ok-text-in-Call.ensures (subst (λ f. FitsSaying (said_by f)) c.in-Call.is c.requires.fits)

pub returns-in_ok-text-in-Call-clause-ok : goal.returns-in_ok-text-in-Call-clause-ok
returns-in_ok-text-in-Call-clause-ok g c =
    rw (c.in-Call.is, ← c.in_ok-text-in-Call.ensures) (on_ok_weaker c.make_call.result (makes_call g.P.Reader.shown c.args.core.now.settings (λ j. (goal.Judge-dyn g (j.vtable, j.value)).would j.value) (λ j. (goal.Judge-dyn g (j.vtable, j.value)).state j.value) _ c.args.judges.now.ruling c.args.core.now.engine c.make_call.new.core.engine c.args.judges.now.places.zero c.args.judges.now.places.one c.args.judges.now.places.two c.args.core.now.judge c.make_call.new.core.judge c.args.judges.now.known c.args.judges.now.apart c.make_call.ensures.rules c.make_call.ensures.phase) c.make_call.ensures.ruled)

pub enter_phase-requires-clause-phase : goal.enter_phase-requires-clause-phase
enter_phase-requires-clause-phase g c = max_one c.phase-number.result c.args.core.now.engine.phase c.phase-number.ensures c.requires.from

pub enter_phase-requires-clause-few : goal.enter_phase-requires-clause-few
enter_phase-requires-clause-few g c = rw c.phase-number.ensures c.requires.to

pub enter_phase-requires-clause-known : goal.enter_phase-requires-clause-known
enter_phase-requires-clause-known g c = subst (λ f. FitsSaying (said_by f)) c.in-Next.is c.requires.fits

pub returns-in-Next-clause-ok : goal.returns-in-Next-clause-ok
returns-in-Next-clause-ok g c =
    rw c.in-Next.is (makes_next g.P.Reader.shown c.args.core.now.settings c.in-Next.judge c.args.judges.now.ruling c.enter_phase.new.judges.ruling c.phase-number.result c.args.core.now.engine c.enter_phase.new.core.engine _ _ c.enter_phase.ensures.engine c.phase-number.ensures (ap (map (λ j. judging ((goal.Judge-dyn g (j.vtable, j.value)).would j.value) ((goal.Judge-dyn g (j.vtable, j.value)).state j.value))) c.enter_phase.ensures.all) c.enter_phase.ensures.ruling)
