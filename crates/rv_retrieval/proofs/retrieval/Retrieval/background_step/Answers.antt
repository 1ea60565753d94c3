use Rattle.std.proofs.Common.{◌≡◌, ◌∙◌, ap, arith, false, refl, rules, subst, sym, true}
use Rattle.std.proofs.lemmas.Bool.Decides.{nat_tests}
use Rattle.rv_value.proofs.Lists.{on_err}
use Rattle.rv_value.proofs.Tests.{no_way}
use Rattle.rv_retrieval.proofs.InPlace.{back_reads, idle_does, idle_steady, idle_tries, left_steady, left_tries, stepped_fits, stepped_rest, takes_leaf, worked_does, worked_near, worked_steady}
use Rattle.rv_retrieval.proofs.Waiting.{leaf_course, took_only}
use Rattle.rv_retrieval.specs.Shape.{Shape, is_background}
use Rattle.rv_retrieval.proofs.retrieval.Retrieval.background_step.Goals as goal

pub accepted-requires : goal.accepted-requires
accepted-requires g c =
    let v = c.args.self.now in
    let back : is_background v.control ≡ true = grind (arith, nat_tests, c.is_background.ensures, c.if-not-is_background.false) in
    record { back = ap (λ (x : Shape). is_background x.control) c.step_joint.ensures.same ∙ back }

pub returns-then-not-is_background-clause-steady : goal.returns-then-not-is_background-clause-steady
returns-then-not-is_background-clause-steady g c =
    idle_steady c.args.self.now c.args.self.now refl

pub returns-then-not-is_background-clause-does : goal.returns-then-not-is_background-clause-does
returns-then-not-is_background-clause-does g c =
    let v = c.args.self.now in
    let none : is_background v.control ≡ false = grind (arith, nat_tests, c.is_background.ensures, c.if-not-is_background.true) in
    (refl, idle_does _ _ v v refl (rw none refl))

pub returns-then-not-is_background-clause-reads : goal.returns-then-not-is_background-clause-reads
returns-then-not-is_background-clause-reads g c =
    let v = c.args.self.now in
    let none : is_background v.control ≡ false = grind (arith, nat_tests, c.is_background.ensures, c.if-not-is_background.true) in
    rw none refl

pub returns-then-not-is_background-clause-tries : goal.returns-then-not-is_background-clause-tries
returns-then-not-is_background-clause-tries g c =
    record { once = omega arith; less = omega arith }

pub returns-then-not-is_background-clause-falls : goal.returns-then-not-is_background-clause-falls
returns-then-not-is_background-clause-falls g c back a =
    let v = c.args.self.now in
    let none : is_background v.control ≡ false = grind (arith, nat_tests, c.is_background.ensures, c.if-not-is_background.true) in
    no_way (sym back ∙ none)

pub returns-in_err-step_joint-clause-steady : goal.returns-in_err-step_joint-clause-steady
returns-in_err-step_joint-clause-steady g c =
    left_steady c.args.self.now c.step_joint.new.self c.step_joint.ensures.same c.in_err-step_joint.ensures.err

pub returns-in_err-step_joint-clause-fits : goal.returns-in_err-step_joint-clause-fits
returns-in_err-step_joint-clause-fits g c =
    let v = c.args.self.now in
    let w = c.step_joint.new.self in
    let shown = g.R.Reader.shown c.args.reader.now in
    let back : is_background v.control ≡ true = grind (arith, nat_tests, c.is_background.ensures, c.if-not-is_background.false) in
    let e = c.step_joint.ensures.same in
    let fits = stepped_fits c.step_joint.result v w shown back e c.step_joint.ensures.works c.step_joint.ensures.none c.step_joint.ensures.err c.step_joint.ensures.fits c.requires.fits in
    fits

pub returns-in_err-step_joint-clause-err : goal.returns-in_err-step_joint-clause-err
returns-in_err-step_joint-clause-err g c =
    let v = c.args.self.now in
    let w = c.step_joint.new.self in
    let shown = g.R.Reader.shown c.args.reader.now in
    let back : is_background v.control ≡ true = grind (arith, nat_tests, c.is_background.ensures, c.if-not-is_background.false) in
    let e = c.step_joint.ensures.same in
    on_err _ _ (stepped_rest v w shown back e)

pub returns-in_err-step_joint-clause-still : goal.returns-in_err-step_joint-clause-still
returns-in_err-step_joint-clause-still g c =
    let v = c.args.self.now in
    let w = c.step_joint.new.self in
    let back : is_background v.control ≡ true = grind (arith, nat_tests, c.is_background.ensures, c.if-not-is_background.false) in
    let e = c.step_joint.ensures.same in
    let t = c.in_err-step_joint.ensures.err in
    on_err _ _ (took_only v w e (takes_leaf v w back t))

pub returns-in_err-step_joint-clause-course : goal.returns-in_err-step_joint-clause-course
returns-in_err-step_joint-clause-course g c =
    let v = c.args.self.now in
    let w = c.step_joint.new.self in
    let back : is_background v.control ≡ true = grind (arith, nat_tests, c.is_background.ensures, c.if-not-is_background.false) in
    let e = c.step_joint.ensures.same in
    let t = c.in_err-step_joint.ensures.err in
    on_err _ _ (leaf_course v w e (takes_leaf v w back t))

pub returns-in_err-step_joint-clause-quiet : goal.returns-in_err-step_joint-clause-quiet
returns-in_err-step_joint-clause-quiet g c =
    on_err _ _ refl

pub returns-in_err-step_joint-clause-stays : goal.returns-in_err-step_joint-clause-stays
returns-in_err-step_joint-clause-stays g c =
    refl

pub returns-in_err-step_joint-clause-reads : goal.returns-in_err-step_joint-clause-reads
returns-in_err-step_joint-clause-reads g c =
    let v = c.args.self.now in
    let back : is_background v.control ≡ true = grind (arith, nat_tests, c.is_background.ensures, c.if-not-is_background.false) in
    back_reads v c.args.steps.now c.step_joint.new.steps back c.step_joint.ensures.reads

pub returns-in_err-step_joint-clause-tries : goal.returns-in_err-step_joint-clause-tries
returns-in_err-step_joint-clause-tries g c =
    let v = c.args.self.now in
    let w = c.step_joint.new.self in
    let shown = g.R.Reader.shown c.args.reader.now in
    let e = c.step_joint.ensures.same in
    let t = c.in_err-step_joint.ensures.err in
    left_tries v w shown c.args.steps.now c.step_joint.new.steps e t c.step_joint.ensures.reads

pub returns-clause-steady : goal.returns-clause-steady
returns-clause-steady g c =
    let v = c.args.self.now in
    let w = c.step_joint.new.self in
    let shown = g.R.Reader.shown c.args.reader.now in
    let back : is_background v.control ≡ true = grind (arith, nat_tests, c.is_background.ensures, c.if-not-is_background.false) in
    let e = c.step_joint.ensures.same in
    let k = c.in_ok-step_joint.ensures.works c.if-not-branch.false in
    let o = rw c.ended-before.ensures at c.accepted.ensures.obeys in
    worked_steady _ _ _ v w c.accepted.new.self shown back e k o c.accepted.ensures.counts c.accepted.ensures.keeps.query c.accepted.ensures.front

pub returns-clause-fits : goal.returns-clause-fits
returns-clause-fits g c =
    let v = c.args.self.now in
    let w = c.step_joint.new.self in
    let shown = g.R.Reader.shown c.args.reader.now in
    let back : is_background v.control ≡ true = grind (arith, nat_tests, c.is_background.ensures, c.if-not-is_background.false) in
    let e = c.step_joint.ensures.same in
    let fits = stepped_fits c.step_joint.result v w shown back e c.step_joint.ensures.works c.step_joint.ensures.none c.step_joint.ensures.err c.step_joint.ensures.fits c.requires.fits in
    c.accepted.ensures.keeps.fits shown fits

pub returns-clause-step : goal.returns-clause-step
returns-clause-step g c =
    let v = c.args.self.now in
    let w = c.step_joint.new.self in
    let shown = g.R.Reader.shown c.args.reader.now in
    let back : is_background v.control ≡ true = grind (arith, nat_tests, c.is_background.ensures, c.if-not-is_background.false) in
    let e = c.step_joint.ensures.same in
    let fits = stepped_fits c.step_joint.result v w shown back e c.step_joint.ensures.works c.step_joint.ensures.none c.step_joint.ensures.err c.step_joint.ensures.fits c.requires.fits in
    c.accepted.ensures.keeps.rest shown fits ∙ stepped_rest v w shown back e

pub returns-clause-does : goal.returns-clause-does
returns-clause-does g c =
    let v = c.args.self.now in
    let w = c.step_joint.new.self in
    let shown = g.R.Reader.shown c.args.reader.now in
    let back : is_background v.control ≡ true = grind (arith, nat_tests, c.is_background.ensures, c.if-not-is_background.false) in
    let e = c.step_joint.ensures.same in
    let k = c.in_ok-step_joint.ensures.works c.if-not-branch.false in
    let o = rw c.ended-before.ensures at c.accepted.ensures.obeys in
    (refl, worked_does _ _ _ v w c.accepted.new.self shown back e k o)

pub returns-clause-stays : goal.returns-clause-stays
returns-clause-stays g c =
    c.accepted.ensures.stays

pub returns-clause-reads : goal.returns-clause-reads
returns-clause-reads g c =
    let v = c.args.self.now in
    let back : is_background v.control ≡ true = grind (arith, nat_tests, c.is_background.ensures, c.if-not-is_background.false) in
    back_reads v c.args.steps.now c.step_joint.new.steps back c.step_joint.ensures.reads

pub returns-clause-tries : goal.returns-clause-tries
returns-clause-tries g c =
    let v = c.args.self.now in
    let w = c.step_joint.new.self in
    let shown = g.R.Reader.shown c.args.reader.now in
    let back : is_background v.control ≡ true = grind (arith, nat_tests, c.is_background.ensures, c.if-not-is_background.false) in
    let e = c.step_joint.ensures.same in
    let k = c.in_ok-step_joint.ensures.works c.if-not-branch.false in
    let o = rw c.ended-before.ensures at c.accepted.ensures.obeys in
    (worked_near _ _ _ v w c.accepted.new.self shown c.args.steps.now c.step_joint.new.steps back e k o c.step_joint.ensures.reads c.requires.fits).1

pub returns-clause-falls : goal.returns-clause-falls
returns-clause-falls g c back a =
    let v = c.args.self.now in
    let w = c.step_joint.new.self in
    let shown = g.R.Reader.shown c.args.reader.now in
    let on : is_background v.control ≡ true = grind (arith, nat_tests, c.is_background.ensures, c.if-not-is_background.false) in
    let e = c.step_joint.ensures.same in
    let k = c.in_ok-step_joint.ensures.works c.if-not-branch.false in
    let o = rw c.ended-before.ensures at c.accepted.ensures.obeys in
    (worked_near _ _ _ v w c.accepted.new.self shown c.args.steps.now c.step_joint.new.steps on e k o c.step_joint.ensures.reads c.requires.fits).0

pub returns-then-not-branch-clause-steady : goal.returns-then-not-branch-clause-steady
returns-then-not-branch-clause-steady g c =
    let v = c.args.self.now in
    let w = c.step_joint.new.self in
    let e = c.step_joint.ensures.same in
    let idle = c.in_ok-step_joint.ensures.none c.if-not-branch.true in
    let same = e ∙ ap (λ j. record v { joint = j }) idle.1 in
    idle_steady v w same

pub returns-then-not-branch-clause-fits : goal.returns-then-not-branch-clause-fits
returns-then-not-branch-clause-fits g c =
    let v = c.args.self.now in
    let w = c.step_joint.new.self in
    let shown = g.R.Reader.shown c.args.reader.now in
    let back : is_background v.control ≡ true = grind (arith, nat_tests, c.is_background.ensures, c.if-not-is_background.false) in
    let e = c.step_joint.ensures.same in
    let fits = stepped_fits c.step_joint.result v w shown back e c.step_joint.ensures.works c.step_joint.ensures.none c.step_joint.ensures.err c.step_joint.ensures.fits c.requires.fits in
    fits

pub returns-then-not-branch-clause-step : goal.returns-then-not-branch-clause-step
returns-then-not-branch-clause-step g c =
    let v = c.args.self.now in
    let w = c.step_joint.new.self in
    let shown = g.R.Reader.shown c.args.reader.now in
    let back : is_background v.control ≡ true = grind (arith, nat_tests, c.is_background.ensures, c.if-not-is_background.false) in
    let e = c.step_joint.ensures.same in
    stepped_rest v w shown back e

pub returns-then-not-branch-clause-does : goal.returns-then-not-branch-clause-does
returns-then-not-branch-clause-does g c =
    let v = c.args.self.now in
    let w = c.step_joint.new.self in
    let back : is_background v.control ≡ true = grind (arith, nat_tests, c.is_background.ensures, c.if-not-is_background.false) in
    let e = c.step_joint.ensures.same in
    let idle = c.in_ok-step_joint.ensures.none c.if-not-branch.true in
    let same = e ∙ ap (λ j. record v { joint = j }) idle.1 in
    (refl, idle_does _ _ v w same (rw (back, idle.0) refl))

pub returns-then-not-branch-clause-stays : goal.returns-then-not-branch-clause-stays
returns-then-not-branch-clause-stays g c =
    refl

pub returns-then-not-branch-clause-reads : goal.returns-then-not-branch-clause-reads
returns-then-not-branch-clause-reads g c =
    let v = c.args.self.now in
    let back : is_background v.control ≡ true = grind (arith, nat_tests, c.is_background.ensures, c.if-not-is_background.false) in
    back_reads v c.args.steps.now c.step_joint.new.steps back c.step_joint.ensures.reads

pub returns-then-not-branch-clause-tries : goal.returns-then-not-branch-clause-tries
returns-then-not-branch-clause-tries g c =
    let v = c.args.self.now in
    let w = c.step_joint.new.self in
    let shown = g.R.Reader.shown c.args.reader.now in
    let e = c.step_joint.ensures.same in
    let idle = c.in_ok-step_joint.ensures.none c.if-not-branch.true in
    let same = e ∙ ap (λ j. record v { joint = j }) idle.1 in
    idle_tries v w shown c.args.steps.now c.step_joint.new.steps same idle.0 c.step_joint.ensures.reads

pub returns-then-not-branch-clause-falls : goal.returns-then-not-branch-clause-falls
returns-then-not-branch-clause-falls g c back a =
    let v = c.args.self.now in
    let e = c.step_joint.ensures.same in
    let idle = c.in_ok-step_joint.ensures.none c.if-not-branch.true in
    let same = e ∙ ap (λ j. record v { joint = j }) idle.1 in
    no_way (sym (a.way back) ∙ idle.0)
