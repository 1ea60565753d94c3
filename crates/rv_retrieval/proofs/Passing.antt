-- A step before which keys of delivered rows were passed over.
use Rattle.std.proofs.Common.{◌≡◌, ◌≤◌, ◌∙◌, ◌&&◌, ℕ, Option, None, Result, Ok, Err, IfOk, OnErr, ap, arith, refl, subst, sym, lt_of_le_of_lt, lt_of_lt_of_le, ◌<◌}
use Rattle.std.specs.Prelude.{if◌then◌else◌}
use Rattle.rv_judge.specs.Course.{building, fast_first}
use Rattle.rv_judge.specs.declared.counting.Counts.{Counts}
use Rattle.rv_judge.specs.declared.events.Control.{Control}
use Rattle.rv_judge.specs.declared.events.Control.TheVariants.{Building}
use Rattle.rv_judge.specs.declared.events.Strategy.{Strategy}
use Rattle.rv_judge.specs.declared.events.Strategy.TheVariants.{FastFirst}
use Rattle.rv_judge.specs.declared.judging.Facts.{Facts}
use Rattle.rv_judge.specs.Verdicts.{Ruling}
use Rattle.rv_reader.specs.Shown.{Shown}
use Rattle.rv_reader.specs.declared.step.Step.{Step}
use Rattle.rv_value.specs.declared.record.Record.{Record}
use Rattle.rv_reader.specs.declared.step.Step.TheVariants.{Row, Working, End}
use Rattle.rv_jscan.specs.Joint.{Joint}
use Rattle.rv_final.specs.Work.{Falls, Tries}
use Rattle.rv_retrieval.specs.Accounts.{first_fresh, fresh_of}
use Rattle.rv_retrieval.specs.Effort.{back_work, effort, front_work, keys_work, table_work, to_borrow}
use Rattle.rv_retrieval.specs.Runs.{SameCourse}
use Rattle.rv_retrieval.specs.Shape.{Shape, is_background}
use Rattle.rv_retrieval.specs.Stepping.{Borrow, Borrows, DoesAs, DoesIts, Kind, kind_of, while_both}
use Rattle.rv_retrieval.proofs.Courses.{sum_back}

pub fresh_passed : (v mid : Shape) → mid ≡ record v { borrowed = mid.borrowed } → first_fresh mid ≡ first_fresh v → fresh_of mid ≡ fresh_of v
fresh_passed v mid e f = ap (λ (o : Option ℕ). if building mid.control && fast_first mid.strategy then o else None) f ∙ ap (λ (x : Shape). if building x.control && fast_first x.strategy then first_fresh v else None) e

pub passed_course : {X E : Type 0} (r : Result X E) (v mid new : Shape) → mid ≡ record v { borrowed = mid.borrowed } → OnErr r (SameCourse mid new) → OnErr r (SameCourse v new)
passed_course (Ok x) v mid new e s = tt
passed_course (Err x) v mid new e s = let t = subst (λ (y : Shape). SameCourse y new) e s in record { strategy = t.strategy; control = t.control; plans = t.plans; ended = t.ended; list = t.list; query = t.query; named = t.named; events = t.events }

-- What is left to do.

back_passed : (j : Joint) (a b : ℕ) (shown : Shown) → to_borrow j a ≤ to_borrow j b → back_work j a shown ≤ back_work j b shown
back_passed j a b shown less = omega arith

pub passed_effort : (v mid : Shape) (shown : Shown) → v.control ≡ Building → mid ≡ record v { borrowed = mid.borrowed } → to_borrow mid.joint mid.borrowed ≤ to_borrow v.joint v.borrowed → effort mid shown ≤ effort v shown
passed_effort v mid shown both e fewer =
    let less : to_borrow v.joint mid.borrowed ≤ to_borrow v.joint v.borrowed = subst (λ (j : Joint). to_borrow j mid.borrowed ≤ to_borrow v.joint v.borrowed) (ap (λ (x : Shape). x.joint) e) fewer in
    subst (λ (x : Shape). effort x shown ≤ effort v shown) (sym e) (sum_back v.control (back_work v.joint mid.borrowed shown) (back_work v.joint v.borrowed shown) (front_work v shown) (table_work v shown) (keys_work v) (keys_work v) (ap is_background both) (back_passed v.joint mid.borrowed v.borrowed shown less))

pub tries_from : (before after : Counts) (old mid new : ℕ) → mid ≤ old → Tries before after mid new → Tries before after old new
tries_from before after old mid new passed t = let less = t.less in record { once = t.once; less = omega arith }

pub falls_from : {E : Type 0} (r : Result (Step Record) E) (before after : Counts) (old mid new : ℕ) → mid ≤ old → IfOk r (λ s. Falls s before after mid new) → IfOk r (λ s. Falls s before after old new)
falls_from (Ok (Row x)) before after old mid new passed f = (let less : new < mid = f in lt_of_lt_of_le less passed)
falls_from (Ok Working) before after old mid new passed f = (let less : new < mid = f in lt_of_lt_of_le less passed)
falls_from (Ok End) before after old mid new passed f = f
falls_from (Err x) before after old mid new passed f = tt

-- What a fast-first step is while both sides run.

pub fast_kind : (v : Shape) → v.control ≡ Building → v.strategy ≡ FastFirst → kind_of v.control v.strategy (fresh_of v) ≡ while_both FastFirst (first_fresh v)
fast_kind v both fast =
    let fresh : fresh_of v ≡ first_fresh v = ap (λ (x : Control). if building x && fast_first v.strategy then first_fresh v else None) both ∙ ap (λ (x : Strategy). if fast_first x then first_fresh v else None) fast in
    ap (λ (x : Control). kind_of x v.strategy (fresh_of v)) both ∙ ap (λ (x : Strategy). while_both x (fresh_of v)) fast ∙ ap (while_both FastFirst) fresh

pub borrow_does : {E : Type 0} (r : Result (Step Record) E) (would : ℕ → Facts → Ruling) (state : ℕ) (shown : Shown) (c d : Counts) (v mid new : Shape) (key : ℕ) → kind_of v.control v.strategy (fresh_of v) ≡ Borrow key → mid ≡ record v { borrowed = mid.borrowed } → v.borrowed ≤ mid.borrowed → IfOk r (λ s. Borrows key shown c d s mid new) → IfOk r (λ s. DoesIts would state state shown c d s v new)
borrow_does (Ok s) would state shown c d v mid new key k e on h =
    let b = subst (λ (x : Shape). Borrows key shown c d s x new) e h in
    subst (λ (x : Kind). DoesAs x would state state shown c d s v new) (sym k) (refl, record { further = lt_of_le_of_lt on h.further; read = b.read; looks = b.looks; left = b.left })
borrow_does (Err x) would state shown c d v mid new key k e on h = tt
