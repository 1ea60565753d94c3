-- A step whose kind is known.
use Rattle.std.proofs.Common.{◌≡◌, ℕ, Option, Result, Ok, Err, IfOk, OnErr, refl, ap, subst, sym}
use Rattle.rv_judge.specs.declared.counting.Counts.{Counts}
use Rattle.rv_judge.specs.declared.events.Control.{Control}
use Rattle.rv_judge.specs.declared.events.Control.TheVariants.{Building}
use Rattle.rv_judge.specs.declared.events.Happening.TheVariants.{FrontEnded, FinalEnded}
use Rattle.rv_judge.specs.declared.events.Strategy.{Strategy}
use Rattle.rv_judge.specs.declared.events.Strategy.TheVariants.{Sorted, IndexOnly}
use Rattle.rv_judge.specs.declared.judging.Facts.{Facts}
use Rattle.rv_judge.specs.Verdicts.{Ruling}
use Rattle.rv_reader.specs.Shown.{Shown}
use Rattle.rv_scan.specs.Places.{PageTurns}
use Rattle.rv_reader.specs.declared.step.Step.{Step}
use Rattle.rv_value.specs.declared.record.Record.{Record}
use Rattle.rv_final.specs.Work.{Falls}
use Rattle.rv_retrieval.specs.Effort.{keys_work}
use Rattle.rv_retrieval.specs.Accounts.{fresh_of}
use Rattle.rv_retrieval.specs.Runs.{SameCourse}
use Rattle.rv_retrieval.specs.Shape.{Shape, rest}
use Rattle.rv_retrieval.specs.Stepping.{DoesAs, DoesIts, Kind, ListReads, MayRead, MayReadIts, NextKey, NextPage, ReadsAs, ReadsIts, RemembersBy, Walk, WalkBoth, WalkReads, ended_by, kind_of}

pub sorted_kind : (c : Control) (s : Strategy) (fresh : Option ℕ) → c ≡ Building → s ≡ Sorted → kind_of c s fresh ≡ Walk
sorted_kind c s fresh both sorted = rw (both, sorted) refl

pub index_only_kind : (c : Control) (s : Strategy) (fresh : Option ℕ) → c ≡ Building → s ≡ IndexOnly → kind_of c s fresh ≡ WalkBoth
index_only_kind c s fresh both alone = rw (both, alone) refl

pub may_read_by : (k : Kind) (v : Shape) (c d : Counts) → kind_of v.control v.strategy (fresh_of v) ≡ k → MayRead k v c d → MayReadIts v c d
may_read_by k v c d e h = subst (λ (x : Kind). MayRead x v c d) (sym e) h

pub reads_by : {E : Type 0} (r : Result (Step Record) E) (k : Kind) (v : Shape) (c d : Counts) → kind_of v.control v.strategy (fresh_of v) ≡ k → IfOk r (λ s. ReadsAs k v s c d) → IfOk r (ReadsIts v c d)
reads_by (Ok s) k v c d e h = subst (λ (x : Kind). ReadsAs x v s c d) (sym e) h
reads_by (Err x) k v c d e h = tt

pub reads_as : (k : Kind) (v : Shape) (s : Step Record) (c d : Counts) → kind_of v.control v.strategy (fresh_of v) ≡ k → ReadsAs k v s c d → ReadsIts v c d s
reads_as k v s c d e h = subst (λ (x : Kind). ReadsAs x v s c d) (sym e) h

pub reads_always : {E : Type 0} (r : Result (Step Record) E) (k : Kind) (v : Shape) (c d : Counts) → kind_of v.control v.strategy (fresh_of v) ≡ k → ((s : Step Record) → ReadsAs k v s c d) → IfOk r (ReadsIts v c d)
reads_always (Ok s) k v c d e h = subst (λ (x : Kind). ReadsAs x v s c d) (sym e) (h s)
reads_always (Err x) k v c d e h = tt

pub kind_at : (c d : Control) (s : Strategy) (fresh : Option ℕ) → c ≡ d → kind_of c s fresh ≡ kind_of d s fresh
kind_at c d s fresh e = ap (λ (x : Control). kind_of x s fresh) e

pub does_by : {E : Type 0} (r : Result (Step Record) E) (k : Kind) (would : ℕ → Facts → Ruling) (state after : ℕ) (shown : Shown) (c d : Counts) (old new : Shape) → kind_of old.control old.strategy (fresh_of old) ≡ k → IfOk r (λ s. DoesAs k would state after shown c d s old new) → IfOk r (λ s. DoesIts would state after shown c d s old new)
does_by (Ok s) k would state after shown c d old new e does = subst (λ (x : Kind). DoesAs x would state after shown c d s old new) (sym e) does
does_by (Err x) k would state after shown c d old new e does = tt

-- a step of the foreground's scan that remembers nothing
pub walk_does : {E : Type 0} (r : Result (Step Record) E) (would : ℕ → Facts → Ruling) (state : ℕ) (shown : Shown) (c d : Counts) (old new : Shape) → kind_of old.control old.strategy (fresh_of old) ≡ Walk → IfOk r (WalkReads old shown c d) → IfOk r (λ s. new ≡ ended_by FrontEnded s (record old { front = new.front })) → IfOk r (λ s. DoesIts would state state shown c d s old new)
walk_does (Ok s) would state shown c d old new e reads does = subst (λ (x : Kind). DoesAs x would state state shown c d s old new) (sym e) (refl, reads, does)
walk_does (Err x) would state shown c d old new e reads does = tt

-- one that remembers what it gives
pub both_does : {E : Type 0} (r : Result (Step Record) E) (would : ℕ → Facts → Ruling) (state : ℕ) (shown : Shown) (c d : Counts) (old new : Shape) → kind_of old.control old.strategy (fresh_of old) ≡ WalkBoth → IfOk r (λ s. RemembersBy s (record old { front = new.front }) new) → IfOk r (λ s. DoesIts would state state shown c d s old new)
both_does (Ok s) would state shown c d old new e does = subst (λ (x : Kind). DoesAs x would state state shown c d s old new) (sym e) (refl, does)
both_does (Err x) would state shown c d old new e does = tt

-- the fetch of a key of the complete list
pub key_does : (would : ℕ → Facts → Ruling) (state : ℕ) (shown : Shown) (c d : Counts) (s : Step Record) (old new : Shape) → kind_of old.control old.strategy (fresh_of old) ≡ NextKey → ListReads old shown c d s → new ≡ ended_by FinalEnded s (record old { at = new.at }) → Falls s c d (keys_work old) (keys_work new) → DoesIts would state state shown c d s old new
key_does would state shown c d s old new e reads does fewer = subst (λ (x : Kind). DoesAs x would state state shown c d s old new) (sym e) (refl, reads, does, fewer)

-- a step through the table
pub page_does : {E : Type 0} (r : Result (Step Record) E) (would : ℕ → Facts → Ruling) (state : ℕ) (shown : Shown) (c d : Counts) (old new : Shape) → kind_of old.control old.strategy (fresh_of old) ≡ NextPage → IfOk r (λ s. new ≡ ended_by FinalEnded s (record old { last = new.last })) → IfOk r (λ s. PageTurns s old.last new.last (shown.pages old.query.table old.query.snap)) → IfOk r (λ s. DoesIts would state state shown c d s old new)
page_does (Ok s) would state shown c d old new e does turns = subst (λ (x : Kind). DoesAs x would state state shown c d s old new) (sym e) (refl, does, turns)
page_does (Err x) would state shown c d old new e does turns = tt

-- What a step leaves as it was.

pub rest_if : {X E : Type 0} (r : Result X E) (old new : Shape) (shown : Shown) → OnErr r (new ≡ old) → OnErr r (rest new shown ≡ rest old shown)
rest_if (Ok x) old new shown e = tt
rest_if (Err x) old new shown e = ap (λ (v : Shape). rest v shown) e

pub course_if : {X E : Type 0} (r : Result X E) (old new : Shape) → OnErr r (new ≡ old) → OnErr r (SameCourse old new)
course_if (Ok x) old new e = tt
course_if (Err x) old new e = subst (SameCourse old) (sym e) record { strategy = refl; control = refl; plans = refl; ended = refl; list = refl; query = refl; named = refl; events = refl }
