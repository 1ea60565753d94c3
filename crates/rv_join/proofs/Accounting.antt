-- What a plan has read, and over one FROM item what its one retrieval has read.
use Rattle.std.proofs.Common.{◌≡◌, ℕ, ◌+◌, ◌<◌, List, [], ◌∷◌, length, false, nat_eq, None, refl, ap, sym, ◌∙◌, arith, subst, inl, inr}
use Rattle.std.proofs.lemmas.Bool.Decides.{nat_tests}
use Rattle.std.proofs.lemmas.List.{nil_from_length}
use Rattle.rv_judge.specs.declared.counting.Counts.{Counts}
use Rattle.rv_judge.specs.declared.events.Trace.{Trace}
use Rattle.rv_reader.specs.Shown.{Shown}
use Rattle.rv_judge.specs.Tracing.{CountsAll, CountsRise}
use Rattle.rv_access.specs.declared.access.Access.{Access}
use Rattle.rv_access.specs.Accesses.{SamePlans, trace_of}
use Rattle.rv_join.specs.declared.places.Asked.{Asked}
use Rattle.rv_join.specs.declared.level.Level.{Level}
use Rattle.rv_join.specs.Levels.{StackFits, Stacked, first_in, first_of, is_last, used}
use Rattle.rv_join.specs.Moves.{Rises}
use Rattle.rv_join.proofs.Numbers.{rules_stay}
use Rattle.rv_join.specs.Plans.{AreReads, HoldsGood, PlanFits, Planned, RisesAlone, plan_trace, reads_with}

-- over one FROM item one level is open
pub alone_above : (a : Asked) (shown : Shown) (v : Stacked) → StackFits a shown v → length a.items ≡ 1 → v.above ≡ []
alone_above a shown v fits one = let deep = fits.deep in let inside = fits.at.inside in nil_from_length v.above (omega (arith, deep, inside, one))

-- it is the last
pub alone_last : {X : Type 0} (a : Asked) (shown : Shown) (v : Stacked) → StackFits a shown v → length a.items ≡ 1 → is_last a v ≡ false → X
alone_last a shown v fits one last = let inside = fits.at.inside in absurd (differs (length v.at.outer) (length a.items) inside one last)
  where
    differs : (n m : ℕ) → n < m → m ≡ 1 → nat_eq (n + 1) m ≡ false → ⊥
    differs n m h i e = grind (arith, nat_tests, h, i, e)

first_used : (above : List Level) (at : Level) → (first_in above (record at { row = None })).here ≡ (first_in above at).here
first_used [] at = refl
first_used (f ∷ ls) at = refl

pub used_first : (v : Stacked) → (first_of (used v)).here ≡ (first_of v).here
used_first v = first_used v.above v.at

-- where no call was made, the counts stay
pub rises_none : (old new : Access) (before after : Counts) → new ≡ old → after ≡ before → Rises old new before after
rises_none old new before after same none = inr (same, none)

pub reads_rise : (t u : Trace) (reads before after : Counts) → AreReads t reads → CountsRise t u before after → AreReads u (reads_with reads before after)
reads_rise t u reads before after are rise = record {
  pages = rw (are.pages, rise.pages) refl;
  leaves = rw (are.leaves, rise.leaves) refl;
  fetches = rw (are.fetches, rise.fetches) refl;
}

-- the first retrieval's counts are the plan's, where it was just opened
pub opened_counts : (p : Planned) (before after : Counts) → p.stack.above ≡ [] → AreReads (trace_of (first_of p.stack).here) p.reads → CountsAll (trace_of p.stack.at.here) before after → CountsAll (plan_trace p) before after
opened_counts p before after none are all = record { pages = here.pages ∙ all.pages; leaves = here.leaves ∙ all.leaves; fetches = here.fetches ∙ all.fetches }
  where
    here : AreReads (trace_of p.stack.at.here) p.reads
    here = subst (λ ls. AreReads (trace_of (first_in ls p.stack.at).here) p.reads) none are

-- the counts of a plan rise by what its call reads
pub plan_rises : (old mid new : Planned) (before after : Counts) → mid.reads ≡ old.reads → new ≡ record mid { reads = reads_with mid.reads before after } → CountsRise (plan_trace old) (plan_trace new) before after
plan_rises old mid new before after reads same = rw (same, reads) (record { pages = refl; leaves = refl; fetches = refl })

-- what a plan keeps is kept where its reads are counted
pub good_counted : (shown : Shown) (old new : Planned) (before after : Counts) → HoldsGood shown old → new ≡ record old { reads = reads_with old.reads before after } → HoldsGood shown new
good_counted shown old new before after holds same = rw same (record { can = holds.can; stack = holds.stack; ordered = holds.ordered; led = holds.led; sorted = holds.sorted })

pub fits_counted : (shown : Shown) (old mid new : Planned) (before after : Counts) → PlanFits shown old → HoldsGood shown mid → RisesAlone old mid before after → mid.reads ≡ old.reads → mid.asked ≡ old.asked → SamePlans (first_of old.stack).here (first_of mid.stack).here → new ≡ record mid { reads = reads_with mid.reads before after } → (after ≡ before → new ≡ mid) → PlanFits shown new
fits_counted shown old mid new before after fits holds rises reads asked plans same none = record {
  holds = good_counted shown mid new before after holds same;
  rules = rw same (rules_stay shown (first_of old.stack).here (first_of mid.stack).here plans fits.rules);
  counted = λ one. counts (subst (λ (a : Asked). length a.items ≡ 1) (ap (λ (p : Planned). p.asked) same ∙ asked) one);
}
  where
    counts : length old.asked.items ≡ 1 → AreReads (trace_of (first_of new.stack).here) new.reads
    counts one = elim (rises one) [
      | inl rise ↦ rw (same, reads) (reads_rise (trace_of (first_of old.stack).here) (trace_of (first_of mid.stack).here) old.reads before after (fits.counted one) rise)
      | inr still ↦ rw (none still.1, reads, still.0) (fits.counted one)
    ]

-- over one FROM item the trace is that of the one retrieval
pub alone_trace : (shown : Shown) (p : Planned) → PlanFits shown p → length p.asked.items ≡ 1 → plan_trace p ≡ (trace_of p.stack.at.here)
alone_trace shown p fits one =
    let none = alone_above p.asked shown p.stack fits.holds.stack one in
    let are = fits.counted one in
    rw (are.pages, are.leaves, are.fetches, none) refl

-- over one FROM item the innermost level is the first
pub alone_rises : (a : Asked) (shown : Shown) (old mid : Stacked) (before after : Counts) → StackFits a shown old → mid ≡ record old { at = mid.at } → Rises old.at.here mid.at.here before after → length a.items ≡ 1 → Rises (first_of old).here (first_of mid).here before after
alone_rises a shown old mid before after fits same rise one =
    let none = alone_above a shown old fits one in
    let above : mid.above ≡ old.above = ap (λ (v : Stacked). v.above) same in
    subst (λ (ls : List Level). Rises (first_of old).here (first_in ls mid.at).here before after) (sym above) (subst (λ (ls : List Level). Rises (first_in ls old.at).here (first_in ls mid.at).here before after) (sym none) rise)

pub alone_ends : (a : Asked) (shown : Shown) (old mid new : Stacked) (before after : Counts) → StackFits a shown old → mid ≡ record old { at = mid.at } → Rises old.at.here mid.at.here before after → (mid.above ≡ [] → new ≡ mid) → length a.items ≡ 1 → Rises (first_of old).here (first_of new).here before after
alone_ends a shown old mid new before after fits same rise ends one =
    let above : mid.above ≡ old.above = ap (λ (v : Stacked). v.above) same in
    subst (λ (v : Stacked). Rises (first_of old).here (first_of v).here before after) (sym (ends (above ∙ alone_above a shown old fits one))) (alone_rises a shown old mid before after fits same rise one)

pub alone_uses : (a : Asked) (shown : Shown) (old mid new : Stacked) (before after end : Counts) → StackFits a shown old → mid ≡ record old { at = mid.at } → Rises old.at.here mid.at.here before after → (length a.items ≡ 1 → ((first_of new).here ≡ (first_of mid).here) × (end ≡ after)) → length a.items ≡ 1 → Rises (first_of old).here (first_of new).here before end
alone_uses a shown old mid new before after end fits same rise uses one =
    subst (λ (v : Access). Rises (first_of old).here v before end) (sym (uses one).0) (subst (Rises (first_of old).here (first_of mid).here before) (sym (uses one).1) (alone_rises a shown old mid before after fits same rise one))
