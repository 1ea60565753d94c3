-- What a plan keeps at each call: what its levels keep, and over one FROM item the counts.
use Rattle.std.proofs.Common.{◌≡◌, Option, ℕ, ◌+◌, List, [], ◌∷◌, length, Result, Ok, Err, IfOk, OnErr, refl, ap, sym, ◌∙◌, subst, zero, suc, slice_index_or, le_refl}
use Rattle.rv_judge.specs.declared.counting.Counts.{Counts}
use Rattle.rv_judge.specs.declared.events.Trace.{Trace}
use Rattle.rv_reader.specs.Shown.{Shown}
use Rattle.rv_judge.specs.Runs.{Allowed}
use Rattle.rv_judge.proofs.Allowing.{retold}
use Rattle.rv_retrieval.specs.Runs.{indexes_asked}
use Rattle.rv_judge.specs.Tracing.{SameCounts}
use Rattle.rv_jscan.specs.declared.jscan.Given.{Given}
use Rattle.rv_jscan.specs.declared.jscan.Given.TheVariants.{Accepted, Stale}
use Rattle.rv_jscan.specs.declared.piece.PieceId.{PieceId}
use Rattle.rv_jscan.specs.Pieces.{Pieced}
use Rattle.rv_access.specs.Accesses.{AccessFits, SamePlans, query_of, trace_of}
use Rattle.rv_access.specs.Given.{Answers, AwaitsPiece, awaited}
use Rattle.rv_access.proofs.Accesses.{allowed}
use Rattle.rv_join.specs.declared.places.Asked.{Asked}
use Rattle.rv_join.specs.declared.level.Level.{Level}
use Rattle.rv_reader.specs.declared.step.Step.{Step}
use Rattle.rv_model.specs.declared.state.Offer.{Offer}
use Rattle.rv_join.specs.Asking.{item_at}
use Rattle.rv_join.specs.Levels.{AllFit, LevelFits, Stacked, StackFits, first_in, first_of}
use Rattle.rv_join.specs.Moves.{Rises, StackStays}
use Rattle.rv_join.specs.Pieces.{GivesPiece, level_at, waits}
use Rattle.rv_join.specs.Plans.{AreReads, HoldsGood, PlanFits, PlanKept, PlanMoves, PlanStays, Planned, RisesAlone, numbers_of, plan_trace, rest_at}
use Rattle.rv_join.specs.Work.{loops_work}
use Rattle.rv_join.proofs.Accounting.{alone_above}
use Rattle.rv_join.proofs.Numbers.{rules_stay}

-- a plan whose stack is the same
pub with_stack : (old : Planned) (stack : Stacked) → stack ≡ old.stack → record old { stack = stack } ≡ old
with_stack old stack same = ap (λ (s : Stacked). record old { stack = s }) same

-- The retrieval of a place.

at_fits : (a : Asked) (shown : Shown) (place : ℕ) (ls : List Level) (i : ℕ) (d : Level) → AllFit a shown place ls → LevelFits a shown d → LevelFits a shown (slice_index_or ls i d)
at_fits a shown place [] i d all fits = fits
at_fits a shown place (l ∷ ls) zero d all fits = all.1
at_fits a shown place (l ∷ ls) (suc i) d all fits = at_fits a shown (place + 1) ls i d all.2 fits

pub level_fits : (a : Asked) (shown : Shown) (v : Stacked) (i : ℕ) → StackFits a shown v → AccessFits (level_at v i).here shown
level_fits a shown v i fits = (at_fits a shown 0 v.above i v.at fits.above fits.at).here

alone_level : (v : Stacked) (i : ℕ) → v.above ≡ [] → level_at v i ≡ first_of v
alone_level v i none = rw none refl

first_fits : (a : Asked) (shown : Shown) (above : List Level) (at : Level) → AllFit a shown 0 above → LevelFits a shown at → length at.outer ≡ length above → (length (first_in above at).outer ≡ 0) × LevelFits a shown (first_in above at)
first_fits a shown [] at all fits deep = (deep, fits)
first_fits a shown (l ∷ ls) at all fits deep = (all.0, all.1)

-- the trace is one of a run over indexes of the first FROM item's table
pub told_allowed : (shown : Shown) (p : Planned) → PlanFits shown p → Allowed (plan_trace p) (numbers_of (item_at p.asked 0).indexes)
told_allowed shown p fits =
    let stack = fits.holds.stack in
    let first = first_fits p.asked shown p.stack.above p.stack.at stack.above stack.at stack.deep in
    let run = allowed (first_of p.stack).here first.1.tells in
    let over : indexes_asked (query_of (first_of p.stack).here) ≡ numbers_of (item_at p.asked 0).indexes = ap numbers_of (first.1.asks.item.over ∙ ap (λ (n : ℕ). (item_at p.asked n).indexes) first.0) in
    subst (Allowed (plan_trace p)) over (retold (trace_of (first_of p.stack).here) (plan_trace p) (indexes_asked (query_of (first_of p.stack).here)) refl refl run)

-- A call that leaves the rest.

pub stays_good : (shown : Shown) (old new : Planned) → HoldsGood shown old → StackStays old.asked shown old.stack new.stack → new ≡ record old { stack = new.stack } → HoldsGood shown new
stays_good shown old new holds stays same = rw same (record {
  can = holds.can;
  stack = stays.fits;
  ordered = holds.ordered;
  led = λ e. stays.led (holds.led e);
  sorted = holds.sorted;
})

same_reads : (t u : Trace) (reads : Counts) → AreReads t reads → SameCounts t u → AreReads u reads
same_reads t u reads are same = record { pages = are.pages ∙ sym same.pages; leaves = are.leaves ∙ sym same.leaves; fetches = are.fetches ∙ sym same.fetches }

pub given_fits : (shown : Shown) (old new : Planned) (i : ℕ) → PlanFits shown old → StackStays old.asked shown old.stack new.stack → SameCounts (trace_of (level_at old.stack i).here) (trace_of (level_at new.stack i).here) → SamePlans (first_of old.stack).here (first_of new.stack).here → new ≡ record old { stack = new.stack } → PlanFits shown new
given_fits shown old new i fits stays counts plans same = record {
  holds = stays_good shown old new fits.holds stays same;
  rules = rules_stay shown (first_of old.stack).here (first_of new.stack).here plans fits.rules;
  counted = λ one. reads_same (subst (λ (a : Asked). length a.items ≡ 1) (ap (λ (p : Planned). p.asked) same) one);
}
  where
    reads_same : length old.asked.items ≡ 1 → AreReads (trace_of (first_of new.stack).here) new.reads
    reads_same one =
        let before = alone_level old.stack i (alone_above old.asked shown old.stack fits.holds.stack one) in
        let after = alone_level new.stack i (alone_above old.asked shown new.stack stays.fits one) in
        let there = subst (λ (l : Level). SameCounts (trace_of l.here) (trace_of (level_at new.stack i).here)) before counts in
        let here = subst (λ (l : Level). SameCounts (trace_of (first_of old.stack).here) (trace_of l.here)) after there in
        subst (AreReads (trace_of (first_of new.stack).here)) (sym (ap (λ (p : Planned). p.reads) same)) (same_reads (trace_of (first_of old.stack).here) (trace_of (first_of new.stack).here) old.reads (fits.counted one) here)

pub taken_rises : (shown : Shown) (old new : Planned) (i : ℕ) (before after : Counts) → HoldsGood shown old → StackStays old.asked shown old.stack new.stack → Rises (level_at old.stack i).here (level_at new.stack i).here before after → RisesAlone old new before after
taken_rises shown old new i before after holds stays rise one =
    let first = alone_level old.stack i (alone_above old.asked shown old.stack holds.stack one) in
    let last = alone_level new.stack i (alone_above old.asked shown new.stack stays.fits one) in
    subst (λ (l : Level). Rises (first_of old.stack).here l.here before after) last (subst (λ (l : Level). Rises l.here (level_at new.stack i).here before after) first rise)

-- nothing was called
pub still_stays : (a : Asked) (shown : Shown) (v : Stacked) → StackFits a shown v → StackStays a shown v v
still_stays a shown v fits = record { fits = fits; work = le_refl (loops_work a shown v); bag = refl; led = λ led. led }

pub stays_still : (shown : Shown) (old new : Planned) → StackStays old.asked shown old.stack new.stack → new ≡ record old { stack = new.stack } → PlanStays shown old new
stays_still shown old new stays same = rw same (record {
  asked = refl;
  rest_same = ap (rest_at old.stage old.gathered) stays.bag;
  work = stays.work;
})

-- a piece that is given to a level of the stack

pub gives_piece : {E : Type 0} (r : Result Given E) (old : Planned) (stack : Stacked) (piece : Pieced) (at : ℕ) → at ≡ waits old.stack → IfOk r (λ g. Answers (level_at old.stack at).here piece g (level_at stack at).here) → ((asked : PieceId) (now : Option PieceId) → r ≡ Ok (Stale asked now) → stack ≡ old.stack) → IfOk r (λ g. GivesPiece old piece g (record old { stack = stack }))
gives_piece (Ok Accepted) old stack piece at here answers stale = subst (λ i. AwaitsPiece (level_at old.stack i).here piece) here answers
gives_piece (Ok (Stale asked now)) old stack piece at here answers stale = subst (λ i. ¬ AwaitsPiece (level_at old.stack i).here piece × (asked ≡ piece.id) × (now ≡ awaited (level_at old.stack i).here) × (record old { stack = stack } ≡ old)) here (answers.0, answers.1, answers.2, with_stack old stack (stale asked now refl))
gives_piece (Err e) old stack piece at here answers stale = tt

pub given_none : {X E : Type 0} (r : Result X E) (old : Planned) (stack : Stacked) → OnErr r (stack ≡ old.stack) → OnErr r (record old { stack = stack } ≡ old)
given_none (Ok x) old stack same = tt
given_none (Err e) old stack same = with_stack old stack same

pub stays_counted : (shown : Shown) (old mid new : Planned) (reads : Counts) → PlanStays shown old mid → new ≡ record mid { reads = reads } → PlanStays shown old new
stays_counted shown old mid new reads stays same = rw same (record { asked = stays.asked; rest_same = stays.rest_same; work = stays.work })

-- A step, whose reads are counted behind it.

pub asked_same : {E : Type 0} (shown : Shown) (r : Result (Step Offer) E) (old new : Planned) → IfOk r (λ m. PlanMoves shown m old new) → OnErr r (PlanKept shown old new) → new.asked ≡ old.asked
asked_same shown (Ok m) old new moves kept = moves.asked
asked_same shown (Err e) old new moves kept = kept.asked

counted_one : (shown : Shown) (m : Step Offer) (old mid new : Planned) (reads : Counts) → PlanMoves shown m old mid → new ≡ record mid { reads = reads } → PlanMoves shown m old new
counted_one shown m old mid new reads moves same = rw same (record { asked = moves.asked; step = moves.step; work = moves.work })

pub counted_moves : {E : Type 0} (shown : Shown) (r : Result (Step Offer) E) (old mid new : Planned) (reads : Counts) → IfOk r (λ m. PlanMoves shown m old mid) → new ≡ record mid { reads = reads } → IfOk r (λ m. PlanMoves shown m old new)
counted_moves shown (Ok m) old mid new reads moves same = counted_one shown m old mid new reads moves same
counted_moves shown (Err e) old mid new reads moves same = tt

pub counted_kept : {X E : Type 0} (shown : Shown) (r : Result X E) (old mid new : Planned) (reads : Counts) → OnErr r (PlanKept shown old mid) → new ≡ record mid { reads = reads } → OnErr r (PlanKept shown old new)
counted_kept shown (Ok m) old mid new reads kept same = tt
counted_kept shown (Err e) old mid new reads kept same = rw same (record { asked = kept.asked; rest_kept = kept.rest_kept; work = kept.work })
