-- What a step does and keeps, and what it reads is counted.
use Rattle.std.proofs.Common.{◌≡◌, ℕ, ◌≤◌, List, length, Some, refl, ap, sym, ◌∙◌, arith, subst, Result, Ok, Err, IfOk, OnErr, lt_of_lt_of_le}
use Rattle.rv_value.specs.declared.duplicate.NoMemory.{NoMemory}
use Rattle.rv_judge.specs.declared.counting.Counts.{Counts}
use Rattle.rv_judge.specs.declared.events.Control.{Control}
use Rattle.rv_judge.specs.declared.events.Control.TheVariants.{BackgroundAlone, Done}
use Rattle.rv_judge.specs.declared.events.Trace.{Trace}
use Rattle.rv_judge.specs.declared.judging.Facts.{Facts}
use Rattle.rv_judge.specs.Tracing.{CountsRise, SameCounts, counted}
use Rattle.rv_judge.specs.Verdicts.{Ruling}
use Rattle.rv_reader.specs.Shown.{Shown}
use Rattle.rv_reader.specs.declared.step.Step.{Step}
use Rattle.rv_value.specs.declared.record.Record.{Record}
use Rattle.rv_reader.specs.declared.step.Step.TheVariants.{Working, End}
use Rattle.rv_jscan.specs.declared.jscan.Given.{Given}
use Rattle.rv_jscan.specs.declared.jscan.ScanCounts.{ScanCounts}
use Rattle.rv_jscan.specs.Pieces.{Pieced}
use Rattle.rv_jscan.specs.declared.jscan.Taken.TheVariants.{Piece}
use Rattle.rv_final.specs.Shell.{Advances, IsFinal, Shelled}
use Rattle.rv_final.specs.Stage.{keys_left}
use Rattle.rv_union.specs.Effort.{effort, keys_work}
use Rattle.rv_union.specs.Given.{Answers, Awaits, TakesLeaf, Took, count_read, holding}
use Rattle.rv_union.specs.Leaves.{leaves_left}
use Rattle.rv_union.specs.Opened.{Does, DoesAs, MayRead, OnlyTakes, Steady, StageStep, StepsAs}
use Rattle.rv_union.specs.Unioned.{UnionFits, Unioned, rest, shell_of, with_shell}
use Rattle.rv_union.specs.Rulings.{GivesOn}
use Rattle.rv_value.proofs.Lists.{on_err}
use Rattle.rv_final.proofs.Endings.{counts_raised}
use Rattle.rv_final.proofs.LaneWork.{tries_on}
use Rattle.rv_final.proofs.Shells.{done_advances, final_over}
use Rattle.rv_union.proofs.Efforts.{gives_less, leaf_spends, piece_falls}
use Rattle.rv_union.proofs.Finals.{Finishes, accepted_piece, done_rest, final_does, final_goes, final_reads, final_steady, one_piece, stage_of, stage_steady}
use Rattle.rv_union.proofs.Gives.{gives_keep, gives_kin, gives_stay}
use Rattle.rv_union.proofs.Leaves.{final_leaves, given_leaves, piece_leaves, took_leaves}
use Rattle.rv_union.proofs.Takes.{none_counted, took_rest, took_steady}
use Rattle.rv_union.proofs.Tellings.{gives_tell}

-- A step that takes a piece and gives it.

pub gave_steady : {E : Type 0} (r : Result Given E) (would : ℕ → Facts → Ruling) (state after : ℕ) (piece : Pieced) (old mid new : Unioned) (shown : Shown) → Steady old mid shown → IfOk r (λ g. Answers mid piece g new) → IfOk r (λ g. GivesOn would state after piece g mid new) → OnErr r (new ≡ mid) → Steady old new shown
gave_steady r would state after piece old mid new shown s a o e =
    let k = gives_kin r would state after piece mid new o e in
    let keeps = gives_keep r would state after piece mid new a o e in
    record {
      same = record { table = k.same.table ∙ s.same.table; snap = k.same.snap ∙ s.same.snap; cursor = k.same.cursor ∙ s.same.cursor; opening = k.same.opening ∙ s.same.opening; only = k.same.only ∙ s.same.only; plans = k.same.plans ∙ s.same.plans };
      counts = record { pages = k.counts.pages ∙ s.counts.pages; leaves = k.counts.leaves ∙ s.counts.leaves; fetches = k.counts.fetches ∙ s.counts.fetches };
      fits = keeps.fits shown s.fits;
      tells = λ t. gives_tell r would state after piece mid new a o e (s.tells t);
    }

-- what a step may read is told by its control
pub reads_at : (r : Unioned) (x : Control) (c d : Counts) → r.control ≡ x → MayRead x r c d → MayRead r.control r c d
reads_at r x c d e read = subst (λ (y : Control). MayRead y r c d) (sym e) read

-- Nothing is left.

pub done_does : (would : ℕ → Facts → Ruling) (state : ℕ) (r : Unioned) (shown : Shown) (c : Counts) → r.control ≡ Done → Does would state state shown c c End r r
done_does would state r shown c e = subst (λ (x : Control). DoesAs x would state state shown c c End r r) (sym e) (refl, refl, refl, refl)

pub stays_steady : (r : Unioned) (shown : Shown) → UnionFits r shown → Steady r r shown
stays_steady r shown f = stage_steady r (stage_of r) shown f

-- What was read is counted.

pub counted_does : {E : Type 0} (r : Result (Step Record) E) (would : ℕ → Facts → Ruling) (state after : ℕ) (shown : Shown) (c d : Counts) (old mid new : Unioned) → IfOk r (λ s. Does would state after shown c d s old mid) → new ≡ record mid { trace = counted mid.trace c d } → IfOk r (λ s. StepsAs would state after shown c d s old new)
counted_does (Ok s) would state after shown c d old mid new does e = record { stepped = mid; does = does; counts = e }
counted_does (Err x) would state after shown c d old mid new does e = tt

pub counted_goes : (r : Result (Step Record) NoMemory) (shown : Shown) (c d : Counts) (old mid new : Unioned) (t : Trace) → new ≡ record mid { trace = t } → Advances mid.control c d r (rest old shown) (rest mid shown) (effort old shown) (effort mid shown) → Advances new.control c d r (rest old shown) (rest new shown) (effort old shown) (effort new shown)
counted_goes r shown c d old mid new t e goes = subst (λ (x : Unioned). Advances x.control c d r (rest old shown) (rest x shown) (effort old shown) (effort x shown)) (sym e) goes

pub counts_rise : (old mid new : Unioned) (c d : Counts) → SameCounts old.trace mid.trace → new ≡ record mid { trace = counted mid.trace c d } → CountsRise old.trace new.trace c d
counts_rise old mid new c d s e = subst (λ (x : Unioned). CountsRise old.trace x.trace c d) (sym e) (counts_raised old.trace mid.trace c d s)

-- What a step leaves that found no memory.

-- the awaited leaf was taken, or it was tried
pub only_took : (old mid : Unioned) → TakesLeaf old mid → OnlyTakes old mid
only_took old mid t = record {
  same = subst (λ (x : Unioned). x ≡ record (holding x.lane.held old) { count = count_read old; at = x.at; trace = x.trace }) (sym t.same) refl;
  named = t.named;
  events = t.events;
  fewer = subst (λ (n : ℕ). n ≤ keys_work old) (sym (ap keys_work t.same)) (omega arith);
}

-- keys may have been passed
pub only_passed : (r : Result (Step Record) NoMemory) (shown : Shown) (c d : Counts) (old new : Unioned) → IsFinal old.control → new ≡ with_shell (shell_of new) old → Finishes shown c d r old new → OnErr r (OnlyTakes old new)
only_passed (Ok s) shown c d old new at same f = tt
only_passed (Err x) shown c d old new at same f =
    let e : new ≡ record old { at = new.at } = same ∙ ap (λ (s : Shelled). with_shell s old) f.still.same in
    record {
      same = subst (λ (x : Unioned). x ≡ record (holding x.lane.held old) { count = count_read old; at = x.at; trace = x.trace }) (sym e) (ap (λ (c : ScanCounts). record old { count = c; at = new.at }) (sym (none_counted old (final_over old.control at))));
      named = ap (λ (x : Unioned). x.trace.strategy) e;
      events = ap (λ (x : Unioned). x.trace.events) e;
      fewer = subst (λ (keys : List ℕ). length (keys_left (Some keys) new.at) ≤ keys_work old) (sym (ap (λ (x : Unioned). x.keys) same)) f.still.fewer;
    }

-- what was read is counted
pub only_counted : {X E : Type 0} (x : Result X E) (old mid new : Unioned) (c d : Counts) → new ≡ record mid { trace = counted mid.trace c d } → OnErr x (OnlyTakes old mid) → OnErr x (OnlyTakes old new)
only_counted (Ok y) old mid new c d e o = tt
only_counted (Err y) old mid new c d e o = record {
  same = subst (λ (x : Unioned). x ≡ record (holding x.lane.held old) { count = count_read old; at = x.at; trace = x.trace }) (sym e) (ap (λ (x : Unioned). record x { trace = counted mid.trace c d }) o.same);
  named = ap (λ (x : Unioned). x.trace.strategy) e ∙ o.named;
  events = ap (λ (x : Unioned). x.trace.events) e ∙ o.events;
  fewer = subst (λ (n : ℕ). n ≤ keys_work old) (sym (ap keys_work e)) o.fewer;
}

-- WHAT HOLDS OF A STEP

-- the awaited leaf was not taken
pub took_wanting : (r : Result (Step Record) NoMemory) (x : NoMemory) (would : ℕ → Facts → Ruling) (state : ℕ) (shown : Shown) (c d : Counts) (old mid : Unioned) → r ≡ Err x → old.control ≡ BackgroundAlone → Took shown c d old mid → StageStep would state state shown c d r old mid
took_wanting r x would state shown c d old mid is e took = subst (λ (y : Result (Step Record) NoMemory). StageStep would state state shown c d y old mid) (sym is) record {
  does = tt;
  steady = took_steady old mid shown c d took;
  goes = record { step = tt; ends = tt; err = took_rest old mid shown took.leaves; tries = leaf_spends old mid shown c d took.leaves took.reads; falls = tt };
  still = only_took old mid took.leaves;
  quiet = refl;
  may_read = reads_at old BackgroundAlone c d e took.reads;
  nearer = tt;
}

-- or it was taken, and not accepted
pub gave_wanting : (r : Result (Step Record) NoMemory) (x : NoMemory) (would : ℕ → Facts → Ruling) (state after : ℕ) (shown : Shown) (c d : Counts) (old mid new : Unioned) → r ≡ Err x → old.control ≡ BackgroundAlone → Took shown c d old mid → new ≡ mid → after ≡ state → StageStep would state after shown c d r old new
gave_wanting r x would state after shown c d old mid new is e took same quiet = subst (λ (y : Unioned). StageStep would state after shown c d r old y) (sym same) (subst (λ (n : ℕ). StageStep would state n shown c d r old mid) (sym quiet) (took_wanting r x would state shown c d old mid is e took))

-- or it was
pub gave_piece : (would : ℕ → Facts → Ruling) (state after : ℕ) (shown : Shown) (c d : Counts) (old mid new : Unioned) (piece sieved : Pieced) (g : Given) → old.control ≡ BackgroundAlone → Took shown c d old mid → Awaits mid piece → sieved ≡ piece → Answers mid sieved g new → GivesOn would state after sieved g mid new → StageStep would state after shown c d (Ok Working) old new
gave_piece would state after shown c d old mid new piece sieved g e took a same answers o =
    let r : Result Given NoMemory = Ok g in
    let spent = leaf_spends old mid shown c d took.leaves took.reads in
    let was = accepted_piece would state after mid new piece sieved g a same answers o in
    record {
      does = one_piece would state after old mid new shown piece sieved g c d e took.leaves a same answers o took.reads took.fits;
      steady = gave_steady r would state after sieved old mid new shown (took_steady old mid shown c d took) answers o tt;
      goes = record {
        step = λ need. (gives_stay r would state after sieved mid new shown answers o tt took.fits).1 ∙ took_rest old mid shown took.leaves;
        ends = tt;
        err = tt;
        tries = tries_on c d d (effort old shown) (effort mid shown) (effort new shown) spent refl (gives_less r would state after sieved mid new shown answers o tt took.fits);
        falls = lt_of_lt_of_le (piece_falls would state after sieved mid new shown was.0 was.1 took.fits) spent.less;
      };
      still = tt;
      quiet = tt;
      may_read = reads_at old BackgroundAlone c d e took.reads;
      nearer = piece_leaves c d (leaves_left old shown) (leaves_left mid shown) (leaves_left new shown) (took_leaves (Piece piece) old mid shown c d took.leaves took.fits a took.reads) (given_leaves would state after sieved g mid new shown answers o);
    }

-- a step of the final stage
pub final_stage : (r : Result (Step Record) NoMemory) (would : ℕ → Facts → Ruling) (state : ℕ) (shown : Shown) (c d : Counts) (old new : Unioned) → IsFinal old.control → new ≡ with_shell (shell_of new) old → Finishes shown c d r old new → UnionFits old shown → StageStep would state state shown c d r old new
final_stage r would state shown c d old new at same f fits = record {
  does = final_does r would state shown c d old new at same f;
  steady = final_steady r shown c d old new at same f fits;
  goes = final_goes r shown c d old new at same f;
  still = only_passed r shown c d old new at same f;
  quiet = on_err r (state ≡ state) refl;
  may_read = final_reads old c d at f.may_read;
  nearer = final_leaves r shown c d old new at f;
}

-- nothing is left
pub done_stage : (would : ℕ → Facts → Ruling) (state : ℕ) (r : Unioned) (shown : Shown) (c : Counts) → r.control ≡ Done → UnionFits r shown → StageStep would state state shown c c (Ok End) r r
done_stage would state r shown c e fits = record {
  does = done_does would state r shown c e;
  steady = stays_steady r shown fits;
  goes = done_advances r.control c (rest r shown) (effort r shown) e (done_rest r shown e);
  still = tt;
  quiet = tt;
  may_read = reads_at r Done c c e refl;
  nearer = omega arith;
}
