-- A step along the foreground's index, and what its answer leads to.
use Rattle.std.proofs.Common.{◌≡◌, ℕ, ◌+◌, ◌<◌, ◌≤◌, ◌⊎◌, ◌&&◌, Bool, true, false, List, length, None, Option, Result, Ok, Err, IfOk, OnErr, inl, inr, refl, ap, sym, ◌∙◌, arith, subst}
use Rattle.std.specs.Prelude.{if◌then◌else◌}
use Rattle.std.proofs.lemmas.Bool.{cases_Bool}
use Rattle.rv_value.proofs.Tests.{no_way}
use Rattle.rv_value.specs.declared.record.Record.{Record}
use Rattle.rv_keylist.specs.Listed.{Listed}
use Rattle.rv_judge.specs.Counting.{reads}
use Rattle.rv_judge.specs.declared.counting.Counts.{Counts}
use Rattle.rv_judge.specs.declared.events.Control.{Control}
use Rattle.rv_judge.specs.declared.events.Control.TheVariants.{Building, ForegroundAlone, BackgroundAlone, FinalList, FinalTable, Done}
use Rattle.rv_judge.specs.declared.events.Happening.TheVariants.{Full, FrontEnded}
use Rattle.rv_judge.specs.declared.events.Strategy.{Strategy}
use Rattle.rv_judge.specs.declared.events.Strategy.TheVariants.{Sorted, IndexOnly}
use Rattle.rv_judge.specs.declared.judging.Facts.{Facts}
use Rattle.rv_judge.specs.Verdicts.{Ruling}
use Rattle.rv_judge.specs.Course.{next_control}
use Rattle.rv_judge.specs.Tracing.{SameCounts, noted}
use Rattle.rv_judge.specs.declared.events.Event.{Event}
use Rattle.rv_judge.specs.declared.events.Event.TheVariants.{At}
use Rattle.rv_judge.specs.declared.events.Trace.{Trace}
use Rattle.rv_retrieval.specs.Rulings.{gone}
use Rattle.rv_reader.specs.Shown.{Shown}
use Rattle.rv_reader.specs.declared.step.Step.{Step}
use Rattle.rv_reader.specs.declared.step.Step.TheVariants.{Row, Working, End}
use Rattle.rv_scan.specs.Alongs.{FetchesDue, Follows, leaf_work}
use Rattle.rv_scan.specs.Due.{Skipped, StepsTo}
use Rattle.rv_scan.specs.Fronts.{Front, FrontMayRead, FrontReads, SameFront, front_fetches, walk_of}
use Rattle.rv_scan.specs.Reads.{ReadsNone}
use Rattle.rv_jscan.specs.Joint.{keys_of}
use Rattle.rv_final.specs.Rest.{StepMarks}
use Rattle.rv_final.specs.Work.{Falls, Tries}
use Rattle.rv_retrieval.specs.Effort.{Awaiting, back_work, effort, front_work, keys_work, sum_of, table_work}
use Rattle.rv_retrieval.specs.Fronts.{front_left}
use Rattle.rv_retrieval.specs.Shape.{Ahead, Delivers, DoesStep, LeastOf, RetrievalFits, Shape, front_entries, is_building, is_index_only, is_led, is_sorted, rows_of, source, source_of, while_building}
use Rattle.rv_retrieval.specs.Short.{Settled, fetches_by, fetches_left, is_settled, scan_fetches}
use Rattle.rv_retrieval.specs.Accounts.{fresh_of}
use Rattle.rv_retrieval.specs.Stepping.{DoesIts, GivesAhead, LeavesAhead, MayReadIts, ReadsIts, RemembersBy, Steady, Walk, WalkBoth, WalkReads, ended_by}
use Rattle.rv_retrieval.proofs.BothSides.{both_falls, both_tries}
use Rattle.rv_retrieval.proofs.Delivering.{both_found_does, both_found_fits, both_full, delivered_control, forgotten, front_does, front_fits}
use Rattle.rv_retrieval.proofs.Fetches.{scan_fewer}
use Rattle.rv_retrieval.proofs.Fronting.{FrontStep, front_marks, own_entries, own_follows, skips_by, walk_reads}
use Rattle.rv_retrieval.proofs.Least.{front_least}
use Rattle.rv_retrieval.proofs.OfKinds.{both_does, index_only_kind, may_read_by, reads_by, sorted_kind, walk_does}
use Rattle.rv_retrieval.proofs.Waiting.{steady_moved}

-- What the step itself comes to, before its end or its row is told.
pub record FrontScanned {E : Type 0} (r : Result (Step Record) E) (v : Shape) (new : Front) (shown : Shown) (c d : Counts) : Type 0 where
  pub front : SameFront v.front new
  pub follows : Follows (walk_of new) (front_entries v shown)
  pub least : is_sorted v.strategy ≡ true → IfOk r (LeastOf v shown)
  pub marks : IfOk r (λ s. StepMarks v.query.need v.query.only (rows_of v shown) s (front_left v.front (front_entries v shown)) (front_left new (front_entries v shown)))
  pub fetches : IfOk r (WalkReads v shown c d)
  pub tries : Tries c d (front_work v shown) (front_work (record v { front = new }) shown)
  pub falls : IfOk r (λ s. Falls s c d (front_work v shown) (front_work (record v { front = new }) shown))
  pub records : is_sorted v.strategy ≡ true → IfOk r (λ s. d.records + scan_fetches (record v { front = new }) shown ≤ c.records + scan_fetches v shown)

-- the work left of a scan, by the entries and cuts of its own snapshot
abbrev own_work : Shape → Front → Shown → ℕ
own_work v f shown = leaf_work (walk_of f) (own_entries v shown) (shown.cuts (walk_of v.front).index (walk_of v.front).snap)

by_own : (v : Shape) (new : Front) (shown : Shown) → RetrievalFits v shown → is_led v.strategy ≡ true → (walk_of new).index ≡ (walk_of v.front).index → front_work (record v { front = new }) shown ≡ own_work v new shown
by_own v new shown f led index =
    let at = (f.front led).can.at_snap in
    ap (λ (b : Bool). if b then leaf_work (walk_of new) (shown.entries (walk_of new).index v.query.snap) (shown.cuts (walk_of new).index v.query.snap) else 0) led
    ∙ ap (λ (i : ℕ). leaf_work (walk_of new) (shown.entries i v.query.snap) (shown.cuts i v.query.snap)) index
    ∙ ap (λ (s : ℕ). leaf_work (walk_of new) (shown.entries (walk_of v.front).index s) (shown.cuts (walk_of v.front).index s)) (sym at)

less_after : (s : Step Record) (rest left : List Record) (work less : ℕ) → StepsTo s rest work left less → less ≤ work
less_after (Row r) rest left work less h = let l = h.1 in omega arith
less_after Working rest left work less h = let l = h.1 in omega arith
less_after End rest left work less h = let l = h.2 in omega arith

falls_after : (s : Step Record) (rest left : List Record) (work less : ℕ) (c d : Counts) → StepsTo s rest work left less → ReadsNone s c d → Falls s c d work less
falls_after (Row r) rest left work less c d h none = h.1
falls_after Working rest left work less c d h none = h.1
falls_after End rest left work less c d h none = none

tries_of : {E : Type 0} (r : Result (Step Record) E) (v : Shape) (new : Front) (shown : Shown) (skip : Skipped) → RetrievalFits v shown → is_led v.strategy ≡ true → SameFront v.front new → IfOk r (FrontStep v new shown skip) → OnErr r (new ≡ v.front) → front_work (record v { front = new }) shown ≤ front_work v shown
tries_of (Ok s) v new shown skip f led same step err = rw (by_own v new shown f led same.index, by_own v v.front shown f led refl) (less_after s _ _ _ _ step)
tries_of (Err e) v new shown skip f led same step err = let is = ap (λ (x : Front). front_work (record v { front = x }) shown) err in omega arith

falls_of : {E : Type 0} (r : Result (Step Record) E) (v : Shape) (new : Front) (shown : Shown) (skip : Skipped) (c d : Counts) → RetrievalFits v shown → is_led v.strategy ≡ true → SameFront v.front new → IfOk r (FrontStep v new shown skip) → IfOk r (λ s. ReadsNone s c d) → IfOk r (λ s. Falls s c d (front_work v shown) (front_work (record v { front = new }) shown))
falls_of (Ok s) v new shown skip c d f led same step none = rw (by_own v new shown f led same.index, by_own v v.front shown f led refl) (falls_after s _ _ _ _ c d step none)
falls_of (Err e) v new shown skip c d f led same step none = tt

pub front_scanned : {E : Type 0} (r : Result (Step Record) E) (v : Shape) (new : Front) (shown : Shown) (o l : Option Listed) (c d : Counts) → RetrievalFits v shown → is_led v.strategy ≡ true → o ≡ (if is_sorted v.strategy then l else None) → keys_of l ≡ v.joint.list → SameFront v.front new
    → (Follows (walk_of v.front) (own_entries v shown) → Follows (walk_of new) (own_entries v shown)) → IfOk r (FrontStep v new shown (record { delivered = None; list = o }))
    → IfOk r (λ s. FetchesDue (record { delivered = None; list = o }) v.query.only (shown.rows v.front.fetching.table (walk_of v.front).snap) s c d)
    → reads d ≤ reads c + 1 → IfOk r (λ s. ReadsNone s c d) → OnErr r (new ≡ v.front)
    → IfOk r (λ s. d.records + front_fetches new (own_entries v shown) (record { delivered = None; list = o }) ≤ c.records + front_fetches v.front (own_entries v shown) (record { delivered = None; list = o }))
    → FrontScanned r v new shown c d
front_scanned r v new shown o l c d fits led hides keys same follows step fetches once none err fewer =
    let skip : Skipped = record { delivered = None; list = o } in
    let by = skips_by v o l hides keys in
    let on = own_follows v new shown fits led follows in
    record {
      front = same;
      follows = on;
      least = λ sorted. front_least r v new shown skip fits sorted by step;
      marks = front_marks r v new shown skip fits led by same on step;
      fetches = walk_reads r v shown o l c d fits led hides keys fetches;
      tries = record { once = once; less = tries_of r v new shown skip fits led same step err };
      falls = falls_of r v new shown skip c d fits led same step none;
      records = λ sorted. scan_fewer r v new shown skip c d fits led refl (ap keys_of (hides ∙ ap (λ (b : Bool). if b then l else None) sorted) ∙ keys) same fewer;
    }

-- What is left of the effort.

le_front : (c : Control) (b f g t k : ℕ) → f ≤ g → sum_of c b f t k ≤ sum_of c b g t k
le_front Building b f g t k l = omega arith
le_front ForegroundAlone b f g t k l = l
le_front BackgroundAlone b f g t k l = omega arith
le_front FinalList b f g t k l = omega arith
le_front FinalTable b f g t k l = omega arith
le_front Done b f g t k l = omega arith

lt_front : (c : Control) (s : Strategy) (b f g t k : ℕ) → source_of c s ≡ Ahead → f < g → sum_of c b f t k < sum_of c b g t k
lt_front Building s b f g t k a l = omega arith
lt_front ForegroundAlone s b f g t k a l = l
lt_front BackgroundAlone s b f g t k a l = absurd (cc)
lt_front FinalList s b f g t k a l = absurd (cc)
lt_front FinalTable s b f g t k a l = absurd (cc)
lt_front Done s b f g t k a l = absurd (cc)

pub ahead_tries : (v : Shape) (f : Front) (shown : Shown) (c d : Counts) → Tries c d (front_work v shown) (front_work (record v { front = f }) shown) → Tries c d (effort v shown) (effort (record v { front = f }) shown)
ahead_tries v f shown c d t = record {
  once = t.once;
  less = le_front v.control (back_work v.joint v.borrowed shown) (front_work (record v { front = f }) shown) (front_work v shown) (table_work v shown) (keys_work v) t.less;
}

pub ahead_falls : (v : Shape) (f : Front) (shown : Shown) → source v ≡ Ahead → front_work (record v { front = f }) shown < front_work v shown → effort (record v { front = f }) shown < effort v shown
ahead_falls v f shown a less = lt_front v.control v.strategy (back_work v.joint v.borrowed shown) (front_work (record v { front = f }) shown) (front_work v shown) (table_work v shown) (keys_work v) a less

-- Where the background is over.

ahead_alone : (c : Control) (s : Strategy) → is_settled c ≡ true → source_of c s ≡ Ahead → c ≡ ForegroundAlone
ahead_alone Building s over a = absurd (cc)
ahead_alone ForegroundAlone s over a = refl
ahead_alone BackgroundAlone s over a = absurd (cc)
ahead_alone FinalList s over a = absurd (cc)
ahead_alone FinalTable s over a = absurd (cc)
ahead_alone Done s over a = absurd (cc)

pub alone_sorted : (v : Shape) → Settled v → source v ≡ Ahead → is_sorted v.strategy ≡ true
alone_sorted v settled a = settled.sorted (ahead_alone v.control v.strategy settled.over a)

-- rows are not remembered there
alone_forgets : (v : Shape) → Settled v → source v ≡ Ahead → (is_building v.control && is_index_only v.strategy) ≡ false
alone_forgets v settled a = ap (λ (c : Control). is_building c && is_index_only v.strategy) (ahead_alone v.control v.strategy settled.over a)

pub ahead_records : (v : Shape) (f : Front) (shown : Shown) (c d : Counts) → Settled v → source v ≡ Ahead → d.records + scan_fetches (record v { front = f }) shown ≤ c.records + scan_fetches v shown → d.records + fetches_left (record v { front = f }) shown ≤ c.records + fetches_left v shown
ahead_records v f shown c d settled a fewer =
    subst (λ (x : Control). d.records + fetches_by x (scan_fetches (record v { front = f }) shown) (keys_work v) ≤ c.records + fetches_by x (scan_fetches v shown) (keys_work v)) (sym (ahead_alone v.control v.strategy settled.over a)) fewer

-- A row is given: it is remembered, or nothing else changes.

pub row_fits : (v : Shape) (f : Front) (new : Shape) (r : Record) (shown : Shown) → SameFront v.front f → Follows (walk_of f) (front_entries v shown) → StepMarks v.query.need v.query.only (rows_of v shown) (Row r) (front_left v.front (front_entries v shown)) (front_left f (front_entries v shown))
    → ((is_building v.control && is_index_only v.strategy) ≡ true → Delivers (record v { front = f }) new r.row.0) → ((is_building v.control && is_index_only v.strategy) ≡ false → new ≡ record v { front = f }) → RetrievalFits v shown → RetrievalFits new shown
row_fits v f new r shown same follows marks gives forgets fits =
    elim (cases_Bool (is_building v.control && is_index_only v.strategy)) [
      | inl both ↦ both_found_fits v (record v { front = f }) new r shown both refl same follows (gives both) marks fits
      | inr not ↦ subst (λ (x : Shape). RetrievalFits x shown) (sym (forgets not)) (front_fits v f shown same follows (forgotten v not) fits)
    ]

pub row_does : (v : Shape) (f : Front) (new : Shape) (r : Record) (shown : Shown) → source v ≡ Ahead → SameFront v.front f → (is_sorted v.strategy ≡ true → LeastOf v shown (Row r)) → StepMarks v.query.need v.query.only (rows_of v shown) (Row r) (front_left v.front (front_entries v shown)) (front_left f (front_entries v shown))
    → ((is_building v.control && is_index_only v.strategy) ≡ true → Delivers (record v { front = f }) new r.row.0) → ((is_building v.control && is_index_only v.strategy) ≡ false → new ≡ record v { front = f }) → RetrievalFits v shown → DoesStep v new shown (Row r)
row_does v f new r shown a same least marks gives forgets fits =
    elim (cases_Bool (is_building v.control && is_index_only v.strategy)) [
      | inl both ↦ both_found_does v (record v { front = f }) new r shown both refl same (gives both) marks fits
      | inr not ↦ subst (λ (x : Shape). DoesStep v x shown (Row r)) (sym (forgets not)) (front_does v f shown (Row r) a same fits least marks)
    ]

pub row_tries : (v : Shape) (f : Front) (new : Shape) (k : ℕ) (shown : Shown) (c d : Counts) → Tries c d (front_work v shown) (front_work (record v { front = f }) shown)
    → ((is_building v.control && is_index_only v.strategy) ≡ true → Delivers (record v { front = f }) new k) → ((is_building v.control && is_index_only v.strategy) ≡ false → new ≡ record v { front = f }) → Tries c d (effort v shown) (effort new shown)
row_tries v f new k shown c d tries gives forgets =
    elim (cases_Bool (is_building v.control && is_index_only v.strategy)) [
      | inl both ↦ both_tries v (record v { front = f }) new shown c d new.delivered new.control new.trace both refl (gives both).same tries
      | inr not ↦ subst (λ (x : Shape). Tries c d (effort v shown) (effort x shown)) (sym (forgets not)) (ahead_tries v f shown c d tries)
    ]

pub row_falls : (v : Shape) (f : Front) (new : Shape) (k : ℕ) (shown : Shown) → source v ≡ Ahead → front_work (record v { front = f }) shown < front_work v shown
    → ((is_building v.control && is_index_only v.strategy) ≡ true → Delivers (record v { front = f }) new k) → ((is_building v.control && is_index_only v.strategy) ≡ false → new ≡ record v { front = f }) → effort new shown < effort v shown
row_falls v f new k shown a less gives forgets =
    elim (cases_Bool (is_building v.control && is_index_only v.strategy)) [
      | inl both ↦ both_falls v (record v { front = f }) new shown new.delivered new.control new.trace both refl (gives both).same less
      | inr not ↦ subst (λ (x : Shape). effort x shown < effort v shown) (sym (forgets not)) (ahead_falls v f shown a less)
    ]

pub row_settled : (v : Shape) (f : Front) (new : Shape) → source v ≡ Ahead → ((is_building v.control && is_index_only v.strategy) ≡ false → new ≡ record v { front = f }) → Settled v → Settled new
row_settled v f new a forgets settled = subst Settled (sym (forgets (alone_forgets v settled a))) (record { over = settled.over; sorted = settled.sorted })

pub row_records : (v : Shape) (f : Front) (new : Shape) (shown : Shown) (c d : Counts) → source v ≡ Ahead → ((is_building v.control && is_index_only v.strategy) ≡ false → new ≡ record v { front = f }) → Settled v → d.records + scan_fetches (record v { front = f }) shown ≤ c.records + scan_fetches v shown → d.records + fetches_left new shown ≤ c.records + fetches_left v shown
row_records v f new shown c d a forgets settled fewer = subst (λ (x : Shape). d.records + fetches_left x shown ≤ c.records + fetches_left v shown) (sym (forgets (alone_forgets v settled a))) (ahead_records v f shown c d settled a fewer)

-- a full buffer stops the background
delivered_steady : (v : Shape) (f : Front) (new : Shape) (k : ℕ) → (is_building v.control && is_index_only v.strategy) ≡ true → SameFront v.front f → Delivers (record v { front = f }) new k → Steady v new
delivered_steady v f new k both same d = record {
  counts = record { pages = d.counts.0; leaves = d.counts.1; fetches = d.counts.2 };
  query = ap (λ (x : Shape). x.query) d.same;
  awaiting = λ w. subst Awaiting (sym d.same) (by w (delivered_control (record v { front = f }) new k d));
  front = subst (λ (x : Shape). SameFront v.front x.front) (sym d.same) same;
}
  where
    at : (c : Control) → (c ≡ v.control) ⊎ (c ≡ ForegroundAlone) → Awaiting v → Awaiting (record v { front = f; delivered = new.delivered; control = c; trace = new.trace })
    at c (inl e) w = subst (λ (x : Control). Awaiting (record v { front = f; delivered = new.delivered; control = x; trace = new.trace })) (sym e) (record { way = w.way; both = w.both })
    at c (inr e) w = subst (λ (x : Control). Awaiting (record v { front = f; delivered = new.delivered; control = x; trace = new.trace })) (sym e) (record { way = λ h. no_way (sym h); both = λ h. no_way (sym h) })

    by : Awaiting v → ((new.control ≡ v.control) × (length new.delivered < 1024)) ⊎ (new.control ≡ next_control v.strategy v.control Full) → Awaiting (record v { front = f; delivered = new.delivered; control = new.control; trace = new.trace })
    by w (inl stays) = at new.control (inl stays.0) w
    by w (inr goes) = at new.control (inr (goes ∙ both_full v both)) w

pub row_steady : (v : Shape) (f : Front) (new : Shape) (k : ℕ) → SameFront v.front f → ((is_building v.control && is_index_only v.strategy) ≡ true → Delivers (record v { front = f }) new k) → ((is_building v.control && is_index_only v.strategy) ≡ false → new ≡ record v { front = f }) → Steady v new
row_steady v f new k same gives forgets =
    elim (cases_Bool (is_building v.control && is_index_only v.strategy)) [
      | inl both ↦ delivered_steady v f new k both same (gives both)
      | inr not ↦ subst (Steady v) (sym (forgets not)) (steady_moved v (record v { front = f }) refl same)
    ]

-- the scan is where the step has brought it
row_front : (v : Shape) (f : Front) (new : Shape) (k : ℕ) → ((is_building v.control && is_index_only v.strategy) ≡ true → Delivers (record v { front = f }) new k) → ((is_building v.control && is_index_only v.strategy) ≡ false → new ≡ record v { front = f }) → new.front ≡ f
row_front v f new k gives forgets =
    elim (cases_Bool (is_building v.control && is_index_only v.strategy)) [
      | inl both ↦ ap (λ (x : Shape). x.front) (gives both).same
      | inr not ↦ ap (λ (x : Shape). x.front) (forgets not)
    ]

pub row_leaves : (v : Shape) (f : Front) (new : Shape) (r : Record) → ((is_building v.control && is_index_only v.strategy) ≡ true → Delivers (record v { front = f }) new r.row.0) → GivesAhead r.row.0 (record v { front = f }) new → LeavesAhead (Row r) (record v { front = new.front }) new
row_leaves v f new r delivers gives = subst (λ (x : Front). GivesAhead r.row.0 (record v { front = x }) new) (sym (row_front v f new r.row.0 delivers gives.forgets)) gives

-- The scan is at its end, and all is done.

pub end_leaves : (v : Shape) (f : Front) (new : Shape) → new ≡ record v { front = f; control = next_control v.strategy v.control FrontEnded; trace = new.trace } → new.trace ≡ noted v.trace (At (next_control v.strategy v.control FrontEnded)) → LeavesAhead End (record v { front = new.front }) new
end_leaves v f new same told =
    let is : new ≡ gone FrontEnded (record v { front = f }) = same ∙ ap (λ (t : Trace). record v { front = f; control = next_control v.strategy v.control FrontEnded; trace = t }) told in
    subst (λ (x : Front). new ≡ gone FrontEnded (record v { front = x })) (sym (ap (λ (x : Shape). x.front) same)) is

pub noted_counts : (t : Trace) (e : Event) (new : Trace) → new ≡ noted t e → SameCounts t new
noted_counts t e new is = subst (SameCounts t) (sym is) (record { pages = refl; leaves = refl; fetches = refl })

pub end_steady : (v : Shape) (f : Front) (new : Shape) → SameFront v.front f → new ≡ record v { front = f; control = Done; trace = new.trace } → SameCounts v.trace new.trace → Steady v new
end_steady v f new same is counts = record {
  counts = counts;
  query = ap (λ (x : Shape). x.query) is;
  awaiting = λ w. subst Awaiting (sym is) (record { way = λ h. no_way (sym h); both = λ h. no_way (sym h) });
  front = subst (λ (x : Shape). SameFront v.front x.front) (sym is) same;
}

pub end_settled : (v : Shape) (f : Front) (new : Shape) → new ≡ record v { front = f; control = Done; trace = new.trace } → Settled new
end_settled v f new is = subst Settled (sym is) (record { over = refl; sorted = λ h. absurd (cc) })

pub end_tries : (v : Shape) (f : Front) (new : Shape) (shown : Shown) (c d : Counts) → new ≡ record v { front = f; control = Done; trace = new.trace } → reads d ≤ reads c + 1 → Tries c d (effort v shown) (effort new shown)
end_tries v f new shown c d is once = record { once = once; less = subst (λ (x : Shape). effort x shown ≤ effort v shown) (sym is) (omega arith) }

pub end_records : (v : Shape) (f : Front) (new : Shape) (shown : Shown) (c d : Counts) → new ≡ record v { front = f; control = Done; trace = new.trace } → d ≡ c → d.records + fetches_left new shown ≤ c.records + fetches_left v shown
end_records v f new shown c d is same =
    let records = ap (λ (x : Counts). x.records) same in
    let none : fetches_left new shown ≡ 0 = ap (λ (x : Shape). fetches_left x shown) is in
    omega arith

-- In the words of the step's kinds.

pub ahead_forgets : {E : Type 0} (r : Result (Step Record) E) (old new : Shape) → (is_building old.control && is_index_only old.strategy) ≡ false → IfOk r (λ s. LeavesAhead s (record old { front = new.front }) new) → IfOk r (λ s. new ≡ ended_by FrontEnded s (record old { front = new.front }))
ahead_forgets (Ok (Row r)) old new not leaves = leaves.forgets not
ahead_forgets (Ok Working) old new not leaves = leaves
ahead_forgets (Ok End) old new not leaves = leaves
ahead_forgets (Err e) old new not leaves = tt

pub ahead_remembers : {E : Type 0} (r : Result (Step Record) E) (old new : Shape) → (is_building old.control && is_index_only old.strategy) ≡ true → IfOk r (λ s. LeavesAhead s (record old { front = new.front }) new) → IfOk r (λ s. RemembersBy s (record old { front = new.front }) new)
ahead_remembers (Ok (Row r)) old new both leaves = leaves.fills both
ahead_remembers (Ok Working) old new both leaves = leaves
ahead_remembers (Ok End) old new both leaves = leaves
ahead_remembers (Err e) old new both leaves = tt

-- Where both sides run.

pub beside_ahead : (v : Shape) → v.control ≡ Building → (v.strategy ≡ Sorted) ⊎ (v.strategy ≡ IndexOnly) → source v ≡ Ahead
beside_ahead v both (inl sorted) = ap (λ (c : Control). source_of c v.strategy) both ∙ ap while_building sorted
beside_ahead v both (inr alone) = ap (λ (c : Control). source_of c v.strategy) both ∙ ap while_building alone

flag_is : (v : Shape) (s : Strategy) → v.control ≡ Building → v.strategy ≡ s → (is_building v.control && is_index_only v.strategy) ≡ is_index_only s
flag_is v s both is = ap (λ (c : Control). is_building c && is_index_only v.strategy) both ∙ ap is_index_only is

pub beside_does : {E : Type 0} (r : Result (Step Record) E) (would : ℕ → Facts → Ruling) (state : ℕ) (shown : Shown) (c d : Counts) (old new : Shape) → old.control ≡ Building → (old.strategy ≡ Sorted) ⊎ (old.strategy ≡ IndexOnly) → IfOk r (WalkReads old shown c d) → IfOk r (λ s. LeavesAhead s (record old { front = new.front }) new) → IfOk r (λ s. DoesIts would state state shown c d s old new)
beside_does r would state shown c d old new both (inl sorted) reads leaves = walk_does r would state shown c d old new (sorted_kind old.control old.strategy (fresh_of old) both sorted) reads (ahead_forgets r old new (flag_is old Sorted both sorted) leaves)
beside_does r would state shown c d old new both (inr alone) reads leaves = both_does r would state shown c d old new (index_only_kind old.control old.strategy (fresh_of old) both alone) (ahead_remembers r old new (flag_is old IndexOnly both alone) leaves)

-- an index-only foreground's index is scanned alone
alone_is : (v : Shape) (shown : Shown) → v.control ≡ Building → v.strategy ≡ IndexOnly → RetrievalFits v shown → v.front.alone ≡ true
alone_is v shown both is fits = (fits.front (fits.led (beside_ahead v both (inr is)))).alone (ap is_index_only is)

pub beside_may_read : (v : Shape) (shown : Shown) (c d : Counts) → v.control ≡ Building → (v.strategy ≡ Sorted) ⊎ (v.strategy ≡ IndexOnly) → RetrievalFits v shown → FrontMayRead v.front.alone c d → MayReadIts v c d
beside_may_read v shown c d both (inl sorted) fits may = may_read_by Walk v c d (sorted_kind v.control v.strategy (fresh_of v) both sorted) may
beside_may_read v shown c d both (inr is) fits may = may_read_by WalkBoth v c d (index_only_kind v.control v.strategy (fresh_of v) both is) (subst (λ (b : Bool). FrontMayRead b c d) (alone_is v shown both is fits) may)

pub beside_reads : {E : Type 0} (r : Result (Step Record) E) (v : Shape) (shown : Shown) (c d : Counts) → v.control ≡ Building → (v.strategy ≡ Sorted) ⊎ (v.strategy ≡ IndexOnly) → RetrievalFits v shown → IfOk r (λ s. FrontReads v.front.alone s c d) → IfOk r (ReadsIts v c d)
beside_reads r v shown c d both (inl sorted) fits read = reads_by r Walk v c d (sorted_kind v.control v.strategy (fresh_of v) both sorted) read
beside_reads r v shown c d both (inr is) fits read = reads_by r WalkBoth v c d (index_only_kind v.control v.strategy (fresh_of v) both is) (subst (λ (b : Bool). IfOk r (λ s. FrontReads b s c d)) (alone_is v shown both is fits) read)
