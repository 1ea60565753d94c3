-- What a retrieval's calls do keeps its trace telling a run of the course.
use Rattle.std.proofs.Common.{◌≡◌, ◌∙◌, ℕ, ◌+◌, ◌≤◌, ◌==◌, List, [], ◌∷◌, Bool, true, false, not, ◌&&◌, ◌||◌, Option, Some, None, Result, Ok, Err, IfOk, OnErr, inl, inr, is_some, length, nat_lt, nat_eq, refl, ap, sym, subst, arith}
use Rattle.std.specs.Prelude.{if◌then◌else◌}
use Rattle.std.proofs.lemmas.Bool.{cases_Bool, ltb-true, and_left, le-ltb, and_from}
use Rattle.std.proofs.lemmas.Bool.Decides.{nat_tests}
use Rattle.std.specs.Cmp.{first_so, second_so}
use Rattle.rv_value.proofs.Tests.{same_number}
use Rattle.rv_value.specs.declared.record.IndexEntry.{IndexEntry}
use Rattle.rv_value.specs.declared.record.Record.{Record}
use Rattle.rv_restrict.specs.declared.atom.Atom.{Atom}
use Rattle.rv_restrict.specs.Truth.{qualifies}
use Rattle.rv_reader.specs.Tables.{row_at}
use Rattle.rv_scan.specs.Alongs.{looked}
use Rattle.rv_judge.specs.declared.counting.Counts.{Counts}
use Rattle.rv_judge.specs.declared.events.Control.{Control}
use Rattle.rv_judge.specs.declared.events.Control.TheVariants.{Building, ForegroundAlone, BackgroundAlone, FinalList, FinalTable, Done}
use Rattle.rv_judge.specs.declared.events.Event.{Event}
use Rattle.rv_judge.specs.declared.events.Event.TheVariants.{At, Scan, List as ListOf, Drop, Full as FullEvent, Stop}
use Rattle.rv_judge.specs.declared.events.Happening.TheVariants.{ScanEnded, Ruled, Full, FrontEnded, FinalEnded}
use Rattle.rv_judge.specs.declared.events.Strategy.{Strategy}
use Rattle.rv_judge.specs.declared.events.Strategy.TheVariants.{Table, BackgroundOnly, FastFirst, Sorted, IndexOnly, Union}
use Rattle.rv_judge.specs.declared.judging.Facts.{Facts}
use Rattle.rv_judge.specs.declared.judging.Verdict.{Verdict}
use Rattle.rv_judge.specs.Verdicts.{Ruling}
use Rattle.rv_judge.specs.declared.judging.Verdict.TheVariants.{Continue, AbandonScan, AbandonForeground, AbandonBackground}
use Rattle.rv_judge.specs.Account.{facts_of}
use Rattle.rv_judge.specs.Course.{building, fast_first, final, foreground_alone, index_only, next_control}
use Rattle.rv_judge.specs.Runs.{Allowed, AllowedRun}
use Rattle.rv_judge.proofs.Allowing.{run_allowed}
use Rattle.rv_jscan.specs.declared.jscan.Given.{Given}
use Rattle.rv_jscan.specs.declared.jscan.ScanPlan.{ScanPlan}
use Rattle.rv_jscan.specs.declared.jscan.Taken.{Taken}
use Rattle.rv_jscan.specs.declared.jscan.Taken.TheVariants.{Piece, Nothing}
use Rattle.rv_jscan.specs.Joint.{Joint, is_empty_list, plan_at, present, under_way}
use Rattle.rv_jscan.specs.Pieces.{Pieced}
use Rattle.rv_jscan.specs.Steps.{Accepts, abandoned, completed, counts_read, going, held_next}
use Rattle.rv_reader.specs.Shown.{Shown}
use Rattle.rv_reader.specs.declared.step.Step.{Step}
use Rattle.rv_reader.specs.declared.step.Step.TheVariants.{Row, Working, End}
use Rattle.rv_retrieval.specs.Accounts.{account_of, fresh_of}
use Rattle.rv_retrieval.specs.Given.{Answers, TakesLeaf, TakesLeafBy, TakesPiece, more_behind}
use Rattle.rv_retrieval.specs.Rulings.{GivesOn, Obeyed, Obeys, dropping, going_on, gone, listed, ruled, scan_over}
use Rattle.rv_jscan.specs.Planned.{indexes_of}
use Rattle.rv_retrieval.specs.Runs.{IsOfUndropped, SameCourse, Tells, TellsOf, events_left, goes_on, indexes_asked}
use Rattle.rv_retrieval.specs.Shape.{Ahead, Shape, is_background, is_led, rows_of, source, source_of}
use Rattle.rv_retrieval.specs.Stepping.{Borrows, DoesAs, DoesIts, RemembersBy, StepsBackground, StepsBehind, ended_by, filled, is_awaiting, kind_of}
use Rattle.rv_retrieval.specs.Telling.{can_stop, events_for, index_of, list_len}
use Rattle.rv_judge.specs.Tracing.{counted, noted, with_events}
use Rattle.rv_final.proofs.Givings.{given_holds}
use Rattle.rv_retrieval.proofs.Running.{all_tells, drop_tells_last, drop_tells_on, final_tells, front_tells, full_tells_fast, full_tells_index, list_tells_last, list_tells_on, stop_tells}
use Rattle.rv_retrieval.proofs.Turns.{final_row, front_row}

-- the index of a scan that is planned
pub events_at : (event : ℕ → Event) (j : Joint) (k : ℕ) → nat_lt k (length j.plans) ≡ true → events_for event (index_of j k) ≡ event (plan_at j.plans k).index ∷ []
events_at event j k l = rw l refl

way_lt : (plans : List ScanPlan) (k : ℕ) (list : Option (List ℕ)) → goes_on plans k list ≡ true → nat_lt k (length plans) ≡ true
way_lt plans k list h = first_so (nat_lt k (length plans)) _ h

pub same_course : (v new : Shape) → SameCourse v new → Tells v → Tells new
same_course v new s t = rw (s.strategy, s.control, s.plans, s.ended, s.list, s.query, s.named, s.events) t

-- the same events in other words
renote : (named st : Strategy) (now : Control) (plans : List ScanPlan) (ended : ℕ) (list : Option (List ℕ)) (indexes : List ℕ) (items own first led last : List Event) → own ≡ first → led ≡ last → TellsOf named st now plans ended list indexes (with_events (with_events items first) last) → TellsOf named st now plans ended list indexes (with_events (with_events items own) led)
renote named st now plans ended list indexes items own first led last e f t = rw (e, f) t

renote_first : (named st : Strategy) (now : Control) (plans : List ScanPlan) (ended : ℕ) (list : Option (List ℕ)) (indexes : List ℕ) (items led own first : List Event) → own ≡ first → TellsOf named st now plans ended list indexes (with_events (with_events items first) led) → TellsOf named st now plans ended list indexes (with_events (with_events items own) led)
renote_first named st now plans ended list indexes items led own first e t = rw e t

-- A scan completes.

pub completes : (v : Shape) (entries : List IndexEntry) (keys : List ℕ) → is_background v.control ≡ true → Tells v → Tells (scan_over v.joint.ended (record v { joint = completed v.joint entries keys }))
completes v entries keys back t = elim (cases_Bool (under_way j)) [
  | inl on ↦ subst Tells (sym (over_on on)) (renote v.trace.strategy v.strategy v.control v.joint.plans (v.joint.ended + 1) (Some keys) (indexes_asked v.query) v.trace.events.items _ _ _ _ first (events_at Scan j (v.joint.ended + 1) (way_lt v.joint.plans (v.joint.ended + 1) (Some keys) on)) (list_tells_on v.trace.strategy v.strategy v.control v.joint.plans v.joint.ended v.joint.list (indexes_asked v.query) keys v.trace.events.items t back on))
  | inr off ↦ subst Tells (sym (over_off off)) (renote_first v.trace.strategy v.strategy (next_control v.strategy v.control (ScanEnded false true)) v.joint.plans (v.joint.ended + 1) (Some keys) (indexes_asked v.query) v.trace.events.items (At (next_control v.strategy v.control (ScanEnded false true)) ∷ []) _ _ first (list_tells_last v.trace.strategy v.strategy v.control v.joint.plans v.joint.ended (v.joint.ended + 1) v.joint.list (indexes_asked v.query) keys v.trace.events.items t back off (omega arith)))
]
  where
    j : Joint
    j = completed v.joint entries keys

    over_on : under_way j ≡ true → scan_over v.joint.ended (record v { joint = j }) ≡ going_on (listed v.joint.ended (record v { joint = j }))
    over_on on = rw on refl

    over_off : under_way j ≡ false → scan_over v.joint.ended (record v { joint = j }) ≡ gone (ScanEnded false true) (listed v.joint.ended (record v { joint = j }))
    over_off off = rw off refl

    first : events_for (λ index. ListOf index (length keys)) (index_of j v.joint.ended) ≡ ListOf (plan_at v.joint.plans v.joint.ended).index (length keys) ∷ []
    first = events_at (λ index. ListOf index (length keys)) j v.joint.ended (way_lt v.joint.plans v.joint.ended v.joint.list (t.way back))

-- the one scan of a short index completed
pub runs_tells : (v : Shape) (j : Joint) (keys : List ℕ) → is_background v.control ≡ true → j.plans ≡ v.joint.plans → j.list ≡ Some keys → v.joint.ended + 1 ≤ j.ended → length v.joint.plans ≤ v.joint.ended + 1 → Tells v → Tells (gone (ScanEnded false true) (listed v.joint.ended (record v { joint = j })))
runs_tells v j keys back p l beyond short t =
    let next = next_control v.strategy v.control (ScanEnded false true) in
    let items = v.trace.events.items in
    let at = v.joint.ended in
    let last : List Event = At next ∷ [] in
    let off = and_left (nat_lt (at + 1) (length v.joint.plans)) (not (is_empty_list (Some keys))) (le-ltb (at + 1) (length v.joint.plans) short) in
    let told = list_tells_last v.trace.strategy v.strategy v.control v.joint.plans at j.ended v.joint.list (indexes_asked v.query) keys items t back off beyond in
    let by_list = subst (λ (o : Option (List ℕ)). TellsOf v.trace.strategy v.strategy next v.joint.plans j.ended o (indexes_asked v.query) (with_events (with_events items (ListOf (plan_at v.joint.plans at).index (list_len o) ∷ [])) last)) (sym l) told in
    let by_plans = subst (λ (ps : List ScanPlan). TellsOf v.trace.strategy v.strategy next ps j.ended j.list (indexes_asked v.query) (with_events (with_events items (ListOf (plan_at ps at).index (list_len j.list) ∷ [])) last)) (sym p) by_list in
    let lt : nat_lt at (length j.plans) ≡ true = ap (λ (ps : List ScanPlan). nat_lt at (length ps)) p ∙ way_lt v.joint.plans at v.joint.list (t.way back) in
    renote_first v.trace.strategy v.strategy next j.plans j.ended j.list (indexes_asked v.query) items last (events_for (λ index. ListOf index (list_len j.list)) (index_of j at)) (ListOf (plan_at j.plans at).index (list_len j.list) ∷ []) (events_at (λ index. ListOf index (list_len j.list)) j at lt) by_plans

-- A verdict is obeyed.

scan_drops : (v : Shape) → is_background v.control ≡ true → Tells v → Tells (ruled AbandonScan v)
scan_drops v back t = elim (cases_Bool (more_behind v.joint)) [
  | inl on ↦ subst Tells (sym (over_on on)) (renote v.trace.strategy v.strategy v.control v.joint.plans (v.joint.ended + 1) v.joint.list (indexes_asked v.query) v.trace.events.items _ _ _ _ first (events_at Scan (abandoned v.joint) (v.joint.ended + 1) (way_lt v.joint.plans (v.joint.ended + 1) v.joint.list on)) (drop_tells_on v.trace.strategy v.strategy v.control v.joint.plans v.joint.ended v.joint.list (indexes_asked v.query) v.trace.events.items t back on))
  | inr off ↦ subst Tells (sym (over_off off)) (renote_first v.trace.strategy v.strategy (next_control v.strategy v.control (Ruled AbandonScan false (is_some v.joint.list))) v.joint.plans (v.joint.ended + 1) v.joint.list (indexes_asked v.query) v.trace.events.items (At (next_control v.strategy v.control (Ruled AbandonScan false (is_some v.joint.list))) ∷ []) _ _ first (drop_tells_last v.trace.strategy v.strategy v.control v.joint.plans v.joint.ended v.joint.list (indexes_asked v.query) v.trace.events.items t back off))
]
  where
    over_on : more_behind v.joint ≡ true → ruled AbandonScan v ≡ going_on (dropping v)
    over_on on = rw on refl

    over_off : more_behind v.joint ≡ false → ruled AbandonScan v ≡ gone (Ruled AbandonScan false (is_some v.joint.list)) (dropping v)
    over_off off = rw off refl

    first : events_for Drop (index_of (abandoned v.joint) v.joint.ended) ≡ Drop (plan_at v.joint.plans v.joint.ended).index ∷ []
    first = events_at Drop (abandoned v.joint) v.joint.ended (way_lt v.joint.plans v.joint.ended v.joint.list (t.way back))

background_drops : (v : Shape) → is_background v.control ≡ true → Tells v → Tells (ruled AbandonBackground v)
background_drops v back t =
    let first = events_at Drop (abandoned v.joint) v.joint.ended (way_lt v.joint.plans v.joint.ended v.joint.list (t.way back)) in
    renote_first v.trace.strategy v.strategy (next_control v.strategy v.control (Ruled AbandonBackground (more_behind v.joint) (is_some v.joint.list))) v.joint.plans (v.joint.ended + 1) v.joint.list (indexes_asked v.query) v.trace.events.items (At (next_control v.strategy v.control (Ruled AbandonBackground (more_behind v.joint) (is_some v.joint.list))) ∷ []) _ _ first (all_tells v.trace.strategy v.strategy v.control v.joint.plans v.joint.ended v.joint.list (indexes_asked v.query) v.trace.events.items (more_behind v.joint) t back refl)

is_it : (now : Control) → building now ≡ true → now ≡ Building
is_it Building h = refl
is_it ForegroundAlone h = absurd (cc)
is_it BackgroundAlone h = absurd (cc)
is_it FinalList h = absurd (cc)
is_it FinalTable h = absurd (cc)
is_it Done h = absurd (cc)

front_stops : (v : Shape) → Tells v → Tells (ruled AbandonForeground v)
front_stops v t = elim (cases_Bool (can_stop v)) [
  | inl on ↦ subst Tells (sym (over_on on)) (by v.control (is_it v.control (first_so (building v.control) (fast_first v.strategy || index_only v.strategy) on)) (second_so (building v.control) (fast_first v.strategy || index_only v.strategy) on) t)
  | inr off ↦ subst Tells (sym (over_off off)) t
]
  where
    over_on : can_stop v ≡ true → ruled AbandonForeground v ≡ gone (Ruled AbandonForeground (more_behind v.joint) (is_some v.joint.list)) (record v { trace = noted v.trace Stop })
    over_on on = rw on refl

    over_off : can_stop v ≡ false → ruled AbandonForeground v ≡ v
    over_off off = rw off refl

    by : (now : Control) → now ≡ Building → (fast_first v.strategy || index_only v.strategy) ≡ true → TellsOf v.trace.strategy v.strategy now v.joint.plans v.joint.ended v.joint.list (indexes_asked v.query) v.trace.events.items → TellsOf v.trace.strategy v.strategy (next_control v.strategy now (Ruled AbandonForeground (more_behind v.joint) (is_some v.joint.list))) v.joint.plans v.joint.ended v.joint.list (indexes_asked v.query) (with_events (with_events v.trace.events.items (Stop ∷ [])) (At (next_control v.strategy now (Ruled AbandonForeground (more_behind v.joint) (is_some v.joint.list))) ∷ []))
    by Building e can t = stop_tells v.trace.strategy v.strategy v.joint.plans v.joint.ended v.joint.list (indexes_asked v.query) v.trace.events.items (more_behind v.joint) t can refl
    by ForegroundAlone e can t = absurd (cc)
    by BackgroundAlone e can t = absurd (cc)
    by FinalList e can t = absurd (cc)
    by FinalTable e can t = absurd (cc)
    by Done e can t = absurd (cc)

ruled_tells : (verdict : Verdict) (v : Shape) → is_background v.control ≡ true → Tells v → Tells (ruled verdict v)
ruled_tells Continue v back t = t
ruled_tells AbandonScan v back t = scan_drops v back t
ruled_tells AbandonForeground v back t = front_stops v t
ruled_tells AbandonBackground v back t = background_drops v back t

-- A piece is accepted.

accepted_tells : (would : ℕ → Facts → Ruling) (state after : ℕ) (v new : Shape) (j : Joint) (entries : List IndexEntry) (next : Option IndexEntry) → is_background v.control ≡ true → under_way v.joint ≡ true → Accepts v.joint j entries next → Obeys would state after v.joint.ended (record v { joint = j }) new → Tells v → Tells new
accepted_tells would state after v new j entries (Some cut) back way e o t =
    let w : Shape = record v { joint = going v.joint entries cut } in
    let goes : Obeyed (nat_eq v.joint.ended v.joint.ended) (under_way v.joint) would state after v.joint.ended w new = subst (λ (x : Joint). Obeys would state after v.joint.ended (record v { joint = x }) new) e o in
    let obeyed : new ≡ ruled (would state (facts_of (account_of w) v.joint.ended)).verdict w = asked (nat_eq v.joint.ended v.joint.ended) (under_way v.joint) w (same_number v.joint.ended) way goes in
    subst Tells (sym obeyed) (ruled_tells (would state (facts_of (account_of w) v.joint.ended)).verdict w back t)
  where
    asked : (a b : Bool) (w : Shape) → a ≡ true → b ≡ true → Obeyed a b would state after v.joint.ended w new → new ≡ ruled (would state (facts_of (account_of w) w.joint.ended)).verdict w
    asked true true w e f o = o.0
    asked true false w e f o = absurd (cc)
    asked false b w e f o = absurd (cc)
accepted_tells would state after v new j entries None back way (keys, _, _, e) o t =
    let w : Shape = record v { joint = completed v.joint entries keys } in
    let over : new ≡ scan_over v.joint.ended w = ended (nat_eq (v.joint.ended + 1) v.joint.ended) (under_way w.joint) w (further v.joint.ended) (subst (λ (x : Joint). Obeys would state after v.joint.ended (record v { joint = x }) new) e o) in
    subst Tells (sym over) (completes v entries keys back t)
  where
    further : (n : ℕ) → nat_eq (n + 1) n ≡ false
    further n = grind (arith, nat_tests)

    ended : (a b : Bool) (w : Shape) → a ≡ false → Obeyed a b would state after v.joint.ended w new → new ≡ scan_over v.joint.ended w
    ended true b w e o = absurd (cc)
    ended false b w e o = o.0

pub given_tells : {E : Type 0} (r : Result Given E) (would : ℕ → Facts → Ruling) (state after : ℕ) (piece : Pieced) (v new : Shape) → IfOk r (λ g. Answers v piece g new) → IfOk r (λ g. GivesOn would state after piece g v new) → OnErr r (new ≡ v) → Tells v → Tells new
given_tells r would state after piece v new a o err t = given_holds r (λ g. Answers v piece g new) (λ g. GivesOn would state after piece g v new) Tells v new (λ a o. accepted_tells would state after v new o.0 piece.entries (held_next v.joint.held) a.back a.awaits.way o.1 o.2 t) (λ asked now o. o.0) a o err t

-- a background step
pub behind_tells : (awaiting : Bool) (would : ℕ → Facts → Ruling) (state after : ℕ) (v new : Shape) → (awaiting ≡ true → is_background v.control ≡ true) → StepsBehind awaiting would state after v new → Tells v → Tells new
behind_tells true would state after v new back s t =
    let taken : Tells (record v { joint = s.taken }) = took s.taken s.leaves.same in
    let (j, accepts, obeys) = s.obeys in
    accepted_tells would state after (record v { joint = s.taken }) new j s.piece.entries (held_next s.taken.held) (back refl) s.awaits.way accepts obeys taken
  where
    took : (j : Joint) → j ≡ record v.joint { held = j.held; counts = counts_read v.joint } → Tells (record v { joint = j })
    took j e = subst (λ (x : Joint). Tells (record v { joint = x })) (sym e) t
behind_tells false would state after v new back s t = subst Tells (sym s.0) t

-- The foreground.

filled_tells : (v : Shape) → (building v.control && (fast_first v.strategy || index_only v.strategy)) ≡ true → Tells v → Tells (filled v)
filled_tells v can t = elim (cases_Bool (length v.delivered == 1024)) [
  | inl on ↦ subst Tells (sym (over_on on)) (by v.strategy v.control can t)
  | inr off ↦ subst Tells (sym (over_off off)) t
]
  where
    over_on : (length v.delivered == 1024) ≡ true → filled v ≡ gone Full (record v { trace = noted v.trace FullEvent })
    over_on on = rw on refl

    over_off : (length v.delivered == 1024) ≡ false → filled v ≡ v
    over_off off = rw off refl

    by : (st : Strategy) (now : Control) → (building now && (fast_first st || index_only st)) ≡ true → TellsOf v.trace.strategy st now v.joint.plans v.joint.ended v.joint.list (indexes_asked v.query) v.trace.events.items → TellsOf v.trace.strategy st (next_control st now Full) v.joint.plans v.joint.ended v.joint.list (indexes_asked v.query) (with_events (with_events v.trace.events.items (FullEvent ∷ [])) (At (next_control st now Full) ∷ []))
    by FastFirst Building can t = full_tells_fast v.trace.strategy v.joint.plans v.joint.ended v.joint.list (indexes_asked v.query) v.trace.events.items t
    by IndexOnly Building can t = full_tells_index v.trace.strategy v.joint.plans v.joint.ended v.joint.list (indexes_asked v.query) v.trace.events.items t
    by Table Building can t = absurd (cc)
    by BackgroundOnly Building can t = absurd (cc)
    by Union Building can t = absurd (cc)
    by Sorted Building can t = absurd (cc)
    by st ForegroundAlone can t = absurd (cc)
    by st BackgroundAlone can t = absurd (cc)
    by st FinalList can t = absurd (cc)
    by st FinalTable can t = absurd (cc)
    by st Done can t = absurd (cc)

front_over : (v : Shape) → is_led v.strategy ≡ true → (building v.control || foreground_alone v.control) ≡ true → Tells v → Tells (gone FrontEnded v)
front_over v led at t = front_tells v.trace.strategy v.strategy v.control v.joint.plans v.joint.ended v.joint.list (indexes_asked v.query) v.trace.events.items t led at (front_row v.strategy v.control led at) (some v.control at)
  where
    some : (now : Control) → (building now || foreground_alone now) ≡ true → 1 ≤ events_left now
    some Building h = omega arith
    some ForegroundAlone h = omega arith
    some BackgroundAlone h = absurd (cc)
    some FinalList h = absurd (cc)
    some FinalTable h = absurd (cc)
    some Done h = absurd (cc)

final_over : (v : Shape) → final v.control ≡ true → Tells v → Tells (gone FinalEnded v)
final_over v at t = final_tells v.trace.strategy v.strategy v.control v.joint.plans v.joint.ended v.joint.list (indexes_asked v.query) v.trace.events.items t at (final_row v.strategy v.control at) (some v.control at)
  where
    some : (now : Control) → final now ≡ true → 1 ≤ events_left now
    some Building h = absurd (cc)
    some ForegroundAlone h = absurd (cc)
    some BackgroundAlone h = absurd (cc)
    some FinalList h = omega arith
    some FinalTable h = omega arith
    some Done h = absurd (cc)

walked : (s : Step Record) (v new : Shape) → is_led v.strategy ≡ true → (building v.control || foreground_alone v.control) ≡ true → new ≡ ended_by FrontEnded s v → Tells v → Tells new
walked (Row r) v new led at e t = subst Tells (sym e) t
walked Working v new led at e t = subst Tells (sym e) t
walked End v new led at e t = subst Tells (sym e) (front_over v led at t)

passed : (s : Step Record) (v new : Shape) → final v.control ≡ true → new ≡ ended_by FinalEnded s v → Tells v → Tells new
passed (Row r) v new at e t = subst Tells (sym e) t
passed Working v new at e t = subst Tells (sym e) t
passed End v new at e t = subst Tells (sym e) (final_over v at t)

remembers : (s : Step Record) (v new : Shape) → (building v.control && (fast_first v.strategy || index_only v.strategy)) ≡ true → (s ≡ End → is_led v.strategy ≡ true) → RemembersBy s v new → Tells v → Tells new
remembers (Row r) v new can led m t = subst Tells (sym m.same) (filled_tells (record v { delivered = new.delivered }) can t)
remembers Working v new can led m t = subst Tells (sym m) t
remembers End v new can led m t = subst Tells (sym m) (front_over v (led refl) (either (building v.control) (fast_first v.strategy || index_only v.strategy) (foreground_alone v.control) can) t)
  where
    either : (a b d : Bool) → (a && b) ≡ true → (a || d) ≡ true
    either a b d h = grind arith

no_end : (only : List (List Atom)) (found : Option Record) → looked only found ≡ End → ⊥
no_end only None e = let bad : Working ≡ End = e in cc
no_end only (Some r) e = go (qualifies only r.values) e
  where
    go : (b : Bool) → (if b then Row r else Working) ≡ End → ⊥
    go true e = let bad : Row r ≡ End = e in cc
    go false e = let bad : Working ≡ End = e in cc

-- a foreground step
pub steps_tells : (would : ℕ → Facts → Ruling) (state after : ℕ) (shown : Shown) (c d : Counts) (s : Step Record) (v new : Shape) → (source v ≡ Ahead → is_led v.strategy ≡ true) → DoesIts would state after shown c d s v new → Tells v → Tells new
steps_tells would state after shown c d s v new led does t = go v.control v.strategy (fresh_of v) refl refl does
  where
    can : (now : Control) (st : Strategy) → building now ≡ true → (fast_first st || index_only st) ≡ true → (building now && (fast_first st || index_only st)) ≡ true
    can now st a b = and_from (building now) (fast_first st || index_only st) a b

    behind : is_background v.control ≡ true → StepsBackground would state after v new → Tells new
    behind back b = behind_tells (is_awaiting v) would state after (record v { borrowed = b.passed }) new (λ h. back) b.does t

    ended_not : {key : ℕ} (s : Step Record) → Borrows key shown c d s v new → s ≡ End → is_led v.strategy ≡ true
    ended_not s b e = absurd (no_end v.query.only (row_at (rows_of v shown) _) (sym b.looks ∙ e))

    go : (now : Control) (st : Strategy) (fresh : Option ℕ) → v.control ≡ now → v.strategy ≡ st → DoesAs (kind_of now st fresh) would state after shown c d s v new → Tells new
    go Building FastFirst (Some key) ec es b = remembers s (record v { borrowed = new.borrowed }) new (can v.control v.strategy (ap building ec) (ap (λ (x : Strategy). fast_first x || index_only x) es)) (λ e. ended_not s b.1 e) b.1.left t
    go Building FastFirst None ec es b = behind (ap is_background ec) b.1
    go Building Table fresh ec es b = behind (ap is_background ec) b.1
    go Building BackgroundOnly fresh ec es b = behind (ap is_background ec) b.1
    go Building Union fresh ec es b = behind (ap is_background ec) b.1
    go Building Sorted fresh ec es b = walked s (record v { front = new.front }) new (ap is_led es) (ap (λ (x : Control). building x || foreground_alone x) ec) b.2 t
    go Building IndexOnly fresh ec es b = remembers s (record v { front = new.front }) new (can v.control v.strategy (ap building ec) (ap (λ (x : Strategy). fast_first x || index_only x) es)) (λ e. ap is_led es) b.1 t
    go ForegroundAlone st fresh ec es b = walked s (record v { front = new.front }) new (led (ap (λ (x : Control). source_of x v.strategy) ec)) (ap (λ (x : Control). building x || foreground_alone x) ec) b.2 t
    go BackgroundAlone st fresh ec es b = behind (ap is_background ec) b.1
    go FinalList st fresh ec es b = passed s (record v { at = new.at }) new (ap final ec) b.2 t
    go FinalTable st fresh ec es b = passed s (record v { last = new.last }) new (ap final ec) b.1 t
    go Done st fresh ec es (_, _, e) = subst Tells (sym e) t

-- What was counted leaves it.

pub counted_tells : (v new : Shape) (c d : Counts) → new ≡ record v { trace = counted v.trace c d } → Tells v → Tells new
counted_tells v new c d e t = subst Tells (sym e) t

-- A take leaves it.

pub taken_tells : (v mid new : Shape) (c d : Counts) → mid ≡ record v { joint = mid.joint } → TakesLeaf v mid.joint → new ≡ record mid { trace = counted mid.trace c d } → Tells v → Tells new
taken_tells v mid new c d m leaves n t = counted_tells mid new c d n (subst Tells (sym m) (by (is_background v.control) mid.joint leaves))
  where
    by : (b : Bool) (j : Joint) → TakesLeafBy b v.joint j → Tells (record v { joint = j })
    by true j l = subst (λ (x : Joint). Tells (record v { joint = x })) (sym l.same) t
    by false j e = subst (λ (x : Joint). Tells (record v { joint = x })) (sym e) t

-- A trace that tells a run is allowed.
pub allowed : (v : Shape) → Tells v → Allowed v.trace (indexes_asked v.query)
allowed v t = run_allowed v.trace (indexes_asked v.query) (subst (λ (st : Strategy). AllowedRun (record v.trace { strategy = st }) (indexes_asked v.query)) (sym t.said) (record {
  planned = indexes_of v.joint.plans;
  known = t.known;
  once = t.once;
  scanned = t.scanned;
  turns = t.turns;
  run = t.run;
  told = t.told;
}))

-- A piece that is handed out is of a scan that was not dropped.
pub undropped_piece : {E : Type 0} (r : Result Taken E) (mid new : Shape) (c d : Counts) → IfOk r (TakesPiece mid) → new ≡ record mid { trace = counted mid.trace c d } → Tells new → IfOk r (IsOfUndropped new)
undropped_piece (Ok (Piece piece)) mid new c d a e t =
    let back : is_background new.control ≡ true = ap (λ (x : Shape). is_background x.control) e ∙ a.back in
    let part = ap (λ (x : Shape). (present x.joint).part) (sym e) in
    (a.awaits.part ∙ part, t.undropped new.joint.ended (omega arith) (ltb-true new.joint.ended (length new.joint.plans) (way_lt new.joint.plans new.joint.ended new.joint.list (t.way back))))
undropped_piece (Ok Nothing) mid new c d a e t = tt
undropped_piece (Err x) mid new c d a e t = tt
