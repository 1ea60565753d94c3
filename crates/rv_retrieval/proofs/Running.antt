-- A trace goes on telling a run of the course, happening by happening.
use Rattle.std.proofs.Common.{◌≡◌, ◌∙◌, ℕ, ◌+◌, ◌*◌, ◌-◌, ◌<◌, ◌≤◌, List, [], ◌∷◌, ◌++◌, Bool, true, false, not, ◌||◌, Option, Some, None, is_some, length, drop, nat_lt, nat_eq, refl, ap, sym, subst, arith, append_assoc, length-append, zero, suc, inl, inr}
use Rattle.std.proofs.lemmas.Bool.{cases_Bool, ltb-true, or_from, ltb-false, and_left}
use Rattle.std.proofs.lemmas.Bool.Decides.{nat_tests}
use Rattle.std.proofs.lemmas.List.Folds.{list_any-append}
use Rattle.std.specs.Cmp.{first_so}
use Rattle.rv_jscan.proofs.Planned.{dropped_one}
use Rattle.rv_judge.proofs.Rooms.{with_room}
use Rattle.rv_value.proofs.Tests.{no_way, left_false, right_false}
use Rattle.rv_judge.specs.declared.events.Control.{Control}
use Rattle.rv_judge.specs.declared.events.Control.TheVariants.{Building, ForegroundAlone, BackgroundAlone, FinalList, FinalTable, Done}
use Rattle.rv_judge.specs.declared.events.Event.{Event}
use Rattle.rv_judge.specs.declared.events.Event.TheVariants.{At, Scan, List as ListOf, Drop, Full as FullEvent, Stop}
use Rattle.rv_judge.specs.declared.events.Happening.{Happening}
use Rattle.rv_judge.specs.declared.events.Happening.TheVariants.{ScanEnded, Ruled, Full, FrontEnded, FinalEnded}
use Rattle.rv_judge.specs.declared.events.Strategy.{Strategy}
use Rattle.rv_judge.specs.declared.events.Strategy.TheVariants.{FastFirst, IndexOnly}
use Rattle.rv_judge.specs.declared.judging.Verdict.TheVariants.{AbandonScan, AbandonForeground, AbandonBackground}
use Rattle.rv_judge.specs.Course.{building, fast_first, final, foreground_alone, has_row, index_only, next_control}
use Rattle.rv_judge.specs.Runs.{EachOnce, IsRun, has_index, MayCome, Standing, Turn, after, begun, events_of, idle, is_more, run_end, run_events, scan_events, start, start_events}
use Rattle.rv_judge.proofs.RunSteps.{IsRun-push, run_end-push, run_events-push}
use Rattle.rv_jscan.specs.declared.jscan.ScanPlan.{ScanPlan}
use Rattle.rv_jscan.specs.Joint.{is_empty_list, plan_at}
use Rattle.rv_retrieval.specs.Accounts.{list_length}
use Rattle.rv_jscan.specs.Planned.{indexes_of}
use Rattle.rv_judge.specs.Drops.{is_drop, was_dropped}
use Rattle.rv_retrieval.specs.Runs.{TellsOf, events_left, goes_on, runs_both, standing_of}
use Rattle.rv_retrieval.specs.Shape.{is_background, is_building, is_led}
use Rattle.rv_judge.specs.Tracing.{with_events}
use Rattle.rv_retrieval.proofs.Turns.{OneTurn, all_rests, drop_all, drop_last, drop_on, drop_rests, final_turn, front_turn, full_fast, full_index, list_last, list_on, list_rests, standing, stop_turn}

-- planned scans are of different indexes
apart_from : (plans : List ScanPlan) (i k : ℕ) → has_index i (indexes_of plans) ≡ false → k < length plans → nat_eq i (plan_at plans k).index ≡ false
apart_from [] i k h l = absurd (omega arith)
apart_from (p ∷ plans) i zero h l = flipped p.index i (left_false (nat_eq p.index i) (has_index i (indexes_of plans)) h)
  where
    flipped : (x y : ℕ) → nat_eq x y ≡ false → nat_eq y x ≡ false
    flipped x y h = grind (arith, nat_tests)
apart_from (p ∷ plans) i (suc k) h l = apart_from plans i k (right_false (nat_eq p.index i) (has_index i (indexes_of plans)) h) (omega arith)

apart : (plans : List ScanPlan) (i k : ℕ) → EachOnce (indexes_of plans) → i < k → k < length plans → nat_eq (plan_at plans i).index (plan_at plans k).index ≡ false
apart [] i k once low high = absurd (omega arith)
apart (p ∷ plans) i zero once low high = absurd (omega arith)
apart (p ∷ plans) zero (suc k) once low high = apart_from plans p.index k once.0 (omega arith)
apart (p ∷ plans) (suc i) (suc k) once low high = apart plans i k once.1 (omega arith) (omega arith)

drop_only : (plans : List ScanPlan) (ended k : ℕ) (e : Event) → EachOnce (indexes_of plans) → ended + 1 ≤ k → k < length plans → is_drop (plan_at plans k).index e ≡ false → was_dropped (plan_at plans k).index (Drop (plan_at plans ended).index ∷ e ∷ []) ≡ false
drop_only plans ended k e once low high none = or_from (nat_eq (plan_at plans ended).index (plan_at plans k).index) (is_drop (plan_at plans k).index e || false) (apart plans ended k once (omega arith) high) (or_from (is_drop (plan_at plans k).index e) false none refl)

-- One turn more.

pub record Went (st : Strategy) (planned : List ℕ) (events : List Event) (turns : List Turn) (to : Standing) : Type 0 where
  pub run : IsRun st (start st planned) turns
  pub told : events ≡ start_events st planned ++ run_events st (start st planned) turns
  pub ends : run_end st (start st planned) turns ≡ to

pub one_more : (st : Strategy) (planned : List ℕ) (events : List Event) (turns : List Turn) (s to : Standing) (h : Happening) (keys : ℕ) (es : List Event) → Went st planned events turns s → MayCome st s h keys → OneTurn st s h keys es to → Went st planned (events ++ es) (turns ++ record { happening = h; keys = keys } ∷ []) to
one_more st planned events turns s to h keys es w comes l =
    let first = start st planned in
    let turn : Turn = record { happening = h; keys = keys } in
    let tail : run_events st first (turns ++ turn ∷ []) ≡ run_events st first turns ++ es = run_events-push st first turns turn ∙ ap (λ (x : Standing). run_events st first turns ++ events_of st x turn) w.ends ∙ ap (λ (x : List Event). run_events st first turns ++ x) l.told in
    record {
      run = IsRun-push st first turns turn w.run (subst (λ (x : Standing). MayCome st x h keys) (sym w.ends) comes);
      told = ap (λ (x : List Event). x ++ es) w.told ∙ append_assoc (start_events st planned) (run_events st first turns) es ∙ ap (λ (x : List Event). start_events st planned ++ x) (sym tail);
      ends = run_end-push st first turns turn ∙ ap (λ (x : Standing). after st x turn) w.ends ∙ l.moves;
    }

-- where a turn leads, and what is known of it
pub record Arrives (st : Strategy) (next : Control) (plans : List ScanPlan) (ended : ℕ) (list : Option (List ℕ)) (to : Standing) : Type 0 where
  pub at : to.control ≡ next
  pub running : is_background next ≡ true → to ≡ standing_of next plans ended list
  pub way : is_background next ≡ true → goes_on plans ended list ≡ true
  pub both : is_building next ≡ true → runs_both st ≡ true

pub next_tells : (named st : Strategy) (now next : Control) (plans : List ScanPlan) (ended further : ℕ) (list more : Option (List ℕ)) (indexes : List ℕ) (events own led : List Event) (s to : Standing) (h : Happening) (keys : ℕ) → (t : TellsOf named st now plans ended list indexes events) → t.standing ≡ s → MayCome st s h keys → OneTurn st s h keys (own ++ led) to → Arrives st next plans further more to → length events + (length own + length led) + (2 * (length plans - further) + events_left next) ≤ 32 → ended ≤ further → ((k : ℕ) → further ≤ k → k < length plans → was_dropped (plan_at plans k).index (own ++ led) ≡ false) → TellsOf named st next plans further more indexes (with_events (with_events events own) led)
next_tells named st now next plans ended further list more indexes events own led s to h keys t e comes l a room onward fresh =
    let went = one_more st (indexes_of plans) events t.turns s to h keys (own ++ led) (record { run = t.run; told = t.told; ends = t.ends ∙ e }) comes l in
    let size : length (events ++ own) ≡ length events + length own = length-append events own in
    let all : with_events (with_events events own) led ≡ events ++ (own ++ led) = ap (λ (x : List Event). with_events x led) (with_room events own (omega arith)) ∙ with_room (events ++ own) led (omega arith) ∙ append_assoc events own led in
    let len : length (events ++ (own ++ led)) ≡ length events + (length own + length led) = length-append events (own ++ led) ∙ ap (λ (x : ℕ). length events + x) (length-append own led) in
    let longer = ap length all in
    record {
      standing = to;
      turns = t.turns ++ record { happening = h; keys = keys } ∷ [];
      run = went.run;
      told = all ∙ went.told;
      ends = went.ends;
      at = a.at;
      running = a.running;
      said = t.said;
      way = a.way;
      both = a.both;
      room = omega arith;
      scanned = t.scanned;
      once = t.once;
      known = t.known;
      undropped = λ k low high. ap (was_dropped (plan_at plans k).index) all ∙ list_any-append (is_drop (plan_at plans k).index) events (own ++ led) ∙ or_from (was_dropped (plan_at plans k).index events) (was_dropped (plan_at plans k).index (own ++ led)) (t.undropped k (omega arith) high) (fresh k low high);
    }

-- Whether there is more.

dropped_all : (plans : List ScanPlan) (k : ℕ) → length plans ≤ k → indexes_of (drop k plans) ≡ []
dropped_all [] zero l = refl
dropped_all [] (suc k) l = refl
dropped_all (p ∷ plans) zero l = absurd (omega arith)
dropped_all (p ∷ plans) (suc k) l = dropped_all plans k (omega arith)

pub more_is : (plans : List ScanPlan) (k : ℕ) (list : Option (List ℕ)) → goes_on plans k list ≡ is_more (indexes_of (drop k plans)) (list_length list)
more_is plans k list = elim (cases_Bool (nat_lt k (length plans))) [
  | inl less ↦ some (ltb-true k (length plans) less) less list
  | inr none ↦ rw (dropped_all plans k (ltb-false k (length plans) none)) (and_left (nat_lt k (length plans)) (not (is_empty_list list)) none)
]
  where
    keyed : (n : ℕ) → not (nat_eq n 0) ≡ nat_lt 0 n
    keyed n = grind (arith, nat_tests)

    some : k < length plans → nat_lt k (length plans) ≡ true → (list : Option (List ℕ)) → goes_on plans k list ≡ is_more (indexes_of (drop k plans)) (list_length list)
    some l less None = rw (dropped_one plans k l) (rw less refl)
    some l less (Some keys) = rw (dropped_one plans k l) (rw less (keyed (length keys)))

way_less : (plans : List ScanPlan) (k : ℕ) (list : Option (List ℕ)) → goes_on plans k list ≡ true → k < length plans
way_less plans k list h = ltb-true k (length plans) (first_so (nat_lt k (length plans)) (not (is_empty_list list)) h)

-- where the next scan begins
begun_is : (now : Control) (plans : List ScanPlan) (k : ℕ) (list : Option (List ℕ)) → k < length plans → begun now (indexes_of (drop k plans)) (list_length list) ≡ standing_of now plans k list
begun_is now plans k list l = rw (dropped_one plans k l) refl

arrives_on : (st : Strategy) (now : Control) (plans : List ScanPlan) (k : ℕ) (list : Option (List ℕ)) → goes_on plans k list ≡ true → (is_building now ≡ true → runs_both st ≡ true) → Arrives st now plans k list (standing_of now plans k list)
arrives_on st now plans k list way both = record { at = refl; running = λ h. refl; way = λ h. way; both = both }

arrives_off : (st : Strategy) (next : Control) (plans : List ScanPlan) (k : ℕ) (list : Option (List ℕ)) (to : Standing) → to.control ≡ next → is_background next ≡ false → Arrives st next plans k list to
arrives_off st next plans k list to e off = record {
  at = e;
  running = λ h. no_way (sym h ∙ off);
  way = λ h. no_way (sym h ∙ off);
  both = λ h. no_way (sym (back next h) ∙ off);
}
  where
    back : (c : Control) → is_building c ≡ true → is_background c ≡ true
    back Building h = refl
    back ForegroundAlone h = absurd (cc)
    back BackgroundAlone h = absurd (cc)
    back FinalList h = absurd (cc)
    back FinalTable h = absurd (cc)
    back Done h = absurd (cc)

left_off : (c : Control) → is_background c ≡ false → events_left c ≤ 1
left_off Building h = absurd (cc)
left_off ForegroundAlone h = omega arith
left_off BackgroundAlone h = absurd (cc)
left_off FinalList h = omega arith
left_off FinalTable h = omega arith
left_off Done h = omega arith

left_on : (c : Control) → is_background c ≡ true → 2 ≤ events_left c
left_on Building h = omega arith
left_on ForegroundAlone h = absurd (cc)
left_on BackgroundAlone h = omega arith
left_on FinalList h = absurd (cc)
left_on FinalTable h = absurd (cc)
left_on Done h = absurd (cc)

-- A scan completes.

pub list_tells_on : (named st : Strategy) (now : Control) (plans : List ScanPlan) (ended : ℕ) (list : Option (List ℕ)) (indexes keys : List ℕ) (events : List Event) → TellsOf named st now plans ended list indexes events → is_background now ≡ true → goes_on plans (ended + 1) (Some keys) ≡ true → TellsOf named st now plans (ended + 1) (Some keys) indexes (with_events (with_events events (ListOf (plan_at plans ended).index (length keys) ∷ [])) (Scan (plan_at plans (ended + 1)).index ∷ []))
list_tells_on named st now plans ended list indexes keys events t back way =
    let further = way_less plans (ended + 1) (Some keys) way in
    let is = begun_is now plans (ended + 1) (Some keys) further in
    let one = list_on st now (plan_at plans ended).index (indexes_of (drop (ended + 1) plans)) (list_length list) (length keys) back t.both in
    let s = standing_of now plans ended list in
    let moved : OneTurn st s (ScanEnded true true) (length keys) (ListOf (plan_at plans ended).index (length keys) ∷ Scan (plan_at plans (ended + 1)).index ∷ []) (standing_of now plans (ended + 1) (Some keys)) = subst (λ (x : Standing). OneTurn st s (ScanEnded true true) (length keys) (ListOf (plan_at plans ended).index (length keys) ∷ scan_events x.scan) x) is one in
    let room = t.room in
    next_tells named st now now plans ended (ended + 1) list (Some keys) indexes events (ListOf (plan_at plans ended).index (length keys) ∷ []) (Scan (plan_at plans (ended + 1)).index ∷ []) s (standing_of now plans (ended + 1) (Some keys)) (ScanEnded true true) (length keys) t (t.running back) (refl, sym way ∙ more_is plans (ended + 1) (Some keys), refl) moved (arrives_on st now plans (ended + 1) (Some keys) way t.both) (omega arith) (omega arith) (λ k low high. refl)

pub list_tells_last : (named st : Strategy) (now : Control) (plans : List ScanPlan) (ended further : ℕ) (list : Option (List ℕ)) (indexes keys : List ℕ) (events : List Event) → TellsOf named st now plans ended list indexes events → is_background now ≡ true → goes_on plans (ended + 1) (Some keys) ≡ false → ended + 1 ≤ further → TellsOf named st (next_control st now (ScanEnded false true)) plans further (Some keys) indexes (with_events (with_events events (ListOf (plan_at plans ended).index (length keys) ∷ [])) (At (next_control st now (ScanEnded false true)) ∷ []))
list_tells_last named st now plans ended further list indexes keys events t back way beyond =
    let next = next_control st now (ScanEnded false true) in
    let one = list_last st now (plan_at plans ended).index (indexes_of (drop (ended + 1) plans)) (list_length list) (length keys) back t.both in
    let off = list_rests st now back t.both in
    let room = t.room in
    let under = way_less plans ended list (t.way back) in
    let on = left_on now back in
    let one_left = left_off next off in
    next_tells named st now next plans ended further list (Some keys) indexes events (ListOf (plan_at plans ended).index (length keys) ∷ []) (At next ∷ []) (standing_of now plans ended list) (idle next (indexes_of (drop (ended + 1) plans)) (Some (length keys))) (ScanEnded false true) (length keys) t (t.running back) (refl, sym way ∙ more_is plans (ended + 1) (Some keys), refl) one (arrives_off st next plans further (Some keys) _ refl off) (omega arith) (omega arith) (λ k low high. refl)

-- A scan is dropped.

some_is : (list : Option (List ℕ)) → is_some list ≡ is_some (list_length list)
some_is None = refl
some_is (Some keys) = refl

pub drop_tells_on : (named st : Strategy) (now : Control) (plans : List ScanPlan) (ended : ℕ) (list : Option (List ℕ)) (indexes : List ℕ) (events : List Event) → TellsOf named st now plans ended list indexes events → is_background now ≡ true → goes_on plans (ended + 1) list ≡ true → TellsOf named st now plans (ended + 1) list indexes (with_events (with_events events (Drop (plan_at plans ended).index ∷ [])) (Scan (plan_at plans (ended + 1)).index ∷ []))
drop_tells_on named st now plans ended list indexes events t back way =
    let further = way_less plans (ended + 1) list way in
    let is = begun_is now plans (ended + 1) list further in
    let one = drop_on st now (plan_at plans ended).index (indexes_of (drop (ended + 1) plans)) (list_length list) (is_some list) back t.both in
    let s = standing_of now plans ended list in
    let moved : OneTurn st s (Ruled AbandonScan true (is_some list)) 0 (Drop (plan_at plans ended).index ∷ Scan (plan_at plans (ended + 1)).index ∷ []) (standing_of now plans (ended + 1) list) = subst (λ (x : Standing). OneTurn st s (Ruled AbandonScan true (is_some list)) 0 (Drop (plan_at plans ended).index ∷ scan_events x.scan) x) is one in
    let room = t.room in
    next_tells named st now now plans ended (ended + 1) list list indexes events (Drop (plan_at plans ended).index ∷ []) (Scan (plan_at plans (ended + 1)).index ∷ []) s (standing_of now plans (ended + 1) list) (Ruled AbandonScan true (is_some list)) 0 t (t.running back) (refl, sym way ∙ more_is plans (ended + 1) list, some_is list) moved (arrives_on st now plans (ended + 1) list way t.both) (omega arith) (omega arith) (λ k low high. drop_only plans ended k (Scan (plan_at plans (ended + 1)).index) t.once low high refl)

pub drop_tells_last : (named st : Strategy) (now : Control) (plans : List ScanPlan) (ended : ℕ) (list : Option (List ℕ)) (indexes : List ℕ) (events : List Event) → TellsOf named st now plans ended list indexes events → is_background now ≡ true → goes_on plans (ended + 1) list ≡ false → TellsOf named st (next_control st now (Ruled AbandonScan false (is_some list))) plans (ended + 1) list indexes (with_events (with_events events (Drop (plan_at plans ended).index ∷ [])) (At (next_control st now (Ruled AbandonScan false (is_some list))) ∷ []))
drop_tells_last named st now plans ended list indexes events t back way =
    let next = next_control st now (Ruled AbandonScan false (is_some list)) in
    let one = drop_last st now (plan_at plans ended).index (indexes_of (drop (ended + 1) plans)) (list_length list) (is_some list) back t.both in
    let off = drop_rests st now (is_some list) back t.both in
    let room = t.room in
    let under = way_less plans ended list (t.way back) in
    let on = left_on now back in
    let one_left = left_off next off in
    next_tells named st now next plans ended (ended + 1) list list indexes events (Drop (plan_at plans ended).index ∷ []) (At next ∷ []) (standing_of now plans ended list) (idle next (indexes_of (drop (ended + 1) plans)) (list_length list)) (Ruled AbandonScan false (is_some list)) 0 t (t.running back) (refl, sym way ∙ more_is plans (ended + 1) list, some_is list) one (arrives_off st next plans (ended + 1) list _ refl off) (omega arith) (omega arith) (λ k low high. drop_only plans ended k (At next) t.once low high refl)

pub all_tells : (named st : Strategy) (now : Control) (plans : List ScanPlan) (ended : ℕ) (list : Option (List ℕ)) (indexes : List ℕ) (events : List Event) (more : Bool) → TellsOf named st now plans ended list indexes events → is_background now ≡ true → more ≡ goes_on plans (ended + 1) list → TellsOf named st (next_control st now (Ruled AbandonBackground more (is_some list))) plans (ended + 1) list indexes (with_events (with_events events (Drop (plan_at plans ended).index ∷ [])) (At (next_control st now (Ruled AbandonBackground more (is_some list))) ∷ []))
all_tells named st now plans ended list indexes events more t back way =
    let next = next_control st now (Ruled AbandonBackground more (is_some list)) in
    let one = drop_all st now (plan_at plans ended).index (indexes_of (drop (ended + 1) plans)) (list_length list) more (is_some list) back t.both in
    let off = all_rests st now more (is_some list) back t.both in
    let room = t.room in
    let under = way_less plans ended list (t.way back) in
    let on = left_on now back in
    let one_left = left_off next off in
    next_tells named st now next plans ended (ended + 1) list list indexes events (Drop (plan_at plans ended).index ∷ []) (At next ∷ []) (standing_of now plans ended list) (idle next (indexes_of (drop (ended + 1) plans)) (list_length list)) (Ruled AbandonBackground more (is_some list)) 0 t (t.running back) (refl, way ∙ more_is plans (ended + 1) list, some_is list) one (arrives_off st next plans (ended + 1) list _ refl off) (omega arith) (omega arith) (λ k low high. drop_only plans ended k (At next) t.once low high refl)

-- The foreground is stopped.

pub stop_tells : (named st : Strategy) (plans : List ScanPlan) (ended : ℕ) (list : Option (List ℕ)) (indexes : List ℕ) (events : List Event) (more : Bool) → TellsOf named st Building plans ended list indexes events → (fast_first st || index_only st) ≡ true → more ≡ goes_on plans (ended + 1) list → TellsOf named st (next_control st Building (Ruled AbandonForeground more (is_some list))) plans ended list indexes (with_events (with_events events (Stop ∷ [])) (At (next_control st Building (Ruled AbandonForeground more (is_some list))) ∷ []))
stop_tells named st plans ended list indexes events more t can way =
    let next = next_control st Building (Ruled AbandonForeground more (is_some list)) in
    let one = stop_turn st (plan_at plans ended).index (indexes_of (drop (ended + 1) plans)) (list_length list) more (is_some list) can in
    let is : next ≡ BackgroundAlone = one.1 in
    let room = t.room in
    let left : events_left next ≡ 2 = ap events_left is in
    let arrives : Arrives st next plans ended list (standing_of BackgroundAlone plans ended list) = subst (λ (x : Control). Arrives st x plans ended list (standing_of BackgroundAlone plans ended list)) (sym is) (record { at = refl; running = λ h. refl; way = λ h. t.way refl; both = λ h. absurd (cc) }) in
    next_tells named st Building next plans ended ended list list indexes events (Stop ∷ []) (At next ∷ []) (standing_of Building plans ended list) (standing_of BackgroundAlone plans ended list) (Ruled AbandonForeground more (is_some list)) 0 t (t.running refl) (refl, way ∙ more_is plans (ended + 1) list, some_is list) one.0 arrives (omega arith) (omega arith) (λ k low high. refl)

-- The buffer is full.

pub full_tells_fast : (named : Strategy) (plans : List ScanPlan) (ended : ℕ) (list : Option (List ℕ)) (indexes : List ℕ) (events : List Event) → TellsOf named FastFirst Building plans ended list indexes events → TellsOf named FastFirst BackgroundAlone plans ended list indexes (with_events (with_events events (FullEvent ∷ [])) (At BackgroundAlone ∷ []))
full_tells_fast named plans ended list indexes events t =
    let one = full_fast (plan_at plans ended).index (indexes_of (drop (ended + 1) plans)) (list_length list) in
    let room = t.room in
    next_tells named FastFirst Building BackgroundAlone plans ended ended list list indexes events (FullEvent ∷ []) (At BackgroundAlone ∷ []) (standing_of Building plans ended list) (standing_of BackgroundAlone plans ended list) Full 0 t (t.running refl) refl one (record { at = refl; running = λ h. refl; way = λ h. t.way refl; both = λ h. absurd (cc) }) (omega arith) (omega arith) (λ k low high. refl)

pub full_tells_index : (named : Strategy) (plans : List ScanPlan) (ended : ℕ) (list : Option (List ℕ)) (indexes : List ℕ) (events : List Event) → TellsOf named IndexOnly Building plans ended list indexes events → TellsOf named IndexOnly ForegroundAlone plans ended list indexes (with_events (with_events events (FullEvent ∷ [])) (At ForegroundAlone ∷ []))
full_tells_index named plans ended list indexes events t =
    let one = full_index (plan_at plans ended).index (indexes_of (drop (ended + 1) plans)) (list_length list) in
    let room = t.room in
    next_tells named IndexOnly Building ForegroundAlone plans ended ended list list indexes events (FullEvent ∷ []) (At ForegroundAlone ∷ []) (standing_of Building plans ended list) (idle ForegroundAlone (indexes_of (drop (ended + 1) plans)) (list_length list)) Full 0 t (t.running refl) refl one (arrives_off IndexOnly ForegroundAlone plans ended list _ refl refl) (omega arith) (omega arith) (λ k low high. refl)

-- The source is at its end.

at_is : (s : Standing) (c : Control) → s.control ≡ c → s ≡ standing c s.scan s.ahead s.listed
at_is s c e = ap (λ (x : Control). standing x s.scan s.ahead s.listed) e

pub front_tells : (named st : Strategy) (now : Control) (plans : List ScanPlan) (ended : ℕ) (list : Option (List ℕ)) (indexes : List ℕ) (events : List Event) → TellsOf named st now plans ended list indexes events → is_led st ≡ true → (building now || foreground_alone now) ≡ true → has_row st now FrontEnded ≡ true → 1 ≤ events_left now → TellsOf named st (next_control st now FrontEnded) plans ended list indexes (with_events events (At (next_control st now FrontEnded) ∷ []))
front_tells named st now plans ended list indexes events t led at row some =
    let next = next_control st now FrontEnded in
    let s = standing now t.standing.scan t.standing.ahead t.standing.listed in
    let one = front_turn st now t.standing.scan t.standing.ahead t.standing.listed led at in
    let is : next ≡ Done = one.1 in
    let room = t.room in
    let left : events_left next ≡ 0 = ap events_left is in
    let moved : OneTurn st s FrontEnded 0 (At next ∷ []) (idle Done t.standing.ahead t.standing.listed) = subst (λ (x : Control). OneTurn st s FrontEnded 0 (At x ∷ []) (idle Done t.standing.ahead t.standing.listed)) (sym is) one.0 in
    next_tells named st now next plans ended ended list list indexes events [] (At next ∷ []) s (idle Done t.standing.ahead t.standing.listed) FrontEnded 0 t (at_is t.standing now t.at) row moved (subst (λ (x : Control). Arrives st x plans ended list (idle Done t.standing.ahead t.standing.listed)) (sym is) (arrives_off st Done plans ended list _ refl refl)) (omega arith) (omega arith) (λ k low high. refl)

pub final_tells : (named st : Strategy) (now : Control) (plans : List ScanPlan) (ended : ℕ) (list : Option (List ℕ)) (indexes : List ℕ) (events : List Event) → TellsOf named st now plans ended list indexes events → final now ≡ true → has_row st now FinalEnded ≡ true → 1 ≤ events_left now → TellsOf named st (next_control st now FinalEnded) plans ended list indexes (with_events events (At (next_control st now FinalEnded) ∷ []))
final_tells named st now plans ended list indexes events t at row some =
    let next = next_control st now FinalEnded in
    let s = standing now t.standing.scan t.standing.ahead t.standing.listed in
    let one = final_turn st now t.standing.scan t.standing.ahead t.standing.listed at in
    let is : next ≡ Done = one.1 in
    let room = t.room in
    let left : events_left next ≡ 0 = ap events_left is in
    let moved : OneTurn st s FinalEnded 0 (At next ∷ []) (idle Done t.standing.ahead t.standing.listed) = subst (λ (x : Control). OneTurn st s FinalEnded 0 (At x ∷ []) (idle Done t.standing.ahead t.standing.listed)) (sym is) one.0 in
    next_tells named st now next plans ended ended list list indexes events [] (At next ∷ []) s (idle Done t.standing.ahead t.standing.listed) FinalEnded 0 t (at_is t.standing now t.at) row moved (subst (λ (x : Control). Arrives st x plans ended list (idle Done t.standing.ahead t.standing.listed)) (sym is) (arrives_off st Done plans ended list _ refl refl)) (omega arith) (omega arith) (λ k low high. refl)
