-- A race's trace goes on telling a run of the course, with each piece, each end of a scan and each verdict.
use Rattle.std.proofs.Common.{◌≡◌, ◌⊎◌, ◌∙◌, ℕ, ◌+◌, ◌-◌, ◌<◌, ◌≤◌, List, [], ◌∷◌, ◌++◌, Bool, true, false, not, Option, Some, None, is_some, IfSome, length, drop, take, min, nat_lt, nat_eq, refl, ap, sym, subst, arith, append_assoc, length-append, inl, inr, Result, Ok, Err, IfOk, OnErr}
use Rattle.std.specs.List.{list_all}
use Rattle.std.proofs.lemmas.Bool.{cases_Bool, and_from}
use Rattle.std.proofs.lemmas.Bool.Decides.{nat_tests}
use Rattle.std.proofs.lemmas.List.{map-append}
use Rattle.std.proofs.lemmas.List.Folds.{list_all-append}
use Rattle.std.specs.Cmp.{first_so, second_so}
use Rattle.rv_judge.proofs.Rooms.{with_room}
use Rattle.rv_jscan.proofs.Planned.{dropped_one, index_known}
use Rattle.rv_value.specs.declared.record.IndexEntry.{IndexEntry}
use Rattle.rv_value.proofs.Tests.{some_at}
use Rattle.rv_judge.specs.declared.counting.Counts.{Counts}
use Rattle.rv_judge.specs.declared.events.Control.{Control}
use Rattle.rv_judge.specs.declared.events.Control.TheVariants.{Building, ForegroundAlone, BackgroundAlone, FinalList, FinalTable, Done}
use Rattle.rv_judge.specs.declared.events.Event.{Event}
use Rattle.rv_judge.specs.declared.events.Event.TheVariants.{At, Scan, Drop}
use Rattle.rv_judge.specs.declared.events.Happening.{Happening}
use Rattle.rv_judge.specs.declared.events.Happening.TheVariants.{ScanEnded, Ruled, FinalEnded}
use Rattle.rv_judge.specs.declared.events.Strategy.{Strategy}
use Rattle.rv_judge.specs.declared.events.Strategy.TheVariants.{BackgroundOnly}
use Rattle.rv_judge.specs.declared.judging.Facts.{Facts}
use Rattle.rv_judge.specs.declared.judging.Verdict.{Verdict}
use Rattle.rv_judge.specs.declared.judging.Verdict.TheVariants.{Continue, AbandonScan, AbandonForeground, AbandonBackground}
use Rattle.rv_judge.specs.Course.{final, next_control}
use Rattle.rv_judge.specs.Runs.{Allowed, EachOnce, MayCome, Standing, begun as begins, has_index, idle, run_end, start}
use Rattle.rv_judge.specs.Tracing.{counted, with_events}
use Rattle.rv_judge.specs.Verdicts.{Ruling}
use Rattle.rv_jscan.specs.declared.jscan.Given.{Given}
use Rattle.rv_jscan.specs.declared.jscan.ScanPlan.{ScanPlan}
use Rattle.rv_jscan.specs.declared.jscan.Taken.{Taken}
use Rattle.rv_jscan.specs.declared.jscan.Taken.TheVariants.{Piece, Nothing}
use Rattle.rv_jscan.specs.Joint.{plan_at}
use Rattle.rv_jscan.specs.Pieces.{Pieced}
use Rattle.rv_jscan.specs.Steps.{held_next}
use Rattle.rv_race.specs.declared.running.Runner.{Runner}
use Rattle.rv_race.specs.declared.running.Running.{Running}
use Rattle.rv_race.specs.Given.{Answers, TakesPiece, turn_lane, turn_scan}
use Rattle.rv_race.specs.Raced.{Raced}
use Rattle.rv_final.specs.Shell.{scanning, IsFinal}
use Rattle.rv_race.specs.Rulings.{GivesOn, Obeys, accepted, dropped, ended, going_on, gone, index_at, listed, more, narrowed_by, passed_on, ruled, stopped, told_over}
use Rattle.rv_jscan.specs.Planned.{indexes_of}
use Rattle.rv_judge.specs.Drops.{was_dropped}
use Rattle.rv_judge.proofs.Indexes.{front_once}
use Rattle.rv_race.specs.Runs.{Ended, IsOfUndropped, Placed, Tells, TellsBy, TellsOver, TellsRacing, ended_indexes, events_left, is_keyed, keyed, later, left_by, left_of, list_length, listed_by, outcome, told_ends}
use Rattle.rv_race.specs.Ways.{advanced, followed, followed_by, has_next, joined, lower, lower_of, turned, turned_to}
use Rattle.rv_final.proofs.Endings.{final_done}
use Rattle.rv_final.proofs.Givings.{given_holds}
use Rattle.rv_final.proofs.Shells.{only_scanning}
use Rattle.rv_race.proofs.Switches.{over_as}
use Rattle.rv_race.proofs.Traces.{OneTurn, chain_went, drop_last, final_of, final_turn, has_scans, last_off, list_last, listed_more, one_more, once_apart, once_swap, so_far, stop_last, told_length, told_more, turns_of, undropped}
use Rattle.rv_race.proofs.Ways.{advanced_as, followed_as}

-- THE SCANS THAT ARE LEFT

-- the other scan stands beside none
followed_alone : (w : Running) → (followed w).other ≡ None
followed_alone w = by w.other
  where
    by : (o : Option Runner) → (followed_by o w).other ≡ None
    by None = refl
    by (Some other) = refl

-- a scan that is over leaves those that were left behind it
left_followed : (plans : List ScanPlan) (w : Running) → has_next (length plans) w ≡ true → left_of plans w ≡ (plan_at plans w.turn.scan).index ∷ left_of plans (followed w)
left_followed plans w h = followed_as (λ v. left_of plans w ≡ (plan_at plans w.turn.scan).index ∷ left_of plans v) (length plans) w h
    (λ other e. ap (λ (o : Option Runner). left_by plans w.turn o w.next) e)
    (λ e l. ap (λ (o : Option Runner). left_by plans w.turn o w.next) e ∙ ap (λ (is : List ℕ). (plan_at plans w.turn.scan).index ∷ is) (dropped_one plans w.next l))

left_joined : (plans : List ScanPlan) (v : Running) → v.other ≡ None → v.next < length plans → left_of plans v ≡ left_of plans (joined v)
left_joined plans v e l = ap (λ (o : Option Runner). left_by plans v.turn o v.next) e ∙ ap (λ (is : List ℕ). (plan_at plans v.turn.scan).index ∷ is) (dropped_one plans v.next l)

left_advanced : (plans : List ScanPlan) (listed : Bool) (w : Running) → has_next (length plans) w ≡ true → left_of plans w ≡ (plan_at plans w.turn.scan).index ∷ left_of plans (advanced listed (length plans) w)
left_advanced plans listed w h =
    let alone = left_followed plans w h in
    advanced_as (λ v. left_of plans w ≡ (plan_at plans w.turn.scan).index ∷ left_of plans v) listed (length plans) w alone (λ l. alone ∙ ap (λ (is : List ℕ). (plan_at plans w.turn.scan).index ∷ is) (left_joined plans (followed w) (followed_alone w) l))

placed_advanced : (planned : ℕ) (listed : Bool) (w : Running) → Placed planned w → has_next planned w ≡ true → Placed planned (advanced listed planned w)
placed_advanced planned listed w p h = advanced_as (Placed planned) listed planned w alone (λ l. record {
  turn_planned = alone.turn_planned;
  turn_begun = let below = alone.turn_begun in omega arith;
  other_planned = l;
  other_begun = next_less (followed w).next;
  next_planned = omega (arith, l);
})
  where
    next_less : (n : ℕ) → n < n + 1
    next_less n = omega arith

    alone : Placed planned (followed w)
    alone = followed_as (Placed planned) planned w h
        (λ other e. record {
          turn_planned = some_at (λ (o : Runner). o.scan < planned) w.other other e p.other_planned;
          turn_begun = some_at (λ (o : Runner). o.scan < w.next) w.other other e p.other_begun;
          other_planned = tt;
          other_begun = tt;
          next_planned = p.next_planned;
        })
        (λ e l. record { turn_planned = l; turn_begun = next_less w.next; other_planned = tt; other_begun = tt; next_planned = omega (arith, l) })

-- the scan that has the turn behind one that is over is the lower one
lower_advanced : (planned : ℕ) (listed : Bool) (w : Running) → Placed planned w → has_next planned w ≡ true → lower (advanced listed planned w) ≡ (advanced listed planned w).turn.scan
lower_advanced planned listed w p h = advanced_as (λ v. lower v ≡ v.turn.scan) listed planned w (ap (lower_of (followed w).turn) (followed_alone w)) (λ l. let below = begun_turn in least (followed w).turn.scan (followed w).next below)
  where
    least : (a b : ℕ) → a < b → min a b ≡ a
    least a b l = omega arith

    begun_turn : (followed w).turn.scan < (followed w).next
    begun_turn = followed_as (λ v. v.turn.scan < v.next) planned w h (λ other e. some_at (λ (o : Runner). o.scan < w.next) w.other other e p.other_begun) (λ e l. omega arith)

-- the turn passes over
lower_turned : (w : Running) → lower (turned w) ≡ lower w
lower_turned w = by w.other refl
  where
    flips : (a b : ℕ) → min a b ≡ min b a
    flips a b = omega arith

    by : (o : Option Runner) → w.other ≡ o → lower (turned_to o w) ≡ lower w
    by None e = refl
    by (Some other) e = flips other.scan w.turn.scan ∙ sym (ap (lower_of w.turn) e)

placed_turned : (planned : ℕ) (w : Running) → Placed planned w → Placed planned (turned w)
placed_turned planned w p = by w.other p.other_planned p.other_begun
  where
    by : (o : Option Runner) → IfSome o (λ x. x.scan < planned) → IfSome o (λ x. x.scan < w.next) → Placed planned (turned_to o w)
    by None a b = p
    by (Some other) a b = record { turn_planned = a; turn_begun = b; other_planned = p.turn_planned; other_begun = p.turn_begun; next_planned = p.next_planned }

once_turned : (plans : List ScanPlan) (xs : List ℕ) (w : Running) → EachOnce (xs ++ left_of plans w) → EachOnce (xs ++ left_of plans (turned w))
once_turned plans xs w o = by w.other refl
  where
    by : (other : Option Runner) → w.other ≡ other → EachOnce (xs ++ left_of plans (turned_to other w))
    by None e = o
    by (Some other) e = once_swap xs (plan_at plans w.turn.scan).index (plan_at plans other.scan).index (indexes_of (drop w.next plans)) (subst (λ (x : Option Runner). EachOnce (xs ++ left_by plans w.turn x w.next)) e o)

length_turned : (plans : List ScanPlan) (w : Running) → length (left_of plans (turned w)) ≡ length (left_of plans w)
length_turned plans w = by w.other refl
  where
    by : (other : Option Runner) → w.other ≡ other → length (left_of plans (turned_to other w)) ≡ length (left_of plans w)
    by None e = refl
    by (Some other) e = sym (ap (λ (x : Option Runner). length (left_by plans w.turn x w.next)) e)

-- WHILE SCANS ARE UNDER WAY

-- another race over the same plans, whose trace tells the same
racing_same : (r new : Raced) → TellsRacing r → new.plans ≡ r.plans → new.trace.events.items ≡ r.trace.events.items → list_length new.list ≡ list_length r.list → lower new.running ≡ lower r.running → ((xs : List ℕ) → EachOnce (xs ++ left_of r.plans r.running) → EachOnce (xs ++ left_of r.plans new.running)) → length (left_of r.plans new.running) ≡ length (left_of r.plans r.running) → Placed (length r.plans) new.running → TellsRacing new
racing_same r new t plans items list low once long placed = record {
  ends = t.ends;
  told = items ∙ t.told ∙ ap (λ (i : ℕ). At BackgroundAlone ∷ (told_ends t.ends ++ Scan i ∷ [])) (sym (ap (λ (ps : List ScanPlan). (plan_at ps (lower new.running)).index) plans ∙ ap (λ (k : ℕ). (plan_at r.plans k).index) low));
  keys = t.keys;
  listed = t.listed ∙ sym list;
  once = subst (λ (ps : List ScanPlan). EachOnce (ended_indexes t.ends ++ left_of ps new.running)) (sym plans) (once (ended_indexes t.ends) t.once);
  known = subst (λ (ps : List ScanPlan). list_all (λ i. has_index i (indexes_of ps)) (ended_indexes t.ends) ≡ true) (sym plans) t.known;
  room = subst (λ (ps : List ScanPlan). length t.ends + length (left_of ps new.running) ≤ 8) (sym plans) (let same = long in let room = t.room in omega arith);
  placed = subst (λ (ps : List ScanPlan). Placed (length ps) new.running) (sym plans) placed;
}

passed_tells : (piece : Pieced) (last : Bool) (r : Raced) → TellsRacing r → TellsRacing (passed_on (accepted piece last r))
passed_tells piece last r t =
    let v = (accepted piece last r).running in
    racing_same r (passed_on (accepted piece last r)) t refl refl refl (lower_turned v ∙ same_low) (λ xs o. once_turned r.plans xs v (same_once xs o)) (length_turned r.plans v ∙ same_long) (placed_turned (length r.plans) v same_placed)
  where
    v : Running
    v = (accepted piece last r).running

    same_low : lower v ≡ lower r.running
    same_low = by r.running.other
      where
        by : (o : Option Runner) → lower_of v.turn o ≡ lower_of r.running.turn o
        by None = refl
        by (Some other) = refl

    same_once : (xs : List ℕ) → EachOnce (xs ++ left_of r.plans r.running) → EachOnce (xs ++ left_of r.plans v)
    same_once xs o = by r.running.other o
      where
        by : (x : Option Runner) → EachOnce (xs ++ left_by r.plans r.running.turn x r.running.next) → EachOnce (xs ++ left_by r.plans v.turn x r.running.next)
        by None o = o
        by (Some other) o = o

    same_long : length (left_of r.plans v) ≡ length (left_of r.plans r.running)
    same_long = by r.running.other
      where
        by : (x : Option Runner) → length (left_by r.plans v.turn x r.running.next) ≡ length (left_by r.plans r.running.turn x r.running.next)
        by None = refl
        by (Some other) = refl

    same_placed : Placed (length r.plans) v
    same_placed = record { turn_planned = t.placed.turn_planned; turn_begun = t.placed.turn_begun; other_planned = t.placed.other_planned; other_begun = t.placed.other_begun; next_planned = t.placed.next_planned }

-- A SCAN IS OVER

-- what is known of a race whose scan of the turn is over: what its trace tells, its list, and who goes on
pub record Closes (r new : Raced) (keys : Option ℕ) : Type 0 where
  pub plans : new.plans ≡ r.plans
  pub items : new.trace.events.items ≡ with_events (with_events (take (length r.trace.events.items - 1) r.trace.events.items) (Scan (index_at r (turn_scan r)) ∷ [])) (outcome (index_at r (turn_scan r)) keys ∷ [])
  pub list : list_length new.list ≡ later (list_length r.list) keys
  pub turn : new.running.turn.scan ≡ r.running.turn.scan
  pub left : left_of r.plans new.running ≡ left_of r.plans r.running
  pub placed : Placed (length r.plans) new.running
  pub named : new.trace.strategy ≡ r.trace.strategy
  pub control : new.control ≡ r.control

left_first : (plans : List ScanPlan) (w : Running) → (rest : List ℕ) × (left_of plans w ≡ (plan_at plans w.turn.scan).index ∷ rest)
left_first plans w = by w.other refl
  where
    by : (o : Option Runner) → w.other ≡ o → (rest : List ℕ) × (left_of plans w ≡ (plan_at plans w.turn.scan).index ∷ rest)
    by None e = (indexes_of (drop w.next plans), ap (λ (x : Option Runner). left_by plans w.turn x w.next) e)
    by (Some other) e = ((plan_at plans other.scan).index ∷ indexes_of (drop w.next plans), ap (λ (x : Option Runner). left_by plans w.turn x w.next) e)

-- the trace of a scan that is over
closed_items : (r new : Raced) (keys : Option ℕ) → (t : TellsRacing r) → Closes r new keys → new.trace.events.items ≡ so_far t.ends ++ Scan (index_at r (turn_scan r)) ∷ outcome (index_at r (turn_scan r)) keys ∷ []
closed_items r new keys t c =
    let i = index_at r (turn_scan r) in
    let off : take (length r.trace.events.items - 1) r.trace.events.items ≡ so_far t.ends = ap (λ (es : List Event). take (length es - 1) es) t.told ∙ last_off (so_far t.ends) (Scan (index_at r (lower r.running))) in
    let long = told_length t.ends in
    let room = t.room in
    let first = left_first r.plans r.running in
    let some = ap length first.1 in
    let one = length-append (so_far t.ends) (Scan i ∷ []) in
    c.items
    ∙ ap (λ (es : List Event). with_events (with_events es (Scan i ∷ [])) (outcome i keys ∷ [])) off
    ∙ ap (λ (es : List Event). with_events es (outcome i keys ∷ [])) (with_room (so_far t.ends) (Scan i ∷ []) (omega arith))
    ∙ with_room (so_far t.ends ++ Scan i ∷ []) (outcome i keys ∷ []) (omega arith)
    ∙ append_assoc (so_far t.ends) (Scan i ∷ []) (outcome i keys ∷ [])

-- another scan goes on
closed_on : (r new : Raced) (keys : Option ℕ) → TellsRacing r → Closes r new keys → keyed keys ≡ true → has_next (length r.plans) new.running ≡ true → TellsRacing (going_on new)
closed_on r new keys t c some h =
    let i = index_at r (turn_scan r) in
    let e : Ended = record { index = i; keys = keys } in
    let w = advanced (is_some new.list) (length new.plans) new.running in
    let low = index_at new w.turn.scan in
    let v = advanced (is_some new.list) (length r.plans) new.running in
    let same : w ≡ v = ap (λ (ps : List ScanPlan). advanced (is_some new.list) (length ps) new.running) c.plans in
    let first = left_first r.plans r.running in
    let any = ap length first.1 in
    let long = told_length t.ends in
    let room = t.room in
    let closed = closed_items r new keys t c in
    let short = ap length closed in
    let sum = length-append (so_far t.ends) (Scan i ∷ outcome i keys ∷ []) in
    let count = length-append t.ends (e ∷ []) in
    let indexes : ended_indexes (t.ends ++ e ∷ []) ≡ ended_indexes t.ends ++ i ∷ [] = map-append (λ (x : Ended). x.index) t.ends (e ∷ []) in
    let rest : left_of r.plans r.running ≡ i ∷ left_of r.plans v = sym c.left ∙ left_advanced r.plans (is_some new.list) new.running h ∙ ap (λ (k : ℕ). (plan_at r.plans k).index ∷ left_of r.plans v) c.turn in
    let lengths = ap length rest in
    let lowest : index_at new (lower w) ≡ low = ap (λ (k : ℕ). index_at new k) (ap lower same ∙ lower_advanced (length r.plans) (is_some new.list) new.running c.placed h ∙ ap (λ (x : Running). x.turn.scan) (sym same)) in
    record {
      ends = t.ends ++ e ∷ [];
      told = with_room new.trace.events.items (Scan low ∷ []) (omega arith)
          ∙ ap (λ (es : List Event). es ++ Scan low ∷ []) (closed ∙ ap (λ (es : List Event). At BackgroundAlone ∷ es) (sym (told_more t.ends e)))
          ∙ ap (λ (k : ℕ). At BackgroundAlone ∷ (told_ends (t.ends ++ e ∷ []) ++ Scan k ∷ [])) (sym lowest);
      keys = list_all-append is_keyed t.ends (e ∷ []) ∙ and_from (list_all is_keyed t.ends) (list_all is_keyed (e ∷ [])) t.keys (and_from (keyed keys) true some refl);
      listed = listed_more None t.ends e ∙ ap (λ (l : Option ℕ). later l keys) t.listed ∙ sym c.list;
      once = subst (λ (ps : List ScanPlan). EachOnce (ended_indexes (t.ends ++ e ∷ []) ++ left_of ps w)) (sym c.plans)
          (subst (λ (x : Running). EachOnce (ended_indexes (t.ends ++ e ∷ []) ++ left_of r.plans x)) (sym same)
          (subst EachOnce (ap (λ (is : List ℕ). ended_indexes t.ends ++ is) rest ∙ sym (append_assoc (ended_indexes t.ends) (i ∷ []) (left_of r.plans v)) ∙ ap (λ (is : List ℕ). is ++ left_of r.plans v) (sym indexes)) t.once));
      known = subst (λ (ps : List ScanPlan). list_all (λ k. has_index k (indexes_of ps)) (ended_indexes (t.ends ++ e ∷ [])) ≡ true) (sym c.plans)
          (ap (list_all (λ k. has_index k (indexes_of r.plans))) indexes ∙ list_all-append (λ k. has_index k (indexes_of r.plans)) (ended_indexes t.ends) (i ∷ []) ∙ and_from (list_all (λ k. has_index k (indexes_of r.plans)) (ended_indexes t.ends)) (list_all (λ k. has_index k (indexes_of r.plans)) (i ∷ [])) t.known (and_from (has_index i (indexes_of r.plans)) true (index_known r.plans r.running.turn.scan t.placed.turn_planned) refl));
      room = subst (λ (ps : List ScanPlan). length (t.ends ++ e ∷ []) + length (left_of ps w) ≤ 8) (sym c.plans) (subst (λ (x : Running). length (t.ends ++ e ∷ []) + length (left_of r.plans x) ≤ 8) (sym same) (omega arith));
      placed = subst (λ (ps : List ScanPlan). Placed (length ps) w) (sym c.plans) (subst (Placed (length r.plans)) (sym same) (placed_advanced (length r.plans) (is_some new.list) new.running c.placed h));
    }

-- The background ends.

-- whatever run the trace tells, its last turn leads to the control
finished : (r new : Raced) (t : TellsRacing r) (i keys : ℕ) (o : Event) (h : Happening) (c : Control) (to : Standing) → new.plans ≡ r.plans → new.control ≡ c → events_left c ≤ 1 → new.trace.events.items ≡ (so_far t.ends ++ Scan i ∷ []) ++ o ∷ At c ∷ [] → EachOnce (ended_indexes t.ends ++ i ∷ []) → has_index i (indexes_of r.plans) ≡ true → MayCome BackgroundOnly (begins BackgroundAlone (i ∷ []) (listed_by None t.ends)) h keys → OneTurn (begins BackgroundAlone (i ∷ []) (listed_by None t.ends)) h keys (o ∷ At c ∷ []) to → to.control ≡ c → TellsOver new
finished r new t i keys o h c to plans control left items once known comes turn at =
    let planned = ended_indexes t.ends ++ i ∷ [] in
    let before = chain_went t.ends i t.keys in
    let went = one_more planned (so_far t.ends ++ Scan i ∷ []) (turns_of None t.ends) (begins BackgroundAlone (i ∷ []) (listed_by None t.ends)) to h keys (o ∷ At c ∷ []) before comes turn in
    let long = told_length t.ends in
    let room = t.room in
    let first = left_first r.plans r.running in
    let any = ap length first.1 in
    let size = ap length items in
    let sum = length-append (so_far t.ends ++ Scan i ∷ []) (o ∷ At c ∷ []) in
    let one = length-append (so_far t.ends) (Scan i ∷ []) in
    record {
      planned = planned;
      turns = turns_of None t.ends ++ record { happening = h; keys = keys } ∷ [];
      run = went.run;
      told = items ∙ went.told;
      at = ap (λ (s : Standing). s.control) went.ends ∙ at ∙ sym control;
      scanned = has_scans t.ends i;
      once = once;
      known = subst (λ (ps : List ScanPlan). list_all (λ k. has_index k (indexes_of ps)) planned ≡ true) (sym plans)
          (list_all-append (λ k. has_index k (indexes_of r.plans)) (ended_indexes t.ends) (i ∷ []) ∙ and_from (list_all (λ k. has_index k (indexes_of r.plans)) (ended_indexes t.ends)) (list_all (λ k. has_index k (indexes_of r.plans)) (i ∷ [])) t.known (and_from (has_index i (indexes_of r.plans)) true known refl));
      room = subst (λ (x : Control). length new.trace.events.items + events_left x ≤ 32) (sym control) (omega arith);
    }

-- the index of the scan of the turn, behind those that are over, is scanned once
turn_once : (r : Raced) (t : TellsRacing r) → EachOnce (ended_indexes t.ends ++ index_at r (turn_scan r) ∷ [])
turn_once r t =
    let first = left_first r.plans r.running in
    let i = index_at r (turn_scan r) in
    let all : EachOnce ((ended_indexes t.ends ++ i ∷ []) ++ first.0) = subst EachOnce (ap (λ (is : List ℕ). ended_indexes t.ends ++ is) first.1 ∙ sym (append_assoc (ended_indexes t.ends) (i ∷ []) first.0)) t.once in
    front_once (ended_indexes t.ends ++ i ∷ []) first.0 all

-- so is that of the lower one
lower_once : (r : Raced) (t : TellsRacing r) → EachOnce (ended_indexes t.ends ++ index_at r (lower r.running) ∷ [])
lower_once r t = by r.running.other refl
  where
    lesser : (a b : ℕ) → (min a b ≡ a) ⊎ (min a b ≡ b)
    lesser a b = elim (cases_Bool (nat_lt a b)) [
      | inl l ↦ inl (first l)
      | inr l ↦ inr (second l)
    ]
      where
        first : nat_lt a b ≡ true → min a b ≡ a
        first h = let l : a < b = grind (arith, nat_tests) in omega arith

        second : nat_lt a b ≡ false → min a b ≡ b
        second h = let l : b ≤ a = grind (arith, nat_tests) in omega arith

    by : (o : Option Runner) → r.running.other ≡ o → EachOnce (ended_indexes t.ends ++ index_at r (lower r.running) ∷ [])
    by None e = subst (λ (k : ℕ). EachOnce (ended_indexes t.ends ++ index_at r k ∷ [])) (sym (ap (lower_of r.running.turn) e)) (turn_once r t)
    by (Some other) e = elim (lesser r.running.turn.scan other.scan) [
      | inl here ↦ subst (λ (k : ℕ). EachOnce (ended_indexes t.ends ++ index_at r k ∷ [])) (sym (ap (lower_of r.running.turn) e ∙ here)) (turn_once r t)
      | inr there ↦ subst (λ (k : ℕ). EachOnce (ended_indexes t.ends ++ index_at r k ∷ [])) (sym (ap (lower_of r.running.turn) e ∙ there)) other_once
    ]
      where
        a : ℕ
        a = index_at r (turn_scan r)

        b : ℕ
        b = index_at r other.scan

        xs : List ℕ
        xs = ended_indexes t.ends

        rest : List ℕ
        rest = indexes_of (drop r.running.next r.plans)

        all : EachOnce (xs ++ a ∷ b ∷ rest)
        all = subst (λ (x : Option Runner). EachOnce (xs ++ left_by r.plans r.running.turn x r.running.next)) e t.once

        other_once : EachOnce (xs ++ b ∷ [])
        other_once = front_once (xs ++ b ∷ []) (a ∷ rest) (subst EachOnce (sym (append_assoc xs (b ∷ []) (a ∷ rest))) (once_swap xs a b rest all))

lower_planned : (r : Raced) → TellsRacing r → lower r.running < length r.plans
lower_planned r t = by r.running.other refl
  where
    smaller : (a b n : ℕ) → a < n → min a b < n
    smaller a b n l = omega arith

    by : (o : Option Runner) → r.running.other ≡ o → lower r.running < length r.plans
    by None e = subst (λ (k : ℕ). k < length r.plans) (sym (ap (lower_of r.running.turn) e)) t.placed.turn_planned
    by (Some other) e = subst (λ (k : ℕ). k < length r.plans) (sym (ap (lower_of r.running.turn) e)) (smaller r.running.turn.scan other.scan (length r.plans) t.placed.turn_planned)

some_list : (l : Option (List ℕ)) → is_some (list_length l) ≡ is_some l
some_list None = refl
some_list (Some keys) = refl

left_final : (b : Bool) → events_left (final_of b) ≤ 1
left_final true = omega arith
left_final false = omega arith

-- the control to which a happening leads is one of the final ones
final_is : (b : Bool) → IsFinal (final_of b)
final_is true = inl refl
final_is false = inr refl

tells_over : (new : Raced) → IsFinal new.control → TellsOver new → TellsBy new.control new
tells_over new (inl e) t = subst (λ (c : Control). TellsBy c new) (sym e) t
tells_over new (inr e) t = subst (λ (c : Control). TellsBy c new) (sym e) t

-- the scan of the turn is over, and none goes on
closed_off : (r new : Raced) (keys : Option ℕ) (h : Happening) (n : ℕ) (c : Control) (to : Standing) → (t : TellsRacing r) → Closes r new keys → next_control BackgroundOnly new.control h ≡ c → IsFinal c → events_left c ≤ 1 → MayCome BackgroundOnly (begins BackgroundAlone (index_at r (turn_scan r) ∷ []) (listed_by None t.ends)) h n → OneTurn (begins BackgroundAlone (index_at r (turn_scan r) ∷ []) (listed_by None t.ends)) h n (outcome (index_at r (turn_scan r)) keys ∷ At c ∷ []) to → to.control ≡ c → TellsOver (gone h new)
closed_off r new keys h n c to t k leads final left comes turn at =
    let i = index_at r (turn_scan r) in
    let closed = closed_items r new keys t k in
    let long = told_length t.ends in
    let room = t.room in
    let first = left_first r.plans r.running in
    let any = ap length first.1 in
    let short = ap length closed in
    let sum = length-append (so_far t.ends) (Scan i ∷ outcome i keys ∷ []) in
    let items : (gone h new).trace.events.items ≡ (so_far t.ends ++ Scan i ∷ []) ++ outcome i keys ∷ At c ∷ [] =
    with_room new.trace.events.items (At (next_control BackgroundOnly new.control h) ∷ []) (omega arith)
    ∙ ap (λ (x : Control). new.trace.events.items ++ At x ∷ []) leads
    ∙ ap (λ (es : List Event). es ++ At c ∷ []) closed
    ∙ append_assoc (so_far t.ends) (Scan i ∷ outcome i keys ∷ []) (At c ∷ [])
    ∙ sym (append_assoc (so_far t.ends) (Scan i ∷ []) (outcome i keys ∷ At c ∷ [])) in
    finished r (gone h new) t i n (outcome i keys) h c to k.plans leads left items (turn_once r t) (index_known r.plans r.running.turn.scan t.placed.turn_planned) comes turn at

next_final : (h : Happening) (r : Raced) (c : Control) → scanning r.control ≡ true → next_control BackgroundOnly BackgroundAlone h ≡ c → next_control BackgroundOnly r.control h ≡ c
next_final h r c back e = ap (λ (x : Control). next_control BackgroundOnly x h) (only_scanning r.control back) ∙ e

-- THE TURNS OF A RACE

racing_tells : (new : Raced) → scanning new.control ≡ true → new.trace.strategy ≡ BackgroundOnly → TellsRacing new → Tells new
racing_tells new back named t = record { named = named; tells = subst (λ (c : Control). TellsBy c new) (sym (only_scanning new.control back)) t }

pub tells_racing : (r : Raced) → scanning r.control ≡ true → Tells r → TellsRacing r
tells_racing r back t = subst (λ (c : Control). TellsBy c r) (only_scanning r.control back) t.tells

final_tells : (new : Raced) (c : Control) → new.control ≡ c → IsFinal c → new.trace.strategy ≡ BackgroundOnly → TellsOver new → Tells new
final_tells new c e (inl f) named t = record { named = named; tells = tells_over new (inl (e ∙ f)) t }
final_tells new c e (inr f) named t = record { named = named; tells = tells_over new (inr (e ∙ f)) t }

-- a verdict drops the scan of the turn
dropped_closes : (piece : Pieced) (old : Raced) → TellsRacing old → Closes old (told_over (Drop (index_at old (turn_scan old))) (accepted piece false old)) None
dropped_closes piece old t = record {
  plans = refl;
  items = refl;
  list = refl;
  turn = refl;
  left = same old.running.other;
  placed = record { turn_planned = t.placed.turn_planned; turn_begun = t.placed.turn_begun; other_planned = t.placed.other_planned; other_begun = t.placed.other_begun; next_planned = t.placed.next_planned };
  named = refl;
  control = refl;
}
  where
    same : (o : Option Runner) → left_by old.plans (accepted piece false old).running.turn o old.running.next ≡ left_by old.plans old.running.turn o old.running.next
    same None = refl
    same (Some other) = refl

dropped_tells : (piece : Pieced) (old : Raced) → scanning old.control ≡ true → Tells old → Tells (dropped (accepted piece false old))
dropped_tells piece old back t =
    let v = tells_racing old back t in
    let r = told_over (Drop (index_at old (turn_scan old))) (accepted piece false old) in
    let c = dropped_closes piece old v in
    let says : is_some old.list ≡ is_some (listed_by None v.ends) = sym (some_list old.list) ∙ ap is_some (sym v.listed) in
    over_as Tells (λ b. Ruled AbandonScan b (is_some old.list)) r
    (λ m. racing_tells (going_on r) back t.named (closed_on old r None v c refl (first_so _ _ m)))
    (λ m. final_tells (gone (Ruled AbandonScan false (is_some old.list)) r) (final_of (is_some old.list)) (next_final (Ruled AbandonScan false (is_some old.list)) r (final_of (is_some old.list)) back (leads (is_some old.list))) (final_is (is_some old.list)) t.named
    (closed_off old r None (Ruled AbandonScan false (is_some old.list)) 0 (final_of (is_some old.list)) _ v c (next_final (Ruled AbandonScan false (is_some old.list)) r (final_of (is_some old.list)) back (leads (is_some old.list))) (final_is (is_some old.list)) (left_final (is_some old.list)) (refl, refl, says) (drop_last (index_at old (turn_scan old)) (listed_by None v.ends) (is_some old.list)) (stood (is_some old.list))))
  where
    leads : (b : Bool) → next_control BackgroundOnly BackgroundAlone (Ruled AbandonScan false b) ≡ final_of b
    leads true = refl
    leads false = refl

    stood : (b : Bool) → (idle (final_of b) [] (listed_by None (tells_racing old back t).ends)).control ≡ final_of b
    stood b = refl

-- the scan of the turn completed
listed_closes : (piece : Pieced) (keys : List ℕ) (old : Raced) → TellsRacing old → Closes old (listed keys (accepted piece true old)) (Some (length keys))
listed_closes piece keys old t = record {
  plans = refl;
  items = refl;
  list = refl;
  turn = refl;
  left = same old.running.other;
  placed = record { turn_planned = t.placed.turn_planned; turn_begun = t.placed.turn_begun; other_planned = below (length old.plans) old.running.other t.placed.other_planned; other_begun = below old.running.next old.running.other t.placed.other_begun; next_planned = t.placed.next_planned };
  named = refl;
  control = refl;
}
  where
    same : (o : Option Runner) → left_by old.plans (listed keys (accepted piece true old)).running.turn (narrowed_by keys o) old.running.next ≡ left_by old.plans old.running.turn o old.running.next
    same None = refl
    same (Some other) = refl

    below : (n : ℕ) (o : Option Runner) → IfSome o (λ x. x.scan < n) → IfSome (narrowed_by keys o) (λ x. x.scan < n)
    below n None l = tt
    below n (Some other) l = l

ended_tells : (piece : Pieced) (keys : List ℕ) (old : Raced) → scanning old.control ≡ true → Tells old → Tells (ended (listed keys (accepted piece true old)))
ended_tells piece keys old back t =
    let v = tells_racing old back t in
    let r = listed keys (accepted piece true old) in
    let c = listed_closes piece keys old v in
    over_as Tells (λ b. ScanEnded b true) r
    (λ m. racing_tells (going_on r) back t.named (closed_on old r (Some (length keys)) v c (some_key keys (second_so (has_next (length r.plans) r.running) _ m)) (first_so _ _ m)))
    (λ m. final_tells (gone (ScanEnded false true) r) FinalList (next_final (ScanEnded false true) r FinalList back refl) (inl refl) t.named
    (closed_off old r (Some (length keys)) (ScanEnded false true) (length keys) FinalList _ v c (next_final (ScanEnded false true) r FinalList back refl) (inl refl) (left_final true) (refl, refl, refl) (list_last (index_at old (turn_scan old)) (listed_by None v.ends) (length keys)) refl))
  where
    some_key : (keys : List ℕ) → not (nat_eq (length keys) 0) ≡ true → nat_lt 0 (length keys) ≡ true
    some_key keys h = grind (arith, nat_tests)

-- a verdict drops the background
stopped_tells : (piece : Pieced) (old : Raced) → scanning old.control ≡ true → Tells old → Tells (stopped (accepted piece false old))
stopped_tells piece old back t =
    let v = tells_racing old back t in
    let r = accepted piece false old in
    let low : lower r.running ≡ lower old.running = same old.running.other in
    let i = index_at old (lower old.running) in
    let b = is_some old.list in
    let h = Ruled AbandonBackground (more r) b in
    let leads = next_final h r (final_of b) back (to_final (more r) b) in
    let long = told_length v.ends in
    let room = v.room in
    let first = left_first old.plans old.running in
    let any = ap length first.1 in
    let short = ap length v.told in
    let sum = length-append (so_far v.ends) (Scan i ∷ []) in
    let one = length-append (so_far v.ends ++ Scan i ∷ []) (Drop i ∷ []) in
    let drops : with_events old.trace.events.items (Drop (index_at r (lower r.running)) ∷ []) ≡ (so_far v.ends ++ Scan i ∷ []) ++ Drop i ∷ [] = with_room old.trace.events.items (Drop (index_at r (lower r.running)) ∷ []) (omega arith) ∙ ap (λ (es : List Event). es ++ Drop (index_at r (lower r.running)) ∷ []) v.told ∙ ap (λ (k : ℕ). (so_far v.ends ++ Scan i ∷ []) ++ Drop (index_at old k) ∷ []) low in
    let items : (stopped r).trace.events.items ≡ (so_far v.ends ++ Scan i ∷ []) ++ Drop i ∷ At (final_of b) ∷ [] =
    ap (λ (es : List Event). with_events es (At (next_control BackgroundOnly r.control h) ∷ [])) drops
    ∙ with_room ((so_far v.ends ++ Scan i ∷ []) ++ Drop i ∷ []) (At (next_control BackgroundOnly r.control h) ∷ []) (omega arith)
    ∙ append_assoc (so_far v.ends ++ Scan i ∷ []) (Drop i ∷ []) (At (next_control BackgroundOnly r.control h) ∷ [])
    ∙ ap (λ (x : Control). (so_far v.ends ++ Scan i ∷ []) ++ Drop i ∷ At x ∷ []) leads in
    let says : b ≡ is_some (listed_by None v.ends) = sym (some_list old.list) ∙ ap is_some (sym v.listed) in
    final_tells (stopped r) (final_of b) leads (final_is b) t.named
    (finished old (stopped r) v i 0 (Drop i) (Ruled AbandonBackground false b) (final_of b) _ refl leads (left_final b) items (lower_once old v) (index_known old.plans (lower old.running) (lower_planned old v)) (refl, refl, says) (stop_last i (listed_by None v.ends) b) (stood b))
  where
    same : (o : Option Runner) → lower_of (accepted piece false old).running.turn o ≡ lower_of old.running.turn o
    same None = refl
    same (Some other) = refl

    to_final : (m b : Bool) → next_control BackgroundOnly BackgroundAlone (Ruled AbandonBackground m b) ≡ final_of b
    to_final true true = refl
    to_final true false = refl
    to_final false true = refl
    to_final false false = refl

    stood : (b : Bool) → (idle (final_of b) [] (listed_by None (tells_racing old back t).ends)).control ≡ final_of b
    stood b = refl

ruled_tells : (verdict : Verdict) (piece : Pieced) (old : Raced) → scanning old.control ≡ true → Tells old → Tells (ruled verdict (accepted piece false old))
ruled_tells Continue piece old back t = racing_tells (passed_on (accepted piece false old)) back t.named (passed_tells piece false old (tells_racing old back t))
ruled_tells AbandonForeground piece old back t = racing_tells (passed_on (accepted piece false old)) back t.named (passed_tells piece false old (tells_racing old back t))
ruled_tells AbandonScan piece old back t = dropped_tells piece old back t
ruled_tells AbandonBackground piece old back t = stopped_tells piece old back t

obeyed_tells : (would : ℕ → Facts → Ruling) (state after : ℕ) (piece : Pieced) (old new : Raced) (next : Option IndexEntry) → scanning old.control ≡ true → Obeys would state after piece next old new → Tells old → Tells new
obeyed_tells would state after piece old new (Some cut) back o t = subst Tells (sym o.0) (ruled_tells _ piece old back t)
obeyed_tells would state after piece old new None back o t = subst Tells (sym o.0.ends) (ended_tells piece o.0.keys old back t)

pub gives_tell : {E : Type 0} (r : Result Given E) (would : ℕ → Facts → Ruling) (state after : ℕ) (piece : Pieced) (old new : Raced) → IfOk r (λ g. Answers old piece g new) → IfOk r (λ g. GivesOn would state after piece g old new) → OnErr r (new ≡ old) → Tells old → Tells new
gives_tell r would state after piece old new a o e t = given_holds r (λ g. Answers old piece g new) (λ g. GivesOn would state after piece g old new) Tells old new (λ a o. obeyed_tells would state after piece old new (held_next (turn_lane old).held) a.under_way o t) (λ asked now o. o.0) a o e t

-- THE FINAL STAGE

-- a race whose trace has the same events, and which stands where it stood
pub aside_tells : (r new : Raced) → new.plans ≡ r.plans → new.trace.events.items ≡ r.trace.events.items → new.trace.strategy ≡ r.trace.strategy → new.list ≡ r.list → new.running.other ≡ r.running.other → new.running.next ≡ r.running.next → new.running.turn.scan ≡ r.running.turn.scan → new.control ≡ r.control → Tells r → Tells new
aside_tells r new plans items named list other next turn control t = record { named = named ∙ t.named; tells = subst (λ (c : Control). TellsBy c new) (sym control) (by r.control t.tells control) }
  where
    low : lower new.running ≡ lower r.running
    low = ap (lower_of new.running.turn) other ∙ same r.running.other
      where
        same : (o : Option Runner) → lower_of new.running.turn o ≡ lower_of r.running.turn o
        same None = turn
        same (Some x) = ap (λ (k : ℕ). min k x.scan) turn

    left : left_of r.plans new.running ≡ left_of r.plans r.running
    left = ap (λ (o : Option Runner). left_by r.plans new.running.turn o new.running.next) other ∙ ap (λ (n : ℕ). left_by r.plans new.running.turn r.running.other n) next ∙ same r.running.other
      where
        same : (o : Option Runner) → left_by r.plans new.running.turn o r.running.next ≡ left_by r.plans r.running.turn o r.running.next
        same None = ap (λ (k : ℕ). (plan_at r.plans k).index ∷ indexes_of (drop r.running.next r.plans)) turn
        same (Some x) = ap (λ (k : ℕ). (plan_at r.plans k).index ∷ (plan_at r.plans x.scan).index ∷ indexes_of (drop r.running.next r.plans)) turn

    placed : Placed (length r.plans) r.running → Placed (length r.plans) new.running
    placed p = record {
      turn_planned = subst (λ (k : ℕ). k < length r.plans) (sym turn) p.turn_planned;
      turn_begun = subst (λ (k : ℕ). k < new.running.next) (sym turn) (subst (λ (n : ℕ). r.running.turn.scan < n) (sym next) p.turn_begun);
      other_planned = subst (λ (o : Option Runner). IfSome o (λ x. x.scan < length r.plans)) (sym other) p.other_planned;
      other_begun = subst (λ (o : Option Runner). IfSome o (λ x. x.scan < new.running.next)) (sym other) (subst (λ (n : ℕ). IfSome r.running.other (λ x. x.scan < n)) (sym next) p.other_begun);
      next_planned = subst (λ (n : ℕ). n ≤ length r.plans) (sym next) p.next_planned;
    }

    over_same : TellsOver r → TellsOver new
    over_same o = record {
      planned = o.planned;
      turns = o.turns;
      run = o.run;
      told = items ∙ o.told;
      at = o.at ∙ sym control;
      scanned = o.scanned;
      once = o.once;
      known = subst (λ (ps : List ScanPlan). list_all (λ i. has_index i (indexes_of ps)) o.planned ≡ true) (sym plans) o.known;
      room = subst (λ (c : Control). length new.trace.events.items + events_left c ≤ 32) (sym control) (subst (λ (es : List Event). length es + events_left r.control ≤ 32) (sym items) o.room);
    }

    by : (c : Control) → TellsBy c r → new.control ≡ c → TellsBy c new
    by Building b e = b
    by ForegroundAlone b e = b
    by BackgroundAlone b e = racing_same r new b plans items (ap list_length list) low (λ xs o. subst (λ (is : List ℕ). EachOnce (xs ++ is)) (sym left) o) (ap length left) (placed b.placed)
    by FinalList b e = over_same b
    by FinalTable b e = over_same b
    by Done b e = over_same b

-- the source is at its end
pub done_tells : (r : Raced) → IsFinal r.control → Tells r → Tells (gone FinalEnded r)
done_tells r f t = record { named = t.named; tells = subst (λ (c : Control). TellsBy c (gone FinalEnded r)) (sym leads) done }
  where
    leads : next_control BackgroundOnly r.control FinalEnded ≡ Done
    leads = final_done BackgroundOnly r.control f

    final_at : IsFinal r.control → final r.control ≡ true
    final_at (inl e) = ap final e
    final_at (inr e) = ap final e

    one_left : IsFinal r.control → events_left r.control ≡ 1
    one_left (inl e) = ap events_left e
    one_left (inr e) = ap events_left e

    told : IsFinal r.control → TellsOver r
    told (inl e) = subst (λ (c : Control). TellsBy c r) e t.tells
    told (inr e) = subst (λ (c : Control). TellsBy c r) e t.tells

    done : TellsOver (gone FinalEnded r)
    done =
        let o = told f in
        let s = run_end BackgroundOnly (start BackgroundOnly o.planned) o.turns in
        let turn = final_turn s.control s.scan s.ahead s.listed (ap final o.at ∙ final_at f) in
        let went = one_more o.planned r.trace.events.items o.turns s (idle Done s.ahead s.listed) FinalEnded 0 (At Done ∷ []) (record { run = o.run; told = o.told; ends = refl }) turn.1 turn.0 in
        let room = o.room in
        let left = one_left f in
        let all : (gone FinalEnded r).trace.events.items ≡ r.trace.events.items ++ At Done ∷ [] = with_room r.trace.events.items (At (next_control BackgroundOnly r.control FinalEnded) ∷ []) (omega arith) ∙ ap (λ (c : Control). r.trace.events.items ++ At c ∷ []) leads in
        let size = ap length all in
        let sum = length-append r.trace.events.items (At Done ∷ []) in
        record {
          planned = o.planned;
          turns = o.turns ++ record { happening = FinalEnded; keys = 0 } ∷ [];
          run = went.run;
          told = all ∙ went.told;
          at = ap (λ (x : Standing). x.control) went.ends ∙ sym leads;
          scanned = o.scanned;
          once = o.once;
          known = o.known;
          room = subst (λ (c : Control). length (gone FinalEnded r).trace.events.items + events_left c ≤ 32) (sym leads) (omega arith);
        }

-- A TRACE THAT TELLS A RUN IS ALLOWED

pub allowed : (r : Raced) → Tells r → Allowed r.trace (indexes_of r.plans)
allowed r t = subst (λ (st : Strategy). Allowed (record r.trace { strategy = st }) (indexes_of r.plans)) (sym t.named) (by r.control t.tells)
  where
    over_allowed : TellsOver r → Allowed (record r.trace { strategy = BackgroundOnly }) (indexes_of r.plans)
    over_allowed o = record { planned = o.planned; known = o.known; once = o.once; scanned = o.scanned; turns = o.turns; run = o.run; told = o.told }

    by : (c : Control) → TellsBy c r → Allowed (record r.trace { strategy = BackgroundOnly }) (indexes_of r.plans)
    by Building b = absurd b
    by ForegroundAlone b = absurd b
    by BackgroundAlone b =
        let low = index_at r (lower r.running) in
        let went = chain_went b.ends low b.keys in
        record {
          planned = ended_indexes b.ends ++ low ∷ [];
          known = list_all-append (λ k. has_index k (indexes_of r.plans)) (ended_indexes b.ends) (low ∷ []) ∙ and_from (list_all (λ k. has_index k (indexes_of r.plans)) (ended_indexes b.ends)) (list_all (λ k. has_index k (indexes_of r.plans)) (low ∷ [])) b.known (and_from (has_index low (indexes_of r.plans)) true (index_known r.plans (lower r.running) (lower_planned r b)) refl);
          once = lower_once r b;
          scanned = has_scans b.ends low;
          turns = turns_of None b.ends;
          run = went.run;
          told = b.told ∙ went.told;
        }
    by FinalList b = over_allowed b
    by FinalTable b = over_allowed b
    by Done b = over_allowed b

-- A piece that is handed out is of a scan that was not dropped.
pub undropped_piece : {E : Type 0} (r : Result Taken E) (mid new : Raced) (c d : Counts) → IfOk r (TakesPiece mid) → new ≡ record mid { trace = counted mid.trace c d } → Tells new → IfOk r (IsOfUndropped new)
undropped_piece (Ok (Piece piece)) mid new c d a e t =
    let back : scanning new.control ≡ true = ap (λ (x : Raced). scanning x.control) e ∙ a.under_way in
    let b = tells_racing new back t in
    let first = left_first new.plans new.running in
    let i = index_at new (turn_scan new) in
    let apart = once_apart (ended_indexes b.ends) i first.0 (subst (λ (is : List ℕ). EachOnce (ended_indexes b.ends ++ is)) first.1 b.once) in
    (a.own.part ∙ ap (λ (x : Raced). (plan_at x.plans (turn_scan x)).part) (sym e), ap (was_dropped i) b.told ∙ undropped i b.ends (index_at new (lower new.running)) apart)
undropped_piece (Ok Nothing) mid new c d a e t = tt
undropped_piece (Err x) mid new c d a e t = tt
