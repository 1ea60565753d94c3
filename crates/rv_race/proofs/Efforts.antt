-- The effort of a race falls with each leaf read, each piece accepted and each scan that ends.
use Rattle.std.proofs.Common.{◌≡◌, ℕ, ◌+◌, ◌<◌, ◌≤◌, List, ◌++◌, length, drop, Bool, true, false, refl, ap, sym, ◌∙◌, arith, subst, Option, Some, None, is_some, IfSome, IsPermutation, inl, inr, Result, Ok, Err, IfOk, OnErr}
use Rattle.std.proofs.lemmas.List.{drop_more}
use Rattle.std.proofs.lemmas.List.Sorted.{length_permutation}
use Rattle.std.specs.Cmp.{first_so}
use Rattle.rv_value.proofs.Lists.{filter_length}
use Rattle.rv_value.specs.declared.record.IndexEntry.{IndexEntry}
use Rattle.rv_judge.specs.declared.counting.Counts.{Counts}
use Rattle.rv_judge.specs.declared.events.Control.{Control}
use Rattle.rv_judge.specs.declared.events.Control.TheVariants.{BackgroundAlone}
use Rattle.rv_judge.specs.declared.events.Event.TheVariants.{Drop}
use Rattle.rv_judge.specs.declared.events.Happening.{Happening}
use Rattle.rv_judge.specs.declared.events.Happening.TheVariants.{ScanEnded, Ruled}
use Rattle.rv_judge.specs.declared.events.Strategy.TheVariants.{BackgroundOnly}
use Rattle.rv_judge.specs.declared.events.Trace.{Trace}
use Rattle.rv_judge.specs.declared.judging.Facts.{Facts}
use Rattle.rv_judge.specs.declared.judging.Verdict.{Verdict}
use Rattle.rv_judge.specs.declared.judging.Verdict.TheVariants.{Continue, AbandonScan, AbandonForeground, AbandonBackground}
use Rattle.rv_judge.specs.Counting.{reads}
use Rattle.rv_judge.specs.Course.{next_control}
use Rattle.rv_judge.specs.Verdicts.{Ruling}
use Rattle.rv_keylist.specs.Marks.{may_key}
use Rattle.rv_reader.specs.declared.reader.Chunk.{Chunk}
use Rattle.rv_reader.specs.Shown.{Shown}
use Rattle.rv_jscan.specs.declared.jscan.Given.{Given}
use Rattle.rv_jscan.specs.declared.jscan.Given.TheVariants.{Accepted, Stale}
use Rattle.rv_jscan.specs.declared.jscan.ScanPlan.{ScanPlan}
use Rattle.rv_jscan.specs.declared.jscan.Taken.{Taken}
use Rattle.rv_jscan.specs.Joint.{no_plan, plan_at}
use Rattle.rv_jscan.specs.Lanes.{IsLeafAt, Laned}
use Rattle.rv_jscan.specs.Pieces.{Pieced, kept_by, may}
use Rattle.rv_jscan.specs.Steps.{HasEntries, held_next}
use Rattle.rv_final.specs.Stage.{Unbegun, keys_left}
use Rattle.rv_final.specs.Work.{Tries}
use Rattle.rv_race.specs.declared.running.Runner.{Runner}
use Rattle.rv_race.specs.declared.running.Running.{Running}
use Rattle.rv_final.specs.LaneWork.{GiveSpends, effort_by, lane_work, planned_work, to_read}
use Rattle.rv_race.specs.Effort.{effort, keys_work, other_work, racing_work, runner_work, running_work, table_work}
use Rattle.rv_race.specs.Given.{Answers, Awaits, TakesLeaf, TakesPiece, counts_read, holding, piece_read, reads_leaf, turn_lane, turn_plan, turn_scan}
use Rattle.rv_race.specs.Raced.{RaceFits, Raced}
use Rattle.rv_final.specs.Shell.{scanning}
use Rattle.rv_race.specs.Rulings.{GivesOn, Obeys, accepted, facts_of, going_on, gone, index_at, list_len, listed, more, narrowed_by, over, passed_on, ruled, stopped, told_over}
use Rattle.rv_race.specs.Ways.{advanced, begun, followed, followed_by, has_next, turned, turned_to}
use Rattle.rv_final.proofs.LaneWork.{some_leaf, read_once, passed_work}
use Rattle.rv_final.proofs.Givings.{spends_no_more, put_if}
use Rattle.rv_final.proofs.Takings.{built_few, leaf_tries, taken_spends}
use Rattle.rv_final.proofs.Shells.{only_scanning}
use Rattle.rv_race.proofs.Switches.{Leads, dropped_leads, ended_leads, over_as, stopped_leads}
use Rattle.rv_race.proofs.Takes.{took_parts}
use Rattle.rv_race.proofs.Ways.{advanced_as, followed_as}

-- THE SCANS

runner_some : (plans : List ScanPlan) (shown : Shown) (snap : ℕ) (run : Runner) → 2 ≤ runner_work plans shown snap run
runner_some plans shown snap run = let some = some_leaf (shown.cuts (plan_at plans run.scan).index snap) run.lane.place in omega arith

-- those behind a place, one by one
planned_one : (plans : List ScanPlan) (shown : Shown) (snap k : ℕ) → k < length plans → planned_work (drop k plans) shown snap ≡ runner_work plans shown snap (begun k) + planned_work (drop (k + 1) plans) shown snap
planned_one plans shown snap k l = ap (λ (ps : List ScanPlan). planned_work ps shown snap) (drop_more plans k no_plan l)

turned_work : (plans : List ScanPlan) (shown : Shown) (snap : ℕ) (w : Running) → running_work plans shown snap (turned w) ≡ running_work plans shown snap w
turned_work plans shown snap w = by w.other refl
  where
    by : (o : Option Runner) → w.other ≡ o → running_work plans shown snap (turned_to o w) ≡ running_work plans shown snap w
    by None e = refl
    by (Some other) e = let was = ap (other_work plans shown snap) e in omega arith

-- the scan of the turn is over: its work is gone
followed_work : (plans : List ScanPlan) (shown : Shown) (snap : ℕ) (w : Running) → has_next (length plans) w ≡ true → running_work plans shown snap (followed w) + runner_work plans shown snap w.turn ≡ running_work plans shown snap w
followed_work plans shown snap w h = followed_as (λ v. running_work plans shown snap v + runner_work plans shown snap w.turn ≡ running_work plans shown snap w) (length plans) w h
    (λ other e. let was = ap (other_work plans shown snap) e in omega arith)
    (λ e l. let was = ap (other_work plans shown snap) e in let one = planned_one plans shown snap w.next l in omega arith)

followed_alone : (plans : List ScanPlan) (shown : Shown) (snap : ℕ) (w : Running) → other_work plans shown snap (followed w).other ≡ 0
followed_alone plans shown snap w = by w.other
  where
    by : (o : Option Runner) → other_work plans shown snap (followed_by o w).other ≡ 0
    by None = refl
    by (Some other) = refl

advanced_work : (plans : List ScanPlan) (shown : Shown) (snap : ℕ) (listed : Bool) (w : Running) → has_next (length plans) w ≡ true → running_work plans shown snap (advanced listed (length plans) w) + runner_work plans shown snap w.turn ≡ running_work plans shown snap w
advanced_work plans shown snap listed w h =
    let alone = followed_work plans shown snap w h in
    advanced_as (λ v. running_work plans shown snap v + runner_work plans shown snap w.turn ≡ running_work plans shown snap w) listed (length plans) w alone
    (λ l. let none = followed_alone plans shown snap w in let one = planned_one plans shown snap (followed w).next l in omega arith)

narrowed_work : (plans : List ScanPlan) (shown : Shown) (snap : ℕ) (keys : List ℕ) (o : Option Runner) → other_work plans shown snap (narrowed_by keys o) ≤ other_work plans shown snap o
narrowed_work plans shown snap keys None = omega arith
narrowed_work plans shown snap keys (Some other) = let fewer = filter_length (λ k. may_key k keys) other.lane.building in omega arith

-- A PIECE IS ACCEPTED

-- the last one: the list has no more keys than the scan had work, but for two
passed_list : (plan : ScanPlan) (shown : Shown) (snap : ℕ) (l : Laned) (admits : ℕ → Bool) (piece : Pieced) (keys : List ℕ) → HasEntries l.held piece.entries → IfSome l.held (IsLeafAt plan shown snap l.place) → held_next l.held ≡ None → IsPermutation (l.building ++ kept_by admits piece.part piece.entries) keys → length keys + 2 ≤ lane_work plan shown snap l
passed_list plan shown snap l admits piece keys has d next perm =
    let few = built_few plan shown snap l admits piece has d next in
    let same = length_permutation (l.building ++ kept_by admits piece.part piece.entries) keys perm in
    omega arith

-- WHERE A SCAN ENDS OR A JUDGE RULES

pub effort_at : (r : Raced) (shown : Shown) (c : Control) → r.control ≡ c → effort r shown ≡ effort_by c (racing_work r shown) (keys_work r) (table_work r shown)
effort_at r shown c e = ap (λ (x : Control). effort_by x (racing_work r shown) (keys_work r) (table_work r shown)) e

effort_racing : (r : Raced) (shown : Shown) → scanning r.control ≡ true → effort r shown ≡ racing_work r shown
effort_racing r shown back = effort_at r shown BackgroundAlone (only_scanning r.control back)

list_whole : (list : Option (List ℕ)) → length (keys_left list 0) ≡ list_len list
list_whole None = refl
list_whole (Some keys) = refl

-- the background ends: the list or the table is left
gone_work : (h : Happening) (r : Raced) (shown : Shown) → Leads r (next_control BackgroundOnly r.control h) → Unbegun r.at r.last → effort (gone h r) shown ≤ list_len r.list + table_work r shown
gone_work h r shown leads u = by (next_control BackgroundOnly r.control h) leads
  where
    all : keys_work r ≡ list_len r.list
    all = ap (λ (i : ℕ). length (keys_left r.list i)) u.keys ∙ list_whole r.list

    by : (c : Control) → Leads r c → effort_by c (racing_work (gone h r) shown) (keys_work r) (table_work r shown) ≤ list_len r.list + table_work r shown
    by c (inl l) = subst (λ (x : Control). effort_by x (racing_work (gone h r) shown) (keys_work r) (table_work r shown) ≤ list_len r.list + table_work r shown) (sym l.0) (let is = all in omega arith)
    by c (inr e) = subst (λ (x : Control). effort_by x (racing_work (gone h r) shown) (keys_work r) (table_work r shown) ≤ list_len r.list + table_work r shown) (sym e) (omega arith)

-- what is left without the scan of the turn
abbrev left_work : Raced → Shown → ℕ
left_work r shown = other_work r.plans shown r.snap r.running.other + planned_work (drop r.running.next r.plans) shown r.snap + list_len r.list + table_work r shown

going_work : (r : Raced) (shown : Shown) → scanning r.control ≡ true → more r ≡ true → effort (going_on r) shown ≤ left_work r shown + 1
going_work r shown back m =
    let is = effort_racing (going_on r) shown back in
    let work = advanced_work r.plans shown r.snap (is_some r.list) r.running (first_so _ _ m) in
    let once = read_once (turn_lane (going_on r)).held in
    omega arith

over_work : (happening : Bool → Happening) (r : Raced) (shown : Shown) → scanning r.control ≡ true → Unbegun r.at r.last → Leads r (next_control BackgroundOnly r.control (happening false)) → effort (over (more r) (happening (more r)) r) shown ≤ left_work r shown + 1
over_work happening r shown back u leads = over_as (λ x. effort x shown ≤ left_work r shown + 1) happening r (going_work r shown back) (λ m. let less = gone_work (happening false) r shown leads u in omega arith)

-- a verdict raises nothing
ruled_work : (verdict : Verdict) (r : Raced) (shown : Shown) → scanning r.control ≡ true → Unbegun r.at r.last → (turn_lane r).held ≡ None → effort (ruled verdict r) shown ≤ racing_work r shown
ruled_work Continue r shown back u none = passed_less r shown back none
  where
    passed_less : (r : Raced) (shown : Shown) → scanning r.control ≡ true → (turn_lane r).held ≡ None → effort (passed_on r) shown ≤ racing_work r shown
    passed_less r shown back none =
        let is = effort_racing (passed_on r) shown back in
        let work = turned_work r.plans shown r.snap r.running in
        let once = read_once (turn_lane (passed_on r)).held in
        let was = ap to_read none in
        omega arith
ruled_work AbandonForeground r shown back u none =
    let is = effort_racing (passed_on r) shown back in
    let work = turned_work r.plans shown r.snap r.running in
    let once = read_once (turn_lane (passed_on r)).held in
    let was = ap to_read none in
    omega arith
ruled_work AbandonScan r shown back u none =
    let t = told_over (Drop (index_at r (turn_scan r))) r in
    let less = over_work (λ b. Ruled AbandonScan b (is_some r.list)) t shown back u (dropped_leads t back) in
    let some = runner_some r.plans shown r.snap r.running.turn in
    let was = ap to_read none in
    omega arith
ruled_work AbandonBackground r shown back u none =
    let less = gone_work (Ruled AbandonBackground (more r) (is_some r.list)) (record r { trace = (stopped r).trace }) shown (stopped_leads r (more r) back) u in
    omega arith

-- WHAT A GIVE SPENDS

accepted_work : (r : Raced) (piece : Pieced) (cut : IndexEntry) (shown : Shown) → Awaits r piece → held_next (turn_lane r).held ≡ Some cut → RaceFits r shown → racing_work (accepted piece false r) shown < racing_work r shown
accepted_work r piece cut shown a next f =
    let less = passed_work (turn_plan r) shown r.snap (turn_lane r) (may r.list) piece cut a.own.entries f.running.turn.lane.drawn next in
    omega arith

obeyed_work : (would : ℕ → Facts → Ruling) (state after : ℕ) (piece : Pieced) (old new : Raced) (shown : Shown) (next : Option IndexEntry) → Awaits old piece → held_next (turn_lane old).held ≡ next → Obeys would state after piece next old new → RaceFits old shown → effort new shown < effort old shown
obeyed_work would state after piece old new shown (Some cut) a e o f =
    let mid = accepted piece false old in
    let was = effort_racing old shown a.under_way in
    let less = accepted_work old piece cut shown a e f in
    let rules = ap (λ (x : Raced). effort x shown) o.0 in
    let ruling = ruled_work (would state (facts_of mid)).verdict mid shown a.under_way (f.shell.unbegun a.under_way) refl in
    omega arith
obeyed_work would state after piece old new shown None a e o f =
    let mid = listed o.0.keys (accepted piece true old) in
    let was = effort_racing old shown a.under_way in
    let ends = ap (λ (x : Raced). effort x shown) o.0.ends in
    let less = over_work (λ b. ScanEnded b true) mid shown a.under_way (f.shell.unbegun a.under_way) (ended_leads mid a.under_way refl) in
    let list = passed_list (turn_plan old) shown old.snap (turn_lane old) (may old.list) piece o.0.keys a.own.entries f.running.turn.lane.drawn e o.0.built in
    let narrow = narrowed_work old.plans shown old.snap o.0.keys old.running.other in
    omega arith

pub gives_work : {E : Type 0} (r : Result Given E) (would : ℕ → Facts → Ruling) (state after : ℕ) (piece : Pieced) (old new : Raced) (shown : Shown) → IfOk r (λ g. Answers old piece g new) → IfOk r (λ g. GivesOn would state after piece g old new) → RaceFits old shown → IfOk r (λ g. GiveSpends g (effort old shown) (effort new shown))
gives_work (Ok Accepted) would state after piece old new shown a o f = obeyed_work would state after piece old new shown (held_next (turn_lane old).held) a refl o f
gives_work (Ok (Stale asked now)) would state after piece old new shown a o f = ap (λ (x : Raced). effort x shown) o.0
gives_work (Err x) would state after piece old new shown a o f = tt

pub gives_less : {E : Type 0} (r : Result Given E) (would : ℕ → Facts → Ruling) (state after : ℕ) (piece : Pieced) (old new : Raced) (shown : Shown) → IfOk r (λ g. Answers old piece g new) → IfOk r (λ g. GivesOn would state after piece g old new) → OnErr r (new ≡ old) → RaceFits old shown → effort new shown ≤ effort old shown
gives_less r would state after piece old new shown a o e f = spends_no_more r (effort old shown) (effort new shown) (gives_work r would state after piece old new shown a o f) (put_if r (λ (x : Raced). effort x shown) new old (effort old shown) refl e)

-- an accepted piece, where the awaited one is given
pub piece_falls : (would : ℕ → Facts → Ruling) (state after : ℕ) (piece : Pieced) (old new : Raced) (shown : Shown) → Awaits old piece → GivesOn would state after piece Accepted old new → RaceFits old shown → effort new shown < effort old shown
piece_falls would state after piece old new shown a o f = obeyed_work would state after piece old new shown (held_next (turn_lane old).held) a refl o f

-- WHAT A TAKE SPENDS

held_effort : (old : Raced) (h : Option Chunk) (t : Trace) (shown : Shown) → scanning old.control ≡ true → effort (record (holding h old) { counts = counts_read old; trace = t }) shown + to_read (turn_lane old).held ≡ effort old shown + to_read h
held_effort old h t shown back =
    let new = record (holding h old) { counts = counts_read old; trace = t } in
    let is = effort_racing new shown back in
    let was = effort_racing old shown back in
    omega arith

-- it falls by the leaf that has no longer to be read
took_effort : (old new : Raced) (shown : Shown) → TakesLeaf old new → scanning old.control ≡ true → effort new shown + to_read (turn_lane old).held ≡ effort old shown + to_read (turn_lane new).held
took_effort old new shown t back = ap (λ (x : Raced). effort x shown + to_read (turn_lane old).held) t.same ∙ held_effort old (turn_lane new).held new.trace shown back

unread_effort : (old new : Raced) (shown : Shown) → TakesLeaf old new → reads_leaf old ≡ false → effort new shown ≡ effort old shown
unread_effort old new shown t r = ap (λ (x : Raced). effort x shown) (took_parts old new t ∙ ap (λ (w : Running). record old { counts = new.counts; running = w; trace = new.trace }) (t.none r))

pub leaf_spends : (old new : Raced) (shown : Shown) (before after : Counts) → TakesLeaf old new → after ≡ piece_read old before → Tries before after (effort old shown) (effort new shown)
leaf_spends old new shown before after t e = leaf_tries (scanning old.control) (turn_lane old).held (turn_lane new).held before after (effort old shown) (effort new shown) (took_effort old new shown t) (unread_effort old new shown t) e

-- a take that answers lowers the effort by its read
pub take_spends : {E : Type 0} (r : Result Taken E) (old mid new : Raced) (shown : Shown) (before after : Counts) → TakesLeaf old new → effort mid shown ≡ effort new shown → IfOk r (TakesPiece new) → after ≡ piece_read old before → IfOk r (λ taken. reads after + effort mid shown ≤ reads before + effort old shown)
take_spends r old mid new shown before after t m k e =
    let control : new.control ≡ old.control = ap (λ (x : Raced). x.control) (took_parts old new t) in
    taken_spends r (TakesPiece new) (scanning old.control) (turn_lane old).held (turn_lane new).held before after (effort old shown) (effort mid shown) (effort new shown) (λ piece k. k.own.entries) (λ off. sym (ap scanning control) ∙ off) (took_effort old new shown t) (unread_effort old new shown t) m k e
