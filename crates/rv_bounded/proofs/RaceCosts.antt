-- All that a race reads, from its opening on.
use Rattle.std.proofs.Common.{◌≡◌, ℕ, ◌+◌, ◌-◌, ◌*◌, ◌^◌, ◌<◌, ◌≤◌, List, [], ◌∷◌, length, Bool, true, false, Option, Some, None, IfSome, IsPermutation, is_some, refl, ap, sym, ◌∙◌, subst, arith, if◌then◌else◌}
use Rattle.std.proofs.lemmas.List.{length-drop}
use Rattle.rv_value.proofs.Tests.{no_way}
use Rattle.rv_value.specs.declared.record.IndexEntry.{IndexEntry}
use Rattle.rv_judge.specs.declared.counting.Counts.{Counts}
use Rattle.rv_judge.specs.declared.events.Control.{Control}
use Rattle.rv_judge.specs.declared.events.Control.TheVariants.{Building, ForegroundAlone, BackgroundAlone, FinalList, FinalTable, Done}
use Rattle.rv_judge.specs.declared.events.Event.TheVariants.{Drop}
use Rattle.rv_judge.specs.declared.events.Happening.{Happening}
use Rattle.rv_judge.specs.declared.events.Happening.TheVariants.{FinalEnded, Ruled, ScanEnded}
use Rattle.rv_judge.specs.declared.events.Strategy.TheVariants.{BackgroundOnly}
use Rattle.rv_judge.specs.declared.events.Trace.{Trace}
use Rattle.rv_judge.specs.declared.judging.Facts.{Facts}
use Rattle.rv_judge.specs.declared.judging.Verdict.{Verdict}
use Rattle.rv_judge.specs.declared.judging.Verdict.TheVariants.{Continue, AbandonScan, AbandonForeground, AbandonBackground}
use Rattle.rv_judge.specs.Counting.{leaf_read}
use Rattle.rv_judge.specs.Course.{next_control}
use Rattle.rv_judge.specs.Tracing.{CountsRise, counted}
use Rattle.rv_judge.specs.Verdicts.{Ruling}
use Rattle.rv_reader.specs.Shown.{Shown}
use Rattle.rv_scan.specs.Places.{PageTurns}
use Rattle.rv_reader.specs.declared.step.Step.{Step as Stepped}
use Rattle.rv_value.specs.declared.record.Record.{Record}
use Rattle.rv_reader.specs.declared.step.Step.TheVariants.{Row, Working, End}
use Rattle.rv_jscan.specs.declared.jscan.Given.{Given}
use Rattle.rv_jscan.specs.declared.jscan.Given.TheVariants.{Accepted, Stale}
use Rattle.rv_jscan.specs.declared.jscan.ScanCounts.{ScanCounts}
use Rattle.rv_jscan.specs.declared.jscan.Taken.{Taken}
use Rattle.rv_jscan.specs.Pieces.{Pieced}
use Rattle.rv_jscan.specs.Steps.{held_next}
use Rattle.rv_final.specs.Stage.{first_key, keys_left}
use Rattle.rv_race.specs.declared.running.Running.{Running}
use Rattle.rv_race.specs.Effort.{keys_work}
use Rattle.rv_race.specs.Given.{Answers, one_leaf, piece_read, reads_leaf, turn_lane, turn_plan, turn_scan}
use Rattle.rv_race.specs.Opened.{DoesAs, MayRead, ended_by}
use Rattle.rv_race.specs.Raced.{RaceFits, Raced, rows_of}
use Rattle.rv_final.specs.Shell.{scanning}
use Rattle.rv_final.proofs.Shells.{only_scanning}
use Rattle.rv_race.specs.Rulings.{GivesOn, Obeys, accepted, account_of, dropped, ended, facts_of, going_on, gone, index_at, least_with, listed, more, over, passed_on, ruled, scan_of, stopped, told_over}
use Rattle.skew_judges.specs.Guard.{IsBounded, Keeps, goes_on}
use Rattle.rv_bounded.specs.Calls.{Call, lost_by, lost_of}
use Rattle.rv_bounded.specs.Calls.Call.{Step, StepLost, Take, TakeLost, Give}
use Rattle.rv_bounded.specs.RaceReads.{RaceAllOver, RaceOver, RacesAreBounded}
use Rattle.rv_bounded.specs.Races.{RaceDoesAll, RaceDoesCall, RaceGives, RaceSteps, RaceStepsLost, RaceTakes}
use Rattle.rv_bounded.proofs.Ahead.{greatest}
use Rattle.rv_bounded.proofs.RaceLaws.{Leafs, Placed, RaceSpends, accepted_room, all_dropped, below_room, give_spends, idle_spends, leafs_placed, least_less, only_leafs, opened_most, opened_placed, other_below, race_ahead, scan_dropped, scans_over, step_lost, step_spends, take_lost, take_spends, takes_leafs}
use Rattle.rv_bounded.proofs.RaceSound.{RestSound, RunsSound, accepted_rest_sound, advanced_sound, first_sound, goes_sound, held_by, held_sound, kept_at, leaf_sound, list_sound, narrowed_sound, turned_sound, turn_capped, turn_scanned}
use Rattle.rv_bounded.proofs.Sound.{IsShort, held_short, keeps_fewer, short_held}
use Rattle.rv_bounded.proofs.Stages.{behind, behind_idle, drawn_short, list_fewer, others_of, others_same, page_rise, record_rise, same_others, stage_by, stage_less, stage_most, sum_to, table_fewer}
use Rattle.rv_bounded.proofs.Costs.{back_sum}
use Rattle.rv_bounded.proofs.WholeLaws.{whole_sum}
use Rattle.rv_bounded.proofs.Sums.{Spent, none_spent, same_less, spent_on, sum_none, sum_lost}
use Rattle.rv_bounded.proofs.Reading.{one_record, one_page}

-- a list has no more keys than so many
abbrev IsFew : ℕ → List ℕ → Type 0
IsFew most keys = length keys ≤ most

pub record RaceSound (p : ℕ) (r : Raced) : Type 0 where
  pub runs : scanning r.control ≡ true → RunsSound p r.counts r.running
  pub list : IfSome r.list (IsFew (p + 48))

-- WHAT HOLDS FROM OPENING ON
pub record RaceWhole (p planned : ℕ) (r : Raced) : Type 0 where
  pub placed : Placed p planned r
  pub sound : RaceSound p r

-- the reads of the final stage that a race may still come to
abbrev pub stage_of : ℕ → Raced → ℕ
stage_of p r = stage_by r.control (p + 48) p (keys_work r) r.last.next

-- what a call costs, a leaf or another read at most where no memory is found
pub record RaceCosts (p planned lost : ℕ) (old new : Raced) : Type 0 where
  pub leaf : ℕ
  pub other : ℕ
  pub both : leaf + other ≡ lost
  pub spends : RaceSpends p planned leaf old new
  pub fewer : others_of new.trace + stage_of p new ≤ others_of old.trace + stage_of p old + other
  pub sound : RaceSound p new

whole_on : (p planned lost : ℕ) (old new : Raced) → RaceCosts p planned lost old new → RaceWhole p planned old → RaceWhole p planned new
whole_on p planned lost old new c w = record { placed = c.spends.placed; sound = c.sound }

-- What is left of the final stage.

left_few : (most : ℕ) (list : Option (List ℕ)) (at : ℕ) → IfSome list (IsFew most) → length (keys_left list at) ≤ most
left_few most None at few = omega arith
left_few most (Some keys) at few = let long = length-drop at keys in omega (arith, few, long)

pages_most : (p : ℕ) → p ≤ p + 48
pages_most p = omega arith

stage_few : (p : ℕ) (r : Raced) → RaceSound p r → stage_of p r ≤ p + 48
stage_few p r s = stage_most r.control (p + 48) p (keys_work r) r.last.next (pages_most p) (left_few (p + 48) r.list r.at s.list)

stage_at : (p : ℕ) (r : Raced) (c : Control) → r.control ≡ c → stage_of p r ≡ stage_by c (p + 48) p (keys_work r) r.last.next
stage_at p r c e = ap (λ (k : Control). stage_by k (p + 48) p (keys_work r) r.last.next) e

-- A PIECE IS GIVEN.

gone_sound : (p : ℕ) (h : Happening) (r : Raced) → IfSome r.list (IsFew (p + 48)) → scanning (next_control BackgroundOnly r.control h) ≡ false → RaceSound p (gone h r)
gone_sound p h r list off = record { runs = λ on. no_way (sym on ∙ off); list = list }

going_sound : (p : ℕ) (r : Raced) → RestSound p r.counts r.running → IfSome r.list (IsFew (p + 48)) → RaceSound p (going_on r)
going_sound p r rest list = record { runs = λ on. advanced_sound p (length r.plans) r.counts (is_some r.list) r.running rest; list = list }

dropped_sound : (p : ℕ) (r : Raced) → scanning r.control ≡ true → RestSound p r.counts r.running → IfSome r.list (IsFew (p + 48)) → RaceSound p (dropped r)
dropped_sound p r on rest list = by (more r)
  where
    t : Raced
    t = told_over (Drop (index_at r (turn_scan r))) r

    by : (b : Bool) → RaceSound p (over b (Ruled AbandonScan b (is_some r.list)) t)
    by true = going_sound p t rest list
    by false = gone_sound p (Ruled AbandonScan false (is_some r.list)) t list (ap (λ (c : Control). scanning (next_control BackgroundOnly c (Ruled AbandonScan false (is_some r.list)))) (only_scanning r.control on) ∙ scan_dropped (is_some r.list))

stopped_sound : (p : ℕ) (r : Raced) → scanning r.control ≡ true → IfSome r.list (IsFew (p + 48)) → RaceSound p (stopped r)
stopped_sound p r on list =
    let off : scanning (next_control BackgroundOnly r.control (Ruled AbandonBackground (more r) (is_some r.list))) ≡ false = ap (λ (c : Control). scanning (next_control BackgroundOnly c (Ruled AbandonBackground (more r) (is_some r.list)))) (only_scanning r.control on) ∙ all_dropped (more r) (is_some r.list) in
    record { runs = λ h. no_way (sym h ∙ off); list = list }

passed_sound : (p : ℕ) (r : Raced) → RunsSound p r.counts r.running → IfSome r.list (IsFew (p + 48)) → RaceSound p (passed_on r)
passed_sound p r runs list = record { runs = λ on. turned_sound p r.counts r.running runs; list = list }

ruled_sound : (p : ℕ) (verdict : Verdict) (r : Raced) → scanning r.control ≡ true → (goes_on verdict ≡ true → RunsSound p r.counts r.running) → RestSound p r.counts r.running → IfSome r.list (IsFew (p + 48)) → RaceSound p (ruled verdict r)
ruled_sound p Continue r on goes rest list = passed_sound p r (goes refl) list
ruled_sound p AbandonScan r on goes rest list = dropped_sound p r on rest list
ruled_sound p AbandonForeground r on goes rest list = passed_sound p r (goes refl) list
ruled_sound p AbandonBackground r on goes rest list = stopped_sound p r on list

ended_sound : (p : ℕ) (r : Raced) → scanning r.control ≡ true → RestSound p r.counts r.running → IfSome r.list (IsFew (p + 48)) → RaceSound p (ended r)
ended_sound p r on rest list = by (more r)
  where
    by : (b : Bool) → RaceSound p (over b (ScanEnded b true) r)
    by true = going_sound p r rest list
    by false = gone_sound p (ScanEnded false true) r list (ap (λ (c : Control). scanning (next_control BackgroundOnly c (ScanEnded false true))) (only_scanning r.control on) ∙ scans_over true)

turn_lt : (p planned : ℕ) (r : Raced) → Placed p planned r → scanning r.control ≡ true → turn_scan r < length r.counts
turn_lt p planned r w on = below_room (turn_scan r) r.running.next planned (length r.counts) (w.runs on).turn (w.runs on).next w.room

-- where the judge lets a scan go on it has kept fewer keys than the table has pages
judged_sound : (p planned : ℕ) (would : ℕ → Facts → Ruling) (state : ℕ) (piece : Pieced) (old : Raced) → IsBounded would → Placed p planned old → p ≤ greatest → RaceSound p old → scanning old.control ≡ true → goes_on (would state (facts_of (accepted piece false old))).verdict ≡ true → RunsSound p (accepted piece false old).counts (accepted piece false old).running
judged_sound p planned would state piece old rule w small s on goes =
    let v = accepted piece false old in
    let keeps : Keeps (facts_of v) = (rule state (facts_of v)).0 goes in
    let lt = turn_lt p planned old w on in
    let runs = s.runs on in
    let least = least_with v (scan_of v.running.other) in
    let fewer = keeps_fewer v.control (account_of v (turn_scan v)) (turn_scan v) least 0 keeps (turn_scanned p piece old lt runs.turn) (turn_capped piece old lt) in
    goes_sound p planned piece old (w.runs on) lt small (below_room (kept_at v.counts (turn_scan old)) least old.guaranteed p fewer (least_less v (scan_of v.running.other)) w.less) runs

completed_sound : (p planned : ℕ) (piece : Pieced) (old : Raced) (keys : List ℕ) → Placed p planned old → RaceSound p old → scanning old.control ≡ true → length piece.entries ≤ 48 → IsPermutation (turn_lane (accepted piece true old)).building keys → RaceSound p (ended (listed keys (accepted piece true old)))
completed_sound p planned piece old keys w s on short perm =
    let v = accepted piece true old in
    let r = listed keys v in
    let runs = s.runs on in
    let places = w.runs on in
    let below = other_below old.running.other old.running.next planned (length v.counts) places.other places.next (accepted_room piece true old planned w.room) in
    let rest = narrowed_sound p keys v.counts v.running r.running refl refl places.other below (accepted_rest_sound p planned piece true old places runs.rest) in
    ended_sound p r on rest (list_sound p piece old keys short perm runs.turn.few)

given_sound : (p planned : ℕ) (would : ℕ → Facts → Ruling) (state after : ℕ) (piece : Pieced) (old new : Raced) → IsBounded would → Placed p planned old → p ≤ greatest → RaceSound p old → scanning old.control ≡ true → length piece.entries ≤ 48 → Obeys would state after piece (held_next (turn_lane old).held) old new → RaceSound p new
given_sound p planned would state after piece old new rule w small s on short obeys = by (held_next (turn_lane old).held) obeys
  where
    verdict : Verdict
    verdict = (would state (facts_of (accepted piece false old))).verdict

    by : (next : Option IndexEntry) → Obeys would state after piece next old new → RaceSound p new
    by (Some cut) asked =
        let rest = accepted_rest_sound p planned piece false old (w.runs on) (s.runs on).rest in
        subst (RaceSound p) (sym asked.0) (ruled_sound p verdict (accepted piece false old) on (λ goes. judged_sound p planned would state piece old rule w small s on goes) rest s.list)
    by None done = subst (RaceSound p) (sym done.0.ends) (completed_sound p planned piece old done.0.keys w s on short done.0.built)

give_costs : (p planned : ℕ) (would : ℕ → Facts → Ruling) (old new : Raced) → p ≤ greatest → IsBounded would → RaceWhole p planned old → RaceGives would old new → RaceCosts p planned 0 old new
give_costs p planned would old new small rule w gives = by gives.given gives.answers gives.obeys
  where
    spends : RaceSpends p planned 0 old new
    spends = give_spends p planned would old new rule w.placed gives

    by : (given : Given) → Answers old gives.piece given new → GivesOn would gives.state gives.after gives.piece given old new → RaceCosts p planned 0 old new
    by Accepted answers obeys =
        let on = answers.under_way in
        let short = held_short (turn_lane old).held gives.piece.entries answers.own.entries (w.sound.runs on).turn.short in
        let sound = given_sound p planned would gives.state gives.after gives.piece old new rule w.placed small w.sound on short obeys in
        record {
          leaf = 0;
          other = 0;
          both = refl;
          spends = spends;
          fewer = back_sum (others_of new.trace) (stage_of p new) (others_of old.trace) (stage_of p old) (p + 48) (same_others old.trace new.trace gives.counts) (stage_few p new sound) (stage_at p old BackgroundAlone (only_scanning old.control on));
          sound = sound;
        }
    by (Stale asked now) answers obeys = record {
      leaf = 0;
      other = 0;
      both = refl;
      spends = spends;
      fewer = sum_none (others_of new.trace) (others_of old.trace) (stage_of p new) (stage_of p old) (same_others old.trace new.trace gives.counts) (same_less (stage_of p new) (stage_of p old) (ap (stage_of p) obeys.0));
      sound = subst (RaceSound p) (sym obeys.0) w.sound;
    }

-- A PIECE IS TAKEN.

fits_short : (r : Raced) (shown : Shown) → RaceFits r shown → IfSome (turn_lane r).held IsShort
fits_short r shown f = drawn_short (turn_plan r) shown r.snap (turn_lane r).place (turn_lane r).held f.running.turn.lane.drawn

taken_sound : (p planned : ℕ) (old new : Raced) → Placed p planned old → Leafs old new → new.list ≡ old.list → IfSome (turn_lane new).held IsShort → RaceSound p old → RaceSound p new
taken_sound p planned old new w t list short s = record {
  runs = λ on. subst (λ (x : Running). RunsSound p new.counts x) (sym t.running) (subst (λ (cs : List ScanCounts). RunsSound p cs (record old.running { turn = held_by (turn_lane new).held old.running.turn })) (sym t.counts) (by (sym (ap scanning t.control) ∙ on) (reads_leaf old)));
  list = subst (λ (l : Option (List ℕ)). IfSome l (IsFew (p + 48))) (sym list) s.list;
}
  where
    by : scanning old.control ≡ true → (b : Bool) → RunsSound p (if b then one_leaf old else old.counts) (record old.running { turn = held_by (turn_lane new).held old.running.turn })
    by on true = leaf_sound p planned old.counts old.running (turn_lane new).held (w.runs on) (turn_lt p planned old w on) short (s.runs on)
    by on false = held_sound p old.counts old.running (turn_lane new).held short (s.runs on)

piece_pages : (r : Raced) (c : Counts) → (piece_read r c).pages ≡ c.pages
piece_pages r c = by (reads_leaf r)
  where
    by : (b : Bool) → (if b then leaf_read c else c).pages ≡ c.pages
    by true = refl
    by false = refl

piece_records : (r : Raced) (c : Counts) → (piece_read r c).records ≡ c.records
piece_records r c = by (reads_leaf r)
  where
    by : (b : Bool) → (if b then leaf_read c else c).records ≡ c.records
    by true = refl
    by false = refl

piece_others : (r : Raced) (t u : Trace) (c d : Counts) → CountsRise t u c d → d ≡ piece_read r c → others_of u ≤ others_of t
piece_others r t u c d rise reads = others_same t u c d rise (ap (λ (x : Counts). x.pages) reads ∙ piece_pages r c) (ap (λ (x : Counts). x.records) reads ∙ piece_records r c)

takes_costs : (p planned lost : ℕ) (taken : Option Taken) (shown : Shown) (old new : Raced) → RaceSpends p planned lost old new → RaceWhole p planned old → RaceTakes taken old new → RaceFits new shown → lost + 0 ≡ lost → RaceCosts p planned lost old new
takes_costs p planned lost taken shown old new spends w takes fits sum = record {
  leaf = lost;
  other = 0;
  both = sum;
  spends = spends;
  fewer = sum_none (others_of new.trace) (others_of old.trace) (stage_of p new) (stage_of p old) (piece_others old old.trace new.trace takes.before takes.behind takes.counts takes.reads) (same_less (stage_of p new) (stage_of p old) (ap (stage_of p) takes.leaves.same));
  sound = taken_sound p planned old new w.placed (takes_leafs old new takes.leaves) (ap (λ (x : Raced). x.list) takes.leaves.same) (fits_short new shown fits) w.sound;
}

-- A STEP FOR WHICH NO MEMORY IS FOUND.

lost_costs : (p planned : ℕ) (shown : Shown) (old new : Raced) → p + 2 * planned < greatest → RaceWhole p planned old → RaceStepsLost old new → RaceFits new shown → RaceCosts p planned 1 old new
lost_costs p planned shown old new small w lost fits = by old.control refl lost.may_read
  where
    leafs : Leafs old new
    leafs = only_leafs old new lost.only

    stage : stage_of p new ≤ stage_of p old
    stage = subst (λ (x : Raced). stage_by new.control (p + 48) p (keys_work new) new.last.next ≤ stage_by x.control (p + 48) p (keys_work old) x.last.next) lost.only.same (stage_less new.control (p + 48) p (keys_work new) (keys_work old) new.last.next lost.only.fewer)

    costs : (leaf other : ℕ) → leaf + other ≡ 1 → RaceSpends p planned leaf old new → others_of new.trace + stage_of p new ≤ others_of old.trace + stage_of p old + other → RaceCosts p planned 1 old new
    costs leaf other both spends fewer = record {
      leaf = leaf;
      other = other;
      both = both;
      spends = spends;
      fewer = fewer;
      sound = taken_sound p planned old new w.placed leafs (ap (λ (x : Raced). x.list) lost.only.same) (fits_short new shown fits) w.sound;
    }

    -- a leaf at most was read
    leaf_lost : others_of new.trace ≤ others_of old.trace → RaceCosts p planned 1 old new
    leaf_lost none = costs 1 0 refl (step_lost p planned old new small w.placed lost) (sum_none (others_of new.trace) (others_of old.trace) (stage_of p new) (stage_of p old) none stage)

    -- a record or a page at most
    other_lost : scanning old.control ≡ false → lost.behind.leaves ≡ lost.before.leaves → others_of new.trace ≤ others_of old.trace + 1 → RaceCosts p planned 1 old new
    other_lost off none one = costs 0 1 refl (idle_spends p planned old new lost.before lost.behind w.placed leafs off lost.counts none) (sum_lost (others_of new.trace) (others_of old.trace) (stage_of p new) (stage_of p old) one stage)

    unread : lost.behind ≡ lost.before → RaceCosts p planned 1 old new
    unread same = leaf_lost (others_same old.trace new.trace lost.before lost.behind lost.counts (ap (λ (x : Counts). x.pages) same) (ap (λ (x : Counts). x.records) same))

    by : (c : Control) → old.control ≡ c → MayRead c old lost.before lost.behind → RaceCosts p planned 1 old new
    by Building e reads = unread reads
    by ForegroundAlone e reads = unread reads
    by BackgroundAlone e reads = leaf_lost (piece_others old old.trace new.trace lost.before lost.behind lost.counts reads)
    by FinalList e reads = other_lost (ap scanning e) (one_record lost.before lost.behind reads) (record_rise old.trace new.trace lost.before lost.behind lost.counts reads)
    by FinalTable e reads = other_lost (ap scanning e) (one_page lost.before lost.behind reads) (page_rise old.trace new.trace lost.before lost.behind lost.counts reads)
    by Done e reads = unread reads

-- A STEP

-- its reads beside leaves, and what it leaves
record Others (p : ℕ) (old new : Raced) : Type 0 where
  fewer : others_of new.trace + stage_of p new ≤ others_of old.trace + stage_of p old + 0
  sound : RaceSound p new

counted_sound : (p : ℕ) (stepped new : Raced) (c d : Counts) → new ≡ record stepped { trace = counted stepped.trace c d } → RaceSound p stepped → RaceSound p new
counted_sound p stepped new c d e s = subst (RaceSound p) (sym e) (record { runs = s.runs; list = s.list })

ended_control : (s : Stepped Record) (r : Raced) (c : Control) → r.control ≡ c → next_control BackgroundOnly c FinalEnded ≡ Done → (ended_by s r).control ≡ behind s c
ended_control (Row x) r c e over = e
ended_control Working r c e over = e
ended_control End r c e over = ap (λ (k : Control). next_control BackgroundOnly k FinalEnded) e ∙ over

ended_list : (s : Stepped Record) (r : Raced) → (ended_by s r).list ≡ r.list
ended_list (Row x) r = refl
ended_list Working r = refl
ended_list End r = refl

-- of the final stage
stage_others : (p : ℕ) (s : Stepped Record) (at : Control) (old v stepped new : Raced) (c d : Counts) (had : ℕ) → scanning at ≡ false → next_control BackgroundOnly at FinalEnded ≡ Done → v.control ≡ at → v.list ≡ old.list → stepped ≡ ended_by s v → new ≡ record stepped { trace = counted stepped.trace c d } → RaceSound p old → stage_of p old ≡ had → (stepped.control ≡ behind s at → others_of new.trace + stage_of p stepped ≤ others_of old.trace + had + 0) → Others p old new
stage_others p s at old v stepped new c d had off over is list does e sound was less =
    let control : stepped.control ≡ behind s at = ap (λ (x : Raced). x.control) does ∙ ended_control s v at is over in
    let idle : scanning stepped.control ≡ false = ap scanning control ∙ behind_idle s at off in
    let lists : stepped.list ≡ old.list = ap (λ (x : Raced). x.list) does ∙ ended_list s v ∙ list in
    let still : RaceSound p stepped = record {
      runs = λ on. no_way (sym on ∙ idle);
      list = subst (λ (l : Option (List ℕ)). IfSome l (IsFew (p + 48))) (sym lists) sound.list;
    } in
    record {
      fewer = sum_to (others_of new.trace) (stage_of p new) (stage_of p stepped) (others_of old.trace) had (stage_of p old) (ap (stage_of p) e) was (less control);
      sound = counted_sound p stepped new c d e still;
    }

does_others : (p planned : ℕ) (would : ℕ → Facts → Ruling) (state after : ℕ) (shown : Shown) (c d : Counts) (s : Stepped Record) (control : Control) (old stepped new : Raced) → p ≤ greatest → shown.pages old.table old.snap ≡ p → IsBounded would → RaceWhole p planned old → old.control ≡ control → DoesAs control would state after shown c d s old stepped → CountsRise old.trace new.trace c d → new ≡ record stepped { trace = counted stepped.trace c d } → Others p old new
does_others p planned would state after shown c d s Building old stepped new small pages rule w is does rise e = absurd does
does_others p planned would state after shown c d s ForegroundAlone old stepped new small pages rule w is does rise e = absurd does
does_others p planned would state after shown c d s BackgroundAlone old stepped new small pages rule w is does rise e =
    let one = does.1 in
    let mid = one.taken in
    let leafs = takes_leafs old mid one.leaves in
    let held = short_held (turn_lane mid).held one.piece.entries one.awaits.own.entries one.short in
    let taken = taken_sound p planned old mid w.placed leafs (ap (λ (x : Raced). x.list) one.leaves.same) held w.sound in
    let given = given_sound p planned would state after one.piece mid stepped rule (leafs_placed p planned old mid w.placed leafs) small taken one.awaits.under_way one.short one.obeys in
    let sound = counted_sound p stepped new c d e given in
    record {
      fewer = back_sum (others_of new.trace) (stage_of p new) (others_of old.trace) (stage_of p old) (p + 48) (piece_others old old.trace new.trace c d rise does.2) (stage_few p new sound) (stage_at p old BackgroundAlone is);
      sound = sound;
    }
does_others p planned would state after shown c d s FinalList old stepped new small pages rule w is does rise e =
    stage_others p s FinalList old (record old { at = stepped.at }) stepped new c d (keys_work old) refl refl is refl does.2 e w.sound (stage_at p old FinalList is) (λ now. list_fewer (p + 48) p (keys_work stepped) (keys_work old) stepped.last.next old.trace new.trace c d s (first_key old.list None old.at) old.only (rows_of old shown) stepped.control rise does.1 does.3 now)
does_others p planned would state after shown c d s FinalTable old stepped new small pages rule w is does rise e =
    stage_others p s FinalTable old (record old { last = stepped.last }) stepped new c d (p - old.last.next) refl refl is refl does.2 e w.sound (stage_at p old FinalTable is) (λ now. table_fewer (p + 48) p (keys_work stepped) old.last stepped.last old.trace new.trace c d s stepped.control rise does.1 (subst (λ (n : ℕ). PageTurns s old.last stepped.last n) pages does.3) now)
does_others p planned would state after shown c d s Done old stepped new small pages rule w is does rise e = record {
  fewer = sum_none (others_of new.trace) (others_of old.trace) (stage_of p new) (stage_of p old) (others_same old.trace new.trace c d rise (ap (λ (x : Counts). x.pages) does.2) (ap (λ (x : Counts). x.records) does.2)) (same_less (stage_of p new) (stage_of p old) (ap (stage_of p) e ∙ ap (stage_of p) does.3));
  sound = counted_sound p stepped new c d e (subst (RaceSound p) (sym does.3) w.sound);
}

step_costs : (p planned : ℕ) (would : ℕ → Facts → Ruling) (old new : Raced) → p + 2 * planned < greatest → p ≤ greatest → IsBounded would → RaceWhole p planned old → (steps : RaceSteps would old new) → steps.shown.pages old.table old.snap ≡ p → RaceCosts p planned 0 old new
step_costs p planned would old new small most rule w steps is =
    let does = steps.does in
    let left = does_others p planned would steps.state steps.after steps.shown steps.before steps.behind steps.scanned old.control old does.stepped new most is rule w refl does.does steps.counts does.counts in
    record {
      leaf = 0;
      other = 0;
      both = refl;
      spends = step_spends p planned would old new small rule w.placed steps;
      fewer = left.fewer;
      sound = left.sound;
    }

-- ALL CALLS

does_costs : (p planned : ℕ) (call : Call) (would : ℕ → Facts → Ruling) (old new : Raced) → p + 2 * planned < greatest → p ≤ greatest → IsBounded would → RaceWhole p planned old → (does : RaceDoesCall call would old new) → RaceOver call would p old new does → RaceCosts p planned (lost_of call) old new
does_costs p planned Step would old new small most rule w does is = step_costs p planned would old new small most rule w does is
does_costs p planned StepLost would old new small most rule w does fits = lost_costs p planned fits.0 old new small w does fits.1
does_costs p planned Take would old new small most rule w does fits = takes_costs p planned 0 (Some does.0) fits.0 old new (take_spends p planned does.0 old new small w.placed does.1) w does.1 fits.1 refl
does_costs p planned TakeLost would old new small most rule w does fits = takes_costs p planned 1 None fits.0 old new (take_lost p planned old new small w.placed does) w does fits.1 refl
does_costs p planned Give would old new small most rule w does none = give_costs p planned would old new most rule w does

abbrev AllCost : ℕ → ℕ → ℕ → Raced → Raced → Type 0
AllCost p planned lost old new = Spent (RaceWhole p planned) (λ (r : Raced). r.trace.leaves + race_ahead p planned r) (λ (r : Raced). others_of r.trace + stage_of p r) lost old new

all_cost : (p planned : ℕ) (calls : List Call) (old new : Raced) → p + 2 * planned < greatest → p ≤ greatest → RaceWhole p planned old → (does : RaceDoesAll calls old new) → RaceAllOver calls p old new does → AllCost p planned (lost_by calls) old new
all_cost p planned [] old new small most w does over = none_spent old new does w
all_cost p planned (call ∷ calls) old new small most w does over =
    let mid = does.0 in
    let before = all_cost p planned calls old mid small most w does.1 over.0 in
    let cost = does_costs p planned call does.2.would mid new small most does.2.bounded before.holds does.2.does over.1 in
    let last : AllCost p planned (lost_of call) mid new = record { holds = whole_on p planned (lost_of call) mid new cost before.holds; leaf = cost.leaf; other = cost.other; both = cost.both; leaves = cost.spends.fewer; fewer = cost.fewer } in
    spent_on (lost_by calls) (lost_of call) old mid new before last

-- THE LAW

small_all : (p planned most : ℕ) → p < 2 ^ 63 → planned ≤ 8 → most ≡ 2 ^ 64 - 1 → (p + 2 * planned < most) × (p ≤ most)
small_all p planned most h l m = (omega (arith, h, l, m), omega (arith, h, l, m))

pub races_bounded : RacesAreBounded
races_bounded table snap only scans cursor opening p calls opened now two few less is does over =
    whole_sum now.trace.pages now.trace.leaves now.trace.fetches (race_ahead p planned now) (stage_of p now) opened.trace.leaves (race_ahead p planned opened) opened.trace.pages opened.trace.fetches (stage_of p opened) p planned cost.leaf cost.other (lost_by calls) cost.leaves cost.fewer cost.both (ap (λ (x : Raced). x.trace.leaves) is.is) (ap (λ (x : Raced). x.trace.pages) is.is) (ap (λ (x : Raced). x.trace.fetches) is.is) (opened_most table snap only scans cursor opening p opened two is) (ap (stage_of p) is.is)
  where
    planned : ℕ
    planned = length scans

    small : (p + 2 * planned < greatest) × (p ≤ greatest)
    small = small_all p planned greatest less few refl

    sound : RaceSound p opened
    sound = subst (RaceSound p) (sym is.is) (record { runs = λ on. first_sound p; list = tt })

    whole : RaceWhole p planned opened
    whole = record {
      placed = opened_placed table snap only scans cursor opening p opened two few is;
      sound = sound;
    }

    cost : AllCost p planned (lost_by calls) opened now
    cost = all_cost p planned calls opened now small.0 small.1 whole does over
