-- The leaves that a race reads, from its opening on.
use Rattle.std.proofs.Common.{◌≡◌, ℕ, ◌+◌, ◌-◌, ◌*◌, ◌<◌, ◌≤◌, List, [], ◌∷◌, length, length-set, min, Bool, true, false, not, Option, Some, None, IfSome, is_some, nat_lt, refl, ap, sym, ◌∙◌, subst, arith, if◌then◌else◌}
use Rattle.std.specs.Cmp.{first_so}
use Rattle.std.proofs.lemmas.Bool.{ltb-true, ltb-false}
use Rattle.rv_value.proofs.Tests.{no_way}
use Rattle.rv_value.specs.declared.record.IndexEntry.{IndexEntry}
use Rattle.rv_judge.specs.declared.counting.Counts.{Counts}
use Rattle.rv_judge.specs.declared.events.Control.{Control}
use Rattle.rv_judge.specs.declared.events.Control.TheVariants.{Building, ForegroundAlone, BackgroundAlone, FinalList, FinalTable, Done}
use Rattle.rv_judge.specs.declared.events.Event.TheVariants.{Drop}
use Rattle.rv_judge.specs.declared.events.Happening.{Happening}
use Rattle.rv_judge.specs.declared.events.Happening.TheVariants.{FinalEnded, Ruled, ScanEnded}
use Rattle.rv_judge.specs.declared.events.Strategy.TheVariants.{BackgroundOnly}
use Rattle.rv_judge.specs.declared.judging.Facts.{Facts}
use Rattle.rv_judge.specs.declared.judging.Verdict.{Verdict}
use Rattle.rv_judge.specs.declared.judging.Verdict.TheVariants.{Continue, AbandonScan, AbandonForeground, AbandonBackground}
use Rattle.rv_judge.specs.Counting.{leaf_read}
use Rattle.rv_judge.specs.Course.{next_control}
use Rattle.rv_judge.specs.Tracing.{CountsRise, counted}
use Rattle.rv_judge.specs.Verdicts.{Ruling}
use Rattle.rv_restrict.specs.declared.atom.Atom.{Atom}
use Rattle.rv_reader.specs.Shown.{Shown}
use Rattle.rv_reader.specs.declared.step.Step.{Step as Stepped}
use Rattle.rv_value.specs.declared.record.Record.{Record}
use Rattle.rv_reader.specs.declared.step.Step.TheVariants.{Row, Working, End}
use Rattle.rv_final.specs.Stage.{first_key}
use Rattle.rv_reader.specs.declared.reader.Chunk.{Chunk}
use Rattle.rv_jscan.specs.declared.jscan.Given.{Given}
use Rattle.rv_jscan.specs.declared.jscan.Given.TheVariants.{Accepted, Stale}
use Rattle.rv_jscan.specs.declared.jscan.ScanCounts.{ScanCounts}
use Rattle.rv_jscan.specs.declared.jscan.ScanPlan.{ScanPlan}
use Rattle.rv_jscan.specs.declared.jscan.Taken.{Taken}
use Rattle.rv_jscan.specs.declared.jscan.Taken.TheVariants.{Piece, Nothing}
use Rattle.rv_jscan.specs.Joint.{counts_at, no_counts}
use Rattle.rv_jscan.specs.Pieces.{Pieced}
use Rattle.rv_jscan.specs.Lanes.{narrowed_lane}
use Rattle.rv_jscan.specs.Steps.{eight, held_next, leaf_counted, piece_counted}
use Rattle.rv_race.specs.declared.running.Runner.{Runner}
use Rattle.rv_race.specs.declared.running.Running.{Running}
use Rattle.rv_race.specs.Given.{Answers, TakesLeaf, TakesPiece, counts_read, one_leaf, piece_read, reads_leaf, turn_lane, turn_scan}
use Rattle.rv_race.specs.Opened.{DoesAs, MayRead, OnePiece, OnlyTakes, Opened, ended_by}
use Rattle.rv_race.specs.Raced.{Raced, rows_of}
use Rattle.rv_final.specs.Shell.{scanning}
use Rattle.rv_final.proofs.Shells.{only_scanning}
use Rattle.rv_race.specs.Rulings.{GivesOn, Obeys, accepted, dropped, ended, facts_of, going_on, gone, index_at, kept_of, least_with, listed, more, narrowed_by, over, passed_on, recounted_by, ruled, scan_of, stopped, told_over}
use Rattle.rv_race.specs.Ways.{advanced, first_two, has_next, turned}
use Rattle.skew_judges.specs.Guard.{IsBounded, Keeps, goes_on, share}
use Rattle.rv_bounded.specs.Calls.{Call, lost_by, lost_of}
use Rattle.rv_bounded.specs.Calls.Call.{Step, StepLost, Take, TakeLost, Give}
use Rattle.rv_bounded.specs.Races.{RaceDoesAll, RaceDoesCall, RaceGives, RaceSteps, RaceStepsLost, RaceTakes, RacesReadFewLeaves}
use Rattle.rv_bounded.proofs.Ahead.{greatest, has_held, held_one, one_held, none_held, held_few, small_share}
use Rattle.rv_bounded.proofs.Shares.{all_scans, first_scan, share_less, to_read}
use Rattle.rv_bounded.proofs.RaceAhead.{Runs, advanced_fewer, advanced_runs, other_left, other_same, race_sum, rest_sum, turn_leaves, turn_left, turned_fewer, turned_runs}
use Rattle.rv_bounded.proofs.Sums.{less_by, le_on, at_most, min_left, share_more, both_less, rise_one, same_one, sum_read, sum_none, sum_lost, sum_more, both_more, great_sum, same_less, zero_most, risen_most, zero_least, add_lost, whole_sum, rise_none, quiet_sum, still_sum}
use Rattle.rv_bounded.proofs.Reading.{one_record, one_page, page_none, key_none}

-- WHAT HOLDS FROM OPENING ON
pub record Placed (p planned : ℕ) (r : Raced) : Type 0 where
  pub plans : length r.plans ≡ planned
  pub room : planned ≤ length r.counts
  pub less : r.guaranteed ≤ p
  pub runs : scanning r.control ≡ true → Runs planned r.running

-- THE LEAVES AHEAD while scans are under way
abbrev pub race_ahead : ℕ → ℕ → Raced → ℕ
race_ahead p planned r = if scanning r.control then race_sum p planned r.counts r.running else 0

-- what a call costs
pub record RaceSpends (p planned lost : ℕ) (old new : Raced) : Type 0 where
  pub placed : Placed p planned new
  pub fewer : new.trace.leaves + race_ahead p planned new ≤ old.trace.leaves + race_ahead p planned old + lost

racing_left : (p planned : ℕ) (r : Raced) → scanning r.control ≡ true → race_ahead p planned r ≡ race_sum p planned r.counts r.running
racing_left p planned r on = ap (λ (b : Bool). if b then race_sum p planned r.counts r.running else 0) on

idle_left : (p planned : ℕ) (r : Raced) → scanning r.control ≡ false → race_ahead p planned r ≡ 0
idle_left p planned r off = ap (λ (b : Bool). if b then race_sum p planned r.counts r.running else 0) off

-- Where the background ends no scan is under way.

pub scans_over : (listed : Bool) → scanning (next_control BackgroundOnly BackgroundAlone (ScanEnded false listed)) ≡ false
scans_over true = refl
scans_over false = refl

pub scan_dropped : (listed : Bool) → scanning (next_control BackgroundOnly BackgroundAlone (Ruled AbandonScan false listed)) ≡ false
scan_dropped true = refl
scan_dropped false = refl

pub all_dropped : (more listed : Bool) → scanning (next_control BackgroundOnly BackgroundAlone (Ruled AbandonBackground more listed)) ≡ false
all_dropped more true = refl
all_dropped more false = refl

-- A scan is over.

record Overs (p planned q : ℕ) (new : Raced) : Type 0 where
  placed : Placed p planned new
  fewer : race_ahead p planned new ≤ q

going_over : (p planned q : ℕ) (r : Raced) → length r.plans ≡ planned → planned ≤ length r.counts → r.guaranteed ≤ p → scanning r.control ≡ true → Runs planned r.running → rest_sum p planned r.counts r.running ≤ q → more r ≡ true → Overs p planned q (going_on r)
going_over p planned q r plans room less on runs left goes =
    let next : has_next planned r.running ≡ true = sym (ap (λ (n : ℕ). has_next n r.running) plans) ∙ first_so (has_next (length r.plans) r.running) _ goes in
    let same : race_sum p planned r.counts (advanced (is_some r.list) (length r.plans) r.running) ≡ race_sum p planned r.counts (advanced (is_some r.list) planned r.running) = ap (λ (n : ℕ). race_sum p planned r.counts (advanced (is_some r.list) n r.running)) plans in
    record {
      placed = record { plans = plans; room = room; less = less; runs = λ h. subst (λ (n : ℕ). Runs planned (advanced (is_some r.list) n r.running)) (sym plans) (advanced_runs planned (is_some r.list) r.running next runs) };
      fewer = less_by (race_ahead p planned (going_on r)) (race_sum p planned r.counts (advanced (is_some r.list) planned r.running)) q (racing_left p planned (going_on r) on ∙ same) (le_on (race_sum p planned r.counts (advanced (is_some r.list) planned r.running)) (rest_sum p planned r.counts r.running) q (advanced_fewer p planned r.counts (is_some r.list) r.running next) left);
    }

gone_over : (p planned q : ℕ) (h : Happening) (r : Raced) → length r.plans ≡ planned → planned ≤ length r.counts → r.guaranteed ≤ p → scanning (next_control BackgroundOnly r.control h) ≡ false → Overs p planned q (gone h r)
gone_over p planned q h r plans room less off = record {
  placed = record { plans = plans; room = room; less = less; runs = λ on. no_way (sym on ∙ off) };
  fewer = zero_most (race_ahead p planned (gone h r)) q (idle_left p planned (gone h r) off);
}

-- The judge rules.

dropped_over : (p planned q : ℕ) (r : Raced) → length r.plans ≡ planned → planned ≤ length r.counts → r.guaranteed ≤ p → scanning r.control ≡ true → Runs planned r.running → rest_sum p planned r.counts r.running ≤ q → Overs p planned q (dropped r)
dropped_over p planned q r plans room less on runs left = by (more r) refl
  where
    t : Raced
    t = told_over (Drop (index_at r (turn_scan r))) r

    by : (b : Bool) → more r ≡ b → Overs p planned q (over b (Ruled AbandonScan b (is_some r.list)) t)
    by true goes = going_over p planned q t plans room less on runs left goes
    by false goes =
        let off : scanning (next_control BackgroundOnly r.control (Ruled AbandonScan false (is_some r.list))) ≡ false = ap (λ (c : Control). scanning (next_control BackgroundOnly c (Ruled AbandonScan false (is_some r.list)))) (only_scanning r.control on) ∙ scan_dropped (is_some r.list) in
        gone_over p planned q (Ruled AbandonScan false (is_some r.list)) t plans room less off

stopped_over : (p planned q : ℕ) (r : Raced) → length r.plans ≡ planned → planned ≤ length r.counts → r.guaranteed ≤ p → scanning r.control ≡ true → Overs p planned q (stopped r)
stopped_over p planned q r plans room less on =
    let off : scanning (next_control BackgroundOnly r.control (Ruled AbandonBackground (more r) (is_some r.list))) ≡ false = ap (λ (c : Control). scanning (next_control BackgroundOnly c (Ruled AbandonBackground (more r) (is_some r.list)))) (only_scanning r.control on) ∙ all_dropped (more r) (is_some r.list) in
    record {
      placed = record { plans = plans; room = room; less = less; runs = λ h. no_way (sym h ∙ off) };
      fewer = zero_most (race_ahead p planned (stopped r)) q (idle_left p planned (stopped r) off);
    }

passed_over : (p planned q : ℕ) (r : Raced) → length r.plans ≡ planned → planned ≤ length r.counts → r.guaranteed ≤ p → scanning r.control ≡ true → Runs planned r.running → race_sum p planned r.counts r.running ≤ q → Overs p planned q (passed_on r)
passed_over p planned q r plans room less on runs left = record {
  placed = record { plans = plans; room = room; less = less; runs = λ h. turned_runs planned r.running runs };
  fewer = less_by (race_ahead p planned (passed_on r)) (race_sum p planned r.counts (turned r.running)) q (racing_left p planned (passed_on r) on) (le_on (race_sum p planned r.counts (turned r.running)) (race_sum p planned r.counts r.running) q (turned_fewer p planned r.counts r.running) left);
}

-- where the scan goes on its leaves ahead stand by the rule, where it is dropped those of the others are left
ruled_over : (p planned q : ℕ) (verdict : Verdict) (r : Raced) → length r.plans ≡ planned → planned ≤ length r.counts → r.guaranteed ≤ p → scanning r.control ≡ true → Runs planned r.running → (goes_on verdict ≡ true → race_sum p planned r.counts r.running ≤ q) → rest_sum p planned r.counts r.running ≤ q → Overs p planned q (ruled verdict r)
ruled_over p planned q Continue r plans room less on runs goes rest = passed_over p planned q r plans room less on runs (goes refl)
ruled_over p planned q AbandonScan r plans room less on runs goes rest = dropped_over p planned q r plans room less on runs rest
ruled_over p planned q AbandonForeground r plans room less on runs goes rest = passed_over p planned q r plans room less on runs (goes refl)
ruled_over p planned q AbandonBackground r plans room less on runs goes rest = stopped_over p planned q r plans room less on

ended_over : (p planned q : ℕ) (r : Raced) → length r.plans ≡ planned → planned ≤ length r.counts → r.guaranteed ≤ p → scanning r.control ≡ true → Runs planned r.running → rest_sum p planned r.counts r.running ≤ q → Overs p planned q (ended r)
ended_over p planned q r plans room less on runs left = by (more r) refl
  where
    by : (b : Bool) → more r ≡ b → Overs p planned q (over b (ScanEnded b true) r)
    by true goes = going_over p planned q r plans room less on runs left goes
    by false goes =
        let off : scanning (next_control BackgroundOnly r.control (ScanEnded false true)) ≡ false = ap (λ (c : Control). scanning (next_control BackgroundOnly c (ScanEnded false true))) (only_scanning r.control on) ∙ scans_over true in
        gone_over p planned q (ScanEnded false true) r plans room less off

-- A PIECE IS GIVEN.

-- a piece that is accepted leaves the leaves that its scan has read

abbrev piece_counts : Pieced → Bool → Raced → ScanCounts
piece_counts piece last r = piece_counted (counts_at r.counts (turn_scan r)) (length piece.entries) (length (kept_of r piece)) last

pub accepted_room : (piece : Pieced) (last : Bool) (r : Raced) (planned : ℕ) → planned ≤ length r.counts → planned ≤ length (accepted piece last r).counts
accepted_room piece last r planned room = subst (λ (n : ℕ). planned ≤ n) (sym (length-set r.counts (turn_scan r) (piece_counts piece last r))) room

accepted_rest : (p planned : ℕ) (piece : Pieced) (last : Bool) (r : Raced) → Runs planned r.running → rest_sum p planned (accepted piece last r).counts (accepted piece last r).running ≡ rest_sum p planned r.counts r.running
accepted_rest p planned piece last r runs = ap (λ (n : ℕ). to_read p r.running.next (planned - r.running.next) + n) (other_same p r.counts (turn_scan r) (piece_counts piece last r) r.running.other runs.apart)

goes_sum : (new old begin other same share after spent held : ℕ) → new ≡ begin + (2 + share - min after (1 + share + 0)) + same → old ≡ begin + (2 + share - min spent (1 + share + held)) + other → same ≡ other → after ≡ spent → after ≤ 1 + share → new ≤ old
goes_sum new old begin other same share after spent held n o e a h = omega (arith, n, o, e, a, h)

accepted_goes : (p planned : ℕ) (piece : Pieced) (r : Raced) → Runs planned r.running → turn_scan r < length r.counts → (counts_at (accepted piece false r).counts (turn_scan r)).leaves ≤ 1 + share p (turn_scan r) → race_sum p planned (accepted piece false r).counts (accepted piece false r).running ≤ race_sum p planned r.counts r.running
accepted_goes p planned piece r runs lt within =
    goes_sum (race_sum p planned (accepted piece false r).counts (accepted piece false r).running) (race_sum p planned r.counts r.running) (to_read p r.running.next (planned - r.running.next)) (other_left p r.counts r.running.other) (other_left p (accepted piece false r).counts r.running.other) (share p (turn_scan r)) (counts_at (accepted piece false r).counts (turn_scan r)).leaves (counts_at r.counts (turn_scan r)).leaves (held_one (turn_lane r).held) refl refl (other_same p r.counts (turn_scan r) (piece_counts piece false r) r.running.other runs.apart) (turn_leaves r.counts (turn_scan r) (piece_counts piece false r) lt) within

rest_less : (p planned : ℕ) (counts : List ScanCounts) (w : Running) → rest_sum p planned counts w ≤ race_sum p planned counts w
rest_less p planned counts w = sums (to_read p w.next (planned - w.next)) (turn_left p counts w.turn) (other_left p counts w.other)
  where
    sums : (a b c : ℕ) → a + c ≤ a + b + c
    sums a b c = omega arith

pub least_less : (r : Raced) (o : Option ℕ) → least_with r o ≤ r.guaranteed
least_less r None = at_most r.guaranteed
least_less r (Some other) = min_left r.guaranteed _

pub below_room : (a b c d : ℕ) → a < b → b ≤ c → c ≤ d → a < d
below_room a b c d h m n = omega (arith, h, m, n)

-- the scan goes on, and the judge rules
judged_over : (p planned : ℕ) (would : ℕ → Facts → Ruling) (state : ℕ) (piece : Pieced) (old : Raced) (verdict : Verdict) → IsBounded would → Placed p planned old → scanning old.control ≡ true → verdict ≡ (would state (facts_of (accepted piece false old))).verdict → Overs p planned (race_sum p planned old.counts old.running) (ruled verdict (accepted piece false old))
judged_over p planned would state piece old verdict rule w on is =
    let v = accepted piece false old in
    let runs = w.runs on in
    let lt = below_room (turn_scan old) old.running.next planned (length old.counts) runs.turn runs.next w.room in
    let goes : goes_on verdict ≡ true → race_sum p planned v.counts v.running ≤ race_sum p planned old.counts old.running = λ g.
    let keeps : Keeps (facts_of v) = (rule state (facts_of v)).0 (sym (ap goes_on is) ∙ g) in
    let least = le_on (least_with v (scan_of v.running.other)) old.guaranteed p (least_less v (scan_of v.running.other)) w.less in
    accepted_goes p planned piece old runs lt (share_more (counts_at v.counts (turn_scan old)).leaves (share (least_with v (scan_of v.running.other)) (turn_scan old)) (share p (turn_scan old)) keeps.sunk (share_less (least_with v (scan_of v.running.other)) p (turn_scan old) least)) in
    let v_runs : Runs planned v.running = record { turn = runs.turn; other = runs.other; apart = runs.apart; next = runs.next } in
    let rest = less_by (rest_sum p planned v.counts v.running) (rest_sum p planned old.counts old.running) (race_sum p planned old.counts old.running) (accepted_rest p planned piece false old runs) (rest_less p planned old.counts old.running) in
    ruled_over p planned (race_sum p planned old.counts old.running) verdict v w.plans (accepted_room piece false old planned w.room) w.less on v_runs goes rest

-- the scan is complete: of the other one fewer keys count, and as many leaves

narrowed_runs : (keys : List ℕ) (w : Running) (planned : ℕ) (o : Option Runner) → IfSome o (λ x. x.scan < w.next) → IfSome (narrowed_by keys o) (λ x. x.scan < w.next)
narrowed_runs keys w planned None h = tt
narrowed_runs keys w planned (Some x) h = h

narrowed_apart : (keys : List ℕ) (scan : ℕ) (o : Option Runner) → IfSome o (λ x. ¬ (x.scan ≡ scan)) → IfSome (narrowed_by keys o) (λ x. ¬ (x.scan ≡ scan))
narrowed_apart keys scan None h = tt
narrowed_apart keys scan (Some x) h = h

recounted_left : (p : ℕ) (keys : List ℕ) (counts : List ScanCounts) (o : Option Runner) → IfSome o (λ x. x.scan < length counts) → other_left p (recounted_by (narrowed_by keys o) counts) (narrowed_by keys o) ≡ other_left p counts o
recounted_left p keys counts None h = refl
recounted_left p keys counts (Some x) h = ap (λ (n : ℕ). 2 + share p x.scan - min n (1 + share p x.scan + held_one x.lane.held)) (turn_leaves counts x.scan (record (counts_at counts x.scan) { kept = length (narrowed_lane keys x.lane).building }) h)

recounted_room : (keys : List ℕ) (counts : List ScanCounts) (o : Option Runner) → length (recounted_by (narrowed_by keys o) counts) ≡ length counts
recounted_room keys counts None = refl
recounted_room keys counts (Some x) = length-set counts x.scan (record (counts_at counts x.scan) { kept = length (narrowed_lane keys x.lane).building })

pub other_below : (o : Option Runner) (next planned size : ℕ) → IfSome o (λ x. x.scan < next) → next ≤ planned → planned ≤ size → IfSome o (λ x. x.scan < size)
other_below None next planned size h m n = tt
other_below (Some x) next planned size h m n = below_room x.scan next planned size h m n

least_of : (n g p : ℕ) → g ≤ p → min n g ≤ p
least_of n g p h = omega (arith, h)

completed_over : (p planned : ℕ) (piece : Pieced) (old : Raced) (keys : List ℕ) → Placed p planned old → scanning old.control ≡ true → Overs p planned (race_sum p planned old.counts old.running) (ended (listed keys (accepted piece true old)))
completed_over p planned piece old keys w on =
    let v = accepted piece true old in
    let r = listed keys v in
    let runs = w.runs on in
    let room = accepted_room piece true old planned w.room in
    let r_runs : Runs planned r.running = record { turn = runs.turn; other = narrowed_runs keys old.running planned old.running.other runs.other; apart = narrowed_apart keys (turn_scan old) old.running.other runs.apart; next = runs.next } in
    let below = other_below old.running.other old.running.next planned (length v.counts) runs.other runs.next room in
    let same : rest_sum p planned r.counts r.running ≡ rest_sum p planned old.counts old.running = ap (λ (n : ℕ). to_read p old.running.next (planned - old.running.next) + n) (recounted_left p keys v.counts old.running.other below) ∙ accepted_rest p planned piece true old runs in
    ended_over p planned (race_sum p planned old.counts old.running) r w.plans (subst (λ (n : ℕ). planned ≤ n) (sym (recounted_room keys v.counts old.running.other)) room) (least_of _ old.guaranteed p w.less) on r_runs (less_by (rest_sum p planned r.counts r.running) (rest_sum p planned old.counts old.running) (race_sum p planned old.counts old.running) same (rest_less p planned old.counts old.running))

-- what a call leaves ahead
record Lowers (p planned : ℕ) (old new : Raced) : Type 0 where
  placed : Placed p planned new
  fewer : race_ahead p planned new ≤ race_ahead p planned old

given_lowers : (p planned : ℕ) (would : ℕ → Facts → Ruling) (state after : ℕ) (piece : Pieced) (old new : Raced) → IsBounded would → Placed p planned old → scanning old.control ≡ true → Obeys would state after piece (held_next (turn_lane old).held) old new → Lowers p planned old new
given_lowers p planned would state after piece old new rule w on obeys = by (held_next (turn_lane old).held) obeys
  where
    less_to : (a q had : ℕ) → a ≤ q → had ≡ q → a ≤ had
    less_to a q had h e = omega (arith, h, e)

    ends : (x : Raced) → Overs p planned (race_sum p planned old.counts old.running) x → Lowers p planned old x
    ends x o = record { placed = o.placed; fewer = less_to (race_ahead p planned x) (race_sum p planned old.counts old.running) (race_ahead p planned old) o.fewer (racing_left p planned old on) }

    by : (next : Option IndexEntry) → Obeys would state after piece next old new → Lowers p planned old new
    by (Some cut) asked = subst (Lowers p planned old) (sym asked.0) (ends (ruled (would state (facts_of (accepted piece false old))).verdict (accepted piece false old)) (judged_over p planned would state piece old (would state (facts_of (accepted piece false old))).verdict rule w on refl))
    by None done = subst (Lowers p planned old) (sym done.0.ends) (ends (ended (listed done.0.keys (accepted piece true old))) (completed_over p planned piece old done.0.keys w on))

same_sum : (now was left had : ℕ) → now ≡ was → left ≤ had → now + left ≤ was + had + 0
same_sum now was left had e h = omega (arith, e, h)

still_spends : (p planned : ℕ) (old new : Raced) → Placed p planned old → new ≡ old → RaceSpends p planned 0 old new
still_spends p planned old new w e = subst (RaceSpends p planned 0 old) (sym e) (record { placed = w; fewer = still_sum old.trace.leaves (race_ahead p planned old) })

pub give_spends : (p planned : ℕ) (would : ℕ → Facts → Ruling) (old new : Raced) → IsBounded would → Placed p planned old → RaceGives would old new → RaceSpends p planned 0 old new
give_spends p planned would old new rule w gives = by gives.given gives.answers gives.obeys
  where
    by : (given : Given) → Answers old gives.piece given new → GivesOn would gives.state gives.after gives.piece given old new → RaceSpends p planned 0 old new
    by Accepted answers obeys =
        let lowers = given_lowers p planned would gives.state gives.after gives.piece old new rule w answers.under_way obeys in
        record { placed = lowers.placed; fewer = same_sum new.trace.leaves old.trace.leaves (race_ahead p planned new) (race_ahead p planned old) gives.counts.leaves lowers.fewer }
    by (Stale asked now) answers obeys = still_spends p planned old new w obeys.0

-- A PIECE IS TAKEN.

counts_room : (r : Raced) → length (counts_read r) ≡ length r.counts
counts_room r = by (reads_leaf r)
  where
    by : (b : Bool) → length (if b then one_leaf r else r.counts) ≡ length r.counts
    by true = length-set r.counts (turn_scan r) (leaf_counted (counts_at r.counts (turn_scan r)))
    by false = refl

is_racing : (r : Raced) → reads_leaf r ≡ true → scanning r.control ≡ true
is_racing r h = first_so (scanning r.control) _ h

-- the scan whose turn it is holds a leaf, or none
abbrev lane_held : Option Chunk → Raced → Running
lane_held held r = record r.running { turn = record r.running.turn { lane = record r.running.turn.lane { held = held } } }

took_sum : (new old begin other same share spent after held had most : ℕ) → new ≡ begin + (2 + share - min after (1 + share + held)) + same → old ≡ begin + (2 + share - min spent (1 + share + had)) + other → same ≡ other → after ≡ min (spent + 1) most → held ≡ 1 → had ≡ 0 → 2 + share ≤ most → new + 1 ≤ old
took_sum new old begin other same share spent after held had most n o e a h d s = omega (arith, n, o, e, a, h, d, s)

lost_sum : (new old begin other same share spent after held had most : ℕ) → new ≡ begin + (2 + share - min after (1 + share + held)) + same → old ≡ begin + (2 + share - min spent (1 + share + had)) + other → same ≡ other → after ≡ min (spent + 1) most → had ≡ 0 → 2 + share ≤ most → new ≤ old
lost_sum new old begin other same share spent after held had most n o e a d s = omega (arith, n, o, e, a, d, s)

leaf_after : (r : Raced) → turn_scan r < length r.counts → (counts_at (one_leaf r) (turn_scan r)).leaves ≡ min ((counts_at r.counts (turn_scan r)).leaves + 1) greatest
leaf_after r lt = turn_leaves r.counts (turn_scan r) (leaf_counted (counts_at r.counts (turn_scan r))) lt

read_ahead : (p planned : ℕ) (r : Raced) (held : Option Chunk) → p + 2 * planned < greatest → Placed p planned r → reads_leaf r ≡ true → is_some held ≡ true → race_sum p planned (one_leaf r) (lane_held held r) + 1 ≤ race_sum p planned r.counts r.running
read_ahead p planned r held small w reads has =
    let runs = w.runs (is_racing r reads) in
    let lt = below_room (turn_scan r) r.running.next planned (length r.counts) runs.turn runs.next w.room in
    let in_plan = below_room (turn_scan r) r.running.next planned planned runs.turn runs.next (at_most planned) in
    took_sum (race_sum p planned (one_leaf r) (lane_held held r)) (race_sum p planned r.counts r.running) (to_read p r.running.next (planned - r.running.next)) (other_left p r.counts r.running.other) (other_left p (one_leaf r) r.running.other) (share p (turn_scan r)) (counts_at r.counts (turn_scan r)).leaves (counts_at (one_leaf r) (turn_scan r)).leaves (held_one held) (held_one (turn_lane r).held) greatest refl refl (other_same p r.counts (turn_scan r) (leaf_counted (counts_at r.counts (turn_scan r))) r.running.other runs.apart) (leaf_after r lt) (one_held held has) (none_held (scanning r.control) (turn_lane r).held reads) (small_share p (turn_scan r) planned in_plan small)

lost_ahead : (p planned : ℕ) (r : Raced) (held : Option Chunk) → p + 2 * planned < greatest → Placed p planned r → reads_leaf r ≡ true → race_sum p planned (one_leaf r) (lane_held held r) ≤ race_sum p planned r.counts r.running
lost_ahead p planned r held small w reads =
    let runs = w.runs (is_racing r reads) in
    let lt = below_room (turn_scan r) r.running.next planned (length r.counts) runs.turn runs.next w.room in
    let in_plan = below_room (turn_scan r) r.running.next planned planned runs.turn runs.next (at_most planned) in
    lost_sum (race_sum p planned (one_leaf r) (lane_held held r)) (race_sum p planned r.counts r.running) (to_read p r.running.next (planned - r.running.next)) (other_left p r.counts r.running.other) (other_left p (one_leaf r) r.running.other) (share p (turn_scan r)) (counts_at r.counts (turn_scan r)).leaves (counts_at (one_leaf r) (turn_scan r)).leaves (held_one held) (held_one (turn_lane r).held) greatest refl refl (other_same p r.counts (turn_scan r) (leaf_counted (counts_at r.counts (turn_scan r))) r.running.other runs.apart) (leaf_after r lt) (none_held (scanning r.control) (turn_lane r).held reads) (small_share p (turn_scan r) planned in_plan small)

-- what a leaf that is taken, or not, leaves: the scan whose turn it is may hold it, and it is counted
pub record Leafs (old new : Raced) : Type 0 where
  pub control : new.control ≡ old.control
  pub plans : new.plans ≡ old.plans
  pub counts : new.counts ≡ counts_read old
  pub running : new.running ≡ lane_held (turn_lane new).held old
  pub guaranteed : new.guaranteed ≡ old.guaranteed

pub leafs_placed : (p planned : ℕ) (old new : Raced) → Placed p planned old → Leafs old new → Placed p planned new
leafs_placed p planned old new w t = record {
  plans = ap length t.plans ∙ w.plans;
  room = subst (λ (n : ℕ). planned ≤ n) (sym (ap length t.counts ∙ counts_room old)) w.room;
  less = subst (λ (n : ℕ). n ≤ p) (sym t.guaranteed) w.less;
  runs = λ on.
      let runs = w.runs (sym (ap scanning t.control) ∙ on) in
      let own : Runs planned (lane_held (turn_lane new).held old) = record { turn = runs.turn; other = runs.other; apart = runs.apart; next = runs.next } in
      subst (Runs planned) (sym t.running) own;
}

leafs_sum : (p planned : ℕ) (old new : Raced) → Leafs old new → (b : Bool) → reads_leaf old ≡ b → race_sum p planned new.counts new.running ≡ race_sum p planned (if b then one_leaf old else old.counts) (lane_held (turn_lane new).held old)
leafs_sum p planned old new t b e =
    ap (λ (w : Running). race_sum p planned new.counts w) t.running ∙ ap (λ (cs : List ScanCounts). race_sum p planned cs (lane_held (turn_lane new).held old)) (t.counts ∙ ap (λ (x : Bool). if x then one_leaf old else old.counts) e)

-- the leaves ahead where scans are under way and where none is
ahead_by : (p planned : ℕ) (old new : Raced) → Leafs old new → (scanning old.control ≡ true → race_sum p planned new.counts new.running ≤ race_sum p planned old.counts old.running) → race_ahead p planned new ≤ race_ahead p planned old
ahead_by p planned old new t less = by (scanning old.control) refl
  where
    by : (b : Bool) → scanning old.control ≡ b → race_ahead p planned new ≤ race_ahead p planned old
    by true on = both_less (race_ahead p planned new) (race_ahead p planned old) (race_sum p planned new.counts new.running) (race_sum p planned old.counts old.running) (racing_left p planned new (ap scanning t.control ∙ on)) (racing_left p planned old on) (less on)
    by false off = none (race_ahead p planned new) (race_ahead p planned old) (idle_left p planned new (ap scanning t.control ∙ off))
      where
        none : (a b : ℕ) → a ≡ 0 → a ≤ b
        none a b e = omega (arith, e)

-- a leaf is read, and held
leafs_read : (p planned : ℕ) (old new : Raced) → p + 2 * planned < greatest → Placed p planned old → Leafs old new → reads_leaf old ≡ true → is_some (turn_lane new).held ≡ true → race_ahead p planned new + 1 ≤ race_ahead p planned old
leafs_read p planned old new small w t reads has =
    let on = is_racing old reads in
    both (race_ahead p planned new) (race_ahead p planned old) (race_sum p planned (one_leaf old) (lane_held (turn_lane new).held old)) (race_sum p planned old.counts old.running) (racing_left p planned new (ap scanning t.control ∙ on) ∙ leafs_sum p planned old new t true reads) (racing_left p planned old on) (read_ahead p planned old (turn_lane new).held small w reads has)
  where
    both : (a b c d : ℕ) → a ≡ c → b ≡ d → c + 1 ≤ d → a + 1 ≤ b
    both a b c d e f h = omega (arith, e, f, h)

-- a leaf may be read, and may be held
leafs_lost : (p planned : ℕ) (old new : Raced) → p + 2 * planned < greatest → Placed p planned old → Leafs old new → reads_leaf old ≡ true → race_ahead p planned new ≤ race_ahead p planned old
leafs_lost p planned old new small w t reads = ahead_by p planned old new t (λ on. less_by (race_sum p planned new.counts new.running) (race_sum p planned (one_leaf old) (lane_held (turn_lane new).held old)) (race_sum p planned old.counts old.running) (leafs_sum p planned old new t true reads) (lost_ahead p planned old (turn_lane new).held small w reads))

-- none is read
leafs_none : (p planned : ℕ) (old new : Raced) → Leafs old new → reads_leaf old ≡ false → (scanning old.control ≡ true → new.running ≡ old.running) → race_ahead p planned new ≤ race_ahead p planned old
leafs_none p planned old new t none same = ahead_by p planned old new t (λ on. same_less (race_sum p planned new.counts new.running) (race_sum p planned old.counts old.running) (ap (λ (w : Running). race_sum p planned new.counts w) (same on) ∙ ap (λ (cs : List ScanCounts). race_sum p planned cs old.running) (t.counts ∙ ap (λ (x : Bool). if x then one_leaf old else old.counts) none)))

-- Counts.

piece_one : (r : Raced) (c : Counts) → (piece_read r c).leaves ≤ c.leaves + 1
piece_one r c = by (reads_leaf r)
  where
    by : (b : Bool) → (if b then leaf_read c else c).leaves ≤ c.leaves + 1
    by true = min_left (c.leaves + 1) greatest
    by false = same_one c.leaves c.leaves refl

piece_none : (r : Raced) (c : Counts) → reads_leaf r ≡ false → piece_read r c ≡ c
piece_none r c none = ap (λ (b : Bool). if b then leaf_read c else c) none

-- what a take leaves
pub takes_leafs : (old new : Raced) → TakesLeaf old new → Leafs old new
takes_leafs old new t = record {
  control = ap (λ (x : Raced). x.control) t.same;
  plans = ap (λ (x : Raced). x.plans) t.same;
  counts = ap (λ (x : Raced). x.counts) t.same;
  running = ap (λ (x : Raced). x.running) t.same;
  guaranteed = ap (λ (x : Raced). x.guaranteed) t.same;
}

takes_held : (taken : Taken) (new : Raced) → scanning new.control ≡ true → TakesPiece new taken → is_some (turn_lane new).held ≡ true
takes_held (Piece piece) new on answers = has_held (turn_lane new).held piece.entries answers.own.entries
takes_held Nothing new on answers = no_way (sym on ∙ answers)

pub take_spends : (p planned : ℕ) (taken : Taken) (old new : Raced) → p + 2 * planned < greatest → Placed p planned old → RaceTakes (Some taken) old new → RaceSpends p planned 0 old new
take_spends p planned taken old new small w takes = record { placed = leafs_placed p planned old new w leafs; fewer = read (reads_leaf old) refl }
  where
    leafs : Leafs old new
    leafs = takes_leafs old new takes.leaves

    read : (b : Bool) → reads_leaf old ≡ b → new.trace.leaves + race_ahead p planned new ≤ old.trace.leaves + race_ahead p planned old + 0
    read true r =
        let on = ap scanning leafs.control ∙ is_racing old r in
        sum_read new.trace.leaves old.trace.leaves (race_ahead p planned new) (race_ahead p planned old) (rise_one new.trace.leaves old.trace.leaves takes.before.leaves takes.behind.leaves greatest takes.counts.leaves (subst (λ (c : Counts). c.leaves ≤ takes.before.leaves + 1) (sym takes.reads) (piece_one old takes.before))) (leafs_read p planned old new small w leafs r (takes_held taken new on takes.answers))
    read false r =
        sum_none new.trace.leaves old.trace.leaves (race_ahead p planned new) (race_ahead p planned old) (rise_none new.trace.leaves old.trace.leaves takes.before.leaves takes.behind.leaves greatest takes.counts.leaves (ap (λ (c : Counts). c.leaves) (takes.reads ∙ piece_none old takes.before r))) (leafs_none p planned old new leafs r (λ on. takes.leaves.none r))

pub take_lost : (p planned : ℕ) (old new : Raced) → p + 2 * planned < greatest → Placed p planned old → RaceTakes None old new → RaceSpends p planned 1 old new
take_lost p planned old new small w takes = record {
  placed = leafs_placed p planned old new w leafs;
  fewer = sum_lost new.trace.leaves old.trace.leaves (race_ahead p planned new) (race_ahead p planned old) (rise_one new.trace.leaves old.trace.leaves takes.before.leaves takes.behind.leaves greatest takes.counts.leaves (subst (λ (c : Counts). c.leaves ≤ takes.before.leaves + 1) (sym takes.reads) (piece_one old takes.before))) (left (reads_leaf old) refl);
}
  where
    leafs : Leafs old new
    leafs = takes_leafs old new takes.leaves

    left : (b : Bool) → reads_leaf old ≡ b → race_ahead p planned new ≤ race_ahead p planned old
    left true r = leafs_lost p planned old new small w leafs r
    left false r = leafs_none p planned old new leafs r (λ on. takes.leaves.none r)

-- A STEP FOR WHICH NO MEMORY IS FOUND.

pub only_leafs : (old new : Raced) → OnlyTakes old new → Leafs old new
only_leafs old new t = record {
  control = ap (λ (x : Raced). x.control) t.same;
  plans = ap (λ (x : Raced). x.plans) t.same;
  counts = ap (λ (x : Raced). x.counts) t.same;
  running = ap (λ (x : Raced). x.running) t.same;
  guaranteed = ap (λ (x : Raced). x.guaranteed) t.same;
}

may_one : (control : Control) (r : Raced) (c d : Counts) → MayRead control r c d → d.leaves ≤ c.leaves + 1
may_one Building r c d reads = same_one d.leaves c.leaves (ap (λ (x : Counts). x.leaves) reads)
may_one ForegroundAlone r c d reads = same_one d.leaves c.leaves (ap (λ (x : Counts). x.leaves) reads)
may_one BackgroundAlone r c d reads = subst (λ (x : Counts). x.leaves ≤ c.leaves + 1) (sym reads) (piece_one r c)
may_one FinalList r c d reads = same_one d.leaves c.leaves (one_record c d reads)
may_one FinalTable r c d reads = same_one d.leaves c.leaves (one_page c d reads)
may_one Done r c d reads = same_one d.leaves c.leaves (ap (λ (x : Counts). x.leaves) reads)

-- where a scan holds its leaf, which may go, none is read

held_sum : (new old begin other share spent held had : ℕ) → new ≡ begin + (2 + share - min spent (1 + share + held)) + other → old ≡ begin + (2 + share - min spent (1 + share + had)) + other → had ≤ 1 → new ≤ old + 1
held_sum new old begin other share spent held had n o h = omega (arith, n, o, h)

-- beside the scans no leaf is read
pub idle_spends : (p planned : ℕ) (old new : Raced) (c d : Counts) → Placed p planned old → Leafs old new → scanning old.control ≡ false → CountsRise old.trace new.trace c d → d.leaves ≡ c.leaves → RaceSpends p planned 0 old new
idle_spends p planned old new c d w leafs off rise none = record {
  placed = leafs_placed p planned old new w leafs;
  fewer = sum_none new.trace.leaves old.trace.leaves (race_ahead p planned new) (race_ahead p planned old) (rise_none new.trace.leaves old.trace.leaves c.leaves d.leaves greatest rise.leaves none) (zero_most (race_ahead p planned new) (race_ahead p planned old) (idle_left p planned new (ap scanning leafs.control ∙ off)));
}

pub step_lost : (p planned : ℕ) (old new : Raced) → p + 2 * planned < greatest → Placed p planned old → RaceStepsLost old new → RaceSpends p planned 1 old new
step_lost p planned old new small w lost = record {
  placed = leafs_placed p planned old new w leafs;
  fewer = by (reads_leaf old) refl;
}
  where
    leafs : Leafs old new
    leafs = only_leafs old new lost.only

    now : new.trace.leaves ≤ old.trace.leaves + 1
    now = rise_one new.trace.leaves old.trace.leaves lost.before.leaves lost.behind.leaves greatest lost.counts.leaves (may_one old.control old lost.before lost.behind lost.may_read)

    lane_counts : Bool → List ScanCounts
    lane_counts b = if b then one_leaf old else old.counts

    unread : reads_leaf old ≡ false → new.trace.leaves + race_ahead p planned new ≤ old.trace.leaves + race_ahead p planned old + 1
    unread r = both (scanning old.control) refl
      where
        both : (b : Bool) → scanning old.control ≡ b → new.trace.leaves + race_ahead p planned new ≤ old.trace.leaves + race_ahead p planned old + 1
        both true on =
            let reads : lost.behind ≡ lost.before = subst (λ (c : Control). MayRead c old lost.before lost.behind) (only_scanning old.control on) lost.may_read ∙ piece_none old lost.before r in
            let sum : race_sum p planned (lane_counts false) (lane_held (turn_lane new).held old) ≤ race_sum p planned old.counts old.running + 1 = held_sum (race_sum p planned (lane_counts false) (lane_held (turn_lane new).held old)) (race_sum p planned old.counts old.running) (to_read p old.running.next (planned - old.running.next)) (other_left p old.counts old.running.other) (share p (turn_scan old)) (counts_at old.counts (turn_scan old)).leaves (held_one (turn_lane new).held) (held_one (turn_lane old).held) refl refl (held_few (turn_lane old).held) in
            sum_more new.trace.leaves old.trace.leaves (race_ahead p planned new) (race_ahead p planned old) (rise_none new.trace.leaves old.trace.leaves lost.before.leaves lost.behind.leaves greatest lost.counts.leaves (ap (λ (c : Counts). c.leaves) reads)) (both_more (race_ahead p planned new) (race_ahead p planned old) (race_sum p planned (lane_counts false) (lane_held (turn_lane new).held old)) (race_sum p planned old.counts old.running) (racing_left p planned new (ap scanning leafs.control ∙ on) ∙ leafs_sum p planned old new leafs false r) (racing_left p planned old on) sum)
        both false off = sum_lost new.trace.leaves old.trace.leaves (race_ahead p planned new) (race_ahead p planned old) now (leafs_none p planned old new leafs r (λ on. no_way (sym on ∙ off)))

    by : (b : Bool) → reads_leaf old ≡ b → new.trace.leaves + race_ahead p planned new ≤ old.trace.leaves + race_ahead p planned old + 1
    by true r = sum_lost new.trace.leaves old.trace.leaves (race_ahead p planned new) (race_ahead p planned old) now (leafs_lost p planned old new small w leafs r)
    by false r = unread r

-- A STEP

-- what becomes of the leaves ahead beside the scans
stage_lowers : (p planned : ℕ) (s : Stepped Record) (old v new : Raced) → Placed p planned old → scanning old.control ≡ false → v.plans ≡ old.plans → v.counts ≡ old.counts → v.guaranteed ≡ old.guaranteed → v.control ≡ old.control → scanning (next_control BackgroundOnly old.control FinalEnded) ≡ false → new ≡ ended_by s v → Placed p planned new × (race_ahead p planned new ≡ 0)
stage_lowers p planned s old v new w off plans counts guaranteed control over e = subst (λ (x : Raced). Placed p planned x × (race_ahead p planned x ≡ 0)) (sym e) (by s)
  where
    still : Placed p planned v
    still = record {
      plans = ap length plans ∙ w.plans;
      room = subst (λ (n : ℕ). planned ≤ n) (sym (ap length counts)) w.room;
      less = subst (λ (n : ℕ). n ≤ p) (sym guaranteed) w.less;
      runs = λ on. no_way (sym on ∙ ap scanning control ∙ off);
    }

    idle : race_ahead p planned v ≡ 0
    idle = idle_left p planned v (ap scanning control ∙ off)

    gone_off : scanning (next_control BackgroundOnly v.control FinalEnded) ≡ false
    gone_off = ap (λ (c : Control). scanning (next_control BackgroundOnly c FinalEnded)) control ∙ over

    by : (s : Stepped Record) → Placed p planned (ended_by s v) × (race_ahead p planned (ended_by s v) ≡ 0)
    by (Row r) = (still, idle)
    by Working = (still, idle)
    by End = (record { plans = still.plans; room = still.room; less = still.less; runs = λ on. no_way (sym on ∙ gone_off) }, idle_left p planned (gone FinalEnded v) gone_off)

-- what a step has done is counted behind it
counted_placed : (p planned : ℕ) (stepped new : Raced) (c d : Counts) → new ≡ record stepped { trace = counted stepped.trace c d } → Placed p planned stepped → Placed p planned new
counted_placed p planned stepped new c d e w = subst (Placed p planned) (sym e) (record { plans = w.plans; room = w.room; less = w.less; runs = w.runs })

counted_ahead : (p planned : ℕ) (stepped new : Raced) (c d : Counts) → new ≡ record stepped { trace = counted stepped.trace c d } → race_ahead p planned new ≡ race_ahead p planned stepped
counted_ahead p planned stepped new c d e = ap (race_ahead p planned) e

piece_sum : (now was left stepped taken had : ℕ) → now ≤ was + 1 → left ≡ stepped → stepped ≤ taken → taken + 1 ≤ had → now + left ≤ was + had + 0
piece_sum now was left stepped taken had n e s t = omega (arith, n, e, s, t)

does_spends : (p planned : ℕ) (would : ℕ → Facts → Ruling) (state after : ℕ) (shown : Shown) (c d : Counts) (s : Stepped Record) (control : Control) (old stepped new : Raced) → p + 2 * planned < greatest → IsBounded would → Placed p planned old → old.control ≡ control → DoesAs control would state after shown c d s old stepped → CountsRise old.trace new.trace c d → new ≡ record stepped { trace = counted stepped.trace c d } → RaceSpends p planned 0 old new
does_spends p planned would state after shown c d s Building old stepped new small rule w is does rise e = absurd does
does_spends p planned would state after shown c d s ForegroundAlone old stepped new small rule w is does rise e = absurd does
does_spends p planned would state after shown c d s BackgroundAlone old stepped new small rule w is does rise e =
    record { placed = counted_placed p planned stepped new c d e given.placed; fewer = read (reads_leaf old) refl }
  where
    one : OnePiece would state after old stepped
    one = does.1

    leafs : Leafs old one.taken
    leafs = takes_leafs old one.taken one.leaves

    given : Lowers p planned one.taken stepped
    given = given_lowers p planned would state after one.piece one.taken stepped rule (leafs_placed p planned old one.taken w leafs) one.awaits.under_way one.obeys

    ahead_same : race_ahead p planned new ≡ race_ahead p planned stepped
    ahead_same = counted_ahead p planned stepped new c d e

    read : (b : Bool) → reads_leaf old ≡ b → new.trace.leaves + race_ahead p planned new ≤ old.trace.leaves + race_ahead p planned old + 0
    read true r =
        piece_sum new.trace.leaves old.trace.leaves (race_ahead p planned new) (race_ahead p planned stepped) (race_ahead p planned one.taken) (race_ahead p planned old) (rise_one new.trace.leaves old.trace.leaves c.leaves d.leaves greatest rise.leaves (subst (λ (x : Counts). x.leaves ≤ c.leaves + 1) (sym does.2) (piece_one old c))) ahead_same given.fewer (leafs_read p planned old one.taken small w leafs r (has_held (turn_lane one.taken).held one.piece.entries one.awaits.own.entries))
    read false r =
        quiet_sum new.trace.leaves old.trace.leaves (race_ahead p planned new) (race_ahead p planned stepped) (race_ahead p planned old) (rise_none new.trace.leaves old.trace.leaves c.leaves d.leaves greatest rise.leaves (ap (λ (x : Counts). x.leaves) (does.2 ∙ piece_none old c r))) ahead_same (le_on (race_ahead p planned stepped) (race_ahead p planned one.taken) (race_ahead p planned old) given.fewer (leafs_none p planned old one.taken leafs r (λ on. one.leaves.none r)))
does_spends p planned would state after shown c d s FinalList old stepped new small rule w is does rise e =
    let stage = stage_lowers p planned s old (record old { at = stepped.at }) stepped w (ap scanning is) refl refl refl refl (ap (λ (x : Control). scanning (next_control BackgroundOnly x FinalEnded)) is) does.2 in
    record {
      placed = counted_placed p planned stepped new c d e stage.0;
      fewer = quiet_sum new.trace.leaves old.trace.leaves (race_ahead p planned new) (race_ahead p planned stepped) (race_ahead p planned old) (rise_none new.trace.leaves old.trace.leaves c.leaves d.leaves greatest rise.leaves (key_none (first_key old.list None old.at) old.only (rows_of old shown) c d s does.1)) (counted_ahead p planned stepped new c d e) (zero_most (race_ahead p planned stepped) (race_ahead p planned old) stage.1);
    }
does_spends p planned would state after shown c d s FinalTable old stepped new small rule w is does rise e =
    let stage = stage_lowers p planned s old (record old { last = stepped.last }) stepped w (ap scanning is) refl refl refl refl (ap (λ (x : Control). scanning (next_control BackgroundOnly x FinalEnded)) is) does.2 in
    record {
      placed = counted_placed p planned stepped new c d e stage.0;
      fewer = quiet_sum new.trace.leaves old.trace.leaves (race_ahead p planned new) (race_ahead p planned stepped) (race_ahead p planned old) (rise_none new.trace.leaves old.trace.leaves c.leaves d.leaves greatest rise.leaves (page_none s c d does.1)) (counted_ahead p planned stepped new c d e) (zero_most (race_ahead p planned stepped) (race_ahead p planned old) stage.1);
    }
does_spends p planned would state after shown c d s Done old stepped new small rule w is does rise e =
    record {
      placed = counted_placed p planned stepped new c d e (subst (Placed p planned) (sym does.3) w);
      fewer = quiet_sum new.trace.leaves old.trace.leaves (race_ahead p planned new) (race_ahead p planned stepped) (race_ahead p planned old) (rise_none new.trace.leaves old.trace.leaves c.leaves d.leaves greatest rise.leaves (ap (λ (x : Counts). x.leaves) does.2)) (counted_ahead p planned stepped new c d e) (same_less (race_ahead p planned stepped) (race_ahead p planned old) (ap (race_ahead p planned) does.3));
    }

pub step_spends : (p planned : ℕ) (would : ℕ → Facts → Ruling) (old new : Raced) → p + 2 * planned < greatest → IsBounded would → Placed p planned old → RaceSteps would old new → RaceSpends p planned 0 old new
step_spends p planned would old new small rule w steps = does_spends p planned would steps.state steps.after steps.shown steps.before steps.behind steps.scanned old.control old steps.does.stepped new small rule w refl steps.does.does steps.counts steps.does.counts

-- ALL CALLS

does_call : (p planned : ℕ) (call : Call) (would : ℕ → Facts → Ruling) (old new : Raced) → p + 2 * planned < greatest → IsBounded would → Placed p planned old → RaceDoesCall call would old new → RaceSpends p planned (lost_of call) old new
does_call p planned Step would old new small rule w does = step_spends p planned would old new small rule w does
does_call p planned StepLost would old new small rule w does = step_lost p planned old new small w does
does_call p planned Take would old new small rule w does = take_spends p planned does.0 old new small w does.1
does_call p planned TakeLost would old new small rule w does = take_lost p planned old new small w does
does_call p planned Give would old new small rule w does = give_spends p planned would old new rule w does

all_spend : (p planned : ℕ) (calls : List Call) (old new : Raced) → p + 2 * planned < greatest → Placed p planned old → RaceDoesAll calls old new → RaceSpends p planned (lost_by calls) old new
all_spend p planned [] old new small w does = still_spends p planned old new w does
all_spend p planned (call ∷ calls) old new small w does =
    let before = all_spend p planned calls old does.0 small w does.1 in
    let last = does_call p planned call does.2.would does.0 new small does.2.bounded before.placed does.2.does in
    record {
      placed = last.placed;
      fewer = add_lost (new.trace.leaves + race_ahead p planned new) (does.0.trace.leaves + race_ahead p planned does.0) (old.trace.leaves + race_ahead p planned old) (lost_by calls) (lost_of call) before.fewer last.fewer;
    }

-- A count stays at the greatest number.

call_counted : (call : Call) (would : ℕ → Facts → Ruling) (old new : Raced) → RaceDoesCall call would old new → old.trace.leaves ≤ greatest → new.trace.leaves ≤ greatest
call_counted Step would old new does most = risen_most new.trace.leaves (old.trace.leaves + (does.behind.leaves - does.before.leaves)) greatest does.counts.leaves
call_counted StepLost would old new does most = risen_most new.trace.leaves (old.trace.leaves + (does.behind.leaves - does.before.leaves)) greatest does.counts.leaves
call_counted Take would old new does most = risen_most new.trace.leaves (old.trace.leaves + (does.1.behind.leaves - does.1.before.leaves)) greatest does.1.counts.leaves
call_counted TakeLost would old new does most = risen_most new.trace.leaves (old.trace.leaves + (does.behind.leaves - does.before.leaves)) greatest does.counts.leaves
call_counted Give would old new does most = less_by new.trace.leaves old.trace.leaves greatest does.counts.leaves most

all_counted : (calls : List Call) (old new : Raced) → RaceDoesAll calls old new → old.trace.leaves ≤ greatest → new.trace.leaves ≤ greatest
all_counted [] old new does most = subst (λ (x : Raced). x.trace.leaves ≤ greatest) (sym does) most
all_counted (call ∷ calls) old new does most = call_counted call does.2.would does.0 new does.2.does (all_counted calls old does.0 does.1 most)

-- THE LAW

less_two : (a b : ℕ) → a ≤ 1 → b ≡ 2 → a < b
less_two a b h e = omega (arith, h, e)

not_zero : (a b : ℕ) → a ≡ 1 → b ≡ 0 → ¬ (a ≡ b)
not_zero a b e f g = absurd (omega (arith, e, f, g))

first_runs : (planned : ℕ) → 2 ≤ planned → Runs planned first_two
first_runs planned two = record { turn = less_two 0 2 (zero_least 1) refl; other = less_two 1 2 (same_less 1 1 refl) refl; apart = not_zero 1 0 refl refl; next = two }

first_sum : (a b c d rest all most : ℕ) → all ≡ 2 + a + (2 + b + rest) → all ≤ most → rest + (2 + a - c) + (2 + b - d) ≤ most
first_sum a b c d rest all most e h = omega (arith, e, h)

-- the first two scans are under way
opened_ahead : (p planned : ℕ) → 2 ≤ planned → race_sum p planned (eight no_counts) first_two ≤ p + 2 * planned
opened_ahead p planned two =
    let one = first_scan p 0 planned (above 0 planned two) in
    let next = first_scan p 1 planned (above_one planned two) in
    first_sum (share p 0) (share p 1) (min (counts_at (eight no_counts) 0).leaves (1 + share p 0 + 0)) (min (counts_at (eight no_counts) 1).leaves (1 + share p 1 + 0)) (to_read p 2 (planned - 2)) (to_read p 0 (planned - 0)) (p + 2 * planned) (one ∙ ap (λ (n : ℕ). 2 + share p 0 + n) next) (subst (λ (n : ℕ). to_read p 0 n ≤ p + 2 * planned) (from_first planned) (all_scans p planned))
  where
    above : (n planned : ℕ) → 2 ≤ planned → 0 < planned
    above n planned h = omega (arith, h)

    above_one : (planned : ℕ) → 2 ≤ planned → 1 < planned
    above_one planned h = omega (arith, h)

    from_first : (n : ℕ) → n ≡ n - 0
    from_first n = omega arith

pub opened_placed : (table snap : ℕ) (only : List (List Atom)) (scans : List ScanPlan) (cursor opening pages : ℕ) (r : Raced) → 2 ≤ length scans → length scans ≤ 8 → Opened table snap only scans cursor opening pages r → Placed pages (length scans) r
opened_placed table snap only scans cursor opening pages r two few is = subst (Placed pages (length scans)) (sym is.is) (record { plans = refl; room = few; less = same_less pages pages refl; runs = λ on. first_runs (length scans) two })

pub opened_most : (table snap : ℕ) (only : List (List Atom)) (scans : List ScanPlan) (cursor opening pages : ℕ) (r : Raced) → 2 ≤ length scans → Opened table snap only scans cursor opening pages r → race_ahead pages (length scans) r ≤ pages + 2 * length scans
opened_most table snap only scans cursor opening pages r two is = subst (λ (x : Raced). race_ahead pages (length scans) x ≤ pages + 2 * length scans) (sym is.is) (opened_ahead pages (length scans) two)

pub races_few : RacesReadFewLeaves
races_few table snap only scans cursor opening pages calls opened now two few is does = by (nat_lt (pages + 2 * planned) greatest) refl
  where
    planned : ℕ
    planned = length scans

    none : opened.trace.leaves ≡ 0
    none = ap (λ (x : Raced). x.trace.leaves) is.is

    ahead : race_ahead pages planned opened ≤ pages + 2 * planned
    ahead = opened_most table snap only scans cursor opening pages opened two is

    placed : Placed pages planned opened
    placed = opened_placed table snap only scans cursor opening pages opened two few is

    by : (b : Bool) → nat_lt (pages + 2 * planned) greatest ≡ b → now.trace.leaves ≤ pages + 2 * planned + lost_by calls
    by true test =
        let spent = all_spend pages planned calls opened now (ltb-true (pages + 2 * planned) greatest test) placed does in
        whole_sum now.trace.leaves (race_ahead pages planned now) opened.trace.leaves (race_ahead pages planned opened) (pages + 2 * planned) (lost_by calls) spent.fewer none ahead
    by false test = great_sum now.trace.leaves greatest (pages + 2 * planned) (lost_by calls) (all_counted calls opened now does (zero_most opened.trace.leaves greatest none)) (ltb-false (pages + 2 * planned) greatest test)
