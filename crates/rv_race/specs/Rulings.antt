-- What becomes of a race where a piece is accepted, where a scan ends and where a judge rules.
use Rattle.std.specs.Prelude.{◌≡◌, ℕ, Bool, true, false, not, ◌&&◌, List, length, slice_set, min, Option, Some, None, is_some, IfSome, IsPermutation, if◌then◌else◌}
use Rattle.std.specs.List.Sorted.{IsStrictlyIncreasing}
use Rattle.rv_value.specs.declared.record.IndexEntry.{IndexEntry}
use Rattle.rv_judge.specs.declared.events.Event.{Event}
use Rattle.rv_judge.specs.declared.events.Event.TheVariants.{At, Scan, List as ListOf, Drop}
use Rattle.rv_judge.specs.declared.events.Happening.{Happening}
use Rattle.rv_judge.specs.declared.events.Happening.TheVariants.{ScanEnded, Ruled}
use Rattle.rv_judge.specs.declared.events.Strategy.TheVariants.{BackgroundOnly}
use Rattle.rv_judge.specs.declared.judging.Facts.{Facts}
use Rattle.rv_judge.specs.declared.judging.Verdict.{Verdict}
use Rattle.rv_judge.specs.declared.judging.Verdict.TheVariants.{Continue, AbandonScan, AbandonForeground, AbandonBackground}
use Rattle.rv_judge.specs.Account.{ScanAccount, facts_at, guarantee_with, total_of}
use Rattle.rv_judge.specs.Costs.{projection}
use Rattle.rv_judge.specs.Counting.{one_more}
use Rattle.rv_judge.specs.Course.{next_control}
use Rattle.rv_judge.specs.Tracing.{noted}
use Rattle.rv_judge.specs.Verdicts.{Ruling}
use Rattle.rv_jscan.specs.declared.jscan.Given.{Given}
use Rattle.rv_jscan.specs.declared.jscan.Given.TheVariants.{Accepted, Stale}
use Rattle.rv_jscan.specs.declared.jscan.ScanCounts.{ScanCounts}
use Rattle.rv_jscan.specs.Joint.{counts_at, is_empty_list, plan_at}
use Rattle.rv_jscan.specs.Lanes.{narrowed_lane, no_lane, passed}
use Rattle.rv_jscan.specs.Pieces.{Pieced, kept_by, may}
use Rattle.rv_jscan.specs.Steps.{held_next, piece_counted}
use Rattle.rv_final.specs.Shell.{scanning, unnoted}
use Rattle.rv_race.specs.declared.running.Runner.{Runner}
use Rattle.rv_race.specs.Given.{turn_lane, turn_scan, with_lane}
use Rattle.rv_race.specs.Raced.{Raced}
use Rattle.rv_race.specs.Ways.{advanced, has_next, lower, turned}

-- A PIECE IS ACCEPTED: its rows are added that the complete list, if any, may have, it is counted, and the scan goes
-- on to the next cut. `last` tells that there is none.

abbrev pub kept_of : Raced → Pieced → List ℕ
kept_of r piece = kept_by (may r.list) piece.part piece.entries

abbrev pub counts_after : Raced → Pieced → Bool → List ScanCounts
counts_after r piece last =
    slice_set r.counts (turn_scan r) (piece_counted (counts_at r.counts (turn_scan r)) (length piece.entries)
    (length (kept_of r piece)) last)

abbrev pub accepted : Pieced → Bool → Raced → Raced
accepted piece last r =
    record (with_lane (passed (may r.list) piece (turn_lane r)) r) {
      counts = counts_after r piece last;
      number = one_more r.number;
    }

-- What the judge is told.

abbrev pub account_of : Raced → ℕ → ScanAccount
account_of r scan =
    record {
      estimate = (plan_at r.plans scan).estimate;
      scanned = (counts_at r.counts scan).scanned;
      kept = (counts_at r.counts scan).kept;
      leaves = (counts_at r.counts scan).leaves;
    }

abbrev pub projected : Raced → ℕ → ℕ
projected r scan = projection (total_of (account_of r scan)) (account_of r scan).scanned (account_of r scan).kept

-- the position of the other scan under way
abbrev pub scan_of : Option Runner → Option ℕ
scan_of None = None
scan_of (Some other) = Some other.scan

-- the cost at which the race can be finished without a scan: the lesser of the guarantee and the other scan's
-- projection
abbrev pub least_with : Raced → Option ℕ → ℕ
least_with r None = r.guaranteed
least_with r (Some other) = min r.guaranteed (projected r other)

abbrev pub facts_of : Raced → Facts
facts_of r = facts_at r.control (account_of r (turn_scan r)) (turn_scan r) (least_with r (scan_of r.running.other)) 0

-- What is written into the trace.

abbrev pub index_at : Raced → ℕ → ℕ
index_at r scan = (plan_at r.plans scan).index

-- the scan whose turn it was is over: it stands in place of the scan that stood last, with what became of it
abbrev pub told_over : Event → Raced → Raced
told_over event r = record r { trace = noted (noted (unnoted r.trace) (Scan (index_at r (turn_scan r)))) event }

-- Where a happening leads.

-- whether there is more: a scan goes on, and the complete list, if any, has a key
abbrev pub more : Raced → Bool
more r = has_next (length r.plans) r.running && not (is_empty_list r.list)

-- the control is that of the course, and the trace tells it
abbrev pub gone : Happening → Raced → Raced
gone happening r =
    record r {
      control = next_control BackgroundOnly r.control happening;
      trace = noted r.trace (At (next_control BackgroundOnly r.control happening));
    }

-- another scan goes on
abbrev pub going_on : Raced → Raced
going_on r =
    let w = advanced (is_some r.list) (length r.plans) r.running in
    record r { running = w; trace = noted r.trace (Scan (index_at r w.turn.scan)) }

abbrev pub over : Bool → Happening → Raced → Raced
over goes happening r = if goes then going_on r else gone happening r

-- A SCAN COMPLETED: its list is the complete list. Of the other scan's kept rows only those stay that the list may
-- have, and as many count as kept. As many fetches as the list has keys finish the race.

abbrev pub completed : List ℕ → Raced → Raced
completed keys r = record (with_lane no_lane r) { list = Some keys }

abbrev pub narrowed_by : List ℕ → Option Runner → Option Runner
narrowed_by keys None = None
narrowed_by keys (Some other) = Some (record other { lane = narrowed_lane keys other.lane })

abbrev pub narrowed_with : Option (List ℕ) → Raced → Raced
narrowed_with None r = r
narrowed_with (Some keys) r = record r { running = record r.running { other = narrowed_by keys r.running.other } }

abbrev pub narrowed : Raced → Raced
narrowed r = narrowed_with r.list r

abbrev pub recounted_by : Option Runner → List ScanCounts → List ScanCounts
recounted_by None counts = counts
recounted_by (Some other) counts =
    slice_set counts other.scan (record (counts_at counts other.scan) { kept = length other.lane.building })

abbrev pub recounted : Raced → Raced
recounted r = record r { counts = recounted_by r.running.other r.counts }

abbrev pub list_len : Option (List ℕ) → ℕ
list_len None = 0
list_len (Some keys) = length keys

abbrev pub lowered : Raced → Raced
lowered r = record r { guaranteed = guarantee_with r.guaranteed (list_len r.list) }

abbrev pub told_list : Raced → Raced
told_list r = told_over (ListOf (index_at r (turn_scan r)) (list_len r.list)) r

abbrev pub listed : List ℕ → Raced → Raced
listed keys r = told_list (lowered (recounted (narrowed (completed keys r))))

abbrev pub ended : Raced → Raced
ended r = over (more r) (ScanEnded (more r) true) r

-- A VERDICT IS OBEYED

-- the scan is dropped, and the other one goes on
abbrev pub dropped : Raced → Raced
dropped r = over (more r) (Ruled AbandonScan (more r) (is_some r.list)) (told_over (Drop (index_at r (turn_scan r))) r)

-- the background is dropped: it is shown for the scan that stands last in the trace, the lower one
abbrev pub stopped : Raced → Raced
stopped r =
    gone (Ruled AbandonBackground (more r) (is_some r.list))
    (record r { trace = noted r.trace (Drop (index_at r (lower r.running))) })

-- the other scan, where there is one, has the next turn
abbrev pub passed_on : Raced → Raced
passed_on r = record r { running = turned r.running }

abbrev pub ruled : Verdict → Raced → Raced
ruled Continue r = passed_on r
ruled AbandonScan r = dropped r
ruled AbandonForeground r = passed_on r
ruled AbandonBackground r = stopped r

-- what a question does: its verdict is obeyed, and the judge stands where that one question leaves it
abbrev pub IsRuled : Ruling → ℕ → Raced → Raced → Type 0
IsRuled ruling after r new = (new ≡ ruled ruling.verdict r) × (after ≡ ruling.next)

-- the scan completed with these keys
pub record Completes (old new : Raced) : Type 0 where
  pub keys : List ℕ
  pub built : IsPermutation (turn_lane old).building keys
  pub ascend : IsStrictlyIncreasing keys
  pub ends : new ≡ ended (listed keys old)

-- THE JUDGE IS ASKED ONCE where the scan goes on, with the facts of its piece, and never where the piece was its last
abbrev pub Obeys : (ℕ → Facts → Ruling) → ℕ → ℕ → Pieced → Option IndexEntry → Raced → Raced → Type 0
Obeys would state after piece (Some cut) old new =
    IsRuled (would state (facts_of (accepted piece false old))) after (accepted piece false old) new
Obeys would state after piece None old new = Completes (accepted piece true old) new × (after ≡ state)

-- WHAT A GIVE LEAVES
abbrev pub GivesOn : (ℕ → Facts → Ruling) → ℕ → ℕ → Pieced → Given → Raced → Raced → Type 0
GivesOn would state after piece Accepted old new =
    Obeys would state after piece (held_next (turn_lane old).held) old new
GivesOn would state after piece (Stale asked now) old new = (new ≡ old) × (after ≡ state)

-- WHERE TWO SCANS ARE UNDER WAY, THE ONE THAT HAD NOT THE TURN HAS THE NEXT ONE, while scans are under way
abbrev pub HasNextTurn : Given → Raced → Raced → Type 0
HasNextTurn Accepted old new =
    scanning new.control ≡ true → IfSome old.running.other (λ other. new.running.turn.scan ≡ other.scan)
HasNextTurn (Stale asked now) old new = new ≡ old
