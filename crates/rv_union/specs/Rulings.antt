-- What becomes of a union where a piece is accepted, where a member ends and where a judge rules.
use Rattle.std.specs.Prelude.{◌≡◌, ℕ, ◌+◌, ◌-◌, ◌^◌, ◌++◌, Bool, true, false, not, List, [], length, min, nat_lt, nat_eq, Option, Some, None, IsPermutation, if◌then◌else◌}
use Rattle.std.specs.List.{list_any}
use Rattle.std.specs.List.Sorted.{IsStrictlyIncreasing}
use Rattle.rv_value.specs.declared.record.IndexEntry.{IndexEntry}
use Rattle.rv_keylist.specs.Keys.{has_key}
use Rattle.rv_judge.specs.declared.events.Event.{Event}
use Rattle.rv_judge.specs.declared.events.Event.TheVariants.{At, Scan, List as ListOf, Drop, Full, Stop}
use Rattle.rv_judge.specs.declared.events.Happening.{Happening}
use Rattle.rv_judge.specs.declared.events.Happening.TheVariants.{ScanEnded, Ruled}
use Rattle.rv_judge.specs.declared.events.Strategy.TheVariants.{Union}
use Rattle.rv_judge.specs.declared.judging.Facts.{Facts}
use Rattle.rv_judge.specs.declared.judging.Verdict.{Verdict}
use Rattle.rv_judge.specs.declared.judging.Verdict.TheVariants.{Continue, AbandonScan, AbandonForeground, AbandonBackground}
use Rattle.rv_judge.specs.Account.{ScanAccount, facts_at}
use Rattle.rv_judge.specs.Counting.{one_more, raised}
use Rattle.rv_judge.specs.Course.{next_control}
use Rattle.rv_judge.specs.Tracing.{noted}
use Rattle.rv_judge.specs.Verdicts.{Ruling}
use Rattle.rv_jscan.specs.declared.jscan.Given.{Given}
use Rattle.rv_jscan.specs.declared.jscan.Given.TheVariants.{Accepted, Stale}
use Rattle.rv_jscan.specs.Joint.{no_counts}
use Rattle.rv_jscan.specs.Lanes.{no_lane, passed}
use Rattle.rv_jscan.specs.Pieces.{Pieced, kept_by}
use Rattle.rv_jscan.specs.Steps.{held_next, piece_counted}
use Rattle.rv_union.specs.Given.{with_lane}
use Rattle.rv_union.specs.Unioned.{Unioned, present}

-- A PIECE IS ACCEPTED: those of its rows are added that no member before had put there, it is counted, and the member
-- goes on to the next cut. `last` tells that there is none.

-- a list has a row not
abbrev pub lacks : List ℕ → ℕ → Bool
lacks keys n = not (has_key n keys)

abbrev pub kept_of : Unioned → Pieced → List ℕ
kept_of u piece = kept_by (lacks u.keys) piece.part piece.entries

abbrev pub accepted : Pieced → Bool → Unioned → Unioned
accepted piece last u = record (with_lane (passed (lacks u.keys) piece u.lane) u) {
  count = piece_counted u.count (length piece.entries) (length (kept_of u piece)) last;
  number = one_more u.number;
}

-- WHAT THE JUDGE IS TOLD of the present member: what it kept are the keys that it added. What is projected is that
-- its scan is finished and its list fetched, and with it the keys that the members before have added.

abbrev pub account_of : Unioned → ScanAccount
account_of u =
    record { estimate = (present u).estimate; scanned = u.count.scanned; kept = u.count.kept; leaves = u.count.leaves }

-- its position, held at the greatest u32
abbrev pub position : Unioned → ℕ
position u = min u.member (2 ^ 32 - 1)

abbrev pub with_keys : ℕ → Facts → Facts
with_keys keys facts = record facts { projected = raised facts.projected keys }

abbrev pub facts_of : Unioned → Facts
facts_of u = with_keys (length u.keys) (facts_at u.control (account_of u) (position u) u.guaranteed 0)

-- Where a happening leads.

abbrev pub index_of : Unioned → ℕ
index_of u = (present u).index

-- an event is told
abbrev pub told : Event → Unioned → Unioned
told event u = record u { trace = noted u.trace event }

-- the control is that of the course, and the trace tells it
abbrev pub gone : Happening → Unioned → Unioned
gone happening u =
    record u {
      control = next_control Union u.control happening;
      trace = noted u.trace (At (next_control Union u.control happening));
    }

-- A MEMBER ENDED: what it built and the keys before it are one list, and the next member begins. Its index is told
-- where it is scanned for the first time. After the last member the list is fetched.

abbrev pub joined : List ℕ → Unioned → Unioned
joined keys u = record (with_lane no_lane u) { keys = keys }

abbrev pub is_scan : ℕ → Event → Bool
is_scan index (At now) = false
is_scan index (Scan i) = nat_eq i index
is_scan index (ListOf i keys) = false
is_scan index (Drop i) = false
is_scan index Full = false
is_scan index Stop = false

abbrev pub was_begun : ℕ → List Event → Bool
was_begun index events = list_any (is_scan index) events

abbrev pub told_scan : Unioned → Unioned
told_scan u = if was_begun (index_of u) u.trace.events.items then u else told (Scan (index_of u)) u

abbrev pub next_member : Unioned → Unioned
next_member u = record u { member = u.member + 1; count = no_counts }

abbrev pub going_on : Unioned → Unioned
going_on u = told_scan (next_member u)

abbrev pub listed : Unioned → Unioned
listed u = gone (ScanEnded false true) (told (ListOf (index_of u) (length u.keys)) u)

abbrev pub has_next : Unioned → Bool
has_next u = nat_lt (u.member + 1) (length u.plans)

abbrev pub over : Unioned → Unioned
over u = if has_next u then going_on u else listed u

-- A VERDICT IS OBEYED. One that drops the present member drops the union: the keys put together do not cover what
-- qualifies, so they are forgotten and the table is read.

abbrev pub forgotten : Unioned → Unioned
forgotten u = record (with_lane no_lane u) { keys = [] }

abbrev pub dropped : Verdict → Unioned → Unioned
dropped verdict u = gone (Ruled verdict false false) (told (Drop (index_of u)) (forgotten u))

abbrev pub ruled : Verdict → Unioned → Unioned
ruled Continue u = u
ruled AbandonScan u = dropped AbandonScan u
ruled AbandonForeground u = u
ruled AbandonBackground u = dropped AbandonBackground u

-- what a question does: its verdict is obeyed, and the judge stands where that one question leaves it
abbrev pub IsRuled : Ruling → ℕ → Unioned → Unioned → Type 0
IsRuled ruling after u new = (new ≡ ruled ruling.verdict u) × (after ≡ ruling.next)

-- the member completed, and with these keys all members up to it
pub record Completes (old new : Unioned) : Type 0 where
  pub keys : List ℕ
  pub built : IsPermutation (old.keys ++ old.lane.building) keys
  pub ascend : IsStrictlyIncreasing keys
  pub ends : new ≡ over (joined keys old)

-- THE JUDGE IS ASKED ONCE where the member goes on, with the facts of its piece, and never where the piece was its last
abbrev pub Obeys : (ℕ → Facts → Ruling) → ℕ → ℕ → Pieced → Option IndexEntry → Unioned → Unioned → Type 0
Obeys would state after piece (Some cut) old new =
    IsRuled (would state (facts_of (accepted piece false old))) after (accepted piece false old) new
Obeys would state after piece None old new = Completes (accepted piece true old) new × (after ≡ state)

-- WHAT A GIVE LEAVES
abbrev pub GivesOn : (ℕ → Facts → Ruling) → ℕ → ℕ → Pieced → Given → Unioned → Unioned → Type 0
GivesOn would state after piece Accepted old new = Obeys would state after piece (held_next old.lane.held) old new
GivesOn would state after piece (Stale asked now) old new = (new ≡ old) × (after ≡ state)
