-- What becomes of a retrieval where a scan ends and where a judge rules.
use Rattle.std.specs.Prelude.{◌≡◌, ℕ, Bool, true, false, nat_eq, is_some, if◌then◌else◌}
use Rattle.rv_judge.specs.declared.events.Event.TheVariants.{At, Stop}
use Rattle.rv_judge.specs.declared.events.Happening.{Happening}
use Rattle.rv_judge.specs.declared.events.Happening.TheVariants.{ScanEnded, Ruled}
use Rattle.rv_judge.specs.declared.judging.Facts.{Facts}
use Rattle.rv_judge.specs.declared.judging.Verdict.{Verdict}
use Rattle.rv_judge.specs.declared.judging.Verdict.TheVariants.{Continue, AbandonScan, AbandonForeground, AbandonBackground}
use Rattle.rv_judge.specs.Account.{facts_of, guarantee_with}
use Rattle.rv_judge.specs.Course.{next_control}
use Rattle.rv_judge.specs.Verdicts.{Ruling}
use Rattle.rv_jscan.specs.declared.jscan.Given.{Given}
use Rattle.rv_jscan.specs.declared.jscan.Given.TheVariants.{Accepted, Stale}
use Rattle.rv_jscan.specs.Joint.{Joint, under_way}
use Rattle.rv_jscan.specs.Pieces.{Pieced}
use Rattle.rv_jscan.specs.Steps.{Accepts, abandoned, held_next}
use Rattle.rv_retrieval.specs.Accounts.{account_of}
use Rattle.rv_retrieval.specs.Given.{more_behind}
use Rattle.rv_retrieval.specs.Shape.{Shape}
use Rattle.rv_retrieval.specs.Telling.{can_stop, list_len, noted_drop, noted_list, noted_scan}
use Rattle.rv_judge.specs.Tracing.{noted}

-- the control is that of the course, and the trace tells it
abbrev pub gone : Happening → Shape → Shape
gone happening v =
    record v {
      control = next_control v.strategy v.control happening;
      trace = noted v.trace (At (next_control v.strategy v.control happening));
    }

-- the scan at a position completed: borrowing begins again, and as many fetches as the list has keys finish the
-- retrieval
abbrev pub listed : ℕ → Shape → Shape
listed scan v =
    record v {
      borrowed = 0;
      guaranteed = guarantee_with v.guaranteed (list_len v.joint.list);
      trace = noted_list v.trace v.joint scan (list_len v.joint.list);
    }

-- the next scan begins
abbrev pub going_on : Shape → Shape
going_on v = record v { trace = noted_scan v.trace v.joint }

abbrev pub scan_over : ℕ → Shape → Shape
scan_over scan v =
    if under_way v.joint then going_on (listed scan v)
    else gone (ScanEnded (under_way v.joint) (is_some v.joint.list)) (listed scan v)

-- the scan under way is dropped; where no list is complete, borrowing goes over to the next scan's list
abbrev pub dropping : Shape → Shape
dropping v =
    record v {
      joint = abandoned v.joint;
      borrowed = (if is_some v.joint.list then v.borrowed
          else 0);
      trace = noted_drop v.trace (abandoned v.joint) v.joint.ended;
    }

abbrev pub dropped : Verdict → Bool → Bool → Shape → Shape
dropped verdict more next v =
    if next then going_on (dropping v) else gone (Ruled verdict more (is_some v.joint.list)) (dropping v)

-- the foreground is dropped, where there is one that can be dropped
abbrev pub stopped : Bool → Shape → Shape
stopped more v =
    if can_stop v then gone (Ruled AbandonForeground more (is_some v.joint.list))
    (record v { trace = noted v.trace Stop }) else v

-- A VERDICT IS OBEYED
abbrev pub ruled : Verdict → Shape → Shape
ruled Continue v = v
ruled AbandonScan v = dropped AbandonScan (more_behind v.joint) (more_behind v.joint) v
ruled AbandonForeground v = stopped (more_behind v.joint) v
ruled AbandonBackground v = dropped AbandonBackground (more_behind v.joint) false v

-- what a question does: its verdict is obeyed, and the judge stands where that one question leaves it
abbrev pub IsRuled : Ruling → ℕ → Shape → Shape → Type 0
IsRuled ruling after v new = (new ≡ ruled ruling.verdict v) × (after ≡ ruling.next)

-- THE JUDGE IS ASKED ONCE where the scan goes on, with the facts of the account, and never where it does not.
abbrev pub Obeyed : Bool → Bool → (ℕ → Facts → Ruling) → ℕ → ℕ → ℕ → Shape → Shape → Type 0
Obeyed true true would state after before v new =
    IsRuled (would state (facts_of (account_of v) v.joint.ended)) after v new
Obeyed true false would state after before v new = (new ≡ v) × (after ≡ state)
Obeyed false way would state after before v new = (new ≡ scan_over before v) × (after ≡ state)

abbrev pub Obeys : (ℕ → Facts → Ruling) → ℕ → ℕ → ℕ → Shape → Shape → Type 0
Obeys would state after before v new =
    Obeyed (nat_eq v.joint.ended before) (under_way v.joint) would state after before v new

-- what a give leaves: the piece's entries are counted and its keys added, and then the judge is obeyed
abbrev pub GivesOn : (ℕ → Facts → Ruling) → ℕ → ℕ → Pieced → Given → Shape → Shape → Type 0
GivesOn would state after piece Accepted old new =
    (j : Joint) × Accepts old.joint j piece.entries (held_next old.joint.held)
    × Obeys would state after old.joint.ended (record old { joint = j }) new
GivesOn would state after piece (Stale asked now) old new = (new ≡ old) × (after ≡ state)
