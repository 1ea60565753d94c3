-- A union as contracts see it, and the records that it still owes.
use Rattle.std.specs.Prelude.{◌≡◌, ℕ, ◌+◌, ◌<◌, Bool, true, ◌||◌, List, length, drop, Some}
use Rattle.std.specs.List.{list_any}
use Rattle.rv_value.specs.declared.record.Record.{Record}
use Rattle.rv_keylist.specs.Keys.{has_key}
use Rattle.rv_keyset.specs.Sets.{AreApart}
use Rattle.rv_judge.specs.declared.events.Control.{Control}
use Rattle.rv_judge.specs.declared.events.Control.TheVariants.{FinalList}
use Rattle.rv_judge.specs.declared.events.Trace.{Trace}
use Rattle.rv_restrict.specs.declared.atom.Atom.{Atom}
use Rattle.rv_reader.specs.Shown.{Shown}
use Rattle.rv_scan.specs.Places.{Place}
use Rattle.rv_jscan.specs.declared.jscan.ScanPlan.{ScanPlan}
use Rattle.rv_jscan.specs.declared.jscan.ScanCounts.{ScanCounts}
use Rattle.rv_jscan.specs.Entries.{Apart, has_entry}
use Rattle.rv_jscan.specs.Joint.{CanMake, meets, passing, plan_at}
use Rattle.rv_jscan.specs.Lanes.{LaneFits, Laned}
use Rattle.rv_final.specs.Rest.{qualifies_at}
use Rattle.rv_final.specs.Shell.{ShellFits, Shelled, rest as rest_left, scanning}
use Rattle.rv_final.specs.LaneWork.{ahead}

-- Everything that a union keeps. `plans` are its members, which never change; `member` is the position of the present
-- one, `lane` where that one stands in its index, and `count` what it did. `keys` are those that the members before
-- it have put together, ascending. `at` counts the keys that the final stage has passed, and `last` is the final scan
-- of the table.
pub record Unioned : Type 0 where
  pub table : ℕ
  pub snap : ℕ
  pub cursor : ℕ
  pub opening : ℕ
  pub only : List (List Atom)
  pub plans : List ScanPlan
  pub member : ℕ
  pub lane : Laned
  pub count : ScanCounts
  pub number : ℕ
  pub keys : List ℕ
  pub control : Control
  pub guaranteed : ℕ
  pub at : ℕ
  pub last : Place
  pub trace : Trace

-- what holds of the parts alone: the present member adds only rows that the members before it had not
pub record IsUnion (plans : List ScanPlan) (member : ℕ) (lane : Laned) (keys : List ℕ) : Type 0 where
  pub there : member < length plans
  pub new : AreApart keys lane.building

-- the present member
abbrev pub present : Unioned → ScanPlan
present u = plan_at u.plans u.member

-- what stands around its scans
abbrev pub shell_of : Unioned → Shelled
shell_of u = record { control = u.control; at = u.at; last = u.last; trace = u.trace }

abbrev pub with_shell : Shelled → Unioned → Unioned
with_shell s u = record u { control = s.control; at = s.at; last = s.last; trace = s.trace }

abbrev pub rows_of : Unioned → Shown → List Record
rows_of u shown = shown.rows u.table u.snap

-- THE REST: the records of the snapshot that qualify and are still to be given, in ascending row number
abbrev pub rest : Unioned → Shown → List Record
rest u shown = rest_left u.only (rows_of u shown) (Some u.keys) (shell_of u)

-- a row of this number qualifies
abbrev pub owed : Unioned → Shown → ℕ → Bool
owed u shown n = qualifies_at u.only (rows_of u shown) n

-- a row meets some of the members
abbrev pub meets_any : List ScanPlan → Shown → ℕ → ℕ → Bool
meets_any plans shown snap n = list_any (λ (p : ScanPlan). meets p shown snap n) plans

-- The members can be scanned. The entries of an index are of different rows, and EACH ROW THAT IS OWED MEETS SOME
-- MEMBER.
pub record MembersFit (plans : List ScanPlan) (owed : ℕ → Bool) (shown : Shown) (snap : ℕ) : Type 0 where
  pub each : (i : ℕ) → i < length plans → CanMake (plan_at plans i) shown snap
  pub apart : (i : ℕ) → i < length plans → Apart (shown.entries (plan_at plans i).index snap)
  pub met : (n : ℕ) → owed n ≡ true → meets_any plans shown snap n ≡ true

-- whether a row is in the list that the present member builds, or ahead of it
abbrev pub builds : ScanPlan → Shown → ℕ → Laned → ℕ → Bool
builds plan shown snap l n = has_key n l.building || has_entry n (passing plan.part (ahead plan shown snap l))

-- whether a row was put together, is being built or ahead of the present member, or meets a member behind it
abbrev pub found : Unioned → Shown → ℕ → Bool
found u shown n =
    has_key n u.keys || (builds (present u) shown u.snap u.lane n
    || meets_any (drop (u.member + 1) u.plans) shown u.snap n)

-- a list has each row that is owed
abbrev pub Covers : (ℕ → Bool) → List ℕ → Type 0
Covers owed keys = (n : ℕ) → owed n ≡ true → has_key n keys ≡ true

-- each key is of a row that meets some member
pub record AreMet (keys : List ℕ) (plans : List ScanPlan) (shown : Shown) (snap : ℕ) : Type 0 where
  pub met : (n : ℕ) → has_key n keys ≡ true → meets_any plans shown snap n ≡ true

-- WHAT IT HOLDS WAS DRAWN FROM WHAT A READER SHOWS, and the reader can be read as it will be.
pub record UnionFits (u : Unioned) (shown : Shown) : Type 0 where
  pub shell : ShellFits u.table u.snap u.only shown (shell_of u)
  pub members : MembersFit u.plans (owed u shown) shown u.snap
  pub there : u.member < length u.plans
  pub lane : LaneFits (present u) shown u.snap u.lane
  pub finds : scanning u.control ≡ true → (n : ℕ) → owed u shown n ≡ true → found u shown n ≡ true
  pub covers : u.control ≡ FinalList → Covers (owed u shown) u.keys
  pub listed : AreMet u.keys u.plans shown u.snap
  pub building : AreMet u.lane.building u.plans shown u.snap

-- WHAT EVERY CALL KEEPS: what is asked, the members and the names of the pieces
pub record SameUnion (old new : Unioned) : Type 0 where
  pub table : new.table ≡ old.table
  pub snap : new.snap ≡ old.snap
  pub cursor : new.cursor ≡ old.cursor
  pub opening : new.opening ≡ old.opening
  pub only : new.only ≡ old.only
  pub plans : new.plans ≡ old.plans

-- the fit and the rest stay, of whatever a reader shows
pub record Keeps (old new : Unioned) : Type 0 where
  pub fits : (shown : Shown) → UnionFits old shown → UnionFits new shown
  pub rest : (shown : Shown) → UnionFits old shown → rest new shown ≡ rest old shown
