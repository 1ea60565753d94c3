-- A race as contracts see it, and the records that it still owes.
use Rattle.std.specs.Prelude.{◌≡◌, ℕ, ◌<◌, ◌≤◌, Bool, true, ◌||◌, List, length, Option, None, IsSome, IfSome}
use Rattle.rv_value.specs.declared.record.Record.{Record}
use Rattle.rv_keylist.specs.Keys.{has_key}
use Rattle.rv_keylist.specs.Listed.{Listed}
use Rattle.rv_judge.specs.declared.events.Control.{Control}
use Rattle.rv_judge.specs.declared.events.Control.TheVariants.{FinalList}
use Rattle.rv_judge.specs.declared.events.Trace.{Trace}
use Rattle.rv_restrict.specs.declared.atom.Atom.{Atom}
use Rattle.rv_reader.specs.Shown.{Shown}
use Rattle.rv_scan.specs.Places.{Place}
use Rattle.rv_jscan.specs.declared.jscan.ScanPlan.{ScanPlan}
use Rattle.rv_jscan.specs.declared.jscan.ScanCounts.{ScanCounts}
use Rattle.rv_jscan.specs.Entries.{Apart, has_entry}
use Rattle.rv_jscan.specs.Joint.{CanMake, meets, passing, plan_at}
use Rattle.rv_jscan.specs.Lanes.{LaneFits}
use Rattle.rv_final.specs.Rest.{qualifies_at}
use Rattle.rv_final.specs.Shell.{ShellFits, Shelled, rest as rest_left}
use Rattle.rv_final.specs.LaneWork.{ahead}
use Rattle.rv_race.specs.declared.running.Runner.{Runner}
use Rattle.rv_race.specs.declared.running.Running.{Running}

-- Everything that a race keeps. The planned scans never change; beside each stands what it did. `list` is the complete
-- list, `at` counts its keys that the final stage has passed, and `last` is the final scan of the table.
pub record Raced : Type 0 where
  pub table : ℕ
  pub snap : ℕ
  pub cursor : ℕ
  pub opening : ℕ
  pub only : List (List Atom)
  pub plans : List ScanPlan
  pub counts : List ScanCounts
  pub running : Running
  pub number : ℕ
  pub list : Option (List ℕ)
  pub control : Control
  pub guaranteed : ℕ
  pub at : ℕ
  pub last : Place
  pub trace : Trace

-- what holds of the parts alone
pub record IsRace (plans : List ScanPlan) (running : Running) (list : Option Listed) : Type 0 where
  pub few : length plans ≤ 8
  pub turn_planned : running.turn.scan < length plans
  pub other_planned : IfSome running.other (λ o. o.scan < length plans)
  pub next_planned : running.next ≤ length plans
  pub list_finished : IfSome list (λ l. l.finished ≡ true)

-- what stands around its scans
abbrev pub shell_of : Raced → Shelled
shell_of r = record { control = r.control; at = r.at; last = r.last; trace = r.trace }

abbrev pub with_shell : Shelled → Raced → Raced
with_shell s r = record r { control = s.control; at = s.at; last = s.last; trace = s.trace }

abbrev pub rows_of : Raced → Shown → List Record
rows_of r shown = shown.rows r.table r.snap

-- THE REST: the records of the snapshot that qualify and are still to be given, in ascending row number
abbrev pub rest : Raced → Shown → List Record
rest r shown = rest_left r.only (rows_of r shown) r.list (shell_of r)

-- a row of this number qualifies
abbrev pub owed : Raced → Shown → ℕ → Bool
owed r shown n = qualifies_at r.only (rows_of r shown) n

-- The planned scans can be made. The entries of an index are of different rows, and each row that is owed has one that
-- passes in each planned scan.
pub record PlansFit (plans : List ScanPlan) (owed : ℕ → Bool) (shown : Shown) (snap : ℕ) : Type 0 where
  pub each : (i : ℕ) → i < length plans → CanMake (plan_at plans i) shown snap
  pub apart : (i : ℕ) → i < length plans → Apart (shown.entries (plan_at plans i).index snap)
  pub entered : (i : ℕ) → i < length plans → (n : ℕ) → owed n ≡ true → meets (plan_at plans i) shown snap n ≡ true

-- what a scan under way holds was drawn from its index: each row that is owed is in the list that it builds, or ahead
pub record RunnerFits (plans : List ScanPlan) (owed : ℕ → Bool) (shown : Shown) (snap : ℕ) (run : Runner) : Type 0 where
  pub there : run.scan < length plans
  pub lane : LaneFits (plan_at plans run.scan) shown snap run.lane
  pub builds : (n : ℕ) → owed n ≡ true
      → (has_key n run.lane.building
      || has_entry n (passing (plan_at plans run.scan).part (ahead (plan_at plans run.scan) shown snap run.lane)))
      ≡ true

-- the scans under way were; only the one whose turn it is holds a leaf
pub record RunningFits (plans : List ScanPlan) (owed : ℕ → Bool) (shown : Shown) (snap : ℕ) (w : Running) : Type 0 where
  pub turn : RunnerFits plans owed shown snap w.turn
  pub other : IfSome w.other (RunnerFits plans owed shown snap)
  pub unheld : IfSome w.other (λ o. o.lane.held ≡ None)

-- a list has each row that is owed
abbrev pub Covers : (ℕ → Bool) → List ℕ → Type 0
Covers owed keys = (n : ℕ) → owed n ≡ true → has_key n keys ≡ true

-- WHAT IT HOLDS WAS DRAWN FROM WHAT A READER SHOWS, and the reader can be read as it will be.
pub record RaceFits (r : Raced) (shown : Shown) : Type 0 where
  pub shell : ShellFits r.table r.snap r.only shown (shell_of r)
  pub plans : PlansFit r.plans (owed r shown) shown r.snap
  pub running : RunningFits r.plans (owed r shown) shown r.snap r.running
  pub covers : IfSome r.list (Covers (owed r shown))
  pub listed : r.control ≡ FinalList → IsSome r.list

-- WHAT EVERY CALL KEEPS: what is asked, the planned scans and the names of the pieces
pub record SameRace (old new : Raced) : Type 0 where
  pub table : new.table ≡ old.table
  pub snap : new.snap ≡ old.snap
  pub cursor : new.cursor ≡ old.cursor
  pub opening : new.opening ≡ old.opening
  pub only : new.only ≡ old.only
  pub plans : new.plans ≡ old.plans

-- the fit and the rest stay, of whatever a reader shows
pub record Keeps (old new : Raced) : Type 0 where
  pub fits : (shown : Shown) → RaceFits old shown → RaceFits new shown
  pub rest : (shown : Shown) → RaceFits old shown → rest new shown ≡ rest old shown
