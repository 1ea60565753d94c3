-- What a retrieval is opened over.
use Rattle.std.specs.Prelude.{◌≡◌, ℕ, ◌<◌, Bool, true, false, List, [], length}
use Rattle.rv_rows.specs.Rows.{Ascend}
use Rattle.rv_judge.specs.declared.events.Strategy.{Strategy}
use Rattle.rv_judge.specs.declared.events.Strategy.TheVariants.{Table, BackgroundOnly, FastFirst, Sorted, IndexOnly, Union}
use Rattle.rv_judge.specs.declared.events.Control.{Control}
use Rattle.rv_judge.specs.declared.events.Control.TheVariants.{Building, ForegroundAlone, BackgroundAlone, FinalTable}
use Rattle.rv_reader.specs.Shown.{Shown, CanRead}
use Rattle.rv_scan.specs.Due.{HaveColumns}
use Rattle.rv_jscan.specs.declared.jscan.ScanPlan.{ScanPlan}
use Rattle.rv_jscan.specs.Entries.{Apart}
use Rattle.rv_jscan.specs.Joint.{CanMake, meets, plan_at}
use Rattle.rv_choice.specs.declared.query.Query.{Query}
use Rattle.rv_final.specs.Rest.{qualifies_at}
use Rattle.rv_retrieval.specs.Fronts.{front_left}
use Rattle.rv_scan.specs.Fronts.{Front, walk_of}
use Rattle.rv_retrieval.specs.Shape.{FrontFits, Shape, is_led, is_sorted, rest}

-- the first control of a strategy, by whether a background scan is planned
abbrev pub first_of : Strategy → Bool → Control
first_of Table some = FinalTable
first_of BackgroundOnly some = BackgroundAlone
first_of Union some = BackgroundAlone
first_of FastFirst some = Building
first_of Sorted true = Building
first_of Sorted false = ForegroundAlone
first_of IndexOnly true = Building
first_of IndexOnly false = ForegroundAlone

-- The reader can be read as the strategy's scans will. Each row that qualifies has an entry that passes in each planned
-- scan, and where a scan of an index is the foreground, one in its range.
pub record Opens (query : Query) (strategy : Strategy) (scans : List ScanPlan) (front : Front)
    (shown : Shown) : Type 0 where
  pub ascend : Ascend (shown.rows query.table query.snap)
  pub read : CanRead shown query.table query.snap
  pub columns : HaveColumns query.only (shown.rows query.table query.snap)
  pub each : (i : ℕ) → i < length scans → CanMake (plan_at scans i) shown query.snap
  pub apart : (i : ℕ) → i < length scans → Apart (shown.entries (plan_at scans i).index query.snap)
  pub planned : (i : ℕ) → i < length scans → (n : ℕ)
      → qualifies_at query.only (shown.rows query.table query.snap) n ≡ true
      → meets (plan_at scans i) shown query.snap n ≡ true
  pub led : is_led strategy ≡ true → FrontFits query strategy front shown
  pub all : is_led strategy ≡ true → (n : ℕ) → qualifies_at query.only (shown.rows query.table query.snap) n ≡ true
      → front_left front (shown.entries (walk_of front).index query.snap) n ≡ true
  pub ordered : is_sorted strategy ≡ false → query.order ≡ []
