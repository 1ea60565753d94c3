-- What a joint scan over the two indexes needs.
use Rattle.std.specs.Prelude.{◌≡◌, ℕ, ◌<◌, ◌≤◌, length}
use Rattle.std.specs.List.{AllByRecursion}
use Rattle.rv_value.specs.declared.range.Range.{Range}
use Rattle.rv_restrict.specs.Ranges.{AreShort}
use Rattle.rv_reader.specs.Shown.{Shown, CanScan, Suits}
use Rattle.rv_reader.specs.Storing.{AreKeys}
use Rattle.rv_jscan.specs.declared.jscan.ScanPlan.{ScanPlan}
use Rattle.rv_jscan.specs.Entries.{Apart}
use Rattle.rv_jscan.specs.Joint.{Joint, JointFits}
use Rattle.rv_loading.specs.declared.schema.Loaded.{Loaded}
use Rattle.rv_loading.specs.Laid.{over_at}

-- what was loaded has two indexes, each over one column
pub record HasTwo (loaded : Loaded) : Type 0 where
  pub both : 2 ≤ loaded.layout.indexes
  pub first : length (over_at loaded.schema.indexes 0).columns ≡ 1
  pub second : length (over_at loaded.schema.indexes 1).columns ≡ 1

-- At the snapshot there are two indexes. Each key has one value, and no row stands in two entries of an index.
pub record Lists (shown : Shown) (snap : ℕ) : Type 0 where
  pub can : (index : ℕ) → index < 2 → CanScan shown index snap
  pub suits : (index : ℕ) (range : Range) → index < 2 → AreShort 1 range → Suits shown index snap range
  pub keys : (index : ℕ) → index < 2 → AreKeys 1 (shown.entries index snap)
  pub apart : (index : ℕ) → index < 2 → Apart (shown.entries index snap)

-- a planned scan of one of the two
pub record IsPlan (plan : ScanPlan) : Type 0 where
  pub index : plan.index < 2
  pub short : AreShort 1 plan.range
  pub columns : length plan.part.columns ≡ 1

-- a joint scan of them, drawn from what is shown
pub record Drawn (shown : Shown) (j : Joint) : Type 0 where
  pub lists : Lists shown j.snap
  pub plans : AllByRecursion IsPlan j.plans
  pub fits : JointFits j shown
