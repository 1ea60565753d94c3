-- The indexes of planned scans.
use Rattle.std.specs.Prelude.{ℕ, List, map}
use Rattle.rv_jscan.specs.declared.jscan.ScanPlan.{ScanPlan}

abbrev pub indexes_of : List ScanPlan → List ℕ
indexes_of plans = map (λ (p : ScanPlan). p.index) plans
