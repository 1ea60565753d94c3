-- The indexes of planned scans, one by one.
use Rattle.std.proofs.Common.{◌≡◌, ℕ, ◌+◌, ◌<◌, zero, suc, List, [], ◌∷◌, true, refl, ap, ◌∙◌, arith, length, drop, nat_eq}
use Rattle.std.proofs.lemmas.Bool.{or_left, or_right}
use Rattle.rv_value.proofs.Tests.{same_number}
use Rattle.rv_judge.specs.Runs.{has_index}
use Rattle.rv_jscan.specs.declared.jscan.ScanPlan.{ScanPlan}
use Rattle.rv_jscan.specs.Joint.{plan_at}
use Rattle.rv_jscan.specs.Planned.{indexes_of}

pub dropped_one : (plans : List ScanPlan) (k : ℕ) → k < length plans → indexes_of (drop k plans) ≡ (plan_at plans k).index ∷ indexes_of (drop (k + 1) plans)
dropped_one [] k l = absurd (omega arith)
dropped_one (p ∷ plans) zero l = refl
dropped_one (p ∷ plans) (suc k) l =
    let step : suc (k + 1) ≡ suc k + 1 = omega arith in
    dropped_one plans k (omega arith) ∙ ap (λ (x : ℕ). (plan_at plans k).index ∷ indexes_of (drop x (p ∷ plans))) step

pub index_known : (plans : List ScanPlan) (k : ℕ) → k < length plans → has_index (plan_at plans k).index (indexes_of plans) ≡ true
index_known [] k l = absurd (omega arith)
index_known (p ∷ plans) zero l = or_left (nat_eq p.index p.index) (has_index p.index (indexes_of plans)) (same_number p.index)
index_known (p ∷ plans) (suc k) l = or_right (nat_eq p.index (plan_at plans k).index) (has_index (plan_at plans k).index (indexes_of plans)) (index_known plans k (omega arith))
