-- The account of a scan.
use Rattle.std.proofs.Common.{◌≡◌, ℕ, zero, suc, ◌<◌, List, [], ◌∷◌, true, nat_lt, length, refl, arith}
use Rattle.std.proofs.lemmas.Bool.Decides.{nat_tests}
use Rattle.std.specs.List.{slice_index_or}
use Rattle.rv_judge.specs.Account.{no_scan}
use Rattle.rv_jscan.specs.declared.jscan.ScanPlan.{ScanPlan}
use Rattle.rv_jscan.specs.declared.jscan.ScanCounts.{ScanCounts}
use Rattle.rv_jscan.specs.Joint.{counts_at, plan_at}
use Rattle.rv_retrieval.specs.Accounts.{scan_account, scan_accounts}

pub account_at : (plans : List ScanPlan) (counts : List ScanCounts) (i : ℕ) → i < length plans → slice_index_or (scan_accounts plans counts) i no_scan ≡ scan_account (plan_at plans i) (counts_at counts i)
account_at [] counts i l = absurd (omega arith)
account_at (plan ∷ plans) [] zero l = refl
account_at (plan ∷ plans) (c ∷ counts) zero l = refl
account_at (plan ∷ plans) [] (suc i) l = account_at plans [] i (omega arith)
account_at (plan ∷ plans) (c ∷ counts) (suc i) l = account_at plans counts i (omega arith)
