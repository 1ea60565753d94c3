-- What a retrieval keeps of its own run.
use Rattle.std.specs.Prelude.{◌≡◌, ℕ, ◌+◌, not, ◌&&◌, List, [], ◌∷◌, length, drop, find, Option, Some, None, is_some, if◌then◌else◌}
use Rattle.rv_value.specs.declared.record.RowNo.{RowNo}
use Rattle.rv_keylist.specs.Keys.{has_key}
use Rattle.rv_judge.specs.Account.{Account, ScanAccount}
use Rattle.rv_judge.specs.Course.{building, fast_first}
use Rattle.rv_jscan.specs.declared.jscan.ScanPlan.{ScanPlan}
use Rattle.rv_jscan.specs.declared.jscan.ScanCounts.{ScanCounts}
use Rattle.rv_jscan.specs.Joint.{no_counts, under_way}
use Rattle.rv_retrieval.specs.Shape.{Shape, is_background, lending}

abbrev pub scan_account : ScanPlan → ScanCounts → ScanAccount
scan_account plan c = record { estimate = plan.estimate; scanned = c.scanned; kept = c.kept; leaves = c.leaves }

-- each planned scan with what it did
abbrev pub scan_accounts : List ScanPlan → List ScanCounts → List ScanAccount
scan_accounts [] counts = []
scan_accounts (plan ∷ plans) [] = scan_account plan no_counts ∷ scan_accounts plans []
scan_accounts (plan ∷ plans) (c ∷ counts) = scan_account plan c ∷ scan_accounts plans counts

abbrev pub list_length : Option (List ℕ) → Option ℕ
list_length None = None
list_length (Some keys) = Some (length keys)

-- the position of the scan under way
abbrev pub present_of : Shape → Option ℕ
present_of v = if is_background v.control && under_way v.joint then Some v.joint.ended else None

-- the first key not borrowed yet whose row was not delivered
abbrev pub first_fresh : Shape → Option ℕ
first_fresh v = find (λ (k : ℕ). not (has_key k v.delivered)) (drop v.borrowed (lending v.joint))

-- the key that fast-first fetches next
abbrev pub fresh_of : Shape → Option ℕ
fresh_of v = if building v.control && fast_first v.strategy then first_fresh v else None

abbrev pub account_of : Shape → Account
account_of v = record {
  strategy = v.strategy;
  control = v.control;
  present = present_of v;
  scans = scan_accounts v.joint.plans v.joint.counts;
  listed = list_length v.joint.list;
  delivered = length v.delivered;
  guaranteed = v.guaranteed;
  trace = v.trace;
  number = v.joint.number;
  taken = is_some v.joint.held;
  fresh = fresh_of v;
}

-- the next key of the list that is borrowed from, or none is left
abbrev pub NextBorrowed : Shape → Option RowNo → Type 0
NextBorrowed v None = drop v.borrowed (lending v.joint) ≡ []
NextBorrowed v (Some row) = drop v.borrowed (lending v.joint) ≡ row.0 ∷ drop (v.borrowed + 1) (lending v.joint)

-- the fresh key
abbrev pub IsFresh : Shape → Option RowNo → Type 0
IsFresh v None = first_fresh v ≡ None
IsFresh v (Some row) = first_fresh v ≡ Some row.0
