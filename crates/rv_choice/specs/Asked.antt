-- What a query asks of a reader, and the background scans that it may have.
use Rattle.std.specs.Prelude.{◌≡◌, ◌⊎◌, ℕ, ◌≤◌, Bool, List, [], true, length, nat_eq, map}
use Rattle.std.specs.List.{AllByRecursion, IsDistinct, list_any, starts_with}
use Rattle.rv_rows.specs.Rows.{Ascend}
use Rattle.rv_restrict.specs.declared.atom.Atom.{Atom}
use Rattle.rv_restrict.specs.Bind.{passes_home}
use Rattle.rv_restrict.specs.Parts.{part_of, stands_among}
use Rattle.rv_restrict.specs.Ranges.{range_for}
use Rattle.rv_restrict.specs.Truth.{names_only}
use Rattle.rv_reader.specs.Entries.{entries_of}
use Rattle.rv_reader.specs.Shown.{Shown, CanRead, CanScan}
use Rattle.rv_reader.specs.Storing.{AreKeys}
use Rattle.rv_scan.specs.Due.{HaveColumns}
use Rattle.rv_jscan.specs.declared.jscan.ScanPlan.{ScanPlan}
use Rattle.rv_choice.specs.declared.query.Query.{Query}

-- an index of the table, with its columns: the reader shows the entries of the table's rows for it
pub record IsIndexOf (query : Query) (shown : Shown) (index : ℕ) (columns : List ℕ) : Type 0 where
  pub can : CanScan shown index query.snap
  pub some : 1 ≤ length columns
  pub few : length columns ≤ 4
  pub different : IsDistinct nat_eq columns
  pub entries : shown.entries index query.snap ≡ entries_of columns (shown.rows query.table query.snap)
  pub cuts : AreKeys (length columns) (shown.cuts index query.snap)

-- some index begins with these columns
abbrev pub begins_any : List (ℕ × List ℕ) → List ℕ → Bool
begins_any indexes order = list_any (λ (i : ℕ × List ℕ). starts_with nat_eq i.1 order) indexes

-- the query can be asked of the reader
pub record CanAsk (query : Query) (shown : Shown) : Type 0 where
  pub ascend : Ascend (shown.rows query.table query.snap)
  pub read : CanRead shown query.table query.snap
  pub columns : HaveColumns query.only (shown.rows query.table query.snap)
  pub few : length query.indexes ≤ 8
  pub different : IsDistinct nat_eq (map (λ (i : ℕ × List ℕ). i.0) query.indexes)
  pub indexes : AllByRecursion (λ (i : ℕ × List ℕ). IsIndexOf query shown i.0 i.1) query.indexes
  pub named : names_only (passes_home (stands_among query.need)) query.only ≡ true
  pub ordered : (query.order ≡ []) ⊎ (begins_any query.indexes query.order ≡ true)
  pub needs : (c : ℕ) → stands_among query.order c ≡ true → stands_among query.need c ≡ true

-- the same query with another restriction
abbrev pub with_only : List (List Atom) → Query → Query
with_only only query = record query { only = only }

-- a background scan of an index: in the range and with the part that the restriction has for it
pub record IsPlanned (query : Query) (shown : Shown) (plan : ScanPlan) : Type 0 where
  pub columns : List ℕ
  pub index : IsIndexOf query shown plan.index columns
  pub range : plan.range ≡ range_for query.only columns
  pub part : plan.part ≡ part_of query.only columns
