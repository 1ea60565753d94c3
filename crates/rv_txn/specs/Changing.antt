-- What UPDATE and DELETE ask, and which rows they change.
use Rattle.std.specs.Prelude.{◌≡◌, ℕ, ◌+◌, ◌≤◌, List, Option, Some, None, true, length, IfSome, if◌then◌else◌}
use Rattle.std.specs.List.{AllByRecursion}
use Rattle.rv_value.specs.declared.value.Value.{Value}
use Rattle.rv_value.specs.declared.record.Record.{Record}
use Rattle.rv_judge.specs.declared.counting.Counts.{Counts}
use Rattle.rv_rows.specs.declared.changes.Change.{Change}
use Rattle.rv_restrict.specs.declared.atom.Atom.{Atom}
use Rattle.rv_restrict.specs.Bind.{passes_home}
use Rattle.rv_restrict.specs.Truth.{names_only, qualifies, row_has}
use Rattle.rv_catalog.specs.Fits.{is_column}
use Rattle.rv_reader.specs.Shown.{Shown, CanRead}
use Rattle.rv_model.specs.declared.transactions.Transaction.{Transaction}

-- a change of the table leaves so many values, or none
abbrev pub IsWide : ℕ → ℕ → Change → Type 0
IsWide table columns c = c.table ≡ table → IfSome c.values (λ values. length values ≡ columns)

-- The table is there at the transaction's base, the restriction names columns of it alone, and the transaction's own
-- changes of it have as many values as it has columns.
pub record CanChange (shown : Shown) (t : Transaction) (table : ℕ) (only : List (List Atom)) : Type 0 where
  pub rows : CanRead shown table t.base
  pub over : names_only (passes_home (is_column (shown.columns table))) only ≡ true
  pub wide : AllByRecursion (IsWide table (shown.columns table)) t.changes

-- WHAT THE READING OF SO MANY PAGES COUNTS: at most one for each, no leaf and no record
pub record OnlyPages (most : ℕ) (c d : Counts) : Type 0 where
  pub pages : d.pages ≤ c.pages + most
  pub leaves : d.leaves ≡ c.leaves
  pub records : d.records ≡ c.records

-- a row has the columns that a restriction names
abbrev pub HasColumns : List (List Atom) → List Value → Type 0
HasColumns only values = names_only (row_has values) only ≡ true

abbrev pub HaveColumns : List (List Atom) → List Record → Type 0
HaveColumns only rows = AllByRecursion (λ (r : Record). HasColumns only r.values) rows

-- what a change of the table leaves has the columns that a restriction names
abbrev pub LeavesColumns : ℕ → List (List Atom) → Change → Type 0
LeavesColumns table only c = c.table ≡ table → IfSome c.values (HasColumns only)

-- new values that a restriction keeps
abbrev pub kept_values : List (List Atom) → Option (List Value) → Option (List Value)
kept_values only None = None
kept_values only (Some values) = if qualifies only values then Some values else None

-- a change as one of the rows that a restriction keeps
abbrev pub kept_change : List (List Atom) → Change → Change
kept_change only c = record c { values = kept_values only c.values }
