-- A store with tables of equally many columns and with indexes over them, and what it shows at a snapshot.
use Rattle.std.specs.Prelude.{◌≡◌, ℕ, ◌<◌, ◌≤◌, List, [], ◌∷◌, Bool, true, Option, Some, None, not, ◌||◌, ◌&&◌, ◌==◌, IfSome, length, nat_eq, nat_lt}
use Rattle.std.specs.List.{list_all, list_any, slice_index_or}
use Rattle.rv_value.specs.declared.range.Range.{Range}
use Rattle.rv_value.specs.declared.value.Value.{Value}
use Rattle.rv_rows.specs.declared.changes.Change.{Change}
use Rattle.rv_rows.specs.Rows.{Ascend}
use Rattle.rv_reader.specs.Entries.{entries_of}
use Rattle.rv_reader.specs.Shown.{Shown, CanRead, CanScan}
use Rattle.rv_reader.specs.Storing.{AreColumns, AreKeys, AreWide}
use Rattle.rv_loading.specs.declared.schema.Layout.{Layout}
use Rattle.rv_loading.specs.declared.schema.Loaded.{Loaded}
use Rattle.rv_loading.specs.declared.schema.Over.{Over}
use Rattle.rv_loading.specs.declared.schema.Schema.{Schema}

-- an index that is not there
abbrev pub no_over : Over
no_over = record { table = 0; columns = [] }

-- the index of a number
abbrev pub over_at : List Over → ℕ → Over
over_at indexes index = slice_index_or indexes index no_over

-- a store without tables, indexes and commits
pub record IsEmpty (shown : Shown) : Type 0 where
  pub tables : shown.tables ≡ 0
  pub indexes : shown.indexes ≡ 0
  pub horizon : shown.horizon ≡ 0
  pub newest : shown.newest ≡ 0

-- so many tables and indexes, at these commits
pub record Counted (layout : Layout) (shown : Shown) : Type 0 where
  pub tables : shown.tables ≡ layout.tables
  pub indexes : shown.indexes ≡ layout.indexes
  pub horizon : shown.horizon ≡ layout.horizon
  pub newest : shown.newest ≡ layout.newest

-- tables of the schema's width, and its first indexes
pub record Laid (schema : Schema) (layout : Layout) (shown : Shown) : Type 0 where
  pub counts : Counted layout shown
  pub width : (table : ℕ) → table < layout.tables → shown.columns table ≡ schema.width
  pub over : (index : ℕ) → index < layout.indexes → shown.over index ≡ (over_at schema.indexes index).table
  pub keys : (index : ℕ) → index < layout.indexes → shown.keys index ≡ (over_at schema.indexes index).columns

-- columns below a width, each once
abbrev pub may_index : ℕ → List ℕ → Bool
may_index width [] = true
may_index width (c ∷ cs) = nat_lt c width && (not (list_any (nat_eq c) cs) && may_index width cs)

-- the next index of the schema is over a table that is there and over one to four columns of it, and no older snapshot
-- is kept
pub record CanIndex (schema : Schema) (layout : Layout) : Type 0 where
  pub table : (over_at schema.indexes layout.indexes).table < layout.tables
  pub alone : layout.horizon ≡ layout.newest
  pub some : 1 ≤ length (over_at schema.indexes layout.indexes).columns
  pub few : length (over_at schema.indexes layout.indexes).columns ≤ 4
  pub fits : may_index schema.width (over_at schema.indexes layout.indexes).columns ≡ true

-- no values, or so many
abbrev pub is_wide : ℕ → Option (List Value) → Bool
is_wide width None = true
is_wide width (Some values) = length values == width

-- a change of a table that is there
abbrev pub is_of : ℕ → ℕ → Change → Bool
is_of tables width c = nat_lt c.table tables && (nat_lt c.row.0 4294967296 && is_wide width c.values)

-- a change of a row behind another one, or of a later table
abbrev pub is_behind : ℕ → ℕ → Change → Bool
is_behind table row c = nat_lt table c.table || ((table == c.table) && nat_lt row c.row.0)

-- changes that ascend, behind a row
abbrev pub rise_from : ℕ → ℕ → List Change → Bool
rise_from table row [] = true
rise_from table row (c ∷ cs) = is_behind table row c && rise_from c.table c.row.0 cs

abbrev pub rises : List Change → Bool
rises [] = true
rises (c ∷ cs) = rise_from c.table c.row.0 cs

-- ascending changes of rows of the tables
abbrev pub are_fit : Schema → Layout → List Change → Bool
are_fit schema layout changes = rises changes && list_all (is_of layout.tables schema.width) changes

-- a range with bounds of at most one value
pub record IsNarrow (range : Range) : Type 0 where
  pub low : IfSome range.low (λ b. length b.key ≤ 1)
  pub high : IfSome range.high (λ b. length b.key ≤ 1)

-- an index shows the entries of its table's rows
pub record OffersIndex (schema : Schema) (layout : Layout) (shown : Shown) (snap index : ℕ) : Type 0 where
  pub can : CanScan shown index snap
  pub table : (over_at schema.indexes index).table < layout.tables
  pub columns : AreColumns schema.width (over_at schema.indexes index).columns
  pub entries : shown.entries index snap
      ≡ entries_of (over_at schema.indexes index).columns (shown.rows (over_at schema.indexes index).table snap)
  pub cuts : AreKeys (length (over_at schema.indexes index).columns) (shown.cuts index snap)

-- at a snapshot there are the rows of the tables, and for each index their entries
pub record OffersAt (schema : Schema) (layout : Layout) (shown : Shown) (snap : ℕ) : Type 0 where
  pub read : (table : ℕ) → table < layout.tables → CanRead shown table snap
  pub ascend : (table : ℕ) → table < layout.tables → Ascend (shown.rows table snap)
  pub wide : (table : ℕ) → table < layout.tables → AreWide schema.width (shown.rows table snap)
  pub index : (index : ℕ) → index < layout.indexes → OffersIndex schema layout shown snap index

-- what was loaded is there at its snapshot
abbrev pub Offers : Loaded → Shown → Type 0
Offers loaded shown = OffersAt loaded.schema loaded.layout shown loaded.snap
