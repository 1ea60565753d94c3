-- A store of record pages and index trees as contracts see it, and what it shows.
use Rattle.std.specs.Prelude.{◌≡◌, ℕ, ◌+◌, ◌<◌, ◌≤◌, List, length}
use Rattle.rv_rows.specs.declared.changes.Change.{Change}
use Rattle.rv_reader.specs.Shown.{Shown}
use Rattle.rv_reader.specs.Storing.{AreColumns}
use Rattle.rv_versions.specs.Chains.{AllChainsBelow}
use Rattle.rv_index.specs.Index.{tree_of}
use Rattle.rv_index.specs.Estimates.{estimate}
use Rattle.rv_store.specs.declared.tables.Table.{Table}
use Rattle.rv_store.specs.declared.indexes.Index.{Index}
use Rattle.rv_store.specs.Tables.{table_at, rows_in, pages_in, AreTables}
use Rattle.rv_store.specs.Indexes.{index_at, entries_in, cuts_in, tree_in}
use Rattle.rv_store.specs.Indexing.{tree_through, IsIndexed}
use Rattle.rv_store.specs.Places.{Turns}

-- the horizon and the newest commit, the tables, the indexes, and the pages and nodes that are swept in turn
pub record Kept : Type 0 where
  pub horizon : ℕ
  pub newest : ℕ
  pub tables : List Table
  pub indexes : List Index
  pub turns : Turns

abbrev pub shown_of : Kept → Shown
shown_of kept = record {
  tables = length kept.tables;
  indexes = length kept.indexes;
  horizon = kept.horizon;
  newest = kept.newest;
  columns = λ table. (table_at kept.tables table).width;
  over = λ index. (index_at kept.indexes index).table;
  keys = λ index. (index_at kept.indexes index).columns;
  rows = λ table snap. rows_in kept.tables table snap;
  pages = λ table snap. pages_in kept.tables table snap;
  entries = λ index snap. entries_in kept.indexes index snap;
  cuts = λ index snap. cuts_in kept.indexes index snap;
  estimates = λ index snap range. estimate (tree_of (index_at kept.indexes index).tree snap) range;
}

-- an index is over a table that is there, and over columns of it; at each snapshot its tree has the entries of the
-- table's rows
pub record IsIndexOf (horizon newest : ℕ) (tables : List Table) (index : Index) : Type 0 where
  pub there : index.table < length tables
  pub columns : AreColumns (table_at tables index.table).width index.columns
  pub below : AllChainsBelow (newest + 1) index.tree
  pub few : length index.tree ≤ 4294967296
  pub indexed : (snap : ℕ) → horizon ≤ snap → snap ≤ newest
      → IsIndexed index.columns (rows_in tables index.table snap) snap index.tree

-- what always holds of a store
pub record IsKept (kept : Kept) : Type 0 where
  pub standing : kept.horizon ≤ kept.newest
  pub few_tables : length kept.tables ≤ 4294967296
  pub few_indexes : length kept.indexes ≤ 4294967296
  pub tables : AreTables kept.horizon kept.newest kept.tables
  pub indexes : (index : ℕ) → index < length kept.indexes
      → IsIndexOf kept.horizon kept.newest kept.tables (index_at kept.indexes index)

-- the tree of each index at a new commit is what the changes, made one after another, make of its tree before them
abbrev pub AreTreesThrough : List Change → Kept → Kept → Type 0
AreTreesThrough changes old new =
    (index : ℕ) → index < length old.indexes →
    let one = index_at old.indexes index in
    tree_in new.indexes index new.newest ≡ tree_through one.columns one.table changes
    (rows_in old.tables one.table old.newest) (tree_in old.indexes index old.newest)
