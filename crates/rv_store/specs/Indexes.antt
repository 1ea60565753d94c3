-- The indexes of a store.
use Rattle.std.specs.Prelude.{◌≡◌, ℕ, ◌+◌, ◌<◌, ◌≤◌, List, [], length, Option}
use Rattle.std.specs.List.{slice_index_or}
use Rattle.rv_value.specs.declared.record.Record.{Record}
use Rattle.rv_value.specs.declared.record.IndexEntry.{IndexEntry}
use Rattle.rv_rows.specs.declared.changes.Change.{Change}
use Rattle.rv_rows.specs.Rows.{Ascend}
use Rattle.rv_rows.specs.Changes.{rows_with_changes}
use Rattle.rv_versions.specs.Chains.{AllChainsBelow}
use Rattle.rv_node.specs.Trees.{Whole}
use Rattle.rv_index.specs.Index.{empty_tree, entries_of, cuts_of, tree_of, IsOlderSame}
use Rattle.rv_store.specs.declared.tables.Table.{Table}
use Rattle.rv_store.specs.Tables.{table_at, rows_in}
use Rattle.rv_store.specs.declared.indexes.Index.{Index}
use Rattle.rv_reader.specs.Entries.{entry_at}
use Rattle.rv_store.specs.Indexing.{row_with, tree_over, tree_through, IsIndexed, IsTreeChanged}

abbrev pub no_index : Index
no_index = record { table = 0; columns = []; tree = [] }

abbrev pub index_at : List Index → ℕ → Index
index_at indexes index = slice_index_or indexes index no_index

abbrev pub entries_in : List Index → ℕ → ℕ → List IndexEntry
entries_in indexes index snap = entries_of (index_at indexes index).tree snap

-- the tree of an index at a snapshot
abbrev pub tree_in : List Index → ℕ → ℕ → Whole IndexEntry
tree_in indexes index snap = tree_of (index_at indexes index).tree snap

abbrev pub cuts_in : List Index → ℕ → ℕ → List IndexEntry
cuts_in indexes index snap = cuts_of (index_at indexes index).tree snap

-- the same index, with the same tree at each snapshot below a commit
pub record IsSameIndex (commit : ℕ) (old new : Index) : Type 0 where
  pub table : new.table ≡ old.table
  pub columns : new.columns ≡ old.columns
  pub grows : length old.tree ≤ length new.tree
  pub older : IsOlderSame commit old.tree new.tree

-- a change of the index's table changed the entry of its row, and one of another table nothing
pub record IsPassed (commit : ℕ) (c : Change) (before : Option Record) (old new : Index) : Type 0 where
  pub own : c.table ≡ old.table
      → IsTreeChanged commit (entry_at old.columns before) (entry_at old.columns (row_with c.row.0 c.values)) old.tree
      new.tree
  pub other : (c.table ≡ old.table → ⊥) → new.tree ≡ old.tree

-- an index of a table that is there, with the entries of the table's rows at a snapshot above which there is no version
pub record IsOpen (snap : ℕ) (tables : List Table) (index : Index) : Type 0 where
  pub there : index.table < length tables
  pub some : 1 ≤ length index.columns
  pub few : length index.columns ≤ 4
  pub kept : (table_at tables index.table).records.horizon ≤ snap
  pub ascend : Ascend (rows_in tables index.table snap)
  pub indexed : IsIndexed index.columns (rows_in tables index.table snap) snap index.tree
  pub newest : AllChainsBelow (snap + 1) index.tree

-- an index after the changes of a commit, of which the tables have the rows before them: its entries are those of the
-- changed rows, and its tree is that of the changes made one after another
pub record IsThrough (commit : ℕ) (changes : List Change) (tables : List Table) (old new : Index) : Type 0 where
  pub indexed : IsIndexed old.columns (rows_with_changes old.table changes (rows_in tables old.table commit)) commit
      new.tree
  pub tree : tree_of new.tree commit ≡ tree_through old.columns old.table changes (rows_in tables old.table commit)
      (tree_of old.tree commit)
  pub few : length new.tree ≤ 4294967296

-- the same indexes, with the same trees at each snapshot below a commit
pub record AreSameIndexes (commit : ℕ) (old new : List Index) : Type 0 where
  pub count : length new ≡ length old
  pub each : (index : ℕ) → IsSameIndex commit (index_at old index) (index_at new index)

-- no version of a node is at or above a commit
abbrev pub AreIndexesBelow : ℕ → List Index → Type 0
AreIndexesBelow commit indexes = (index : ℕ) → AllChainsBelow commit (index_at indexes index).tree

-- each tree has no more nodes than there are ids
abbrev pub AreFew : List Index → Type 0
AreFew indexes = (index : ℕ) → length (index_at indexes index).tree ≤ 4294967296

-- a new index of the rows of a table at a snapshot: its tree is that of their entries put in one after another
pub record IsNewIndex (table : ℕ) (columns : List ℕ) (rows : List Record) (snap : ℕ) (index : Index) : Type 0 where
  pub table_is : index.table ≡ table
  pub columns_are : index.columns ≡ columns
  pub indexed : IsIndexed columns rows snap index.tree
  pub tree : tree_of index.tree snap ≡ tree_over columns rows empty_tree
  pub newest : AllChainsBelow (snap + 1) index.tree
  pub few : length index.tree ≤ 4294967296
