-- The entries of an index after a change of a row.
use Rattle.std.specs.Prelude.{◌≡◌, ℕ, length, List, [], ◌∷◌, Bool, true, false, ◌==◌, Option, Some, None, filter, if◌then◌else◌}
use Rattle.std.specs.List.{list_all}
use Rattle.std.specs.Ordering.{is_eq}
use Rattle.rv_value.specs.declared.value.Value.{Value}
use Rattle.rv_value.specs.declared.record.Record.{Record}
use Rattle.rv_value.specs.declared.record.IndexEntry.{IndexEntry}
use Rattle.rv_value.specs.Entries.{entry_cmp}
use Rattle.rv_rows.specs.declared.changes.Change.{Change}
use Rattle.rv_rows.specs.Rows.{with_values}
use Rattle.rv_reader.specs.Entries.{comes_before, entry_at, entry_of, sorted_in}
use Rattle.rv_reader.specs.Entries as rows_entries
use Rattle.rv_reader.specs.Storing.{AreKeys}
use Rattle.rv_reader.specs.Tables.{row_at}
use Rattle.rv_node.specs.Sound.{Absent}
use Rattle.rv_node.specs.Trees.{Whole, differs, inserted, deleted}
use Rattle.rv_index.specs.Index.{Nodes, tree_of, entries_of, cuts_of, IsSound}

-- without an entry, where there is one
abbrev pub taken_out : Option IndexEntry → List IndexEntry → List IndexEntry
taken_out None entries = entries
taken_out (Some e) entries = filter (differs comes_before e) entries

-- with an entry, where there is one
abbrev pub put_in : Option IndexEntry → List IndexEntry → List IndexEntry
put_in None entries = entries
put_in (Some e) entries = sorted_in e entries

-- the row of a number with values, where there are some
abbrev pub row_with : ℕ → Option (List Value) → Option Record
row_with number None = None
row_with number (Some values) = Some (record { row = record { 0 = number }; values = values })

-- both entries are there and the same
abbrev pub stays : Option IndexEntry → Option IndexEntry → Bool
stays None after = false
stays (Some a) None = false
stays (Some a) (Some b) = is_eq (entry_cmp a b)

-- the entries after a change: where a row's entry stays the same, all are left as they are
abbrev pub entries_after : Option IndexEntry → Option IndexEntry → List IndexEntry → List IndexEntry
entries_after before after entries = if stays before after then entries else put_in after (taken_out before entries)

-- and the tree after it: the old entry is deleted before the new one is inserted
abbrev pub tree_without : Option IndexEntry → Whole IndexEntry → Whole IndexEntry
tree_without None tree = tree
tree_without (Some e) tree = deleted comes_before e tree

abbrev pub tree_with : Option IndexEntry → Whole IndexEntry → Whole IndexEntry
tree_with None tree = tree
tree_with (Some e) tree = inserted comes_before e tree

abbrev pub tree_after : Option IndexEntry → Option IndexEntry → Whole IndexEntry → Whole IndexEntry
tree_after before after tree = if stays before after then tree else tree_with after (tree_without before tree)

-- the tree of an index after the changes of a commit, one after another
abbrev pub tree_through : List ℕ → ℕ → List Change → List Record → Whole IndexEntry → Whole IndexEntry
tree_through columns table [] rows tree = tree
tree_through columns table (c ∷ cs) rows tree =
    if c.table == table
    then tree_through columns table cs (with_values c.row.0 c.values rows)
    (tree_after (entry_at columns (row_at rows c.row.0)) (entry_at columns (row_with c.row.0 c.values)) tree)
    else tree_through columns table cs rows tree

-- the tree of an index after entries of rows are inserted, one after another
abbrev pub tree_over : List ℕ → List Record → Whole IndexEntry → Whole IndexEntry
tree_over columns [] tree = tree
tree_over columns (r ∷ rows) tree = tree_over columns rows (inserted comes_before (entry_of columns r) tree)

-- a test holds of an entry, where there is one
abbrev pub Passes : (IndexEntry → Bool) → Option IndexEntry → Type 0
Passes test None = Unit {0}
Passes test (Some e) = test e ≡ true

-- an entry, where there is one, is not among others
abbrev pub IsAbsent : Option IndexEntry → List IndexEntry → Type 0
IsAbsent None entries = Unit {0}
IsAbsent (Some e) entries = Absent comes_before e entries

-- a tree at a commit after an entry was taken out, or put in, where there is one
pub record IsTakenOut (commit : ℕ) (e : Option IndexEntry) (old new : Nodes) : Type 0 where
  pub sound : IsSound new commit
  pub tree : tree_of new commit ≡ tree_without e (tree_of old commit)
  pub entries : entries_of new commit ≡ taken_out e (entries_of old commit)
  pub cuts : cuts_of new commit ≡ cuts_of old commit

pub record IsPutIn (commit : ℕ) (e : Option IndexEntry) (old new : Nodes) : Type 0 where
  pub sound : IsSound new commit
  pub tree : tree_of new commit ≡ tree_with e (tree_of old commit)
  pub entries : entries_of new commit ≡ put_in e (entries_of old commit)
  pub cuts : (test : IndexEntry → Bool) → Passes test e → list_all test (cuts_of old commit) ≡ true
      → list_all test (entries_of old commit) ≡ true → list_all test (cuts_of new commit) ≡ true

-- a tree at a commit after a row's entry changed; a test of the entries holds of the cuts too
pub record IsTreeChanged (commit : ℕ) (before after : Option IndexEntry) (old new : Nodes) : Type 0 where
  pub sound : IsSound new commit
  pub tree : tree_of new commit ≡ tree_after before after (tree_of old commit)
  pub entries : entries_of new commit ≡ entries_after before after (entries_of old commit)
  pub cuts : (test : IndexEntry → Bool) → Passes test after → list_all test (cuts_of old commit) ≡ true
      → list_all test (entries_of old commit) ≡ true → list_all test (cuts_of new commit) ≡ true

-- a tree at a snapshot has the entries of these rows, and its cuts have as many values
pub record IsIndexed (columns : List ℕ) (rows : List Record) (snap : ℕ) (nodes : Nodes) : Type 0 where
  pub sound : IsSound nodes snap
  pub entries : entries_of nodes snap ≡ rows_entries.entries_of columns rows
  pub cuts : AreKeys (length columns) (cuts_of nodes snap)
