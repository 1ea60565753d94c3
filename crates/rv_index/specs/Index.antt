-- An index tree at each snapshot.
use Rattle.std.specs.Prelude.{◌≡◌, ℕ, ◌<◌, ◌≤◌, List, [], length, Bool, true, unwrap_or, filter}
use Rattle.std.specs.List.{list_all}
use Rattle.rv_value.specs.declared.record.IndexEntry.{IndexEntry}
use Rattle.rv_reader.specs.Entries.{comes_before, sorted_in}
use Rattle.rv_versions.specs.declared.chain.Version.{Version}
use Rattle.rv_versions.specs.Chains.{value_of, AllChainsBelow}
use Rattle.rv_node.specs.Nodes.{Parts, empty_node}
use Rattle.rv_node.specs.Trees.{Whole, entries_all, cuts_all, inserted, deleted, differs}
use Rattle.rv_node.specs.Sound.{IsWhole}
use Rattle.rv_node.specs.Stored.{tree_at, IsStored, uses}

-- for each id the versions of its node
abbrev pub Nodes : Type 0
Nodes = List (List (Version Parts))

-- the nodes at a snapshot; one that is not there is an empty leaf
abbrev pub nodes_at : Nodes → ℕ → ℕ → Parts
nodes_at nodes snap id = unwrap_or (value_of nodes id snap) empty_node

-- the tree of nodes: its root has the id 0
abbrev pub level_at : (ℕ → Parts) → ℕ
level_at at = (at 0).level

abbrev pub whole_at : (ℕ → Parts) → Whole IndexEntry
whole_at at = (level_at at, tree_at at (level_at at) 0)

abbrev pub tree_of : Nodes → ℕ → Whole IndexEntry
tree_of nodes snap = whole_at (nodes_at nodes snap)

-- the tree without entries: one empty leaf
abbrev pub empty_tree : Whole IndexEntry
empty_tree = (0, [])

-- its sorted entries, and the cuts at which its leaves after the first begin
abbrev pub entries_of : Nodes → ℕ → List IndexEntry
entries_of nodes snap = entries_all (tree_of nodes snap)

abbrev pub cuts_of : Nodes → ℕ → List IndexEntry
cuts_of nodes snap = cuts_all (tree_of nodes snap)

-- a tree in which no id stands twice, and each is below a number
pub record IsOwn (len level id : ℕ) (at : ℕ → Parts) : Type 0 where
  pub stored : IsStored at level id
  pub once : (n : ℕ) → uses at level id n ≤ 1
  pub used : (n : ℕ) → len ≤ n → uses at level id n ≡ 0

-- nodes that are a tree of ascending entries, each node once
pub record IsIndexTree (len : ℕ) (at : ℕ → Parts) : Type 0 where
  pub own : IsOwn len (level_at at) 0 at
  pub whole : IsWhole comes_before (whole_at at)

-- the nodes at a snapshot are such a tree
abbrev pub IsSound : Nodes → ℕ → Type 0
IsSound nodes snap = IsIndexTree (length nodes) (nodes_at nodes snap)

-- a new tree is one empty leaf at every snapshot
pub record IsNew (nodes : Nodes) : Type 0 where
  pub one : length nodes ≡ 1
  pub sound : (snap : ℕ) → IsSound nodes snap
  pub tree : (snap : ℕ) → tree_of nodes snap ≡ empty_tree
  pub entries : (snap : ℕ) → entries_of nodes snap ≡ []
  pub cuts : (snap : ℕ) → cuts_of nodes snap ≡ []
  pub newest : AllChainsBelow 1 nodes

-- an entry more at a commit: the tree is that of the rules for insertions, and each of its cuts was there, or is an
-- entry
pub record IsInserted (commit : ℕ) (e : IndexEntry) (old new : Nodes) : Type 0 where
  pub sound : IsSound new commit
  pub tree : tree_of new commit ≡ inserted comes_before e (tree_of old commit)
  pub entries : entries_of new commit ≡ sorted_in e (entries_of old commit)
  pub cuts : (q : IndexEntry → Bool) → q e ≡ true → list_all q (cuts_of old commit) ≡ true
      → list_all q (entries_of old commit) ≡ true → list_all q (cuts_of new commit) ≡ true

-- an entry less at a commit: every node is left, and every cut
pub record IsDeleted (commit : ℕ) (e : IndexEntry) (old new : Nodes) : Type 0 where
  pub sound : IsSound new commit
  pub tree : tree_of new commit ≡ deleted comes_before e (tree_of old commit)
  pub entries : entries_of new commit ≡ filter (differs comes_before e) (entries_of old commit)
  pub cuts : cuts_of new commit ≡ cuts_of old commit

-- each snapshot before a commit is as it was
abbrev pub IsOlderSame : ℕ → Nodes → Nodes → Type 0
IsOlderSame commit old new = (snap : ℕ) → snap < commit → nodes_at new snap ≡ nodes_at old snap
