-- The list of record pages and nodes that are purged in turn.
use Rattle.std.specs.Prelude.{◌≡◌, ℕ, ◌+◌, ◌<◌, ◌≤◌, List, [], ◌++◌, length, nat_lt, max, if◌then◌else◌}
use Rattle.std.specs.List.{slice_index_or, Contains}
use Rattle.rv_versions.specs.Chains.{versions_to, AllChainsBelow}
use Rattle.rv_records.specs.Pages.{IsBelow, IsSame}
use Rattle.rv_index.specs.Index.{nodes_at}
use Rattle.rv_store.specs.declared.tables.Table.{Table}
use Rattle.rv_store.specs.declared.indexes.Index.{Index}
use Rattle.rv_store.specs.declared.places.Place.{Place}
use Rattle.rv_store.specs.declared.places.Place.TheVariants.{Page, Node}
use Rattle.rv_store.specs.Tables.{table_at}
use Rattle.rv_store.specs.Indexes.{index_at}

-- the pages and nodes, and the place of the one whose turn it is
pub record Turns : Type 0 where
  pub places : List Place
  pub next : ℕ

-- a list that grew at its end
pub record IsLonger (old new : List Place) : Type 0 where
  pub more : List Place
  pub is : new ≡ old ++ more

-- those of a row of places from one number on and below another one stand in the list
abbrev pub HasRange : (ℕ → Place) → List Place → ℕ → ℕ → Type 0
HasRange place places from to = (n : ℕ) → from ≤ n → n < to → Contains places (place n)

abbrev pub page_places : ℕ → ℕ → Place
page_places table n = Page table n

abbrev pub node_places : ℕ → ℕ → Place
node_places index id = Node index id

-- so many pages of each table, and so many nodes of each index, stand in the list
abbrev pub HasPages : List Place → (ℕ → ℕ) → Type 0
HasPages places count = (table : ℕ) → HasRange (page_places table) places 0 (count table)

abbrev pub HasNodes : List Place → (ℕ → ℕ) → Type 0
HasNodes places count = (index : ℕ) → HasRange (node_places index) places 0 (count index)

-- each list of all places that are there, which had those that were counted, has those that are counted now
abbrev pub AreListed : (ℕ → ℕ → Place) → (ℕ → ℕ) → List ℕ → List ℕ → Type 0
AreListed place count old new = (places : List Place)
    → ((k : ℕ) → HasRange (place k) places 0 (count k))
    → ((k : ℕ) → HasRange (place k) places 0 (slice_index_or old k 0))
    → (k : ℕ) → HasRange (place k) places 0 (slice_index_or new k 0)

-- every page and every node stands in the list
pub record HasAll (places : List Place) (tables : List Table) (indexes : List Index) : Type 0 where
  pub pages : HasPages places (λ table. length (table_at tables table).records.pages)
  pub nodes : HasNodes places (λ index. length (index_at indexes index).tree)

-- what always holds of the list: the turn is at a place of it, and it has as many pages and nodes as were counted
pub record AreInTurn (places : List Place) (next : ℕ) (pages nodes : List ℕ) : Type 0 where
  pub turn : next ≤ length places
  pub has_pages : HasPages places (λ table. slice_index_or pages table 0)
  pub has_nodes : HasNodes places (λ index. slice_index_or nodes index 0)

-- the place moves on by one, from the last to the first
abbrev pub next_place : ℕ → ℕ → ℕ
next_place next count = if nat_lt (next + 1) count then next + 1 else 0

-- at most one version of a page, or of a node, is at or below a horizon
abbrev pub IsPagePurged : ℕ → List Table → ℕ → ℕ → Type 0
IsPagePurged horizon tables table n =
    versions_to horizon (slice_index_or (table_at tables table).records.pages n []) ≤ 1

abbrev pub IsNodePurged : ℕ → List Index → ℕ → ℕ → Type 0
IsNodePurged horizon indexes index id = versions_to horizon (slice_index_or (index_at indexes index).tree id []) ≤ 1

abbrev pub IsPurged : ℕ → List Table → List Index → Place → Type 0
IsPurged horizon tables indexes (Page table n) = IsPagePurged horizon tables table n
IsPurged horizon tables indexes (Node index id) = IsNodePurged horizon indexes index id

-- the same tables, with the same rows at each snapshot from a horizon on
pub record AreSameFrom (horizon : ℕ) (old new : List Table) : Type 0 where
  pub count : length new ≡ length old
  pub width : (table : ℕ) → (table_at new table).width ≡ (table_at old table).width
  pub horizon_is : (table : ℕ) → (table_at new table).records.horizon ≤ max (table_at old table).records.horizon horizon
  pub same : (table snap : ℕ) → horizon ≤ snap
      → IsSame (table_at old table).records snap (table_at new table).records snap
  pub below : (table high : ℕ) → IsBelow high (table_at old table).records → IsBelow high (table_at new table).records

-- the same indexes, with the same trees at each snapshot from a horizon on
pub record IsSameFrom (horizon : ℕ) (old new : Index) : Type 0 where
  pub table : new.table ≡ old.table
  pub columns : new.columns ≡ old.columns
  pub count : length new.tree ≡ length old.tree
  pub same : (snap : ℕ) → horizon ≤ snap → nodes_at new.tree snap ≡ nodes_at old.tree snap
  pub below : (high : ℕ) → AllChainsBelow high old.tree → AllChainsBelow high new.tree

pub record AreIndexesFrom (horizon : ℕ) (old new : List Index) : Type 0 where
  pub count : length new ≡ length old
  pub each : (index : ℕ) → IsSameFrom horizon (index_at old index) (index_at new index)
