-- What the steps of an insertion and of a deletion do to the nodes of a commit.
use Rattle.std.specs.Prelude.{◌≡◌, ℕ, suc, ◌+◌, ◌<◌, ◌≤◌, List, [], ◌∷◌, length, Option, Some, None, Bool, ◌||◌, if◌then◌else◌, filter, take, drop}
use Rattle.rv_value.specs.declared.record.IndexEntry.{IndexEntry}
use Rattle.rv_value.specs.declared.range.Range.{Range}
use Rattle.rv_reader.specs.Entries.{comes_before}
use Rattle.rv_value.specs.Ranges.{place}
use Rattle.rv_reader.specs.Leaves.{before_side, is_passed}
use Rattle.rv_node.specs.Nodes.{Parts}
use Rattle.rv_node.specs.Trees.{Tree, differs, shrink, up_to}
use Rattle.rv_node.specs.Descent.{leaf_in}
use Rattle.rv_node.specs.Stored.{tree_at, IsStored, uses, rights, uses_right, RightIs}
use Rattle.rv_versions.specs.Chains.{value_of}
use Rattle.rv_index.specs.Index.{level_at, Nodes}

-- the leaf in which a reading begins, and the cut that follows
abbrev pub leaf_of : (ℕ → Parts) → Option IndexEntry → Range → List IndexEntry × Option IndexEntry
leaf_of at start range = leaf_in (level_at at) (is_passed start range) (tree_at at (level_at at) 0) None

-- one node is another one
pub record IsNodePut (id : ℕ) (node : Parts) (old new : ℕ → Parts) : Type 0 where
  pub here : new id ≡ node
  pub others : (n : ℕ) → (n ≡ id → ⊥) → new n ≡ old n

-- all nodes but one are as they were
abbrev pub AreOthersSame : ℕ → (ℕ → Parts) → (ℕ → Parts) → Type 0
AreOthersSame id old new = (n : ℕ) → (n ≡ id → ⊥) → new n ≡ old n

-- lists that are the parts of a node
pub record HasParts (node : Parts) (entries : List IndexEntry) (children : List ℕ) : Type 0 where
  pub entries_are : entries ≡ node.entries
  pub children_are : children ≡ node.children
  pub short : length entries ≤ 32

-- how many of the first entries a descent goes past
abbrev pub passed_first : (IndexEntry → Bool) → List IndexEntry → ℕ
passed_first goes [] = 0
passed_first goes (low ∷ lows) = if goes low then suc (passed_first goes lows) else 0

-- an entry before the range, or before the start
abbrev pub is_ahead : Range → Option IndexEntry → IndexEntry → Bool
is_ahead range None e = before_side (place range e.key)
is_ahead range (Some start) e = comes_before e start || before_side (place range e.key)

-- the place behind the child of an entry: the first child's low entry is not looked at
abbrev pub behind_child : IndexEntry → List IndexEntry → ℕ
behind_child e lows = suc (passed_first (up_to comes_before e) (drop 1 lows))

-- a leaf without an entry
abbrev pub leaf_without : IndexEntry → Parts → Parts
leaf_without e node = record { level = 0; entries = filter (differs comes_before e) node.entries; children = [] }

-- a node stored in one or two halves, the second under a new id
abbrev pub IsHalved : ℕ → ℕ → ℕ → List IndexEntry → List ℕ → Option (IndexEntry × ℕ) → (ℕ → Parts) → Type 0
IsHalved len level id es cs None new =
    (length es ≤ 32) × (new id ≡ record { level = level; entries = es; children = cs })
IsHalved len level id es cs (Some r) new =
    (32 < length es) × (r.1 ≡ len) × (new id ≡ record { level = level; entries = take 16 es; children = take 16 cs })
    × (new len ≡ record { level = level; entries = drop 16 es; children = drop 16 cs })
    × (drop 16 es ≡ r.0 ∷ drop 17 es)

-- how many ids are taken
abbrev pub len_after : ℕ → Option (IndexEntry × ℕ) → ℕ
len_after len None = len
len_after len (Some r) = len + 1

pub record IsStoredIn (len len' level id : ℕ) (es : List IndexEntry) (cs : List ℕ) (r : Option (IndexEntry × ℕ))
    (old new : ℕ → Parts) : Type 0 where
  pub halves : IsHalved len level id es cs r new
  pub others : (n : ℕ) → (n ≡ id → ⊥) → (n ≡ len → ⊥) → new n ≡ old n
  pub count : len' ≡ len_after len r

-- the tree below a node, and none or one further tree at its right, after a change of it; ids of other nodes stay
pub record IsGrown (len len' level id : ℕ)
    (f : Tree IndexEntry level → Tree IndexEntry level × List (IndexEntry × Tree IndexEntry level))
    (r : Option (IndexEntry × ℕ)) (old new : ℕ → Parts) : Type 0 where
  pub tree : (tree_at new level id, rights (tree_at new level) r) ≡ f (tree_at old level id)
  pub stored : IsStored new level id
  pub right : RightIs (IsStored new level) r
  pub uses_old : (n : ℕ) → n < len → uses new level id n + uses_right (λ x. uses new level x n) r ≡ uses old level id n
  pub uses_new : (n : ℕ) → len ≤ n → uses new level id n + uses_right (λ x. uses new level x n) r ≤ 1
  pub uses_none : (n : ℕ) → len' ≤ n → uses new level id n + uses_right (λ x. uses new level x n) r ≡ 0
  pub frame : (n : ℕ) → n < len → uses old level id n ≡ 0 → new n ≡ old n
  pub grows : len ≤ len'

-- the root above its halves
pub record IsRaised (len len' level : ℕ) (cut : IndexEntry) (right : ℕ) (old new : ℕ → Parts) : Type 0 where
  pub root : new 0 ≡ record { level = level + 1; entries = cut ∷ cut ∷ []; children = len ∷ right ∷ [] }
  pub left : new len ≡ old 0
  pub others : (n : ℕ) → (n ≡ 0 → ⊥) → (n ≡ len → ⊥) → new n ≡ old n
  pub count : len' ≡ len + 1

-- a deletion leaves no further tree
abbrev pub shrunken : (level : ℕ) → IndexEntry → Tree IndexEntry level → Tree IndexEntry level
    × List (IndexEntry × Tree IndexEntry level)
shrunken level e t = (shrink level comes_before e t, [])

-- each version before a commit is as it was
abbrev pub IsOlderKept : ℕ → Nodes → Nodes → Type 0
IsOlderKept commit old new = (id snap : ℕ) → snap < commit → value_of new id snap ≡ value_of old id snap
