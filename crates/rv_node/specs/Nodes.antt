-- A node of an index tree.
use Rattle.std.specs.Prelude.{◌≡◌, ℕ, ◌<◌, ◌≤◌, List, [], length}
use Rattle.rv_value.specs.declared.record.IndexEntry.{IndexEntry}

-- A leaf, of level 0, has entries. A node above has children, each beside its low entry, where the child begins.
pub record Parts : Type 0 where
  pub level : ℕ
  pub entries : List IndexEntry
  pub children : List ℕ

-- a leaf has no child; a node above has one beside each low entry, and at least one
pub record AreParts (level : ℕ) (entries : List IndexEntry) (children : List ℕ) : Type 0 where
  pub leaf : level ≡ 0 → children ≡ []
  pub beside : 0 < level → length children ≡ length entries
  pub some : 0 < level → 0 < length entries

-- up to 32 entries or children
pub record IsNode (level : ℕ) (entries : List IndexEntry) (children : List ℕ) : Type 0 where
  pub short : length entries ≤ 32
  pub parts : AreParts level entries children

abbrev pub empty_node : Parts
empty_node = record { level = 0; entries = []; children = [] }
