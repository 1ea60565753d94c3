-- Trees kept as nodes under numbers.
use Rattle.std.specs.Prelude.{ℕ, zero, suc, ◌+◌, ◌<◌, ◌≤◌, ◌≡◌, List, [], ◌∷◌, ◌++◌, length, Option, Some, None, Bool, ◌==◌, if◌then◌else◌}
use Rattle.rv_node.specs.Nodes.{Parts}
use Rattle.rv_value.specs.declared.record.IndexEntry.{IndexEntry}
use Rattle.rv_node.specs.Trees.{Tree, up_to}
use Rattle.rv_reader.specs.Entries.{comes_before}

abbrev pub kids_at : {E T : Type 0} → (ℕ → T) → List E → List ℕ → List (E × T)
kids_at f [] ids = []
kids_at f (low ∷ lows) [] = []
kids_at f (low ∷ lows) (id ∷ ids) = (low, f id) ∷ kids_at f lows ids

-- the tree of a level whose top is a node
abbrev pub tree_at : (ℕ → Parts) → (level : ℕ) → ℕ → Tree IndexEntry level
tree_at at zero id = (at id).entries
tree_at at (suc level) id = kids_at (tree_at at level) (at id).entries (at id).children

abbrev pub EachOf : (ℕ → Type 0) → List ℕ → Type 0
EachOf P [] = Unit {0}
EachOf P (id ∷ ids) = P id × EachOf P ids

-- the nodes have their levels, and each child its low entry
abbrev pub IsStored : (ℕ → Parts) → (level : ℕ) → ℕ → Type 0
IsStored at zero id = (at id).level ≡ 0
IsStored at (suc level) id =
    ((at id).level ≡ suc level) × (length (at id).entries ≡ length (at id).children) × (0 < length (at id).children)
    × (length (at id).entries ≤ 32) × EachOf (IsStored at level) (at id).children

-- how often a node stands in a tree
abbrev pub same_id : ℕ → ℕ → ℕ
same_id id n = if id == n then 1 else 0

abbrev pub uses_by : (ℕ → ℕ) → List ℕ → ℕ
uses_by f [] = 0
uses_by f (id ∷ ids) = f id + uses_by f ids

abbrev pub uses : (ℕ → Parts) → (level : ℕ) → ℕ → ℕ → ℕ
uses at zero id n = same_id id n
uses at (suc level) id n = same_id id n + uses_by (λ kid. uses at level kid n) (at id).children

-- a further node at the right of one: the cut, and its number
abbrev pub rights : {E T : Type 0} → (ℕ → T) → Option (E × ℕ) → List (E × T)
rights h None = []
rights h (Some r) = (r.0, h r.1) ∷ []

abbrev pub uses_right : {E : Type 0} → (ℕ → ℕ) → Option (E × ℕ) → ℕ
uses_right u None = 0
uses_right u (Some r) = u r.1

abbrev pub RightIs : {E : Type 0} → (ℕ → Type 0) → Option (E × ℕ) → Type 0
RightIs P None = Unit {0}
RightIs P (Some r) = P r.1

-- low entries and children with it, behind the child in which a descent goes on
abbrev pub cut_list : {E : Type 0} → Option (E × ℕ) → List E
cut_list None = []
cut_list (Some r) = r.0 ∷ []

abbrev pub id_list : {E : Type 0} → Option (E × ℕ) → List ℕ
id_list None = []
id_list (Some r) = r.1 ∷ []

abbrev pub add_lows : {E : Type 0} → (E → Bool) → Option (E × ℕ) → List E → List E
add_lows goes r [] = cut_list r
add_lows goes r (low ∷ lows) = if goes low then low ∷ add_lows goes r lows else cut_list r ++ low ∷ lows

abbrev pub add_ids : {E : Type 0} → (E → Bool) → Option (E × ℕ) → List E → List ℕ → List ℕ
add_ids goes r [] ids = id_list r ++ ids
add_ids goes r (low ∷ lows) [] = id_list r
add_ids goes r (low ∷ lows) (id ∷ ids) = if goes low then id ∷ add_ids goes r lows ids else id_list r ++ id ∷ ids

-- low entries and children with a further child behind that of an entry
abbrev pub kid_lows : IndexEntry → Option (IndexEntry × ℕ) → List IndexEntry → List IndexEntry
kid_lows e r [] = []
kid_lows e r (low ∷ lows) = low ∷ add_lows (up_to comes_before e) r lows

abbrev pub kid_ids : IndexEntry → Option (IndexEntry × ℕ) → List IndexEntry → List ℕ → List ℕ
kid_ids e r [] ids = []
kid_ids e r (low ∷ lows) [] = []
kid_ids e r (low ∷ lows) (id ∷ ids) = id ∷ add_ids (up_to comes_before e) r lows ids
