-- Trees of sorted entries as written data: their entries and cuts, and what insertions and deletions make of them.
use Rattle.std.specs.Prelude.{ℕ, zero, suc, List, [], ◌∷◌, ◌++◌, length, take, drop, Bool, not, ◌||◌, if◌then◌else◌, flat_map, filter, nat_le}

-- a leaf is its entries; a node above has its children, each beside the entry at which it begins
abbrev pub Tree : Type 0 → ℕ → Type 0
Tree E zero = List E
Tree E (suc level) = List (E × Tree E level)

-- the sorted entry list
abbrev pub entries_in : {E : Type 0} (level : ℕ) → Tree E level → List E
entries_in zero t = t
entries_in (suc level) t = flat_map (λ kid. entries_in level kid.1) t

-- the cuts at which its leaves after the first begin: the low entry of a first child is not looked at
abbrev pub cuts_under : {E T : Type 0} → (T → List E) → List (E × T) → List E
cuts_under cuts [] = []
cuts_under cuts (kid ∷ kids) = cuts kid.1 ++ flat_map (λ k. k.0 ∷ cuts k.1) kids

abbrev pub cuts_in : {E : Type 0} (level : ℕ) → Tree E level → List E
cuts_in zero t = []
cuts_in (suc level) t = cuts_under (cuts_in level) t

-- a tree of any level
abbrev pub Whole : Type 0 → Type 0
Whole E = (level : ℕ) × Tree E level

abbrev pub entries_all : {E : Type 0} → Whole E → List E
entries_all w = entries_in w.0 w.1

abbrev pub cuts_all : {E : Type 0} → Whole E → List E
cuts_all w = cuts_in w.0 w.1

-- an entry put before the first that is not less
abbrev pub placed : {E : Type 0} → (E → E → Bool) → E → List E → List E
placed lt e [] = e ∷ []
placed lt e (x ∷ xs) = if lt x e then x ∷ placed lt e xs else e ∷ x ∷ xs

-- another entry
abbrev pub differs : {E : Type 0} → (E → E → Bool) → E → E → Bool
differs lt e x = lt x e || lt e x

-- a node of more than 32 parts becomes two, of its first 16 and of the rest; each further node stands beside its low
abbrev pub cut_at : {E X : Type 0} → (X → E) → List X → List (E × List X)
cut_at low [] = []
cut_at low (x ∷ xs) = (low x, x ∷ xs) ∷ []

abbrev pub halves : {E X : Type 0} → (X → E) → List X → List X × List (E × List X)
halves low xs = if nat_le (length xs) 32 then (xs, []) else (take 16 xs, cut_at low (drop 16 xs))

-- a change of the last child whose low passes a test, where the first child always passes; the change may leave
-- further children at its right
abbrev pub skipping : {E T : Type 0} → T → E → T × List (E × T) → T × List (E × T)
skipping t low r = (t, (low, r.0) ∷ r.1)

abbrev pub before_kids : {E T : Type 0} → T × List (E × T) → List (E × T) → T × List (E × T)
before_kids r kids = (r.0, r.1 ++ kids)

abbrev pub change_from : {E T : Type 0} → (E → Bool) → (T → T × List (E × T)) → T → List (E × T) → T × List (E × T)
change_from goes f t [] = f t
change_from goes f t (kid ∷ kids) =
    if goes kid.0 then skipping t kid.0 (change_from goes f kid.1 kids) else before_kids (f t) (kid ∷ kids)

abbrev pub change : {E T : Type 0} → (E → Bool) → (T → T × List (E × T)) → List (E × T) → List (E × T)
change goes f [] = []
change goes f (kid ∷ kids) = (kid.0, (change_from goes f kid.1 kids).0) ∷ (change_from goes f kid.1 kids).1

-- the child of an entry is the last that does not begin above it
abbrev pub up_to : {E : Type 0} → (E → E → Bool) → E → E → Bool
up_to lt e low = not (lt e low)

-- an insertion: the tree, and the further tree at its right where it was split
abbrev pub grow : {E : Type 0} (level : ℕ) → (E → E → Bool) → E → Tree E level → Tree E level × List (E × Tree E level)
grow zero lt e t = halves (λ x. x) (placed lt e t)
grow (suc level) lt e t = halves (λ kid. kid.0) (change (up_to lt e) (grow level lt e) t)

-- a root that was split is below a new one, one level higher
abbrev pub raise : {E : Type 0} (level : ℕ) → Tree E level → List (E × Tree E level) → Whole E
raise level t [] = (level, t)
raise level t (r ∷ rs) = (suc level, (r.0, t) ∷ r ∷ [])

abbrev pub inserted : {E : Type 0} → (E → E → Bool) → E → Whole E → Whole E
inserted lt e w = raise w.0 (grow w.0 lt e w.1).0 (grow w.0 lt e w.1).1

-- a deletion leaves every node, even an empty one
abbrev pub shrink : {E : Type 0} (level : ℕ) → (E → E → Bool) → E → Tree E level → Tree E level
shrink zero lt e t = filter (differs lt e) t
shrink (suc level) lt e t = change (up_to lt e) (λ kid. (shrink level lt e kid, [])) t

abbrev pub deleted : {E : Type 0} → (E → E → Bool) → E → Whole E → Whole E
deleted lt e w = (w.0, shrink w.0 lt e w.1)
