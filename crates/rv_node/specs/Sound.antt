-- Trees whose entries ascend, and whose nodes have at most 32 parts.
use Rattle.std.specs.Prelude.{◌≡◌, ℕ, zero, suc, ◌≤◌, List, [], ◌∷◌, length, Bool, true, false, ◌||◌, Option, Some, None}
use Rattle.std.specs.List.{AllByRecursion}
use Rattle.rv_node.specs.Trees.{Tree, Whole}

-- what stands from a low entry on, and what stands below a high one, where there are such
abbrev pub AtLeast : {E : Type 0} → (E → E → Bool) → Option E → E → Type 0
AtLeast lt None e = Unit {0}
AtLeast lt (Some low) e = lt e low ≡ false

abbrev pub Above : {E : Type 0} → (E → E → Bool) → Option E → E → Type 0
Above lt None e = Unit {0}
Above lt (Some low) e = lt low e ≡ true

abbrev pub Below : {E : Type 0} → (E → E → Bool) → E → Option E → Type 0
Below lt e None = Unit {0}
Below lt e (Some high) = lt e high ≡ true

abbrev pub Precedes : {E : Type 0} → (E → E → Bool) → E → List E → Type 0
Precedes lt e [] = Unit {0}
Precedes lt e (x ∷ xs) = lt e x ≡ true

-- the entries of a leaf ascend within its bounds
abbrev pub LeafIn : {E : Type 0} → (E → E → Bool) → Option E → Option E → List E → Type 0
LeafIn lt low high [] = Unit {0}
LeafIn lt low high (e ∷ es) = AtLeast lt low e × Below lt e high × Precedes lt e es × LeafIn lt low high es

-- the low entries of children after the first ascend within the bounds, and each child is within its own: from its
-- low entry on, and below that of the next one
abbrev pub KidsFrom : {E T : Type 0} → (E → E → Bool) → (Option E → Option E → T → Type 0) → Option E → Option E → T
    → List (E × T) → Type 0
KidsFrom lt P low high t [] = P low high t
KidsFrom lt P low high t (kid ∷ kids) =
    P low (Some kid.0) t × Above lt low kid.0 × Below lt kid.0 high × KidsFrom lt P (Some kid.0) high kid.1 kids

abbrev pub Kids : {E T : Type 0} → (E → E → Bool) → (Option E → Option E → T → Type 0) → Option E → Option E
    → List (E × T) → Type 0
Kids lt P low high [] = ⊥
Kids lt P low high (kid ∷ kids) = KidsFrom lt P low high kid.1 kids

abbrev pub IsTree : {E : Type 0} (level : ℕ) → (E → E → Bool) → Option E → Option E → Tree E level → Type 0
IsTree zero lt low high t = LeafIn lt low high t × (length t ≤ 32)
IsTree (suc level) lt low high t = Kids lt (IsTree level lt) low high t × (length t ≤ 32)

abbrev pub IsWhole : {E : Type 0} → (E → E → Bool) → Whole E → Type 0
IsWhole lt w = IsTree w.0 lt None None w.1

-- an entry is not in a list
abbrev pub Absent : {E : Type 0} → (E → E → Bool) → E → List E → Type 0
Absent lt e es = AllByRecursion (λ x. (lt x e || lt e x) ≡ true) es
