-- The branches of a group: restrictions of one atom each, of which the group is the OR.
use Rattle.std.specs.Prelude.{ℕ, ◌+◌, List, [], ◌∷◌, ◌++◌, length, not, filter, map}
use Rattle.std.specs.List.{slice_index_or}
use Rattle.rv_value.specs.declared.value.Value.{Value}
use Rattle.rv_restrict.specs.declared.atom.ColRef.{ColRef}
use Rattle.rv_restrict.specs.declared.atom.Op.TheVariants.{Eq}
use Rattle.rv_restrict.specs.declared.atom.Operand.TheVariants.{Literal}
use Rattle.rv_restrict.specs.declared.atom.Atom.{Atom}
use Rattle.rv_restrict.specs.declared.atom.Atom.TheVariants.{Compare, Between, Among, IsNull, Starts, Const}
use Rattle.rv_restrict.specs.Truth.{is_null}

-- the group in a place
abbrev pub group_at : List (List Atom) → ℕ → List Atom
group_at only i = slice_index_or only i []

abbrev pub equal_to : ColRef → Value → Atom
equal_to c v = Compare c Eq (Literal v)

-- IN is an `=` for each literal that is not NULL, since with NULL nothing is equal; another atom is itself
abbrev pub alternatives : Atom → List Atom
alternatives (Compare c op operand) = Compare c op operand ∷ []
alternatives (Between c low high) = Between c low high ∷ []
alternatives (Among c list) = map (equal_to c) (filter (λ (v : Value). not (is_null v)) list)
alternatives (IsNull c negated) = IsNull c negated ∷ []
alternatives (Starts c text) = Starts c text ∷ []
alternatives (Const t) = Const t ∷ []

-- the restriction that an atom is by itself
abbrev pub alone : Atom → List (List Atom)
alone a = (a ∷ []) ∷ []

-- THE BRANCHES OF A GROUP, in the order of its atoms
abbrev pub branches_of : List Atom → List (List (List Atom))
branches_of [] = []
branches_of (a ∷ group) = map alone (alternatives a) ++ branches_of group

-- HOW MANY BRANCHES A GROUP MAY HAVE, told by its form alone; binding makes no more of them
abbrev pub width_of : Atom → ℕ
width_of (Compare c op operand) = 1
width_of (Between c low high) = 1
width_of (Among c list) = length list + 1
width_of (IsNull c negated) = 1
width_of (Starts c text) = 1
width_of (Const t) = 1

abbrev pub group_width : List Atom → ℕ
group_width [] = 0
group_width (a ∷ group) = width_of a + group_width group

abbrev pub widths : List (List Atom) → ℕ
widths [] = 0
widths (group ∷ groups) = group_width group + widths groups
