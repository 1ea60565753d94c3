-- The columns that a restriction names.
use Rattle.std.specs.Prelude.{ℕ, List, [], ◌∷◌, ◌++◌}
use Rattle.rv_restrict.specs.declared.atom.Operand.{Operand}
use Rattle.rv_restrict.specs.declared.atom.Operand.TheVariants.{Literal, Column}
use Rattle.rv_restrict.specs.declared.atom.Atom.{Atom}
use Rattle.rv_restrict.specs.declared.atom.Atom.TheVariants.{Compare, Between, Among, IsNull, Starts, Const}

abbrev pub operand_columns : Operand → List ℕ
operand_columns (Literal v) = []
operand_columns (Column c) = c.column ∷ []

abbrev pub atom_columns : Atom → List ℕ
atom_columns (Compare c op operand) = c.column ∷ operand_columns operand
atom_columns (Between c low high) = c.column ∷ []
atom_columns (Among c list) = c.column ∷ []
atom_columns (IsNull c negated) = c.column ∷ []
atom_columns (Starts c text) = c.column ∷ []
atom_columns (Const t) = []

abbrev pub group_columns : List Atom → List ℕ
group_columns [] = []
group_columns (a ∷ group) = atom_columns a ++ group_columns group

-- the columns of all its atoms, in their order, each as often as it is named
abbrev pub columns_named : List (List Atom) → List ℕ
columns_named [] = []
columns_named (g ∷ only) = group_columns g ++ columns_named only
