-- A restriction over several FROM items, bound at one of them: the rows of those before it are put in.
use Rattle.std.specs.Prelude.{ℕ, List, [], ◌∷◌, Bool, cond, not, ◌&&◌, ◌||◌, ◌==◌, nat_lt, length, filter, map, max}
use Rattle.std.specs.List.{slice_index_or}
use Rattle.rv_value.specs.declared.value.Value.{Value}
use Rattle.rv_value.specs.declared.value.Value.TheVariants.{Null}
use Rattle.rv_restrict.specs.declared.atom.ColRef.{ColRef}
use Rattle.rv_restrict.specs.declared.atom.Op.{Op}
use Rattle.rv_restrict.specs.declared.atom.Op.TheVariants.{Eq, Ne, Lt, Le, Gt, Ge}
use Rattle.rv_restrict.specs.declared.atom.Operand.{Operand}
use Rattle.rv_restrict.specs.declared.atom.Operand.TheVariants.{Literal, Column}
use Rattle.rv_restrict.specs.declared.atom.Atom.{Atom}
use Rattle.rv_restrict.specs.declared.atom.Atom.TheVariants.{Compare, Between, Among, IsNull, Starts, Const}
use Rattle.rv_restrict.specs.declared.atom.Tri.{Tri}
use Rattle.rv_restrict.specs.Truth.{atom_truth, atom_names_only, is_home, names_only, truth_by}

-- the value of a column in the row of its FROM item
abbrev pub rows_reads : List (List Value) → ColRef → Value
rows_reads rows c = slice_index_or (slice_index_or rows c.place []) c.column Null

abbrev pub rows_has : List (List Value) → ColRef → Bool
rows_has rows c = nat_lt c.place (length rows) && nat_lt c.column (length (slice_index_or rows c.place []))

-- the truth on one row for each place
abbrev pub truth_over : List (List Atom) → List (List Value) → Tri
truth_over only rows = truth_by (rows_reads rows) only

-- The groups of a place: those that name it and no higher one. Without columns the place is 0.

abbrev pub operand_place : Operand → ℕ
operand_place (Literal v) = 0
operand_place (Column c) = c.place

abbrev pub atom_place : Atom → ℕ
atom_place (Compare c op operand) = max c.place (operand_place operand)
atom_place (Between c low high) = c.place
atom_place (Among c list) = c.place
atom_place (IsNull c negated) = c.place
atom_place (Starts c text) = c.place
atom_place (Const t) = 0

abbrev pub group_place : List Atom → ℕ
group_place [] = 0
group_place (a ∷ more) = max (atom_place a) (group_place more)

abbrev pub taken : ℕ → List (List Atom) → List (List Atom)
taken place = filter (λ g. group_place g == place)

-- The groups that are taken, with the outer rows' values put in and the place renamed 0.

abbrev pub is_below : ℕ → ColRef → Bool
is_below place c = nat_lt c.place place

-- the operator of the comparison turned round
abbrev pub turned : Op → Op
turned Eq = Eq
turned Ne = Ne
turned Lt = Gt
turned Le = Ge
turned Gt = Lt
turned Ge = Le

abbrev pub home : ColRef → ColRef
home c = record c { place = 0 }

-- of two columns at least one is of the place itself; where the outer one is on the left, the comparison is turned
-- round
abbrev pub bound_columns : ℕ → List (List Value) → ColRef → Op → ColRef → Atom
bound_columns place outer c op d =
    cond (is_below place c) (Compare (home d) (turned op) (Literal (rows_reads outer c)))
    (cond (is_below place d) (Compare (home c) op (Literal (rows_reads outer d)))
    (Compare (home c) op (Column (home d))))

abbrev pub bound_compare : ℕ → List (List Value) → ColRef → Op → Operand → Atom
bound_compare place outer c op (Literal v) = Compare (home c) op (Literal v)
bound_compare place outer c op (Column d) = bound_columns place outer c op d

abbrev pub moved : ℕ → List (List Value) → Atom → Atom
moved place outer (Compare c op operand) = bound_compare place outer c op operand
moved place outer (Between c low high) = Between (home c) low high
moved place outer (Among c list) = Among (home c) list
moved place outer (IsNull c negated) = IsNull (home c) negated
moved place outer (Starts c text) = Starts (home c) text
moved place outer (Const t) = Const t

-- an atom of outer columns alone is a constant
abbrev pub bound_atom : ℕ → List (List Value) → Atom → Atom
bound_atom place outer a =
    cond (atom_names_only (is_below place) a) (Const (atom_truth (rows_reads outer) a)) (moved place outer a)

abbrev pub bound : ℕ → List (List Value) → List (List Atom) → List (List Atom)
bound place outer only = map (map (bound_atom place outer)) (taken place only)

-- the outer rows have every column that the groups taken name of their places
abbrev pub outer_fits : ℕ → List (List Value) → ColRef → Bool
outer_fits place outer c = not (is_below place c) || rows_has outer c

abbrev pub can_bind : ℕ → List (List Value) → List (List Atom) → Bool
can_bind place outer only = names_only (outer_fits place outer) (taken place only)

-- where a column is of the place, it passes a test there
abbrev pub passes_at : ℕ → (ℕ → Bool) → ColRef → Bool
passes_at place p c = not (c.place == place) || p c.column

-- a column of place 0 that passes a test
abbrev pub passes_home : (ℕ → Bool) → ColRef → Bool
passes_home p c = is_home c && p c.column
