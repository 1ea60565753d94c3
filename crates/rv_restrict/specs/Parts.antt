-- The part of a restriction that an index can test by itself.
use Rattle.std.specs.Prelude.{ℕ, List, [], ◌∷◌, Bool, false, cond, ◌||◌, ◌==◌, filter}
use Rattle.rv_value.specs.declared.value.Value.{Value}
use Rattle.rv_value.specs.declared.value.Value.TheVariants.{Null}
use Rattle.rv_restrict.specs.declared.atom.ColRef.{ColRef}
use Rattle.rv_restrict.specs.declared.atom.Atom.{Atom}
use Rattle.rv_restrict.specs.Truth.{truth_by, is_true, group_names_only}

-- the index's columns, and the groups that it can test
pub record Parted : Type 0 where
  pub columns : List ℕ
  pub groups : List (List Atom)

abbrev pub stands_among : List ℕ → ℕ → Bool
stands_among [] c = false
stands_among (n ∷ ns) c = (n == c) || stands_among ns c

-- a column of the index
abbrev pub lies_in : List ℕ → ColRef → Bool
lies_in columns c = stands_among columns c.column

-- the groups whose columns all lie in the index
abbrev pub inside : List ℕ → List (List Atom) → List (List Atom)
inside columns = filter (group_names_only (lies_in columns))

abbrev pub part_of : List (List Atom) → List ℕ → Parted
part_of only columns = record { columns = columns; groups = inside columns only }

-- the value of a column in a key
abbrev pub value_in : List ℕ → List Value → ℕ → Value
value_in [] key c = Null
value_in (n ∷ ns) [] c = Null
value_in (n ∷ ns) (v ∷ vs) c = cond (n == c) v (value_in ns vs c)

abbrev pub key_reads : List ℕ → List Value → ColRef → Value
key_reads columns key c = value_in columns key c.column

-- whether all groups of the part are True on a key
abbrev pub passes : Parted → List Value → Bool
passes part key = is_true (truth_by (key_reads part.columns key) part.groups)

-- a column of the index that has a value in the key
abbrev pub has_value : List ℕ → List Value → ℕ → Bool
has_value [] key c = false
has_value (n ∷ ns) [] c = false
has_value (n ∷ ns) (v ∷ vs) c = (n == c) || has_value ns vs c

abbrev pub key_has : List ℕ → List Value → ColRef → Bool
key_has columns key c = has_value columns key c.column
