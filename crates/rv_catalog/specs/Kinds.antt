-- Literals and columns of the wrong kind.
use Rattle.std.specs.Prelude.{ℕ, List, [], ◌∷◌, Bool, true, false, ◌||◌, nat_lt, Result, Ok, Err, length}
use Rattle.std.specs.List.{list_any, slice_index_or}
use Rattle.rv_value.specs.declared.value.Kind.{Kind}
use Rattle.rv_value.specs.declared.value.Kind.TheVariants.{Big, Chars}
use Rattle.rv_value.specs.declared.value.Value.{Value}
use Rattle.rv_value.specs.declared.value.Value.TheVariants.{Null, Int, Str}
use Rattle.rv_restrict.specs.declared.atom.ColRef.{ColRef}
use Rattle.rv_restrict.specs.declared.atom.Operand.{Operand}
use Rattle.rv_restrict.specs.declared.atom.Operand.TheVariants.{Literal, Column}
use Rattle.rv_restrict.specs.declared.atom.Atom.{Atom}
use Rattle.rv_restrict.specs.declared.atom.Atom.TheVariants.{Compare, Between, Among, IsNull, Starts, Const}
use Rattle.rv_lang.specs.declared.reply.Refusal.{Refusal}
use Rattle.rv_lang.specs.declared.reply.Refusal.TheVariants.{Kind as WrongKind}
use Rattle.rv_catalog.specs.declared.columns.Item.{Item}
use Rattle.rv_catalog.specs.declared.def.TableDef.{TableDef}
use Rattle.rv_catalog.specs.Answers.{◌>>=◌, all_pass, refuse_if}
use Rattle.rv_catalog.specs.Schema.{columns_of}

-- The name and the kind of a column that a reference gave.

abbrev pub no_column : List ℕ × Kind
no_column = ([], Big)

abbrev pub column_of : List TableDef → ℕ → ℕ → List ℕ × Kind
column_of tables table column = slice_index_or (columns_of tables table) column no_column

abbrev pub no_item : Item
no_item = record { name = []; table = 0 }

abbrev pub column_at : List TableDef → List Item → ColRef → List ℕ × Kind
column_at tables reach c = column_of tables (slice_index_or reach c.place no_item).table c.column

-- In INSERT and SET: a literal that the column cannot hold.

abbrev pub cannot_hold : Kind → Value → Bool
cannot_hold kind Null = false
cannot_hold Big (Int n) = false
cannot_hold Big (Str text) = true
cannot_hold (Chars n) (Int m) = true
cannot_hold (Chars n) (Str text) = nat_lt n (length text)

-- the values of a row by their columns from the left; then the number of values: the first column without one, or the
-- last
abbrev pub row_kinds : List ℕ → List (List ℕ × Kind) → List Value → Result (Unit {0}) Refusal
row_kinds last [] [] = Ok tt
row_kinds last [] (v ∷ vs) = Err (WrongKind last)
row_kinds last (c ∷ cs) [] = Err (WrongKind c.0)
row_kinds last (c ∷ cs) (v ∷ vs) = do
  held ← refuse_if (cannot_hold c.1 v) (WrongKind c.0)
  row_kinds c.0 cs vs

abbrev pub set_kind : List TableDef → ℕ → ℕ × Value → Result (Unit {0}) Refusal
set_kind tables table set =
    refuse_if (cannot_hold (column_of tables table set.0).1 set.1) (WrongKind (column_of tables table set.0).0)

-- In conditions: a literal, or a column, of the other kind, however long.

abbrev pub is_other_kind : Kind → Value → Bool
is_other_kind kind Null = false
is_other_kind Big (Int n) = false
is_other_kind Big (Str text) = true
is_other_kind (Chars n) (Int m) = true
is_other_kind (Chars n) (Str text) = false

abbrev pub differ : Kind → Kind → Bool
differ Big Big = false
differ Big (Chars n) = true
differ (Chars n) Big = true
differ (Chars n) (Chars m) = false

abbrev pub is_big : Kind → Bool
is_big Big = true
is_big (Chars n) = false

abbrev pub is_wrong_operand : List TableDef → List Item → Kind → Operand → Bool
is_wrong_operand tables reach kind (Literal v) = is_other_kind kind v
is_wrong_operand tables reach kind (Column c) = differ kind (column_at tables reach c).1

-- the column on the left is shown
abbrev pub refuse_column : Bool → List ℕ × Kind → Result (Unit {0}) Refusal
refuse_column wrong column = refuse_if wrong (WrongKind column.0)

abbrev pub atom_kind : List TableDef → List Item → Atom → Result (Unit {0}) Refusal
atom_kind tables reach (Compare c op o) =
    refuse_column (is_wrong_operand tables reach (column_at tables reach c).1 o) (column_at tables reach c)
atom_kind tables reach (Between c low high) =
    refuse_column (is_other_kind (column_at tables reach c).1 low || is_other_kind (column_at tables reach c).1 high)
    (column_at tables reach c)
atom_kind tables reach (Among c list) =
    refuse_column (list_any (is_other_kind (column_at tables reach c).1) list) (column_at tables reach c)
atom_kind tables reach (IsNull c negated) = Ok tt
atom_kind tables reach (Starts c text) = refuse_column (is_big (column_at tables reach c).1) (column_at tables reach c)
atom_kind tables reach (Const t) = Ok tt

abbrev pub group_kinds : List TableDef → List Item → List Atom → Result (Unit {0}) Refusal
group_kinds tables reach group = all_pass (atom_kind tables reach) group

abbrev pub kinds : List TableDef → List Item → List (List Atom) → Result (Unit {0}) Refusal
kinds tables reach only = all_pass (group_kinds tables reach) only
