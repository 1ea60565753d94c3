-- Rows that are equal in a unique index, and the rivals of rows that are written.
use Rattle.std.specs.Prelude.{ℕ, List, [], ◌∷◌, ◌++◌, Bool, true, false, not, ◌&&◌, ◌==◌, nat_lt, Option, Result, find, filter, map}
use Rattle.std.specs.List.{flat_map, list_any, slice_index_or}
use Rattle.rv_value.specs.declared.value.Value.{Value}
use Rattle.rv_value.specs.declared.value.Value.TheVariants.{Null}
use Rattle.rv_value.specs.declared.record.Record.{Record}
use Rattle.rv_rows.specs.declared.changes.Change.{Change}
use Rattle.rv_rows.specs.Changes.{has_change, rows_with_changes}
use Rattle.rv_lang.specs.declared.reply.Refusal.{Refusal}
use Rattle.rv_lang.specs.declared.reply.Refusal.TheVariants.{Duplicate}
use Rattle.rv_lang.specs.declared.reply.Rival.{Rival}
use Rattle.rv_lang.specs.declared.reply.Rival.TheVariants.{View, Commit, Txn}
use Rattle.rv_catalog.specs.declared.def.IndexDef.{IndexDef}
use Rattle.rv_catalog.specs.Answers.{all_pass}
use Rattle.rv_model.specs.Offers.{same_values}
use Rattle.rv_model.specs.Transactions.{refuse_at}

-- the key of values in an index: those of its columns, in their order
abbrev pub key_of : List ℕ → List Value → List Value
key_of columns values = map (λ (c : ℕ). slice_index_or values c Null) columns

-- NULL is equal to nothing
abbrev pub is_null : Value → Bool
is_null Null = true
is_null value = false

-- a row has this key
abbrev pub has_key : List ℕ → List Value → Record → Bool
has_key columns key r = same_values (key_of columns r.values) key

-- TWO ROWS ARE EQUAL in an index: all values of their keys are equal, and none is NULL
abbrev pub are_equal : List ℕ → Record → Record → Bool
are_equal columns a b =
    let key = key_of columns a.values in
    not (list_any is_null key) && has_key columns key b

-- A RIVAL of a row in an index: another row that is equal to it
abbrev pub is_rival : List ℕ → Record → Record → Bool
is_rival columns r other = not (other.row.0 == r.row.0) && are_equal columns r other

-- the unique indexes over a table, in the order of their creation
abbrev pub unique_over : ℕ → List IndexDef → List IndexDef
unique_over table indexes = filter (λ (d : IndexDef). d.unique && (d.table == table)) indexes

-- the rows of a table to which changes give values
abbrev pub rows_written : ℕ → List Change → List Record
rows_written table changes = rows_with_changes table changes []

-- the rows that changes leave as they are
abbrev pub rows_left : ℕ → List Change → List Record → List Record
rows_left table changes rows =
    filter (λ (r : Record). not (has_change table r.row.0 changes)) rows

-- a row, and where it stands
pub record Neighbour : Type 0 where
  pub row : Record
  pub at : Rival

-- rows, each with where it stands
abbrev pub placed : (Record → Rival) → List Record → List Neighbour
placed at rows = map (λ (r : Record). record { row = r; at = at r }) rows

-- the rows that another transaction has written: its number, and its changes
abbrev pub written_by_other : ℕ → ℕ × List Change → List Neighbour
written_by_other table other = placed (λ r. Txn other.0) (rows_written table other.1)

-- WHERE RIVALS ARE LOOKED FOR, in the order in which they are shown: among the rows that a
-- transaction sees, with all its changes; among those of the last commit that it has not changed;
-- among those that each other transaction has written.
abbrev pub neighbours :
    ℕ → List Change → List Record → List Record → (ℕ → ℕ) → List (ℕ × List Change) → List Neighbour
neighbours table changes base last written_by others =
    placed (λ r. View) (rows_with_changes table changes base)
    ++ placed (λ r. Commit (written_by r.row.0)) (rows_left table changes last)
    ++ flat_map (written_by_other table) others

-- a row has no rival in an index; else the first one is shown
abbrev pub alone : List Neighbour → Record → IndexDef → Result (Unit {0}) Refusal
alone near r d =
    let rival = find (λ (n : Neighbour). is_rival d.columns r n.row) near in
    refuse_at rival (λ (n : Neighbour). Duplicate n.row.row n.at)

-- NO ROW OF THESE HAS A RIVAL in any of some indexes: tested are the rows in their order, each in
-- the indexes in theirs
abbrev pub all_alone :
    List IndexDef → List Neighbour → List Record → Result (Unit {0}) Refusal
all_alone indexes near rows = all_pass (λ (r : Record). all_pass (alone near r) indexes) rows

-- a row equals a lower one of some rows in an index
abbrev pub equals_lower : List ℕ → List Record → Record → Bool
equals_lower columns rows r =
    list_any (λ (s : Record). nat_lt s.row.0 r.row.0 && are_equal columns s r) rows

-- the lowest of some rows that equals a lower one in an index, where this is unique
abbrev pub first_equal : IndexDef → List Record → Option Record
first_equal d rows = find (λ (r : Record). d.unique && equals_lower d.columns rows r) rows
