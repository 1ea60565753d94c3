-- What a resolved statement names is there, and is within the limits.
use Rattle.std.specs.Prelude.{◌≡◌, ◌<◌, ◌≤◌, ◌==◌, ◌&&◌, ℕ, List, [], ◌∷◌, Bool, true, not, None, length, nat_lt}
use Rattle.std.specs.List.{list_all, list_any, slice_index_or}
use Rattle.rv_value.specs.declared.value.Value.{Value}
use Rattle.rv_restrict.specs.declared.atom.ColRef.{ColRef}
use Rattle.rv_restrict.specs.declared.atom.Atom.{Atom}
use Rattle.rv_restrict.specs.Bind.{passes_home}
use Rattle.rv_restrict.specs.Truth.{names_only}
use Rattle.rv_lang.specs.declared.statement.Statement.{Statement}
use Rattle.rv_lang.specs.declared.statement.Statement.TheVariants.{CreateTable, CreateIndex, Open}
use Rattle.rv_catalog.specs.declared.def.IndexDef.{IndexDef}
use Rattle.rv_catalog.specs.declared.def.Resolved.{Resolved}
use Rattle.rv_catalog.specs.declared.def.Resolved.TheVariants.{CreateTable as NewTable, CreateIndex as NewIndex, Begin as Begins, Insert as Inserts, Update as Updates, Delete as Deletes, Commit as Commits, Rollback as Rolls, Open as Opens, Fetch as Fetches, Show as Shows, Close as Closes, Step as Steps}
use Rattle.rv_catalog.specs.declared.def.Select.{Select}
use Rattle.rv_catalog.specs.declared.def.TableDef.{TableDef}
use Rattle.rv_catalog.specs.Schema.{Schema, index_named, table_named, width}

abbrev pub is_column : ℕ → ℕ → Bool
is_column columns c = nat_lt c columns

abbrev pub all_different : List ℕ → Bool
all_different [] = true
all_different (c ∷ cs) = not (list_any (λ d. d == c) cs) && all_different cs

-- a column of one of the tables, which are those of the places in order
abbrev pub is_there : List TableDef → List ℕ → ColRef → Bool
is_there tables places c =
    nat_lt c.place (length places) && is_column (width tables (slice_index_or places c.place 0)) c.column

-- a condition over columns of one table, at place 0
abbrev pub is_over_table : List TableDef → ℕ → List (List Atom) → Bool
is_over_table tables table only = names_only (passes_home (is_column (width tables table))) only

pub record IsNewTable (schema : Schema) (def : TableDef) : Type 0 where
  pub fresh : table_named schema.tables def.name ≡ None
  pub narrow : length def.columns ≤ 16

pub record IsNewIndex (schema : Schema) (def : IndexDef) : Type 0 where
  pub fresh : index_named schema.indexes def.name ≡ None
  pub there : def.table < length schema.tables
  pub few : length def.columns ≤ 4
  pub columns : list_all (is_column (width schema.tables def.table)) def.columns ≡ true
  pub different : all_different def.columns ≡ true

pub record IsRowOf (schema : Schema) (table : ℕ) (values : List Value) : Type 0 where
  pub there : table < length schema.tables
  pub whole : length values ≡ width schema.tables table

pub record IsChangeOf (schema : Schema) (table : ℕ) (sets : List (ℕ × Value)) (only : List (List Atom)) : Type 0 where
  pub there : table < length schema.tables
  pub columns : list_all (λ (s : ℕ × Value). is_column (width schema.tables table) s.0) sets ≡ true
  pub over : is_over_table schema.tables table only ≡ true

pub record IsPartOf (schema : Schema) (table : ℕ) (only : List (List Atom)) : Type 0 where
  pub there : table < length schema.tables
  pub over : is_over_table schema.tables table only ≡ true

pub record IsQueryOf (schema : Schema) (select : Select) : Type 0 where
  pub joined : length select.tables ≤ 4
  pub there : list_all (is_column (length schema.tables)) select.tables ≡ true
  pub only : names_only (is_there schema.tables select.tables) select.only ≡ true
  pub returns : list_all (is_there schema.tables select.tables) select.returns ≡ true
  pub order : list_all (is_there schema.tables select.tables) select.order ≡ true

abbrev pub FitsSchema : Schema → Resolved → Type 0
FitsSchema schema (NewTable def) = IsNewTable schema def
FitsSchema schema (NewIndex def) = IsNewIndex schema def
FitsSchema schema (Begins read_only) = Unit {0}
FitsSchema schema (Inserts table values) = IsRowOf schema table values
FitsSchema schema (Updates table sets only) = IsChangeOf schema table sets only
FitsSchema schema (Deletes table only) = IsPartOf schema table only
FitsSchema schema Commits = Unit {0}
FitsSchema schema Rolls = Unit {0}
FitsSchema schema (Opens cursor select) = IsQueryOf schema select
FitsSchema schema (Fetches cursor) = Unit {0}
FitsSchema schema (Shows cursor) = Unit {0}
FitsSchema schema (Closes cursor) = Unit {0}
FitsSchema schema (Steps cursor n) = Unit {0}

-- The columns of CREATE and the items of FROM: as many in the answer as in the statement.

abbrev pub parts_of : Statement → ℕ
parts_of (CreateTable name columns) = length columns
parts_of (CreateIndex unique name table columns) = length columns
parts_of (Open cursor returned items only order goal) = length items
parts_of other = 0

abbrev pub parts_in : Resolved → ℕ
parts_in (NewTable def) = length def.columns
parts_in (NewIndex def) = length def.columns
parts_in (Opens cursor select) = length select.tables
parts_in other = 0
