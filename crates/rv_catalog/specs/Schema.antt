-- What a catalog is: the tables and the indexes, in order of creation.
use Rattle.std.specs.Prelude.{ℕ, List, Option, [], position, bytes_eq, length, map}
use Rattle.std.specs.List.{slice_index_or}
use Rattle.rv_value.specs.declared.value.Kind.{Kind}
use Rattle.rv_catalog.specs.declared.def.TableDef.{TableDef}
use Rattle.rv_catalog.specs.declared.def.IndexDef.{IndexDef}

pub record Schema : Type 0 where
  pub tables : List TableDef
  pub indexes : List IndexDef

-- Tables and indexes have separate names. A number is a position.

-- the number of the table of a name
abbrev pub table_named : List TableDef → List ℕ → Option ℕ
table_named tables name = position (λ (t : TableDef). bytes_eq name t.name) tables

-- the number of the index of a name
abbrev pub index_named : List IndexDef → List ℕ → Option ℕ
index_named indexes name = position (λ (i : IndexDef). bytes_eq name i.name) indexes

-- what stands behind the last table
abbrev pub no_table : TableDef
no_table = record { name = []; columns = [] }

-- the names and kinds of a table's columns, none behind the last table
abbrev pub columns_of : List TableDef → ℕ → List (List ℕ × Kind)
columns_of tables number = (slice_index_or tables number no_table).columns

-- the number of columns of a table
abbrev pub width : List TableDef → ℕ → ℕ
width tables number = length (columns_of tables number)

abbrev pub table_names : List TableDef → List (List ℕ)
table_names = map (λ (t : TableDef). t.name)

abbrev pub index_names : List IndexDef → List (List ℕ)
index_names = map (λ (i : IndexDef). i.name)
