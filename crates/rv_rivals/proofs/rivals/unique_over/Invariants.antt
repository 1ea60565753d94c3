use Rattle.std.proofs.Common.{◌≡◌, List, ℕ, map, take}
use Rattle.std.specs.List.{AllByRecursion}
use Rattle.rv_catalog.specs.declared.def.IndexDef.{IndexDef}
use Rattle.rv_model.specs.Rivals.{unique_over}
use Rattle.rv_rivals.specs.declared.rivals.Unique.{Unique}
use Rattle.rv_rivals.specs.Lookups.{IsPlace, entries_written}
use Rattle.rv_rivals.proofs.rivals.unique_over.Given as goal

-- the unique indexes so far, with their numbers and the entries of the statement's rows
abbrev pub invariant-indexes : goal.invariant-indexes
invariant-indexes l = record {
  number : l.number ≡ l.def-index;
  columns : map (λ (u : Unique). u.columns.now) l.unique.items ≡ map (λ (d : IndexDef). d.columns) (unique_over l.table (take l.def-index l.indexes));
  each : AllByRecursion (λ (u : Unique). IsPlace l.indexes l.table u.number u.columns.now) l.unique.items;
  entries : AllByRecursion (λ (u : Unique). u.entries ≡ entries_written u.columns.now l.table l.new) l.unique.items;
}
