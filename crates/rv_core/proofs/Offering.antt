-- What a cursor gives, and what it can read.
use Rattle.std.proofs.Common.{◌≡◌, ◌<◌, ℕ, List, [], ◌∷◌, arith, true, nat_lt, nat_eq, length}
use Rattle.std.specs.List.{list_all, slice_index_or}
use Rattle.std.proofs.lemmas.Bool.Decides.{nat_tests}
use Rattle.std.proofs.lemmas.Bool.{and_from, and_parts, ltb-true}
use Rattle.rv_restrict.specs.declared.atom.ColRef.{ColRef}
use Rattle.rv_restrict.specs.Bind.{passes_home}
use Rattle.rv_restrict.specs.Truth.{names_only}
use Rattle.rv_restrict.proofs.Names.{names_weaker}
use Rattle.rv_catalog.specs.declared.def.TableDef.{TableDef}
use Rattle.rv_catalog.specs.declared.def.Select.{Select}
use Rattle.rv_catalog.specs.Schema.{Schema, width}
use Rattle.rv_catalog.specs.Fits.{IsQueryOf, is_column, is_there}
use Rattle.rv_reader.specs.Shown.{Shown, IsSnapshot, CanRead}
use Rattle.rv_model.specs.declared.transactions.Transactions.{Transactions}
use Rattle.rv_model.specs.Step.{table_of}
use Rattle.rv_core.specs.Db.{IsTied}

-- a column of the one FROM item
column_home : (defs : List TableDef) (tables : List ℕ) (c : ColRef) → length tables ≡ 1 → is_there defs tables c ≡ true → passes_home (is_column (width defs (slice_index_or tables 0 0))) c ≡ true
column_home defs tables c one there =
    let parts = and_parts (nat_lt c.place (length tables)) (nat_lt c.column (width defs (slice_index_or tables c.place 0))) there in
    let below : nat_lt c.place 1 ≡ true = rw one at parts.0 in
    let home : c.place ≡ 0 = place_zero c.place below in
    let column : nat_lt c.column (width defs (slice_index_or tables 0 0)) ≡ true = rw home at parts.1 in
    and_from (nat_eq c.place 0) (nat_lt c.column (width defs (slice_index_or tables 0 0))) (zero_is c.place home) column
  where
    place_zero : (n : ℕ) → nat_lt n 1 ≡ true → n ≡ 0
    place_zero n h = grind (arith, nat_tests)

    zero_is : (n : ℕ) → n ≡ 0 → nat_eq n 0 ≡ true
    zero_is n h = grind (arith, nat_tests)

pub first_there : (n : ℕ) (tables : List ℕ) → length tables ≡ 1 → list_all (is_column n) tables ≡ true → slice_index_or tables 0 0 < n
first_there n [] one there = absurd (omega arith)
first_there n (t ∷ ts) one there =
    let parts = and_parts (nat_lt t n) (list_all (is_column n) ts) there in
    ltb-true t n parts.0

-- the table of the one FROM item is there
pub query_reads : (shown : Shown) (schema : Schema) (txns : Transactions) (select : Select) (snap : ℕ) → IsTied shown schema txns → length select.tables ≡ 1 → IsQueryOf schema select → IsSnapshot shown snap → CanRead shown (table_of select) snap
query_reads shown schema txns select snap tied one query base = record { there = let t = first_there (length schema.tables) select.tables one query.there in omega (arith, t, tied.count); snapshot = base }

-- the restriction of a query over one FROM item names columns of its table
pub query_over : (shown : Shown) (schema : Schema) (txns : Transactions) (select : Select) → IsTied shown schema txns → length select.tables ≡ 1 → IsQueryOf schema select → names_only (passes_home (is_column (shown.columns (table_of select)))) select.only ≡ true
query_over shown schema txns select tied one query =
    let t = first_there (length schema.tables) select.tables one query.there in
    rw (tied.columns (table_of select) t) (names_weaker (is_there schema.tables select.tables) (passes_home (is_column (width schema.tables (table_of select)))) (λ c h. column_home schema.tables select.tables c one h) select.only query.only)
