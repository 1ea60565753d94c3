-- A query over the schema can be planned at a snapshot of the store.
use Rattle.std.proofs.Common.{◌≡◌, ℕ, suc, ◌+◌, ◌<◌, ◌≤◌, List, [], ◌∷◌, true, refl, ap, sym, ◌∙◌, subst, arith, inl, inr, length, nat_lt}
use Rattle.std.specs.List.{slice_index_or}
use Rattle.std.proofs.lemmas.Bool.Decides.{eqb_tells}
use Rattle.std.proofs.lemmas.Bool.{ltb-true}
use Rattle.std.specs.Cmp.{first_so, second_so}
use Rattle.rv_value.specs.declared.record.Record.{Record}
use Rattle.rv_value.proofs.Lists.{passes_at}
use Rattle.rv_rows.specs.Rows.{Ascend}
use Rattle.rv_restrict.specs.declared.atom.ColRef.{ColRef}
use Rattle.rv_catalog.specs.declared.def.IndexDef.{IndexDef}
use Rattle.rv_catalog.specs.declared.def.Select.{Select}
use Rattle.rv_catalog.specs.Fits.{IsQueryOf, is_column, is_there}
use Rattle.rv_catalog.specs.Kept.{indexes_over}
use Rattle.rv_catalog.specs.Schema.{Schema, width}
use Rattle.rv_reader.specs.Entries.{entries_of}
use Rattle.rv_reader.specs.Shown.{Shown, IsSnapshot, CanRead, CanScan}
use Rattle.rv_reader.specs.Storing.{AreColumns, AreKeys, IsStored}
use Rattle.rv_model.specs.declared.transactions.Transactions.{Transactions}
use Rattle.rv_view.specs.Alone.{alone}
use Rattle.rv_view.proofs.Staying.{reads_alone, same_cuts, same_entries, same_rows, scans_alone}
use Rattle.rv_join.specs.Asking.{CanPlan, IsIndexAt, have_column, index_at, indexes_from, select_uses, table_at}
use Rattle.rv_join.proofs.Naming.{used_passes, have_wide}
use Rattle.rv_core.specs.Db.{IsTied}

-- a column that a query names is of one of its tables
used_there : (schema : Schema) (s : Select) (c : ColRef) → IsQueryOf schema s → select_uses s c ≡ true → is_there schema.tables s.tables c ≡ true
used_there schema s c query used = used_passes (is_there schema.tables s.tables) s c query.returns query.order query.only used

-- Tables.

table_there : (schema : Schema) (s : Select) (p : ℕ) → IsQueryOf schema s → p < length s.tables → table_at s p < length schema.tables
table_there schema s p query h = ltb-true (table_at s p) (length schema.tables) (passes_at (is_column (length schema.tables)) s.tables p 0 h query.there)

-- Indexes.

from_over : (table number : ℕ) (ds : List IndexDef) → length (indexes_from table number ds) ≡ indexes_over table ds
from_over table number [] = refl
from_over table number (d ∷ ds) = elim (eqb_tells d.table table) [
  | inl here ↦ rw here.0 (ap (λ (n : ℕ). suc n) (from_over table (number + 1) ds))
  | inr other ↦ rw other.0 (from_over table (number + 1) ds)
]

index_there : (shown : Shown) (schema : Schema) (txns : Transactions) (snap i : ℕ) → IsTied shown schema txns → IsStored shown → IsSnapshot shown snap → i < length schema.indexes → IsIndexAt (alone shown snap) (index_at schema.indexes i).table snap i (index_at schema.indexes i).columns
index_there shown schema txns snap i tied stored base h =
    let there : i < shown.indexes = omega (arith, tied.indexed, h) in
    let scan : CanScan shown i snap = record { there = there; snapshot = base } in
    let has = tied.each i h in
    let over = stored.over i there in
    let kept = stored.kept i snap scan in
    let columns : AreColumns (shown.columns (shown.over i)) (index_at schema.indexes i).columns = subst (AreColumns (shown.columns (shown.over i))) has.keys over.columns in
    let read : CanRead shown (index_at schema.indexes i).table snap = record { there = subst (λ (t : ℕ). t < shown.tables) has.over over.table; snapshot = base } in
    let entries : shown.entries i snap ≡ entries_of (index_at schema.indexes i).columns (shown.rows (index_at schema.indexes i).table snap) = kept.entries ∙ ap (λ (ks : List ℕ). entries_of ks (shown.rows (shown.over i) snap)) has.keys ∙ ap (λ (t : ℕ). entries_of (index_at schema.indexes i).columns (shown.rows t snap)) has.over in
    record {
      can = scans_alone shown snap i scan;
      some = columns.some;
      few = columns.few;
      different = columns.different;
      entries = same_entries shown snap i snap (scans_alone shown snap i scan) ∙ entries ∙ ap (entries_of (index_at schema.indexes i).columns) (sym (same_rows shown snap (index_at schema.indexes i).table snap (reads_alone shown snap (index_at schema.indexes i).table read)));
      cuts = subst (AreKeys (length (index_at schema.indexes i).columns)) (sym (same_cuts shown snap i snap (scans_alone shown snap i scan))) (subst (λ (ks : List ℕ). AreKeys (length ks) (shown.cuts i snap)) has.keys kept.cuts);
    }

pub can_plan : (shown : Shown) (schema : Schema) (txns : Transactions) (s : Select) (snap : ℕ) → IsTied shown schema txns → IsStored shown → IsSnapshot shown snap → IsQueryOf schema s → 1 ≤ length s.tables → length schema.indexes ≤ 512 → ((table : ℕ) → indexes_over table schema.indexes ≤ 8) → ((p : ℕ) → p < length s.tables → Ascend (shown.rows (table_at s p) snap)) → CanPlan s schema.indexes (alone shown snap) snap
can_plan shown schema txns s snap tied stored base query some numbers few ascend =
    let reads : (p : ℕ) → p < length s.tables → CanRead shown (table_at s p) snap = λ p h. record { there = let t = table_there schema s p query h in omega (arith, tied.count); snapshot = base } in
    let seen : (p : ℕ) → p < length s.tables → (alone shown snap).rows (table_at s p) snap ≡ shown.rows (table_at s p) snap = λ p h. same_rows shown snap (table_at s p) snap (reads_alone shown snap (table_at s p) (reads p h)) in
    let places : (c : ColRef) → select_uses s c ≡ true → c.place < length s.tables = λ c used. ltb-true c.place (length s.tables) (first_so (nat_lt c.place (length s.tables)) (is_column (width schema.tables (slice_index_or s.tables c.place 0)) c.column) (used_there schema s c query used)) in
    record {
      some = some;
      joined = query.joined;
      ascend = λ p h. subst Ascend (sym (seen p h)) (ascend p h);
      read = λ p h. reads_alone shown snap (table_at s p) (reads p h);
      places = places;
      columns = λ c used.
          let h = places c used in
          let t = table_there schema s c.place query h in
          let column : c.column < width schema.tables (table_at s c.place) = ltb-true c.column (width schema.tables (table_at s c.place)) (second_so (nat_lt c.place (length s.tables)) (is_column (width schema.tables (slice_index_or s.tables c.place 0)) c.column) (used_there schema s c query used)) in
          let wide = stored.wide (table_at s c.place) snap (reads c.place h) in
          subst (λ (rows : List Record). have_column c.column rows ≡ true) (sym (seen c.place h)) (have_wide c.column (shown.columns (table_at s c.place)) (shown.rows (table_at s c.place) snap) wide (omega (arith, tied.columns (table_at s c.place) t, column)));
      numbers = omega (arith, numbers);
      each = λ i h. index_there shown schema txns snap i tied stored base h;
      few = λ p h. let e = from_over (table_at s p) 0 schema.indexes in let k = few (table_at s p) in omega arith;
    }

-- a column that a query names is one of its table
pub column_fits : (shown : Shown) (schema : Schema) (txns : Transactions) (s : Select) (c : ColRef) → IsTied shown schema txns → IsQueryOf schema s → select_uses s c ≡ true → c.column < shown.columns (table_at s c.place)
column_fits shown schema txns s c tied query used =
    let named = used_there schema s c query used in
    let h : c.place < length s.tables = ltb-true c.place (length s.tables) (first_so (nat_lt c.place (length s.tables)) (is_column (width schema.tables (slice_index_or s.tables c.place 0)) c.column) named) in
    let t = table_there schema s c.place query h in
    let column : c.column < width schema.tables (table_at s c.place) = ltb-true c.column (width schema.tables (table_at s c.place)) (second_so (nat_lt c.place (length s.tables)) (is_column (width schema.tables (slice_index_or s.tables c.place 0)) c.column) named) in
    omega (arith, tied.columns (table_at s c.place) t, column)
