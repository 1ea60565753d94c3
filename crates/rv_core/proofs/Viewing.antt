-- A query can be planned over what a transaction sees, where it can be planned over the transaction's snapshot.
use Rattle.std.proofs.Common.{◌≡◌, ℕ, ◌<◌, List, [], ◌∷◌, ◌++◌, Bool, true, not, ◌&&◌, ◌==◌, cond, Option, Some, None, IfSome, ap, sym, ◌∙◌, subst, arith, inl, inr, filter, length, nat_eq, nat_lt}
use Rattle.std.specs.List.{AllByRecursion, list_all}
use Rattle.std.proofs.lemmas.Bool.{cases_Bool, cond-true}
use Rattle.std.proofs.lemmas.List.Folds.{list_all-append}
use Rattle.std.proofs.lemmas.Bool.Decides.{nat_tests}
use Rattle.rv_reader.proofs.Rows.{applied_ascends}
use Rattle.rv_value.specs.declared.value.Value.{Value}
use Rattle.rv_value.specs.declared.record.Record.{Record}
use Rattle.rv_rows.specs.declared.changes.Change.{Change}
use Rattle.rv_rows.specs.Changes.{rows_with_changes}
use Rattle.rv_rows.specs.Rows.{comes_below, with_values}
use Rattle.rv_restrict.specs.declared.atom.ColRef.{ColRef}
use Rattle.rv_catalog.specs.declared.def.IndexDef.{IndexDef}
use Rattle.rv_catalog.specs.declared.def.Select.{Select}
use Rattle.rv_catalog.specs.Schema.{Schema}
use Rattle.rv_rows.proofs.Filters.{all_filter}
use Rattle.rv_reader.specs.Shown.{Shown, CanRead, IsSnapshot}
use Rattle.rv_reader.specs.Storing.{AreKeys, IsStored}
use Rattle.rv_model.specs.declared.transactions.Transactions.{Transactions}
use Rattle.rv_overlay.specs.declared.frozen.Frozen.{Frozen}
use Rattle.rv_overlay.specs.Freezing.{KeepsSize}
use Rattle.rv_overlay.specs.Laying.{laid, sixteenths}
use Rattle.rv_overlay.specs.Overlaid.{Lays, LaysIndex, LaysTable, overlaid, part_at, size_of}
use Rattle.rv_overlay.proofs.Viewing.{view_is}
use Rattle.rv_view.specs.Making.{Keeps, KeepsPart}
use Rattle.rv_view.specs.Sights.{LaysSome}
use Rattle.rv_view.proofs.Laying.{lays_kept}
use Rattle.rv_rivals.proofs.Telling.{keys_all, keys_marks}
use Rattle.rv_view.specs.Alone.{alone}
use Rattle.rv_view.proofs.Staying.{can_read, can_scan, reads_alone, same_cuts, same_entries, same_pages, same_rows}
use Rattle.rv_join.specs.Asking.{CanPlan, have_column, index_at, select_uses, table_at}
use Rattle.rv_cursor.specs.Left.{seen_at}
use Rattle.rv_core.specs.Db.{IsOwn, IsTied, IsViewed, view_at}

-- What is kept may be laid over the snapshot alone.

pub lays_alone : (shown : Shown) (snap : ℕ) (f : Frozen) → Lays shown f → Lays (alone shown snap) f
lays_alone shown snap f lays = record {
  rise = lays.rise;
  tables = λ table there.
      subst (λ p. LaysTable ((alone shown snap).rows table f.base) p table f) (sym (same_pages shown snap table f.base there))
      (subst (λ rs. LaysTable rs (shown.pages table f.base) table f) (sym (same_rows shown snap table f.base there)) (lays.tables table (can_read shown snap table f.base there)));
  parts = lays.parts;
  each = λ index there.
      subst (λ cs. LaysIndex ((alone shown snap).entries index f.base) cs (part_at f.parts index)) (sym (same_cuts shown snap index f.base there))
      (subst (λ es. LaysIndex es (shown.cuts index f.base) (part_at f.parts index)) (sym (same_entries shown snap index f.base there)) (lays.each index (can_scan shown snap index f.base there)));
}

pub lays_viewed : (shown : Shown) (snap : ℕ) (f : Frozen) (written : List Change) → IsStored shown → Keeps shown f written → Lays (alone shown snap) f
lays_viewed shown snap f written stored keeps = lays_alone shown snap f (lays_kept shown f written stored keeps)

pub lays_some : (shown : Shown) (touched : List (List ℕ)) (snap : ℕ) (frozen : Option Frozen) → IsStored shown → IfSome frozen (IsViewed shown touched snap) → LaysSome (alone shown snap) frozen
lays_some shown touched snap None stored viewed = tt
lays_some shown touched snap (Some f) stored viewed = lays_viewed shown snap f viewed.rows_written stored viewed.keeps

-- What is kept is kept over the snapshot alone.

over_alone : (shown : Shown) (snap index : ℕ) → index < shown.indexes → (alone shown snap).over index ≡ shown.over index
over_alone shown snap index low = let here : nat_lt index shown.indexes ≡ true = grind (arith, nat_tests) in cond-true (nat_lt index shown.indexes) (shown.over index) 0 here

keys_alone : (shown : Shown) (snap index : ℕ) → index < shown.indexes → (alone shown snap).keys index ≡ shown.keys index
keys_alone shown snap index low = let here : nat_lt index shown.indexes ≡ true = grind (arith, nat_tests) in cond-true (nat_lt index shown.indexes) (shown.keys index) [] here

keeps_alone : (shown : Shown) (snap : ℕ) (f : Frozen) (written : List Change) → IsStored shown → Keeps shown f written → Keeps (alone shown snap) f written
keeps_alone shown snap f written stored keeps = record {
  rise = keeps.rise;
  low = keeps.low;
  told = keeps.told;
  parts = keeps.parts;
  each = λ index can.
      let part = part_at f.parts index in
      let own = can_scan shown snap index f.base can in
      let read : CanRead (alone shown snap) (shown.over index) f.base = record { there = (stored.over index own.there).table; snapshot = can.snapshot } in
      subst (λ ks. KeepsPart ks ((alone shown snap).over index) f.changes ((alone shown snap).rows ((alone shown snap).over index) f.base) part) (sym (keys_alone shown snap index own.there))
      (subst (λ t. KeepsPart (shown.keys index) t f.changes ((alone shown snap).rows t f.base) part) (sym (over_alone shown snap index own.there))
      (subst (λ rs. KeepsPart (shown.keys index) (shown.over index) f.changes rs part) (sym (same_rows shown snap (shown.over index) f.base read)) (keeps.each index own)));
  sized = λ table can.
      subst (λ p. IfSome (size_of table f.sizes) (KeepsSize ((alone shown snap).rows table f.base) p table f.changes)) (sym (same_pages shown snap table f.base can))
      (subst (λ rs. IfSome (size_of table f.sizes) (KeepsSize rs (shown.pages table f.base) table f.changes)) (sym (same_rows shown snap table f.base can)) (keeps.sized table (can_read shown snap table f.base can)));
  others = keeps.others;
}

-- A cursor at the base, with what was frozen laid over it, sees the view.

pub seen_view : (shown : Shown) (snap table : ℕ) (frozen : Option Frozen) → CanRead shown table snap → IfSome frozen (λ (f : Frozen). f.base ≡ snap) → (seen_at shown snap frozen).rows table snap ≡ view_at shown snap frozen table
seen_view shown snap table None can at = same_rows shown snap table snap (reads_alone shown snap table can)
seen_view shown snap table (Some f) can at =
    let here : nat_eq snap f.base ≡ true = grind (arith, nat_tests) in
    rw here (ap (rows_with_changes table f.changes) (same_rows shown snap table snap (reads_alone shown snap table can)))

-- The view's rows have a column where the rows and the changes have it.

abbrev pub HaveColumn : ℕ → ℕ → List Change → Type 0
HaveColumn table column = AllByRecursion (λ (c : Change). c.table ≡ table → IfSome c.values (λ values. nat_lt column (length values) ≡ true))

abbrev has_value : ℕ → Record → Bool
has_value column r = nat_lt column (length r.values)

have_joined : (column : ℕ) (xs ys : List Record) → list_all (has_value column) xs ≡ true → list_all (has_value column) ys ≡ true → list_all (has_value column) (xs ++ ys) ≡ true
have_joined column xs ys first more = list_all-append (has_value column) xs ys ∙ ap (λ b. b && list_all (has_value column) ys) first ∙ more

-- the rows below, the row where there are values, the rows above
have_with : (column number : ℕ) (values : Option (List Value)) (rows : List Record) → IfSome values (λ (vs : List Value). nat_lt column (length vs) ≡ true) → have_column column rows ≡ true → have_column column (with_values number values rows) ≡ true
have_with column number None rows told have = all_filter (has_value column) (λ (r : Record). not (r.row.0 == number)) rows have
have_with column number (Some vs) rows told have =
    let new : Record = record { row = record { 0 = number }; values = vs } in
    have_joined column (filter (λ (r : Record). comes_below r new) rows) (new ∷ filter (λ (r : Record). comes_below new r) rows)
    (all_filter (has_value column) (λ (r : Record). comes_below r new) rows have)
    (subst (λ b. (b && list_all (has_value column) (filter (λ (r : Record). comes_below new r) rows)) ≡ true) (sym told) (all_filter (has_value column) (λ (r : Record). comes_below new r) rows have))

pub have_viewed : (table column : ℕ) (changes : List Change) (rows : List Record) → HaveColumn table column changes → have_column column rows ≡ true → have_column column (rows_with_changes table changes rows) ≡ true
have_viewed table column [] rows all have = have
have_viewed table column (c ∷ cs) rows all have = elim (cases_Bool (c.table == table)) [
  | inl t ↦
      let same : c.table ≡ table = grind (arith, nat_tests) in
      subst (λ b. have_column column (rows_with_changes table cs (cond b (with_values c.row.0 c.values rows) rows)) ≡ true) (sym t)
      (have_viewed table column cs (with_values c.row.0 c.values rows) all.1 (have_with column c.row.0 c.values rows (all.0 same) have))
  | inr f ↦
      subst (λ b. have_column column (rows_with_changes table cs (cond b (with_values c.row.0 c.values rows) rows)) ≡ true) (sym f)
      (have_viewed table column cs rows all.1 have)
]

-- what a transaction changes has the columns of its table
own_long : (column columns : ℕ) (values : Option (List Value)) → column < columns → IfSome values (λ (vs : List Value). length vs ≡ columns) → IfSome values (λ (vs : List Value). nat_lt column (length vs) ≡ true)
own_long column columns None low wide = tt
own_long column columns (Some vs) low wide = grind (arith, nat_tests)

pub own_have : (shown : Shown) (touched : List (List ℕ)) (table column : ℕ) (cs : List Change) → column < shown.columns table → AllByRecursion (IsOwn shown touched) cs → HaveColumn table column cs
own_have shown touched table column [] low own = tt
own_have shown touched table column (c ∷ cs) low own =
    (λ same. own_long column (shown.columns table) c.values low (subst (λ n. IfSome c.values (λ (vs : List Value). length vs ≡ n)) (ap shown.columns same) own.0.width), own_have shown touched table column cs low own.1)

-- THE PLAN OVER THE VIEW.

pub plan_over : (seen : Shown) (f : Frozen) (written : List Change) (s : Select) (indexes : List IndexDef) → Lays seen f → Keeps seen f written
    → ((i : ℕ) → i < length indexes → (seen.over i ≡ (index_at indexes i).table) × (seen.keys i ≡ (index_at indexes i).columns))
    → ((i : ℕ) → i < length indexes → CanRead seen (index_at indexes i).table f.base)
    → ((c : ColRef) → select_uses s c ≡ true → HaveColumn (table_at s c.place) c.column f.changes)
    → CanPlan s indexes seen f.base → CanPlan s indexes (overlaid seen f) f.base
plan_over seen f written s indexes lays keeps are read have can =
    let here : nat_eq f.base f.base ≡ true = grind (arith, nat_tests) in
    record {
      some = can.some;
      joined = can.joined;
      ascend = λ p h. rw here (applied_ascends (table_at s p) f.changes (seen.rows (table_at s p) f.base) (can.ascend p h));
      read = λ p h. (let r = can.read p h in record { there = r.there; snapshot = record { kept = r.snapshot.kept; known = r.snapshot.known } });
      places = can.places;
      columns = λ c used. rw here (have_viewed (table_at s c.place) c.column f.changes (seen.rows (table_at s c.place) f.base) (have c used) (can.columns c used));
      numbers = can.numbers;
      each = λ i h.
          let own = can.each i h in
          let table = (index_at indexes i).table in
          let columns = (index_at indexes i).columns in
          let rows = seen.rows table f.base in
          let part = part_at f.parts i in
          let kept : KeepsPart columns table f.changes rows part =
          subst (λ ks. KeepsPart ks table f.changes rows part) (are i h).1 (subst (λ t. KeepsPart (seen.keys i) t f.changes (seen.rows t f.base) part) (are i h).0 (keeps.each i own.can)) in
          let index = lays.each i own.can in
          let ascends = (lays.tables table (read i h)).ascend in
          let entries = ap (λ es. laid part.taken part.added es) own.entries ∙ view_is columns table f.changes rows part.taken part.added ascends keeps.rise kept.freezes in
          record {
            can = record { there = own.can.there; snapshot = record { kept = own.can.snapshot.kept; known = own.can.snapshot.known } };
            some = own.some;
            few = own.few;
            different = own.different;
            entries = rw here entries;
            cuts = rw here (keys_all (length columns) (sixteenths part.added) (seen.cuts i f.base) (keys_marks (length columns) 0 part.added (subst (λ n. AreKeys n part.added) kept.width index.added_keys)) own.cuts);
          };
      few = can.few;
    }

-- OVER THE STORE: a query that can be planned over a snapshot can be planned over what a transaction on it sees.

at_indexes : (shown : Shown) (schema : Schema) (txns : Transactions) (snap i : ℕ) → IsTied shown schema txns → i < length schema.indexes
    → ((alone shown snap).over i ≡ (index_at schema.indexes i).table) × ((alone shown snap).keys i ≡ (index_at schema.indexes i).columns)
at_indexes shown schema txns snap i tied h =
    let count = tied.indexed in
    let there : i < shown.indexes = omega (arith, count, h) in
    let has = tied.each i h in
    (over_alone shown snap i there ∙ has.over, keys_alone shown snap i there ∙ has.keys)

index_read : (shown : Shown) (schema : Schema) (txns : Transactions) (snap base i : ℕ) → IsTied shown schema txns → IsStored shown → IsSnapshot shown snap → base ≡ snap → i < length schema.indexes → CanRead (alone shown snap) (index_at schema.indexes i).table base
index_read shown schema txns snap base i tied stored is at h =
    let count = tied.indexed in
    let there : i < shown.indexes = omega (arith, count, h) in
    let read : CanRead shown (index_at schema.indexes i).table snap = record { there = subst (λ (t : ℕ). t < shown.tables) (tied.each i h).over (stored.over i there).table; snapshot = is } in
    subst (CanRead (alone shown snap) (index_at schema.indexes i).table) (sym at) (reads_alone shown snap (index_at schema.indexes i).table read)

pub plan_viewed : (shown : Shown) (schema : Schema) (txns : Transactions) (s : Select) (snap : ℕ) (frozen : Option Frozen) → IsTied shown schema txns → IsStored shown → IsSnapshot shown snap
    → ((c : ColRef) → select_uses s c ≡ true → c.column < shown.columns (table_at s c.place)) → IfSome frozen (IsViewed shown txns.touched snap)
    → CanPlan s schema.indexes (alone shown snap) snap → CanPlan s schema.indexes (seen_at shown snap frozen) snap
plan_viewed shown schema txns s snap None tied stored base fits viewed can = can
plan_viewed shown schema txns s snap (Some f) tied stored base fits viewed can =
    subst (λ (n : ℕ). CanPlan s schema.indexes (overlaid (alone shown snap) f) n) viewed.base
    (plan_over (alone shown snap) f viewed.rows_written s schema.indexes
    (lays_viewed shown snap f viewed.rows_written stored viewed.keeps) (keeps_alone shown snap f viewed.rows_written stored viewed.keeps)
    (λ i h. at_indexes shown schema txns snap i tied h)
    (λ i h. index_read shown schema txns snap f.base i tied stored base viewed.base h)
    (λ c used. own_have shown txns.touched (table_at s c.place) c.column f.changes (fits c used) viewed.changes)
    (subst (λ (n : ℕ). CanPlan s schema.indexes (alone shown snap) n) (sym viewed.base) can))
