-- What is kept beside changes, from none on, is kept up with each further one.
use Rattle.std.proofs.Common.{◌≡◌, ℕ, zero, suc, ◌+◌, ◌-◌, ◌<◌, List, [], ◌∷◌, ◌++◌, Bool, true, false, ◌==◌, cond, Option, Some, None, IfSome, inl, inr, refl, ap, sym, subst, ◌∙◌, filter, find, length, nat_lt, arith}
use Rattle.std.specs.Prelude.{slice_get}
use Rattle.std.proofs.lemmas.Bool.{cases_Bool, and_parts}
use Rattle.std.proofs.lemmas.Bool.Decides.{nat_tests}
use Rattle.std.proofs.lemmas.List.Folds.{list_all-append}
use Rattle.std.specs.List.{AllByRecursion, list_all}
use Rattle.std.proofs.lemmas.Option.{same_Some}
use Rattle.rv_reader.proofs.Rows.{applied_ascends}
use Rattle.rv_value.specs.declared.record.Record.{Record}
use Rattle.rv_value.specs.declared.record.IndexEntry.{IndexEntry}
use Rattle.rv_rows.specs.declared.changes.Change.{Change}
use Rattle.rv_rows.specs.Changes.{Rise, is_before, rows_with_changes, touches, with_change}
use Rattle.rv_rows.specs.Rising.{put_in}
use Rattle.rv_rows.specs.Rows as rows_by_number
use Rattle.rv_rows.proofs.Chains.{change_rises}
use Rattle.rv_rows.proofs.Puts.{rising_put}
use Rattle.rv_catalog.specs.declared.def.IndexDef.{IndexDef}
use Rattle.rv_reader.specs.Entries.{Ascend, comes_before, entry_at}
use Rattle.rv_reader.specs.Shown.{Shown, CanRead, CanScan}
use Rattle.rv_reader.specs.Storing.{pages_after}
use Rattle.rv_reader.specs.Tables.{IsTable, row_at}
use Rattle.rv_reader.proofs.Orders.{chain}
use Rattle.rv_overlay.specs.declared.frozen.Frozen.{Frozen}
use Rattle.rv_overlay.specs.declared.frozen.Part.{Part}
use Rattle.rv_overlay.specs.declared.frozen.TableSize.{TableSize}
use Rattle.rv_overlay.specs.Freezing.{KeepsSize}
use Rattle.rv_overlay.specs.Keeping.{added_after, are_same, moved, taken_after, with_some, without_some}
use Rattle.rv_overlay.specs.Overlaid.{part_at, size_of}
use Rattle.rv_overlay.specs.Rows.{change_of, changed_row}
use Rattle.rv_overlay.proofs.Moving.{find_back, find_front, find_kept, find_left, keeps_up, nothing_kept, others_keep_up}
use Rattle.rv_overlay.proofs.Tabling.{row_applied, rows_untouched}
use Rattle.rv_view.specs.Making.{AreIndexes, Keeps, KeepsPart, by_table, empty_part, empty_parts, last_of, one_if, pages_up, part_after, parts_after, rows_or, size_after, unchanged, written_after, written_of}
use Rattle.rv_view.proofs.Rows.{applied_other, applied_own, length_with, pages_fit, pages_other, touches_other}
use Rattle.rv_view.proofs.Written.{pages_written, written_with}

-- The lists of one index ascend.

drop_middle : (xs : List IndexEntry) (e : IndexEntry) (ys : List IndexEntry) → Ascend (xs ++ e ∷ ys) → Ascend (xs ++ ys)
drop_middle [] e ys ascend = ascend.1
drop_middle (x ∷ xs) e ys ascend =
    let parts = and_parts (list_all (comes_before x) xs) (list_all (comes_before x) (e ∷ ys)) (sym (list_all-append (comes_before x) xs (e ∷ ys)) ∙ ascend.0) in
    let rest = and_parts (comes_before x e) (list_all (comes_before x) ys) parts.1 in
    let all : list_all (comes_before x) (xs ++ ys) ≡ true = rw (list_all-append (comes_before x) xs ys, parts.0) rest.1 in
    (all, drop_middle xs e ys ascend.1)

with_ascends : (o : Option IndexEntry) (xs : List IndexEntry) → Ascend xs → Ascend (with_some o xs)
with_ascends None xs ascend = ascend
with_ascends (Some e) xs ascend = rising_put comes_before chain e xs ascend

without_ascends : (o : Option IndexEntry) (xs : List IndexEntry) → Ascend xs → Ascend (without_some o xs)
without_ascends None xs ascend = ascend
without_ascends (Some e) xs ascend = drop_middle (filter (λ x. comes_before x e) xs) e (filter (λ x. comes_before e x) xs) (rising_put comes_before chain e xs ascend)

taken_ascends : (base new : Option IndexEntry) (xs : List IndexEntry) → Ascend xs → Ascend (taken_after base new xs)
taken_ascends base new xs ascend = elim (are_same base new) as (λ b. Ascend (cond b (without_some base xs) (with_some base xs))) [
  | true ↦ without_ascends base xs ascend
  | false ↦ with_ascends base xs ascend
]

added_ascends : (base old new : Option IndexEntry) (xs : List IndexEntry) → Ascend xs → Ascend (added_after base old new xs)
added_ascends base old new xs ascend = elim (are_same base new) as (λ b. Ascend (cond b (without_some old xs) (with_some new (without_some old xs)))) [
  | true ↦ without_ascends old xs ascend
  | false ↦ with_ascends new (without_some old xs) (without_ascends old xs ascend)
]

-- What is kept of one index, by the rows of each table.

part_kept : (d : IndexDef) (c : Change) (changes : List Change) (rows : ℕ → List Record) (part : Part) → KeepsPart d.columns d.table changes (rows d.table) part
    → let base = row_at (rows c.table) c.row.0 in
    KeepsPart d.columns d.table (with_change c changes) (rows d.table)
    (part_after d c.table base (changed_row (change_of c.table c.row.0 changes) base) (changed_row (Some c) None) part)
part_kept d c changes rows part keeps =
    let base = row_at (rows c.table) c.row.0 in
    let old = changed_row (change_of c.table c.row.0 changes) base in
    let new = changed_row (Some c) None in
    let next = moved (entry_at d.columns base) (entry_at d.columns old) (entry_at d.columns new) part in
    elim (cases_Bool (d.table == c.table)) [
      | inl t ↦
          let same : d.table ≡ c.table = grind (arith, nat_tests) in
          let here : KeepsPart d.columns c.table changes (rows c.table) part = subst (λ n. KeepsPart d.columns n changes (rows n) part) same keeps in
          let after : KeepsPart d.columns c.table (with_change c changes) (rows c.table) next = record {
            width = here.width;
            taken = taken_ascends (entry_at d.columns base) (entry_at d.columns new) part.taken here.taken;
            added = added_ascends (entry_at d.columns base) (entry_at d.columns old) (entry_at d.columns new) part.added here.added;
            freezes = keeps_up d.columns c changes (rows c.table) part here.freezes;
          } in
          subst (λ b. KeepsPart d.columns d.table (with_change c changes) (rows d.table) (cond b next part)) (sym t) (subst (λ n. KeepsPart d.columns n (with_change c changes) (rows n) next) (sym same) after)
      | inr f ↦
          let other : c.table == d.table ≡ false = grind (arith, nat_tests) in
          subst (λ b. KeepsPart d.columns d.table (with_change c changes) (rows d.table) (cond b next part)) (sym f) (record {
            width = keeps.width;
            taken = keeps.taken;
            added = keeps.added;
            freezes = others_keep_up d.columns d.table c changes (rows d.table) part.taken part.added other keeps.freezes;
          })
    ]

-- The parts, by place.

pub parts_length : (ds : List IndexDef) (table : ℕ) (base old new : Option Record) (ps : List Part) → length (parts_after ds table base old new ps) ≡ length ps
parts_length [] table base old new ps = refl
parts_length (d ∷ ds) table base old new [] = refl
parts_length (d ∷ ds) table base old new (p ∷ ps) = ap (λ n. suc n) (parts_length ds table base old new ps)

parts_at : (ds : List IndexDef) (table : ℕ) (base old new : Option Record) (ps : List Part) (i : ℕ) (d : IndexDef) → slice_get ds i ≡ Some d → i < length ps
    → part_at (parts_after ds table base old new ps) i ≡ part_after d table base old new (part_at ps i)
parts_at [] table base old new ps i d is low = cc
parts_at (e ∷ ds) table base old new [] i d is low = absurd (omega (arith, low))
parts_at (e ∷ ds) table base old new (p ∷ ps) zero d is low = ap (λ x. part_after x table base old new p) (same_Some e d is)
parts_at (e ∷ ds) table base old new (p ∷ ps) (suc i) d is low = parts_at ds table base old new ps i d is (omega (arith, low))

-- Sizes, by table.

size_put : (table : ℕ) (s : TableSize) (sizes : List TableSize) → size_of table (put_in by_table s sizes) ≡ cond (s.table == table) (Some s) (size_of table sizes)
size_put table s sizes =
    let p = λ (x : TableSize). x.table == table in
    let front = filter (λ x. by_table x s) sizes in
    let back = filter (λ x. by_table s x) sizes in
    elim (cases_Bool (s.table == table)) [
      | inl t ↦
          let none : find p front ≡ None = find_left p (λ x. by_table x s) (λ x h. grind (arith, nat_tests)) sizes in
          find_back p front (s ∷ back) none ∙ rw t refl
      | inr f ↦ elim (cases_Bool (nat_lt table s.table)) [
        | inl low ↦
            let none : find p back ≡ None = find_left p (λ x. by_table s x) (λ x h. grind (arith, nat_tests)) sizes in
            find_front p front (s ∷ back) (rw f none) ∙ rw f (find_kept p (λ x. by_table x s) (λ x h. grind (arith, nat_tests)) sizes)
        | inr high ↦
            let none : find p front ≡ None = find_left p (λ x. by_table x s) (λ x h. grind (arith, nat_tests)) sizes in
            find_back p front (s ∷ back) none ∙ rw f (find_kept p (λ x. by_table s x) (λ x h. grind (arith, nat_tests)) sizes)
      ]
    ]

-- the rows told of a table are those of the view
pub rows_are : (rows : List Record) (pages table : ℕ) (changes : List Change) (size : Option TableSize) → IfSome size (KeepsSize rows pages table changes) → (size ≡ None → touches table changes ≡ false)
    → rows_or (length rows) size ≡ length (rows_with_changes table changes rows)
rows_are rows pages table changes None keeps other = ap length (sym (rows_untouched table changes rows (other refl)))
rows_are rows pages table changes (Some s) keeps other = keeps.rows_told

size_own : (rows : List Record) (pages : ℕ) (c : Change) (changes written : List Change) (sizes : List TableSize) → IsTable rows pages → pages < 4294967296 → Rise changes → AllByRecursion (λ (d : Change). d.row.0 < 4294967296) (with_change c changes) → written ≡ written_of changes
    → IfSome (size_of c.table sizes) (KeepsSize rows pages c.table changes) → (size_of c.table sizes ≡ None → touches c.table changes ≡ false)
    → let base = row_at rows c.row.0 in
    KeepsSize rows pages c.table (with_change c changes)
    (size_after c.table (length rows) pages (changed_row (change_of c.table c.row.0 changes) base) (changed_row (Some c) None) (written_after c written) sizes)
size_own rows pages c changes written sizes stands small rise low told keeps other =
    let view = rows_with_changes c.table changes rows in
    let before = row_applied c.table c.row.0 changes rows rise in
    let size = rows_are rows pages c.table changes (size_of c.table sizes) keeps other in
    let more = length_with c view (applied_ascends c.table changes rows stands.ascend) in
    let old = ap one_if before in
    let after = ap length (applied_own c changes rows stands.ascend rise) in
    let its : Option Record = changed_row (change_of c.table c.row.0 changes) (row_at rows c.row.0) in
    let sum : rows_or (length rows) (size_of c.table sizes) + one_if (changed_row (Some c) None) - one_if its ≡ length (rows_with_changes c.table (with_change c changes) rows) = omega (arith, size, more, old, after) in
    let told_pages : pages_up (last_of c.table (written_after c written)) pages ≡ pages_after c.table (with_change c changes) pages =
    ap (λ w. pages_up (last_of c.table w) pages) (ap (written_after c) told ∙ sym (written_with c changes)) ∙ sym (pages_written c.table (with_change c changes) pages (change_rises c changes rise)) in
    record {
      stands = stands;
      rows_told = sum;
      pages_told = told_pages;
      few = subst (λ n. n < 4294967296) (sym told_pages) (pages_fit c.table (with_change c changes) pages small low);
    }

size_other : (rows : List Record) (pages table : ℕ) (c : Change) (changes : List Change) (size : Option TableSize) → c.table == table ≡ false → Rise changes
    → IfSome size (KeepsSize rows pages table changes) → IfSome size (KeepsSize rows pages table (with_change c changes))
size_other rows pages table c changes None f rise keeps = tt
size_other rows pages table c changes (Some s) f rise keeps = record {
  stands = keeps.stands;
  rows_told = keeps.rows_told ∙ ap length (sym (applied_other table c changes rows f keeps.stands.ascend rise));
  pages_told = keeps.pages_told ∙ sym (pages_other table c changes pages f rise);
  few = keeps.few;
}

pub all_put : (P : Change → Type 0) (c : Change) (cs : List Change) → P c → AllByRecursion P cs → AllByRecursion P (with_change c cs)
all_put P c cs own all = joined (filter (λ d. is_before d c) cs) (c ∷ filter (λ d. is_before c d) cs) (kept (λ d. is_before d c) cs all) (own, kept (λ d. is_before c d) cs all)
  where
    kept : (t : Change → Bool) (ds : List Change) → AllByRecursion P ds → AllByRecursion P (filter t ds)
    kept t [] all = tt
    kept t (d ∷ ds) all =
        let rest = kept t ds all.1 in
        elim (t d) as (λ b. AllByRecursion P (cond b (d ∷ filter t ds) (filter t ds))) [ true ↦ (all.0, rest) | false ↦ rest ]

    joined : (xs ys : List Change) → AllByRecursion P xs → AllByRecursion P ys → AllByRecursion P (xs ++ ys)
    joined [] ys h k = k
    joined (x ∷ xs) ys h k = (h.0, joined xs ys h.1 k)

-- What follows of one change, computed: the indexes, the change, the rows and pages of its table at the base.

abbrev pub kept_on : List IndexDef → Change → List Record → ℕ → List Change → Frozen → Frozen
kept_on indexes c rows pages written f =
    let base = row_at rows c.row.0 in
    let old = changed_row (change_of c.table c.row.0 f.changes) base in
    let new = changed_row (Some c) None in
    record f {
      changes = with_change c f.changes;
      sizes = put_in by_table (size_after c.table (length rows) pages old new (written_after c written) f.sizes) f.sizes;
      parts = parts_after indexes c.table base old new f.parts;
    }

get_of : {X : Type 0} {Y : Type 0} (xs : List X) (i : ℕ) → i < length xs → ((x : X) → slice_get xs i ≡ Some x → Y) → Y
get_of [] i low k = absurd (omega (arith, low))
get_of (x ∷ xs) zero low k = k x refl
get_of (x ∷ xs) (suc i) low k = get_of xs i (omega (arith, low)) k

each_kept : (shown : Shown) (indexes : List IndexDef) (c : Change) (f : Frozen) (written : List Change) (index : ℕ) (d : IndexDef) → AreIndexes shown indexes → Keeps shown f written
    → CanScan shown index f.base → slice_get indexes index ≡ Some d
    → let base = row_at (shown.rows c.table f.base) c.row.0 in
    KeepsPart (shown.keys index) (shown.over index) (with_change c f.changes) (shown.rows (shown.over index) f.base)
    (part_at (parts_after indexes c.table base (changed_row (change_of c.table c.row.0 f.changes) base) (changed_row (Some c) None) f.parts) index)
each_kept shown indexes c f written index d are keeps there is =
    let base = row_at (shown.rows c.table f.base) c.row.0 in
    let old = changed_row (change_of c.table c.row.0 f.changes) base in
    let new = changed_row (Some c) None in
    let inside : index < length f.parts = (let below = there.there in let count = keeps.parts in omega (arith, below, count)) in
    let keys = are.keys index d is in
    let over = are.over index d is in
    let part = part_at f.parts index in
    let next = part_at (parts_after indexes c.table base old new f.parts) index in
    let own : KeepsPart d.columns (shown.over index) f.changes (shown.rows (shown.over index) f.base) part =
    subst (λ k. KeepsPart k (shown.over index) f.changes (shown.rows (shown.over index) f.base) part) keys (keeps.each index there) in
    let before : KeepsPart d.columns d.table f.changes (shown.rows d.table f.base) part = subst (λ t. KeepsPart d.columns t f.changes (shown.rows t f.base) part) over own in
    let after = part_kept d c f.changes (λ t. shown.rows t f.base) part before in
    let here : KeepsPart d.columns d.table (with_change c f.changes) (shown.rows d.table f.base) next =
    subst (KeepsPart d.columns d.table (with_change c f.changes) (shown.rows d.table f.base)) (sym (parts_at indexes c.table base old new f.parts index d is inside)) after in
    subst (λ k. KeepsPart k (shown.over index) (with_change c f.changes) (shown.rows (shown.over index) f.base) next) (sym keys)
    (subst (λ t. KeepsPart d.columns t (with_change c f.changes) (shown.rows t f.base) next) (sym over) here)

pub stays_kept : (shown : Shown) (indexes : List IndexDef) (c : Change) (f : Frozen) (written : List Change)
    → AreIndexes shown indexes → CanRead shown c.table f.base → IsTable (shown.rows c.table f.base) (shown.pages c.table f.base) → shown.pages c.table f.base < 4294967296 → c.row.0 < 4294967296 → Keeps shown f written
    → Keeps shown (kept_on indexes c (shown.rows c.table f.base) (shown.pages c.table f.base) written f) (written_after c written)
stays_kept shown indexes c f written are can stands small low keeps =
    let rows = shown.rows c.table f.base in
    let pages = shown.pages c.table f.base in
    let base = row_at rows c.row.0 in
    let old = changed_row (change_of c.table c.row.0 f.changes) base in
    let new = changed_row (Some c) None in
    let size = size_after c.table (length rows) pages old new (written_after c written) f.sizes in
    let lows = all_put (λ (d : Change). d.row.0 < 4294967296) c f.changes low keeps.low in
    record {
      rise = change_rises c f.changes keeps.rise;
      low = lows;
      told = ap (written_after c) keeps.told ∙ sym (written_with c f.changes);
      parts = parts_length indexes c.table base old new f.parts ∙ keeps.parts;
      each = λ index there. get_of indexes index (let below = there.there in let count = are.count in omega (arith, below, count))
          (λ d is. each_kept shown indexes c f written index d are keeps there is);
      sized = λ table there. elim (cases_Bool (c.table == table)) [
        | inl t ↦
            let same : c.table ≡ table = grind (arith, nat_tests) in
            subst (λ n. IfSome (size_of n (put_in by_table size f.sizes)) (KeepsSize (shown.rows n f.base) (shown.pages n f.base) n (with_change c f.changes))) same
            (subst (λ o. IfSome o (KeepsSize rows pages c.table (with_change c f.changes))) (sym (size_put c.table size f.sizes ∙ own_size size))
            (size_own rows pages c f.changes written f.sizes stands small keeps.rise lows keeps.told (keeps.sized c.table can) (keeps.others c.table)))
        | inr g ↦
            subst (λ o. IfSome o (KeepsSize (shown.rows table f.base) (shown.pages table f.base) table (with_change c f.changes))) (sym (size_put table size f.sizes ∙ ap (λ b. cond b (Some size) (size_of table f.sizes)) g))
            (size_other (shown.rows table f.base) (shown.pages table f.base) table c f.changes (size_of table f.sizes) g keeps.rise (keeps.sized table there))
      ];
      others = λ table none. elim (cases_Bool (c.table == table)) [
        | inl t ↦ (let no : Some size ≡ None = sym (size_put table size f.sizes ∙ ap (λ b. cond b (Some size) (size_of table f.sizes)) t) ∙ none in cc)
        | inr g ↦ touches_other table c f.changes g (keeps.others table (sym (size_put table size f.sizes ∙ ap (λ b. cond b (Some size) (size_of table f.sizes)) g) ∙ none))
      ];
    }
  where
    own_size : (s : TableSize) → cond (s.table == s.table) (Some s) (size_of s.table f.sizes) ≡ Some s
    own_size s = let here : s.table == s.table ≡ true = grind (arith, nat_tests) in ap (λ b. cond b (Some s) (size_of s.table f.sizes)) here

-- Nothing is kept beside no change.

empty_length : (ds : List IndexDef) → length (empty_parts ds) ≡ length ds
empty_length [] = refl
empty_length (d ∷ ds) = ap (λ n. suc n) (empty_length ds)

empty_at : (ds : List IndexDef) (i : ℕ) (d : IndexDef) → slice_get ds i ≡ Some d → part_at (empty_parts ds) i ≡ empty_part d
empty_at [] i d is = cc
empty_at (e ∷ ds) zero d is = ap empty_part (same_Some e d is)
empty_at (e ∷ ds) (suc i) d is = empty_at ds i d is

pub starts_kept : (shown : Shown) (indexes : List IndexDef) (base : ℕ) → AreIndexes shown indexes → Keeps shown (unchanged base indexes) []
starts_kept shown indexes base are = record {
  rise = tt;
  low = tt;
  told = refl;
  parts = empty_length indexes ∙ sym are.count;
  each = λ index there. get_of indexes index (let below = there.there in let count = are.count in omega (arith, below, count))
      (λ d is.
      let keys = are.keys index d is in
      let part = empty_part d in
      let rows = shown.rows (shown.over index) base in
      let empty : KeepsPart d.columns (shown.over index) [] rows part = record { width = refl; taken = tt; added = tt; freezes = nothing_kept d.columns (shown.over index) rows } in
      subst (λ k. KeepsPart k (shown.over index) [] rows (part_at (empty_parts indexes) index)) (sym keys)
      (subst (KeepsPart d.columns (shown.over index) [] rows) (sym (empty_at indexes index d is)) empty));
  sized = λ table there. tt;
  others = λ table none. refl;
}
