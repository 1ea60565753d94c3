-- What always holds of record pages, and how a change of the versions keeps it.
use Rattle.std.proofs.Common.{◌≡◌, ℕ, ◌+◌, ◌-◌, ◌/◌, ◌<◌, ◌≤◌, List, [], ◌∷◌, true, false, ◌==◌, refl, ap, sym, ◌∙◌, inl, inr, arith, subst, cond, length, suc, Option, Some, None, max, unwrap_or}
use Rattle.std.specs.Prelude.{nat_le, Result, Ok, Err, OnOk, OnErr}
use Rattle.std.proofs.lemmas.Bool.{cases_lt, cases_eq}
use Rattle.std.proofs.lemmas.Bool.Decides.{nat_tests}
use Rattle.std.proofs.lemmas.List.{get_or_past}
use Rattle.std.specs.List.{slice_index_or}
use Rattle.rv_value.specs.declared.value.Value.{Value}
use Rattle.rv_value.specs.declared.record.Record.{Record}
use Rattle.rv_rows.specs.Rows.{with_values}
use Rattle.rv_reader.specs.Tables.{page_of, row_at, IsTable}
use Rattle.rv_reader.specs.declared.reader.Sizes.{Sizes}
use Rattle.rv_versions.specs.declared.chain.Version.{Version}
use Rattle.rv_versions.specs.Chains.{value_from, value_at, value_of, AllBelow, AllChainsBelow}
use Rattle.rv_records.specs.Pages.{Kept, IsKept, IsPage, AreSizes, IsBelow, IsSame, IsPut, IsWritten, IsTakenBack, page_at, rows_of, rows_at, sizes_at, pages_at, pages_with, no_sizes}
use Rattle.rv_versions.proofs.Values.{chains_more}
use Rattle.rv_records.proofs.Joins.{page_joined, row_in_page, joined_table, joined_few, joined_up, joined_to, joined_with, joined_count, joined_same, page_with, IsChanged}

-- Above all versions the value is that of the last one.

value_above : {T : Type 0} (best : Option T) (commit snap : ℕ) (vs : List (Version T)) → AllBelow (commit + 1) vs → commit ≤ snap → value_from best vs snap ≡ value_from best vs commit
value_above best commit snap [] below h = refl
value_above best commit snap (v ∷ vs) below h =
    let first = below.0 in
    let one : nat_le v.commit snap ≡ true = grind (arith, nat_tests) in
    let two : nat_le v.commit commit ≡ true = grind (arith, nat_tests) in
    rw (one, two) (value_above (Some v.value) commit snap vs below.1 h)

pub value_of_above : {T : Type 0} (chains : List (List (Version T))) (id commit snap : ℕ) → AllChainsBelow (commit + 1) chains → commit ≤ snap → value_of chains id snap ≡ value_of chains id commit
value_of_above chains id commit snap below h = value_above None commit snap (slice_index_or chains id []) (below id) h

value_past : {T : Type 0} (chains : List (List (Version T))) (id snap : ℕ) → length chains ≤ id → value_of chains id snap ≡ None
value_past chains id snap h = ap (λ vs. value_at vs snap) (get_or_past chains id [] h)

pub page_past : (k : Kept) (snap n : ℕ) → length k.pages ≤ n → page_at k snap n ≡ []
page_past k snap n h = ap (λ o. unwrap_or o []) (value_past k.pages n snap h)

-- Reading.

pub page_is : (k : Kept) (snap n : ℕ) → IsKept k → k.horizon ≤ snap → page_at k snap n ≡ page_of (rows_at k snap) n
page_is k snap n kept h = page_joined (page_at k snap) (length k.pages) n (λ m. kept.page snap m h) (λ m. page_past k snap m)

pub row_is : (k : Kept) (snap number : ℕ) → IsKept k → k.horizon ≤ snap → row_at (page_at k snap (number / 32)) number ≡ row_at (rows_at k snap) number
row_is k snap number kept h = ap (λ rows. row_at rows number) (page_is k snap (number / 32) kept h) ∙ row_in_page (rows_at k snap) number

-- no row has a number from 2 ^ 32 on
pub row_past : (k : Kept) (snap number : ℕ) → IsKept k → k.horizon ≤ snap → 4294967296 ≤ number → row_at (rows_at k snap) number ≡ None
row_past k snap number kept h high =
    let few = (kept.sizes snap h).few in
    let none = (kept.sizes snap h).past (number / 32) (omega arith) in
    sym (row_is k snap number kept h) ∙ ap (λ rows. row_at rows number) none

pub table_is : (k : Kept) (snap : ℕ) → IsKept k → k.horizon ≤ snap → IsTable (rows_at k snap) (pages_at k snap)
table_is k snap kept h = joined_table (page_at k snap) (length k.pages) (pages_at k snap) (λ m. kept.page snap m h) (λ m. page_past k snap m) (kept.sizes snap h).past

-- there are no more rows than numbers
pub rows_few : (k : Kept) (snap : ℕ) → IsKept k → k.horizon ≤ snap → length (rows_at k snap) ≤ 4294967296
rows_few k snap kept h =
    let sizes = kept.sizes snap h in
    let most = sizes.few in
    let few = joined_few (page_at k snap) (λ m. kept.page snap m h) (pages_at k snap) in
    rw (joined_to (page_at k snap) (length k.pages) (pages_at k snap) (λ m. page_past k snap m) sizes.past) (omega arith)

-- What a read found.

pub sizes_few : (k : Kept) (snap : ℕ) (s : Sizes) → IsKept k → k.horizon ≤ snap → Some s ≡ value_of k.sizes 0 snap → s.rows ≤ 4294967296
sizes_few k snap s kept h e =
    let same : sizes_at k snap ≡ s = ap (λ o. unwrap_or o no_sizes) (sym e) in
    let rows = (kept.sizes snap h).rows in
    let few = rows_few k snap kept h in
    subst (λ (z : Sizes). z.rows ≤ 4294967296) same (rw rows few)

pub page_read : (k : Kept) (snap n : ℕ) (rows : List Record) → IsKept k → k.horizon ≤ snap → Some rows ≡ value_of k.pages n snap → rows ≡ page_of (rows_at k snap) n
page_read k snap n rows kept h e = ap (λ o. unwrap_or o []) e ∙ page_is k snap n kept h

pub page_none : (k : Kept) (snap n : ℕ) → IsKept k → k.horizon ≤ snap → None ≡ value_of k.pages n snap → [] ≡ page_of (rows_at k snap) n
page_none k snap n kept h e = ap (λ o. unwrap_or o []) e ∙ page_is k snap n kept h

pub page_few : (n : ℕ) (rows page : List Record) → page ≡ page_of rows n → length page ≤ length rows
page_few n rows page e = rw e (fewer rows)
  where
    fewer : (xs : List Record) → length (page_of xs n) ≤ length xs
    fewer [] = omega arith
    fewer (x ∷ xs) =
        let rest = fewer xs in
        elim (x.row.0 / 32 == n) as (λ b. length (cond b (x ∷ page_of xs n) (page_of xs n)) ≤ suc (length xs)) [ true ↦ omega arith | false ↦ omega arith ]

pub row_read : (k : Kept) (snap number n : ℕ) (rows : List Record) → IsKept k → k.horizon ≤ snap → n ≡ number / 32 → Some rows ≡ value_of k.pages n snap → row_at rows number ≡ row_at (rows_at k snap) number
row_read k snap number n rows kept h own e =
    let found : rows ≡ page_at k snap (number / 32) = subst (λ m. rows ≡ page_at k snap m) own (ap (λ o. unwrap_or o []) e) in
    ap (λ rs. row_at rs number) found ∙ row_is k snap number kept h

pub row_none : (k : Kept) (snap number n : ℕ) → IsKept k → k.horizon ≤ snap → n ≡ number / 32 → None ≡ value_of k.pages n snap → None ≡ row_at (rows_at k snap) number
row_none k snap number n kept h own e =
    let found : [] ≡ page_at k snap (number / 32) = subst (λ m. [] ≡ page_at k snap m) own (ap (λ o. unwrap_or o []) e) in
    ap (λ rs. row_at rs number) found ∙ row_is k snap number kept h

-- Two snapshots that agree.

pub record Agree (old : Kept) (before : ℕ) (new : Kept) (after : ℕ) : Type 0 where
  pub page : (n : ℕ) → page_at new after n ≡ page_at old before n
  pub sizes : sizes_at new after ≡ sizes_at old before
  pub longer : length old.pages ≤ length new.pages

agree_rows : (old : Kept) (before : ℕ) (new : Kept) (after : ℕ) → Agree old before new after → rows_of (page_at new after) (length new.pages) ≡ rows_of (page_at old before) (length old.pages)
agree_rows old before new after agree =
    joined_same (page_at new after) (page_at old before) (length new.pages) (λ n h. agree.page n)
    ∙ joined_up (page_at old before) (length old.pages) (length new.pages) agree.longer (λ m. page_past old before m)

pub agree_same : (old : Kept) (before : ℕ) (new : Kept) (after : ℕ) → Agree old before new after → IsSame old before new after
agree_same old before new after agree = record {
  rows = agree_rows old before new after agree;
  pages = ap (λ (s : Sizes). s.pages) agree.sizes;
}

agree_page : (old : Kept) (before : ℕ) (new : Kept) (after n : ℕ) → Agree old before new after → IsKept old → old.horizon ≤ before → IsPage n (page_at new after n)
agree_page old before new after n agree kept h = subst (λ rows. IsPage n rows) (sym (agree.page n)) (kept.page before n h)

agree_sizes : (old : Kept) (before : ℕ) (new : Kept) (after : ℕ) → Agree old before new after → IsKept old → old.horizon ≤ before → AreSizes (page_at new after) (length new.pages) (sizes_at new after)
agree_sizes old before new after agree kept h =
    let sizes = kept.sizes before h in
    record {
      rows = ap (λ (s : Sizes). s.rows) agree.sizes ∙ sizes.rows ∙ ap (λ (rows : List Record). length rows) (sym (agree_rows old before new after agree));
      past = λ n l. agree.page n ∙ sizes.past n (subst (λ (s : Sizes). s.pages ≤ n) agree.sizes l);
      few = subst (λ (s : Sizes). s.pages ≤ 134217728) (sym agree.sizes) sizes.few;
    }

above_agree : (k : Kept) (commit snap : ℕ) → IsBelow (commit + 1) k → commit ≤ snap → Agree k commit k snap
above_agree k commit snap below h = record {
  page = λ n. ap (λ o. unwrap_or o []) (value_of_above k.pages n commit snap below.pages h);
  sizes = ap (λ o. unwrap_or o no_sizes) (value_of_above k.sizes 0 commit snap below.sizes h);
  longer = omega arith;
}

-- above all versions the rows are those of the last commit
pub same_above : (k : Kept) (commit snap : ℕ) → IsBelow (commit + 1) k → commit ≤ snap → IsSame k commit k snap
same_above k commit snap below h = agree_same k commit k snap (above_agree k commit snap below h)

-- A page and the sizes are written.

-- what is written belongs there
pub record IsReady (k : Kept) (number n commit : ℕ) (values : Option (List Value)) (page : List Record) (size : Sizes) : Type 0 where
  pub own : n ≡ number / 32
  pub narrow : number < 4294967296
  pub later : k.horizon < commit
  pub newest : IsBelow (commit + 1) k
  pub page_is : page ≡ with_values number values (page_at k commit n)
  pub pages_is : size.pages ≡ pages_with number values (pages_at k commit)
  pub rows_is : size.rows + length (page_at k commit n) ≡ length (rows_at k commit) + length page

abbrev pub with_versions : Kept → List (List (Version (List Record))) → List (List (Version Sizes)) → Kept
with_versions k pages sizes = record { horizon = k.horizon; pages = pages; sizes = sizes }

other_page : (k : Kept) (n commit : ℕ) (page : List Record) (size : Sizes) (pages : List (List (Version (List Record)))) (sizes : List (List (Version Sizes))) → IsWritten n commit page size k.pages pages k.sizes sizes → (snap m : ℕ) → (m ≡ n → ⊥) → page_at (with_versions k pages sizes) snap m ≡ page_at k snap m
other_page k n commit page size pages sizes written snap m other = ap (λ o. unwrap_or o []) (written.page_put.others m snap other)

new_page : (k : Kept) (n commit : ℕ) (page : List Record) (size : Sizes) (pages : List (List (Version (List Record)))) (sizes : List (List (Version Sizes))) → IsWritten n commit page size k.pages pages k.sizes sizes → (snap : ℕ) → commit ≤ snap → page_at (with_versions k pages sizes) snap n ≡ page
new_page k n commit page size pages sizes written snap h =
    let late : nat_le commit snap ≡ true = grind (arith, nat_tests) in
    ap (λ o. unwrap_or o []) (written.page_put.there snap) ∙ rw late refl

new_size : (k : Kept) (n commit : ℕ) (page : List Record) (size : Sizes) (pages : List (List (Version (List Record)))) (sizes : List (List (Version Sizes))) → IsWritten n commit page size k.pages pages k.sizes sizes → (snap : ℕ) → commit ≤ snap → sizes_at (with_versions k pages sizes) snap ≡ size
new_size k n commit page size pages sizes written snap h =
    let late : nat_le commit snap ≡ true = grind (arith, nat_tests) in
    ap (λ o. unwrap_or o no_sizes) (written.size_put.there snap) ∙ rw late refl

older_agree : (k : Kept) (n commit : ℕ) (page : List Record) (size : Sizes) (pages : List (List (Version (List Record)))) (sizes : List (List (Version Sizes))) → IsWritten n commit page size k.pages pages k.sizes sizes → (snap : ℕ) → snap < commit → Agree k snap (with_versions k pages sizes) snap
older_agree k n commit page size pages sizes written snap h =
    let early : nat_le commit snap ≡ false = grind (arith, nat_tests) in
    let count = written.count in
    record {
      page = λ m. elim (cases_eq m n) [
        | inl e ↦ rw e (ap (λ o. unwrap_or o []) (written.page_put.there snap) ∙ rw early refl)
        | inr other ↦ other_page k n commit page size pages sizes written snap m other
      ];
      sizes = ap (λ o. unwrap_or o no_sizes) (written.size_put.there snap) ∙ rw early refl;
      longer = omega arith;
    }

changed : (k : Kept) (number n commit : ℕ) (values : Option (List Value)) (page : List Record) (size : Sizes) (pages : List (List (Version (List Record)))) (sizes : List (List (Version Sizes))) → IsReady k number n commit values page size → IsWritten n commit page size k.pages pages k.sizes sizes → (snap : ℕ) → commit ≤ snap → IsChanged number n values (page_at k snap) (page_at (with_versions k pages sizes) snap)
changed k number n commit values page size pages sizes ready written snap h = record {
  own = ready.own;
  here = new_page k n commit page size pages sizes written snap h ∙ ready.page_is ∙ ap (with_values number values) (sym ((above_agree k commit snap ready.newest h).page n));
  others = λ m other. other_page k n commit page size pages sizes written snap m other;
}

-- the rows before, over the new count of pages
as_before : (k : Kept) (n commit : ℕ) (page : List Record) (size : Sizes) (pages : List (List (Version (List Record)))) (sizes : List (List (Version Sizes))) → IsWritten n commit page size k.pages pages k.sizes sizes → (snap : ℕ) → rows_of (page_at k snap) (length pages) ≡ rows_at k snap
as_before k n commit page size pages sizes written snap =
    let count = written.count in
    joined_up (page_at k snap) (length k.pages) (length pages) (omega arith) (λ m. page_past k snap m)

past_with : (number n m : ℕ) (values : Option (List Value)) (page : List Record) (size : Sizes) (old : Sizes) → n ≡ number / 32 → size.pages ≡ pages_with number values old.pages → size.pages ≤ n → (old.pages ≤ n → page ≡ []) → with_values number values page ≡ []
past_with number n m (Some vs) page size old own is high past = absurd (omega arith)
past_with number n m None page size old own is high past = rw (past (omega arith)) refl

pages_more : (number : ℕ) (values : Option (List Value)) (pages : ℕ) → pages ≤ pages_with number values pages
pages_more number (Some vs) pages = omega arith
pages_more number None pages = omega arith

pages_few : (number : ℕ) (values : Option (List Value)) (pages : ℕ) → number < 4294967296 → pages ≤ 134217728 → pages_with number values pages ≤ 134217728
pages_few number (Some vs) pages narrow few = omega arith
pages_few number None pages narrow few = few

sizes_after : (k : Kept) (number n commit : ℕ) (values : Option (List Value)) (page : List Record) (size : Sizes) (pages : List (List (Version (List Record)))) (sizes : List (List (Version Sizes))) → IsKept k → IsReady k number n commit values page size → IsWritten n commit page size k.pages pages k.sizes sizes → (snap : ℕ) → commit ≤ snap → AreSizes (page_at (with_versions k pages sizes) snap) (length pages) size
sizes_after k number n commit values page size pages sizes kept ready written snap h =
    let count = written.count in
    let later = ready.later in
    let same = above_agree k commit snap ready.newest h in
    let old = kept.sizes commit (omega arith) in
    let step = joined_count n (page_at k snap) (page_at (with_versions k pages sizes) snap) (λ m other. other_page k n commit page size pages sizes written snap m other) (length pages) (omega arith) in
    let rows_before = ap (λ (rows : List Record). length rows) (as_before k n commit page size pages sizes written snap ∙ (agree_same k commit k snap same).rows) in
    let page_before = ap (λ (rows : List Record). length rows) (same.page n) in
    let page_after = ap (λ (rows : List Record). length rows) (new_page k n commit page size pages sizes written snap h) in
    let rows_is = ready.rows_is in
    let more = pages_more number values (pages_at k commit) in
    let pages_is = ready.pages_is in
    record {
      rows = omega arith;
      past = λ m high. elim (cases_eq m n) [
        | inl e ↦
            let at_n : size.pages ≤ n = omega arith in
            rw e (new_page k n commit page size pages sizes written snap h ∙ ready.page_is ∙ past_with number n m values (page_at k commit n) size (sizes_at k commit) ready.own ready.pages_is at_n (λ l. old.past n l))
        | inr other ↦ other_page k n commit page size pages sizes written snap m other ∙ same.page m ∙ old.past m (omega arith)
      ];
      few = rw pages_is (pages_few number values (pages_at k commit) ready.narrow old.few);
    }

pub put_keeps : (k : Kept) (number n commit : ℕ) (values : Option (List Value)) (page : List Record) (size : Sizes) (pages : List (List (Version (List Record)))) (sizes : List (List (Version Sizes))) → IsKept k → IsReady k number n commit values page size → IsWritten n commit page size k.pages pages k.sizes sizes → IsKept (with_versions k pages sizes)
put_keeps k number n commit values page size pages sizes kept ready written =
    let later = ready.later in
    let count = written.count in
    let few = kept.few in
    let own = ready.own in
    let narrow = ready.narrow in
    record {
      few = omega arith;
      page = λ snap m low. elim (cases_lt snap commit) [
        | inl old ↦ agree_page k snap (with_versions k pages sizes) snap m (older_agree k n commit page size pages sizes written snap old) kept low
        | inr late ↦ elim (cases_eq m n) [
          | inl e ↦ rw e (subst (λ rows. IsPage n rows) (sym (new_page k n commit page size pages sizes written snap late ∙ ready.page_is)) (page_with number n values (page_at k commit n) ready.own (kept.page commit n (omega arith))))
          | inr other ↦ subst (λ rows. IsPage m rows) (sym (other_page k n commit page size pages sizes written snap m other)) (kept.page snap m low)
        ]
      ];
      sizes = λ snap low. elim (cases_lt snap commit) [
        | inl old ↦ agree_sizes k snap (with_versions k pages sizes) snap (older_agree k n commit page size pages sizes written snap old) kept low
        | inr late ↦ subst (λ s. AreSizes (page_at (with_versions k pages sizes) snap) (length pages) s) (sym (new_size k n commit page size pages sizes written snap late)) (sizes_after k number n commit values page size pages sizes kept ready written snap late)
      ];
    }

pub put_is : (k : Kept) (number n commit : ℕ) (values : Option (List Value)) (page : List Record) (size : Sizes) (pages : List (List (Version (List Record)))) (sizes : List (List (Version Sizes))) → IsKept k → IsReady k number n commit values page size → IsWritten n commit page size k.pages pages k.sizes sizes → IsPut number values commit k (with_versions k pages sizes)
put_is k number n commit values page size pages sizes kept ready written =
    let count = written.count in
    let later = ready.later in
    record {
      rows = λ snap late.
          joined_with number n values (page_at k snap) (page_at (with_versions k pages sizes) snap) (λ m. kept.page snap m (omega arith)) (changed k number n commit values page size pages sizes ready written snap late) (length pages) (omega arith)
          ∙ ap (with_values number values) (as_before k n commit page size pages sizes written snap);
      pages = λ snap late.
          ap (λ (s : Sizes). s.pages) (new_size k n commit page size pages sizes written snap late) ∙ ready.pages_is
          ∙ ap (pages_with number values) (sym (agree_same k commit k snap (above_agree k commit snap ready.newest late)).pages);
    }

pub put_older : (k : Kept) (n commit : ℕ) (page : List Record) (size : Sizes) (pages : List (List (Version (List Record)))) (sizes : List (List (Version Sizes))) → IsWritten n commit page size k.pages pages k.sizes sizes → (snap : ℕ) → snap < commit → IsSame k snap (with_versions k pages sizes) snap
put_older k n commit page size pages sizes written snap h = agree_same k snap (with_versions k pages sizes) snap (older_agree k n commit page size pages sizes written snap h)

-- What was written is taken back.

back_older : (k : Kept) (commit : ℕ) (pages : List (List (Version (List Record)))) (sizes : List (List (Version Sizes))) → IsTakenBack commit k.pages pages k.sizes sizes → (snap : ℕ) → snap < commit → Agree k snap (with_versions k pages sizes) snap
back_older k commit pages sizes back snap h = record {
  page = λ n. ap (λ o. unwrap_or o []) (back.older n snap h);
  sizes = ap (λ o. unwrap_or o no_sizes) (back.older_sizes 0 snap h);
  longer = (let count = back.count in omega arith);
}

back_later : (k : Kept) (commit : ℕ) (pages : List (List (Version (List Record)))) (sizes : List (List (Version Sizes))) → IsTakenBack commit k.pages pages k.sizes sizes → 0 < commit → (snap : ℕ) → commit ≤ snap → Agree k (commit - 1) (with_versions k pages sizes) snap
back_later k commit pages sizes back some snap h =
    let e : commit ≡ (commit - 1) + 1 = omega arith in
    let below = subst (λ c. AllChainsBelow c pages) e back.below in
    let below_sizes = subst (λ c. AllChainsBelow c sizes) e back.below_sizes in
    let early : commit - 1 < commit = omega arith in
    let late : commit - 1 ≤ snap = omega arith in
    record {
      page = λ n. ap (λ o. unwrap_or o []) (value_of_above pages n (commit - 1) snap below late ∙ back.older n (commit - 1) early);
      sizes = ap (λ o. unwrap_or o no_sizes) (value_of_above sizes 0 (commit - 1) snap below_sizes late ∙ back.older_sizes 0 (commit - 1) early);
      longer = (let count = back.count in omega arith);
    }

pub back_keeps : (k : Kept) (commit : ℕ) (pages : List (List (Version (List Record)))) (sizes : List (List (Version Sizes))) → IsKept k → k.horizon < commit → IsTakenBack commit k.pages pages k.sizes sizes → IsKept (with_versions k pages sizes)
back_keeps k commit pages sizes kept later back = record {
  few = rw (back.count) kept.few;
  page = λ snap n low. elim (cases_lt snap commit) [
    | inl old ↦ agree_page k snap (with_versions k pages sizes) snap n (back_older k commit pages sizes back snap old) kept low
    | inr late ↦ agree_page k (commit - 1) (with_versions k pages sizes) snap n (back_later k commit pages sizes back (omega arith) snap late) kept (omega arith)
  ];
  sizes = λ snap low. elim (cases_lt snap commit) [
    | inl old ↦ agree_sizes k snap (with_versions k pages sizes) snap (back_older k commit pages sizes back snap old) kept low
    | inr late ↦ agree_sizes k (commit - 1) (with_versions k pages sizes) snap (back_later k commit pages sizes back (omega arith) snap late) kept (omega arith)
  ];
}

pub back_same : (k : Kept) (commit : ℕ) (pages : List (List (Version (List Record)))) (sizes : List (List (Version Sizes))) → IsTakenBack commit k.pages pages k.sizes sizes → (snap : ℕ) → snap < commit → IsSame k snap (with_versions k pages sizes) snap
back_same k commit pages sizes back snap h = agree_same k snap (with_versions k pages sizes) snap (back_older k commit pages sizes back snap h)

pub back_before : (k : Kept) (commit : ℕ) (pages : List (List (Version (List Record)))) (sizes : List (List (Version Sizes))) → IsTakenBack commit k.pages pages k.sizes sizes → k.horizon < commit → (snap : ℕ) → commit ≤ snap → IsSame k (commit - 1) (with_versions k pages sizes) snap
back_before k commit pages sizes back later snap h = agree_same k (commit - 1) (with_versions k pages sizes) snap (back_later k commit pages sizes back (omega arith) snap h)

-- all versions were below the commit that follows, and are now below the commit
pub back_below : (k : Kept) (commit : ℕ) (pages : List (List (Version (List Record)))) (sizes : List (List (Version Sizes))) → IsTakenBack commit k.pages pages k.sizes sizes → IsBelow (commit + 1) (with_versions k pages sizes)
back_below k commit pages sizes back = record {
  pages = chains_more commit (commit + 1) pages back.below (omega arith);
  sizes = chains_more commit (commit + 1) sizes back.below_sizes (omega arith);
}

-- Versions are purged.

purge_agree : (k : Kept) (horizon : ℕ) (pages : List (List (Version (List Record)))) (sizes : List (List (Version Sizes))) → length pages ≡ length k.pages
    → ((n snap : ℕ) → horizon ≤ snap → value_of pages n snap ≡ value_of k.pages n snap) → ((n snap : ℕ) → horizon ≤ snap → value_of sizes n snap ≡ value_of k.sizes n snap)
    → (snap : ℕ) → horizon ≤ snap → Agree k snap (record { horizon = max k.horizon horizon; pages = pages; sizes = sizes }) snap
purge_agree k horizon pages sizes count same same_sizes snap h = record {
  page = λ n. ap (λ o. unwrap_or o []) (same n snap h);
  sizes = ap (λ o. unwrap_or o no_sizes) (same_sizes 0 snap h);
  longer = omega arith;
}

pub purge_keeps : (k : Kept) (horizon : ℕ) (pages : List (List (Version (List Record)))) (sizes : List (List (Version Sizes))) → IsKept k → length pages ≡ length k.pages
    → ((n snap : ℕ) → horizon ≤ snap → value_of pages n snap ≡ value_of k.pages n snap) → ((n snap : ℕ) → horizon ≤ snap → value_of sizes n snap ≡ value_of k.sizes n snap)
    → IsKept (record { horizon = max k.horizon horizon; pages = pages; sizes = sizes })
purge_keeps k horizon pages sizes kept count same same_sizes = record {
  few = rw count kept.few;
  page = λ snap n low. agree_page k snap (record { horizon = max k.horizon horizon; pages = pages; sizes = sizes }) snap n (purge_agree k horizon pages sizes count same same_sizes snap (omega arith)) kept (omega arith);
  sizes = λ snap low. agree_sizes k snap (record { horizon = max k.horizon horizon; pages = pages; sizes = sizes }) snap (purge_agree k horizon pages sizes count same same_sizes snap (omega arith)) kept (omega arith);
}

pub purge_same : (k : Kept) (horizon : ℕ) (pages : List (List (Version (List Record)))) (sizes : List (List (Version Sizes))) → length pages ≡ length k.pages
    → ((n snap : ℕ) → horizon ≤ snap → value_of pages n snap ≡ value_of k.pages n snap) → ((n snap : ℕ) → horizon ≤ snap → value_of sizes n snap ≡ value_of k.sizes n snap)
    → (snap : ℕ) → horizon ≤ snap → IsSame k snap (record { horizon = max k.horizon horizon; pages = pages; sizes = sizes }) snap
purge_same k horizon pages sizes count same same_sizes snap h = agree_same k snap (record { horizon = max k.horizon horizon; pages = pages; sizes = sizes }) snap (purge_agree k horizon pages sizes count same same_sizes snap h)

pub by_result : {A E : Type 0} (r : Result A E) (P Q R : Type 0) → OnOk r P → OnErr r Q → (P → R) → (Q → R) → R
by_result (Ok a) P Q R ok err f g = f ok
by_result (Err e) P Q R ok err f g = g err

pub ok_only : {A E : Type 0} (r : Result A E) (P Q : Type 0) → OnOk r P → (P → Q) → OnOk r Q
ok_only (Ok a) P Q ok f = f ok
ok_only (Err e) P Q ok f = tt

pub below_more : (low high : ℕ) (k : Kept) → IsBelow low k → low ≤ high → IsBelow high k
below_more low high k below h = record {
  pages = chains_more low high k.pages below.pages h;
  sizes = chains_more low high k.sizes below.sizes h;
}
