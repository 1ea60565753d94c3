-- Pages joined to all rows.
use Rattle.std.proofs.Common.{◌≡◌, ℕ, ◌+◌, ◌-◌, ◌*◌, ◌/◌, ◌<◌, ◌≤◌, List, [], ◌∷◌, ◌++◌, Bool, true, false, not, ◌==◌, cond, refl, ap, sym, ◌∙◌, inl, inr, arith, subst, length, zero, suc, filter, nat_lt, Option, Some, None, append_assoc, append-nil, length-append}
use Rattle.std.proofs.lemmas.Bool.{cases_Bool, cases_lt, cases_eq, and_parts}
use Rattle.std.proofs.lemmas.Bool.Decides.{nat_tests}
use Rattle.std.proofs.lemmas.List.Elements.{filter-append}
use Rattle.std.proofs.lemmas.List.Folds.{list_all-append}
use Rattle.std.specs.List.{list_all, AllByRecursion}
use Rattle.rv_rows.proofs.Merges.{all_kept}
use Rattle.rv_reader.proofs.Rows.{ascend_with}
use Rattle.rv_value.specs.declared.value.Value.{Value}
use Rattle.rv_value.specs.declared.record.Record.{Record}
use Rattle.rv_rows.specs.Rows.{Ascend, comes_below, with_values}
use Rattle.rv_reader.specs.Tables.{page_of, row_at, IsTable}
use Rattle.rv_reader.proofs.Filters.{filter_none, all_filter}
use Rattle.rv_records.specs.Pages.{rows_of, IsPage}

abbrev is_own : ℕ → Record → Bool
is_own n r = r.row.0 / 32 == n

-- Each row of the first pages is below the first number of the next one.

below_more : (low high : ℕ) (rows : List Record) → low ≤ high → list_all (λ (r : Record). nat_lt r.row.0 low) rows ≡ true → list_all (λ (r : Record). nat_lt r.row.0 high) rows ≡ true
below_more low high [] h all = refl
below_more low high (r ∷ rows) h all =
    let parts = and_parts (nat_lt r.row.0 low) (list_all (λ (x : Record). nat_lt x.row.0 low) rows) all in
    let first = parts.0 in
    let here : nat_lt r.row.0 high ≡ true = grind (arith, nat_tests) in
    rw here (below_more low high rows h parts.1)

own_below : (n : ℕ) (rows : List Record) → list_all (is_own n) rows ≡ true → list_all (λ (r : Record). nat_lt r.row.0 (32 * n + 32)) rows ≡ true
own_below n [] all = refl
own_below n (r ∷ rows) all =
    let parts = and_parts (is_own n r) (list_all (is_own n) rows) all in
    let first = parts.0 in
    let here : nat_lt r.row.0 (32 * n + 32) ≡ true = grind (arith, nat_tests) in
    rw here (own_below n rows parts.1)

pub joined_below : (page : ℕ → List Record) → ((n : ℕ) → IsPage n (page n)) → (k : ℕ) → list_all (λ (r : Record). nat_lt r.row.0 (32 * k)) (rows_of page k) ≡ true
joined_below page pages zero = refl
joined_below page pages (suc k) =
    let e : 32 * suc k ≡ 32 * k + 32 = omega arith in
    let front = below_more (32 * k) (32 * k + 32) (rows_of page k) (omega arith) (joined_below page pages k) in
    let back = own_below k (page k) (pages k).own in
    rw (e, list_all-append (λ (r : Record). nat_lt r.row.0 (32 * k + 32)) (rows_of page k) (page k), front) back

-- A page of all rows.

own_all : (n : ℕ) (rows : List Record) → list_all (is_own n) rows ≡ true → page_of rows n ≡ rows
own_all n [] all = refl
own_all n (r ∷ rows) all =
    let parts = and_parts (is_own n r) (list_all (is_own n) rows) all in
    rw (parts.0) (ap (λ rs. r ∷ rs) (own_all n rows parts.1))

own_none : (n k : ℕ) (rows : List Record) → (n ≡ k → ⊥) → list_all (is_own k) rows ≡ true → page_of rows n ≡ []
own_none n k rows other all = filter_none (is_own k) (is_own n) rows all (λ r h. let own = h in grind (arith, nat_tests))

page_out : (page : ℕ → List Record) → ((n : ℕ) → IsPage n (page n)) → (k n : ℕ) → k ≤ n → page_of (rows_of page k) n ≡ []
page_out page pages zero n h = refl
page_out page pages (suc k) n h = rw (filter-append (is_own n) (rows_of page k) (page k), page_out page pages k n (omega arith)) (own_none n k (page k) (λ e. omega arith) (pages k).own)

page_in : (page : ℕ → List Record) → ((n : ℕ) → IsPage n (page n)) → (k n : ℕ) → n < k → page_of (rows_of page k) n ≡ page n
page_in page pages zero n h = absurd (omega arith)
page_in page pages (suc k) n h = elim (cases_eq n k) [
  | inl e ↦ rw (e, filter-append (is_own k) (rows_of page k) (page k), page_out page pages k k (omega arith)) (own_all k (page k) (pages k).own)
  | inr other ↦ rw (filter-append (is_own n) (rows_of page k) (page k), page_in page pages k n (omega arith), own_none n k (page k) other (pages k).own) (append-nil (page n))
]

-- all pages past the count are empty
pub page_joined : (page : ℕ → List Record) (k n : ℕ) → ((m : ℕ) → IsPage m (page m)) → ((m : ℕ) → k ≤ m → page m ≡ []) → page n ≡ page_of (rows_of page k) n
page_joined page k n pages past = elim (cases_lt n k) [
  | inl l ↦ sym (page_in page pages k n l)
  | inr h ↦ past n h ∙ sym (page_out page pages k n h)
]

-- a row is found in its page
pub row_in_page : (rows : List Record) (number : ℕ) → row_at (page_of rows (number / 32)) number ≡ row_at rows number
row_in_page [] number = refl
row_in_page (r ∷ rows) number = elim (cases_Bool (r.row.0 / 32 == number / 32)) [
  | inl t ↦ rw t (step (r.row.0 == number) r (row_at (page_of rows (number / 32)) number) (row_at rows number) (row_in_page rows number))
  | inr f ↦
      let other : r.row.0 == number ≡ false = grind (arith, nat_tests) in
      rw (f, other) (row_in_page rows number)
]
  where
    step : (b : Bool) (x : Record) (a c : Option Record) → a ≡ c → cond b (Some x) a ≡ cond b (Some x) c
    step b x a c e = ap (λ o. cond b (Some x) o) e

-- Joined rows ascend.

all_above : (low : ℕ) (r : Record) (rows : List Record) → r.row.0 < low → list_all (λ (x : Record). not (nat_lt x.row.0 low)) rows ≡ true → list_all (comes_below r) rows ≡ true
all_above low r [] h all = refl
all_above low r (s ∷ rows) h all =
    let parts = and_parts (not (nat_lt s.row.0 low)) (list_all (λ (x : Record). not (nat_lt x.row.0 low)) rows) all in
    let first = parts.0 in
    let here : nat_lt r.row.0 s.row.0 ≡ true = grind (arith, nat_tests) in
    rw here (all_above low r rows h parts.1)

own_from : (n : ℕ) (rows : List Record) → list_all (is_own n) rows ≡ true → list_all (λ (r : Record). not (nat_lt r.row.0 (32 * n))) rows ≡ true
own_from n [] all = refl
own_from n (r ∷ rows) all =
    let parts = and_parts (is_own n r) (list_all (is_own n) rows) all in
    let first = parts.0 in
    let here : not (nat_lt r.row.0 (32 * n)) ≡ true = grind (arith, nat_tests) in
    rw here (own_from n rows parts.1)

ascend_joined : (low : ℕ) (front back : List Record) → Ascend front → Ascend back → list_all (λ (r : Record). nat_lt r.row.0 low) front ≡ true → list_all (λ (r : Record). not (nat_lt r.row.0 low)) back ≡ true → Ascend (front ++ back)
ascend_joined low [] back a b under over = b
ascend_joined low (r ∷ front) back a b under over =
    let parts = and_parts (nat_lt r.row.0 low) (list_all (λ (x : Record). nat_lt x.row.0 low) front) under in
    let first = parts.0 in
    let here : r.row.0 < low = grind (arith, nat_tests) in
    let behind = all_above low r back here over in
    let all : list_all (comes_below r) (front ++ back) ≡ true = rw (list_all-append (comes_below r) front back, a.0) behind in
    (all, ascend_joined low front back a.1 b parts.1 over)

pub joined_ascend : (page : ℕ → List Record) → ((n : ℕ) → IsPage n (page n)) → (k : ℕ) → Ascend (rows_of page k)
joined_ascend page pages zero = tt
joined_ascend page pages (suc k) = ascend_joined (32 * k) (rows_of page k) (page k) (joined_ascend page pages k) (pages k).ascend (joined_below page pages k) (own_from k (page k) (pages k).own)

-- Other pages.

-- only the pages below the count are joined
pub joined_same : (page other : ℕ → List Record) (k : ℕ) → ((n : ℕ) → n < k → page n ≡ other n) → rows_of page k ≡ rows_of other k
joined_same page other zero same = refl
joined_same page other (suc k) same = rw (joined_same page other k (λ n h. same n (omega arith)), same k (omega arith)) refl

-- empty pages add no row
pub joined_more : (page : ℕ → List Record) (k more : ℕ) → ((n : ℕ) → k ≤ n → page n ≡ []) → rows_of page (more + k) ≡ rows_of page k
joined_more page k zero past = let e : 0 + k ≡ k = omega arith in rw e refl
joined_more page k (suc more) past =
    let e : suc more + k ≡ suc (more + k) = omega arith in
    rw (e, past (more + k) (omega arith)) (append-nil (rows_of page (more + k)) ∙ joined_more page k more past)

pub joined_up : (page : ℕ → List Record) (k high : ℕ) → k ≤ high → ((n : ℕ) → k ≤ n → page n ≡ []) → rows_of page high ≡ rows_of page k
joined_up page k high h past =
    let e : high ≡ (high - k) + k = omega arith in
    rw e (joined_more page k (high - k) past)

-- all pages past the one count and past the other are empty
pub joined_to : (page : ℕ → List Record) (k p : ℕ) → ((n : ℕ) → k ≤ n → page n ≡ []) → ((n : ℕ) → p ≤ n → page n ≡ []) → rows_of page k ≡ rows_of page p
joined_to page k p past past_too = elim (cases_lt k p) [
  | inl l ↦ sym (joined_up page k p (omega arith) past)
  | inr h ↦ joined_up page p k h past_too
]

within_all : (high : ℕ) (rows : List Record) → list_all (λ (r : Record). nat_lt r.row.0 high) rows ≡ true → AllByRecursion (λ (r : Record). r.row.0 < high) rows
within_all high [] all = tt
within_all high (r ∷ rows) all =
    let parts = and_parts (nat_lt r.row.0 high) (list_all (λ (x : Record). nat_lt x.row.0 high) rows) all in
    let first = parts.0 in
    let here : r.row.0 < high = grind (arith, nat_tests) in
    (here, within_all high rows parts.1)

pub joined_table : (page : ℕ → List Record) (k p : ℕ) → ((n : ℕ) → IsPage n (page n)) → ((n : ℕ) → k ≤ n → page n ≡ []) → ((n : ℕ) → p ≤ n → page n ≡ []) → IsTable (rows_of page k) p
joined_table page k p pages past past_too = rw (joined_to page k p past past_too) (record {
  ascend = joined_ascend page pages p;
  within = within_all (32 * p) (rows_of page p) (joined_below page pages p);
})

-- Ascending numbers are no more than there are between two.

from_next : (number : ℕ) (rows : List Record) → list_all (λ (x : Record). nat_lt number x.row.0) rows ≡ true → list_all (λ (x : Record). not (nat_lt x.row.0 (number + 1))) rows ≡ true
from_next number [] all = refl
from_next number (r ∷ rows) all =
    let parts = and_parts (nat_lt number r.row.0) (list_all (λ (x : Record). nat_lt number x.row.0) rows) all in
    let first = parts.0 in
    let here : not (nat_lt r.row.0 (number + 1)) ≡ true = grind (arith, nat_tests) in
    rw here (from_next number rows parts.1)

rows_between : (low high : ℕ) (rows : List Record) → low ≤ high → Ascend rows → list_all (λ (r : Record). not (nat_lt r.row.0 low)) rows ≡ true → list_all (λ (r : Record). nat_lt r.row.0 high) rows ≡ true → length rows + low ≤ high
rows_between low high [] order ascend above below = omega arith
rows_between low high (r ∷ rows) order ascend above below =
    let over = and_parts (not (nat_lt r.row.0 low)) (list_all (λ (x : Record). not (nat_lt x.row.0 low)) rows) above in
    let under = and_parts (nat_lt r.row.0 high) (list_all (λ (x : Record). nat_lt x.row.0 high) rows) below in
    let first_over = over.0 in
    let first_under = under.0 in
    let at_least : low ≤ r.row.0 = grind (arith, nat_tests) in
    let at_most : r.row.0 < high = grind (arith, nat_tests) in
    let rest = rows_between (r.row.0 + 1) high rows (omega arith) ascend.1 (from_next r.row.0 rows ascend.0) under.1 in
    omega arith

all_from : (rows : List Record) → list_all (λ (r : Record). not (nat_lt r.row.0 0)) rows ≡ true
all_from [] = refl
all_from (r ∷ rows) = let here : not (nat_lt r.row.0 0) ≡ true = grind (arith, nat_tests) in rw here (all_from rows)

pub joined_few : (page : ℕ → List Record) → ((n : ℕ) → IsPage n (page n)) → (k : ℕ) → length (rows_of page k) ≤ 32 * k
joined_few page pages k =
    let few = rows_between 0 (32 * k) (rows_of page k) (omega arith) (joined_ascend page pages k) (all_from (rows_of page k)) (joined_below page pages k) in
    omega arith

-- One page changed.

with_back : (low number : ℕ) (values : Option (List Value)) (front back : List Record) → low ≤ number → list_all (λ (r : Record). nat_lt r.row.0 low) front ≡ true → with_values number values (front ++ back) ≡ front ++ with_values number values back
with_back low number (Some vs) front back h all =
    let new : Record = record { row = record { 0 = number }; values = vs } in
    let kept = all_kept (λ (r : Record). nat_lt r.row.0 low) (λ (r : Record). comes_below r new) front all (λ r k. let lower = k in grind (arith, nat_tests)) in
    let gone = filter_none (λ (r : Record). nat_lt r.row.0 low) (λ (r : Record). comes_below new r) front all (λ r k. let lower = k in grind (arith, nat_tests)) in
    rw (filter-append (λ (r : Record). comes_below r new) front back, filter-append (λ (r : Record). comes_below new r) front back, kept, gone) (append_assoc front (filter (λ (r : Record). comes_below r new) back) (new ∷ filter (λ (r : Record). comes_below new r) back))
with_back low number None front back h all =
    let kept = all_kept (λ (r : Record). nat_lt r.row.0 low) (λ (r : Record). not (r.row.0 == number)) front all (λ r k. let lower = k in grind (arith, nat_tests)) in
    rw (filter-append (λ (r : Record). not (r.row.0 == number)) front back, kept) refl

with_front : (high number : ℕ) (values : Option (List Value)) (front back : List Record) → number < high → list_all (λ (r : Record). not (nat_lt r.row.0 high)) back ≡ true → with_values number values (front ++ back) ≡ with_values number values front ++ back
with_front high number (Some vs) front back h all =
    let new : Record = record { row = record { 0 = number }; values = vs } in
    let kept = all_kept (λ (r : Record). not (nat_lt r.row.0 high)) (λ (r : Record). comes_below new r) back all (λ r k. let lower = k in grind (arith, nat_tests)) in
    let gone = filter_none (λ (r : Record). not (nat_lt r.row.0 high)) (λ (r : Record). comes_below r new) back all (λ r k. let lower = k in grind (arith, nat_tests)) in
    rw (filter-append (λ (r : Record). comes_below r new) front back, filter-append (λ (r : Record). comes_below new r) front back, kept, gone)
    (rw (append-nil (filter (λ (r : Record). comes_below r new) front)) (sym (append_assoc (filter (λ (r : Record). comes_below r new) front) (new ∷ filter (λ (r : Record). comes_below new r) front) back)))
with_front high number None front back h all =
    let kept = all_kept (λ (r : Record). not (nat_lt r.row.0 high)) (λ (r : Record). not (r.row.0 == number)) back all (λ r k. let lower = k in grind (arith, nat_tests)) in
    rw (filter-append (λ (r : Record). not (r.row.0 == number)) front back, kept) refl

-- another list of pages: one page with a row's values, or without it, and the others as they were
pub record IsChanged (number n : ℕ) (values : Option (List Value)) (old new : ℕ → List Record) : Type 0 where
  pub own : n ≡ number / 32
  pub here : new n ≡ with_values number values (old n)
  pub others : (k : ℕ) → (k ≡ n → ⊥) → new k ≡ old k

pub joined_with : (number n : ℕ) (values : Option (List Value)) (old new : ℕ → List Record) → ((m : ℕ) → IsPage m (old m)) → IsChanged number n values old new → (k : ℕ) → n < k → rows_of new k ≡ with_values number values (rows_of old k)
joined_with number n values old new pages changed zero h = absurd (omega arith)
joined_with number n values old new pages changed (suc k) h =
    let own = changed.own in
    elim (cases_eq n k) [
      | inl e ↦
          let front = joined_same new old k (λ m l. changed.others m (λ same. omega arith)) in
          let back : new k ≡ with_values number values (old k) = subst (λ m. new m ≡ with_values number values (old m)) e changed.here in
          rw (front, back) (sym (with_back (32 * k) number values (rows_of old k) (old k) (omega arith) (joined_below old pages k)))
      | inr other ↦
          let front = joined_with number n values old new pages changed k (omega arith) in
          let back = changed.others k (λ same. other (sym same)) in
          rw (front, back) (sym (with_front (32 * k) number values (rows_of old k) (old k) (omega arith) (own_from k (old k) (pages k).own)))
    ]

pub joined_count : (n : ℕ) (old new : ℕ → List Record) → ((m : ℕ) → (m ≡ n → ⊥) → new m ≡ old m) → (k : ℕ) → n < k → length (rows_of new k) + length (old n) ≡ length (rows_of old k) + length (new n)
joined_count n old new others zero h = absurd (omega arith)
joined_count n old new others (suc k) h =
    elim (cases_eq n k) [
      | inl e ↦
          let front = joined_same new old k (λ m l. others m (λ same. omega arith)) in
          rw (front, e) (omega (arith, length-append (rows_of old k) (new k), length-append (rows_of old k) (old k)))
      | inr other ↦
          let front = joined_count n old new others k (omega arith) in
          let back = others k (λ same. other (sym same)) in
          rw back (omega (arith, length-append (rows_of new k) (old k), length-append (rows_of old k) (old k)))
    ]

-- the changed page is a page
own_with : (number : ℕ) (values : Option (List Value)) (rows : List Record) → list_all (is_own (number / 32)) rows ≡ true → list_all (is_own (number / 32)) (with_values number values rows) ≡ true
own_with number (Some vs) rows all =
    let new : Record = record { row = record { 0 = number }; values = vs } in
    let front = all_filter (is_own (number / 32)) (λ (r : Record). comes_below r new) rows all in
    let back = all_filter (is_own (number / 32)) (λ (r : Record). comes_below new r) rows all in
    let here : number / 32 == number / 32 ≡ true = grind (arith, nat_tests) in
    rw (list_all-append (is_own (number / 32)) (filter (λ (r : Record). comes_below r new) rows) (new ∷ filter (λ (r : Record). comes_below new r) rows), front, here) back
own_with number None rows all = all_filter (is_own (number / 32)) (λ (r : Record). not (r.row.0 == number)) rows all

pub page_with : (number n : ℕ) (values : Option (List Value)) (rows : List Record) → n ≡ number / 32 → IsPage n rows → IsPage n (with_values number values rows)
page_with number n values rows e page =
    let at_own = subst (λ m. IsPage m rows) e page in
    subst (λ m. IsPage m (with_values number values rows)) (sym e) (record {
      ascend = ascend_with number values rows page.ascend;
      own = own_with number values rows at_own.own;
    })
