-- Entries put in their places, one after another.
use Rattle.std.proofs.Common.{◌≡◌, ◌+◌, List, [], ◌∷◌, ◌++◌, Bool, true, false, not, cond, inl, inr, refl, ap, sym, ◌∙◌, filter}
use Rattle.std.proofs.lemmas.Bool.{cases_Bool, and_parts}
use Rattle.std.specs.List.{list_all}
use Rattle.std.specs.Ordering.{is_eq, is_lt}
use Rattle.std.specs.declared.cmp.Ordering.{Ordering}
use Rattle.std.specs.declared.cmp.Ordering.TheVariants.{Less, Equal, Greater}
use Rattle.std.proofs.lemmas.List.Elements.{filter-append}
use Rattle.rv_value.proofs.Lists.{filter_passes, all_true}
use Rattle.rv_value.specs.declared.record.IndexEntry.{IndexEntry}
use Rattle.rv_value.specs.Entries.{entry_cmp}
use Rattle.rv_rows.specs.Rising.{put_in}
use Rattle.rv_rows.proofs.Merges.{all_kept}
use Rattle.rv_rows.proofs.Puts.{rising_put, rising_filter}
use Rattle.rv_rows.proofs.Filters.{filters_turn}
use Rattle.rv_reader.specs.Entries.{comes_before, Ascend}
use Rattle.rv_reader.proofs.Filters.{filter_same, rising_cut}
use Rattle.rv_reader.proofs.Orders.{one_way, chain, stays_above}
use Rattle.rv_reader.proofs.Sorting.{same, equal_entries}
use Rattle.rv_overlay.specs.Laying.{has, with_all}

-- Places.

-- with an entry in its place
pub put_ascends : (e : IndexEntry) (xs : List IndexEntry) → Ascend xs → Ascend (put_in comes_before e xs)
put_ascends e xs ascend = rising_put comes_before chain e xs ascend

-- Filters.

-- entries that are other than one are before it or behind it
apart : (e x : IndexEntry) → (x ≡ e → true ≡ false) → not (comes_before x e) ≡ comes_before e x
apart e x other = elim (cases_Bool (comes_before x e)) [
  | inl t ↦ rw (t, one_way x e t) refl
  | inr f ↦ elim (cases_Bool (comes_before e x)) [
    | inl u ↦ rw (f, u) refl
    | inr g ↦ let no = other (same x e f g) in cc
  ]
]

-- where all are other than one, they are those before it and those behind it
around : (q : IndexEntry → Bool) (e : IndexEntry) (xs : List IndexEntry) → Ascend xs → list_all q xs ≡ true → q e ≡ false → filter (λ x. comes_before x e) xs ++ filter (λ x. comes_before e x) xs ≡ xs
around q e xs ascend all out =
    let cut = rising_cut comes_before (λ (x : IndexEntry). true) (λ x. comes_before x e) (stays_above e) xs ascend in
    let whole = all_kept (λ (x : IndexEntry). true) (λ (x : IndexEntry). true) xs (all_true xs) (λ x h. refl) in
    let back = filter_same q (λ x. not (comes_before x e)) (λ x. comes_before e x) xs all (λ x h. apart e x (λ is. sym h ∙ ap q is ∙ out)) in
    ap (λ ys. filter (λ x. comes_before x e) xs ++ ys) (sym back) ∙ sym cut ∙ whole

pub filter_put : (p : IndexEntry → Bool) (e : IndexEntry) (xs : List IndexEntry) → Ascend xs → filter p (put_in comes_before e xs) ≡ cond (p e) (put_in comes_before e (filter p xs)) (filter p xs)
filter_put p e xs ascend =
    let front = filters_turn p (λ x. comes_before x e) xs in
    let back = filters_turn p (λ x. comes_before e x) xs in
    filter-append p (filter (λ x. comes_before x e) xs) (e ∷ filter (λ x. comes_before e x) xs)
    ∙ elim (cases_Bool (p e)) [
      | inl t ↦ rw (t, front, back) refl
      | inr f ↦ rw (f, front, back) (around p e (filter p xs) (rising_filter comes_before p xs ascend) (filter_passes p xs) f)
    ]

pub with_ascends : (es xs : List IndexEntry) → Ascend xs → Ascend (with_all es xs)
with_ascends [] xs ascend = ascend
with_ascends (e ∷ es) xs ascend = with_ascends es (put_in comes_before e xs) (put_ascends e xs ascend)

pub filter_with : (p : IndexEntry → Bool) (es xs : List IndexEntry) → Ascend xs → filter p (with_all es xs) ≡ with_all (filter p es) (filter p xs)
filter_with p [] xs ascend = refl
filter_with p (e ∷ es) xs ascend =
    filter_with p es (put_in comes_before e xs) (put_ascends e xs ascend)
    ∙ ap (with_all (filter p es)) (filter_put p e xs ascend)
    ∙ elim (p e) as (λ b. with_all (filter p es) (cond b (put_in comes_before e (filter p xs)) (filter p xs)) ≡ with_all (cond b (e ∷ filter p es) (filter p es)) (filter p xs)) [ true ↦ refl | false ↦ refl ]

-- one more is put in last
pub with_last : (es xs : List IndexEntry) (e : IndexEntry) → with_all (es ++ e ∷ []) xs ≡ put_in comes_before e (with_all es xs)
with_last [] xs e = refl
with_last (d ∷ es) xs e = with_last es (put_in comes_before d xs) e

-- An entry that is there already.

pub not_among : (e : IndexEntry) (xs : List IndexEntry) → has xs e ≡ false → list_all (λ (x : IndexEntry). not (is_eq (entry_cmp x e))) xs ≡ true
not_among e [] h = refl
not_among e (x ∷ xs) h = elim (cases_Bool (is_eq (entry_cmp x e))) [
  | inl t ↦ let no : true ≡ false = rw t at h in cc
  | inr f ↦ rw f (not_among e xs (rw f at h))
]

pub equal_is : (x e : IndexEntry) → is_eq (entry_cmp x e) ≡ true → comes_before x e ≡ false
equal_is x e h = by (entry_cmp x e) h
  where
    by : (o : Ordering) → is_eq o ≡ true → is_lt o ≡ false
    by Less h = cc
    by Equal h = refl
    by Greater h = cc

-- an entry among those that one comes before
pub before_found : (x e : IndexEntry) (xs : List IndexEntry) → list_all (comes_before x) xs ≡ true → has xs e ≡ true → comes_before x e ≡ true
before_found x e [] all h = cc
before_found x e (y ∷ ys) all h =
    let parts = and_parts (comes_before x y) (list_all (comes_before x) ys) all in
    elim (cases_Bool (is_eq (entry_cmp y e))) [
      | inl t ↦ sym (ap (comes_before x) (equal_entries y e t)) ∙ parts.0
      | inr f ↦ before_found x e ys parts.1 (rw f at h)
    ]
