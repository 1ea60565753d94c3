-- Runs of a list that two tests find, and what stands in a place of it.
use Rattle.std.proofs.Common.{◌≡◌, ℕ, zero, suc, ◌+◌, ◌-◌, ◌*◌, ◌/◌, ◌≤◌, List, [], ◌∷◌, Bool, true, false, not, ◌&&◌, ◌||◌, ◌==◌, cond, Option, Some, None, is_some, inl, inr, refl, ap, sym, ◌∙◌, filter, find, take, drop, length, arith, nat_lt}
use Rattle.std.specs.Prelude.{slice_get, slice_set}
use Rattle.std.proofs.lemmas.Bool.{cases_Bool, and_parts, not-true}
use Rattle.std.proofs.lemmas.Bool.Decides.{nat_tests}
use Rattle.std.specs.List.{list_all}
use Rattle.std.specs.List.Sorted.{IsPartitionedBy}
use Rattle.std.specs.Ordering.{is_eq, is_lt, nat_cmp, ordering_reverse, ordering_then}
use Rattle.std.specs.declared.cmp.Ordering.{Ordering}
use Rattle.std.specs.declared.cmp.Ordering.TheVariants.{Less, Equal, Greater}
use Rattle.std.proofs.lemmas.List.Elements.{filter_agree}
use Rattle.std.proofs.lemmas.Option.{slice_get_within}
use Rattle.std.proofs.Math.Bool.{and-true}
use Rattle.rv_value.proofs.Lists.{filter_passes, all_true}
use Rattle.rv_value.specs.declared.record.IndexEntry.{IndexEntry}
use Rattle.rv_value.specs.declared.range.Range.{Range}
use Rattle.rv_value.specs.declared.range.Side.{Side}
use Rattle.rv_value.specs.declared.range.Side.TheVariants.{Before, In, After}
use Rattle.rv_value.specs.Entries.{entry_cmp}
use Rattle.rv_value.specs.Orders.{entry_cmp_total}
use Rattle.rv_value.specs.Ranges.{in_side, place}
use Rattle.rv_value.proofs.Places.{put_back, read_as}
use Rattle.rv_rows.specs.declared.changes.Change.{Change}
use Rattle.rv_rows.specs.Changes.{Rise, is_before, is_of}
use Rattle.rv_rows.specs.Rising.{put_in}
use Rattle.rv_rows.proofs.Cuts.{partitioned}
use Rattle.rv_blocks.specs.Flat.{Turns}
use Rattle.rv_blocks.specs.Orders.{change_cmp}
use Rattle.rv_blocks.specs.Taking.{is_level, standing}
use Rattle.rv_blocks.proofs.Order.{over}
use Rattle.rv_reader.specs.Entries.{comes_before, run, is_in, Ascend, AreLong}
use Rattle.rv_reader.specs.Halves.{PassesTo}
use Rattle.rv_reader.specs.Leaves.{after_side, before_side, is_from}
use Rattle.rv_reader.proofs.Chunks.{is_long}
use Rattle.rv_reader.proofs.Orders.{follows, key_not, one_way, order}
use Rattle.rv_reader.proofs.Sides.{before_along, after_along}
use Rattle.rv_reader.proofs.Sorting.{same}
use Rattle.rv_overlay.specs.declared.frozen.TableSize.{TableSize}
use Rattle.rv_overlay.specs.Fronts.{is_before_page, is_early, is_on, is_until, is_until_page}
use Rattle.rv_overlay.specs.Laying.{first_not, has, marks, sixteenths}
use Rattle.rv_reader.specs.Leaves.{is_below, is_taken}
use Rattle.rv_overlay.specs.Overlaid.{size_of}
use Rattle.rv_overlay.specs.Rows.{change_of}

-- Fronts.

passes_to : {X : Type 0} (p : X → Bool) (n : ℕ) (xs : List X) → list_all p (take n xs) ≡ true → list_all (λ x. not (p x)) (drop n xs) ≡ true → PassesTo p n xs
passes_to p n [] h k = tt
passes_to p zero (x ∷ xs) h k = let parts = and_parts (not (p x)) (list_all (λ y. not (p y)) xs) k in (not-true (p x) parts.0, passes_to p zero xs refl parts.1)
passes_to p (suc n) (x ∷ xs) h k = let parts = and_parts (p x) (list_all p (take n xs)) h in (parts.0, passes_to p n xs parts.1 k)

counted : {X : Type 0} (p : X → Bool) (n : ℕ) (xs : List X) → take n xs ≡ filter p xs → drop n xs ≡ filter (λ x. not (p x)) xs → PassesTo p n xs
counted p n xs f b = passes_to p n xs (rw f (filter_passes p xs)) (rw b (filter_passes (λ x. not (p x)) xs))

take_none : {X : Type 0} (d : ℕ) → (λ (xs : List X). take d xs ≡ xs) []
take_none zero = refl
take_none (suc d) = refl

-- what passes one test and not another one, of fewer items
span_is : {X : Type 0} (p q : X → Bool) (n m d : ℕ) (xs : List X) → PassesTo p n xs → PassesTo q m xs → d ≡ m - n → take d (drop n xs) ≡ filter (λ x. q x && not (p x)) xs
span_is p q zero m d [] pt qt e = take_none d
span_is p q (suc n) m d [] pt qt e = take_none d
span_is p q zero zero d (x ∷ xs) pt qt e =
    let none : d ≡ zero = omega arith in
    rw (none, qt.0) (span_is p q zero zero zero xs pt.1 qt.1 (omega arith))
span_is p q zero (suc m) d (x ∷ xs) pt qt e =
    let all : d ≡ suc m = omega arith in
    rw (all, pt.0, qt.0) (ap (λ ys. x ∷ ys) (span_is p q zero m m xs pt.1 qt.1 (omega arith)))
span_is p q (suc n) zero d (x ∷ xs) pt qt e =
    let none : d ≡ zero = omega arith in
    rw (none, qt.0) (span_is p q n zero zero xs pt.1 qt.1 (omega arith))
span_is p q (suc n) (suc m) d (x ∷ xs) pt qt e = rw (pt.0, qt.0) (span_is p q n m d xs pt.1 qt.1 (omega arith))

span_count : {X : Type 0} (p q : X → Bool) (n m d : ℕ) (xs : List X) → PassesTo p n xs → PassesTo q m xs → d ≡ m - n → m ≤ length xs → d ≡ length (filter (λ x. q x && not (p x)) xs)
span_count p q n m d [] pt qt e h = omega arith
span_count p q zero zero d (x ∷ xs) pt qt e h =
    let rest = span_count p q zero zero zero xs pt.1 qt.1 (omega arith) (omega arith) in
    rw qt.0 (omega arith)
span_count p q zero (suc m) d (x ∷ xs) pt qt e h =
    let rest = span_count p q zero m m xs pt.1 qt.1 (omega arith) (omega arith) in
    rw (pt.0, qt.0) (omega arith)
span_count p q (suc n) zero d (x ∷ xs) pt qt e h =
    let rest = span_count p q n zero zero xs pt.1 qt.1 (omega arith) (omega arith) in
    rw qt.0 (omega arith)
span_count p q (suc n) (suc m) d (x ∷ xs) pt qt e h =
    let rest = span_count p q n m d xs pt.1 qt.1 (omega arith) (omega arith) in
    rw (pt.0, qt.0) (omega arith)

-- Entries in a range.

early_down : (range : Range) (start : Option IndexEntry) (x y : IndexEntry) → comes_before x y ≡ true → is_long range x ≡ true → is_long range y ≡ true → is_early start range y ≡ true → is_early start range x ≡ true
early_down range None x y h lx ly p = before_along range x.key y.key (key_not x y (one_way x y h)) lx ly p
early_down range (Some s) x y h lx ly p = elim (cases_Bool (comes_before x s)) [
  | inl t ↦ rw t refl
  | inr f ↦
      let behind : comes_before y s ≡ false = elim (cases_Bool (comes_before y s)) [ inl u ↦ let no = follows x y s h u in cc | inr v ↦ v ] in
      let before : before_side (place range y.key) ≡ true = rw behind at p in
      rw f (before_along range x.key y.key (key_not x y (one_way x y h)) lx ly before)
]

below_down : (next : Option IndexEntry) (x y : IndexEntry) → comes_before x y ≡ true → is_below next y ≡ true → is_below next x ≡ true
below_down None x y h p = refl
below_down (Some cut) x y h p = follows x y cut h p

until_down : (range : Range) (next : Option IndexEntry) (x y : IndexEntry) → comes_before x y ≡ true → is_long range x ≡ true → is_long range y ≡ true → is_until next range y ≡ true → is_until next range x ≡ true
until_down range next x y h lx ly p =
    let parts = and_parts (is_below next y) (not (after_side (place range y.key))) p in
    let below = below_down next x y h parts.0 in
    elim (cases_Bool (after_side (place range x.key))) [
      | inl t ↦
          let after = after_along range x.key y.key (key_not x y (one_way x y h)) lx ly t in
          let no = rw after at parts.1 in
          cc
      | inr f ↦ rw (below, f) refl
    ]

pub early_parted : (range : Range) (start : Option IndexEntry) (es : List IndexEntry) → Ascend es → AreLong range es → IsPartitionedBy (is_early start range) es
early_parted range start es ascend long = partitioned comes_before (is_long range) (is_early start range) (early_down range start) es ascend long

pub until_parted : (range : Range) (next : Option IndexEntry) (es : List IndexEntry) → Ascend es → AreLong range es → IsPartitionedBy (is_until next range) es
until_parted range next es ascend long = partitioned comes_before (is_long range) (is_until next range) (until_down range next) es ascend long

in_span : (from below : Bool) (s : Side) → ((below && not (after_side s)) && not (not from || before_side s)) ≡ ((from && in_side s) && below)
in_span true true Before = refl
in_span true true In = refl
in_span true true After = refl
in_span true false Before = refl
in_span true false In = refl
in_span true false After = refl
in_span false true Before = refl
in_span false true In = refl
in_span false true After = refl
in_span false false Before = refl
in_span false false In = refl
in_span false false After = refl

pub span_taken : (range : Range) (start next : Option IndexEntry) (n m d : ℕ) (es : List IndexEntry)
    → take n es ≡ filter (is_early start range) es → drop n es ≡ filter (λ e. not (is_early start range e)) es
    → take m es ≡ filter (is_until next range) es → drop m es ≡ filter (λ e. not (is_until next range e)) es
    → d ≡ m - n → m ≤ length es
    → (take d (drop n es) ≡ filter (is_taken range start next) es) × (d ≡ length (filter (is_taken range start next) es))
span_taken range start next n m d es nf nb mf mb e h =
    let early = counted (is_early start range) n es nf nb in
    let until = counted (is_until next range) m es mf mb in
    let tests = filter_agree (λ x. is_until next range x && not (is_early start range x)) (is_taken range start next) (λ x. in_span (is_from start x) (is_below next x) (place range x.key)) es in (
      span_is (is_early start range) (is_until next range) n m d es early until e ∙ tests,
      span_count (is_early start range) (is_until next range) n m d es early until e h ∙ ap length tests,
    )

pub in_range : (range : Range) (es : List IndexEntry) → filter (is_taken range None None) es ≡ run es range
in_range range es = filter_agree (is_taken range None None) (is_in range) (λ e. and-true (is_in range e)) es

-- Marks.

-- the place of the first of sixteen that does not pass, after so many more, where so many pass
abbrev next_mark : ℕ → ℕ → ℕ
next_mark left n = left + 16 * ((n - left + 15) / 16)

mark_at : (p : IndexEntry → Bool) (left n : ℕ) (es : List IndexEntry) → PassesTo p n es → first_not p (marks left es) ≡ slice_get es (next_mark left n)
mark_at p left n [] pt = refl
mark_at p zero zero (e ∷ es) pt = rw pt.0 refl
mark_at p zero (suc n) (e ∷ es) pt =
    let there : next_mark 0 (suc n) ≡ suc (next_mark 15 n) = omega arith in
    rw (pt.0, there) (mark_at p 15 n es pt.1)
mark_at p (suc left) zero (e ∷ es) pt =
    let there : next_mark (suc left) zero ≡ suc (next_mark left zero) = omega arith in
    rw there (mark_at p left zero es pt.1)
mark_at p (suc left) (suc n) (e ∷ es) pt =
    let there : next_mark (suc left) (suc n) ≡ suc (next_mark left n) = omega arith in
    rw there (mark_at p left n es pt.1)

pub first_is : (p : IndexEntry → Bool) (n at : ℕ) (es : List IndexEntry) → take n es ≡ filter p es → drop n es ≡ filter (λ e. not (p e)) es → at ≡ (n + 15) / 16 * 16 → first_not p (sixteenths es) ≡ slice_get es at
first_is p n at es f b e =
    let here : next_mark 0 n ≡ at = omega arith in
    mark_at p 0 n es (counted p n es f b) ∙ ap (slice_get es) here

-- What stands in the place of an entry.

level : (x e : IndexEntry) → (not (comes_before x e) && not (comes_before e x)) ≡ is_eq (entry_cmp x e)
level x e = rw (entry_cmp_total.antisymm e x) (by (entry_cmp x e))
  where
    by : (o : Ordering) → (not (is_lt o) && not (is_lt (ordering_reverse o))) ≡ is_eq o
    by Less = refl
    by Equal = refl
    by Greater = refl

pub has_is : (xs : List IndexEntry) (e : IndexEntry) → is_some (standing comes_before e xs) ≡ has xs e
has_is [] e = refl
has_is (x ∷ xs) e = ap (λ b. is_some (cond b (Some x) (standing comes_before e xs))) (level x e) ∙ by (is_eq (entry_cmp x e)) (has_is xs e)
  where
    by : (b : Bool) → is_some (standing comes_before e xs) ≡ has xs e → is_some (cond b (Some x) (standing comes_before e xs)) ≡ (b || has xs e)
    by true rest = refl
    by false rest = rest

-- an entry that is there already is put in over itself
pub put_level : (e : IndexEntry) (xs : List IndexEntry) (r : ℕ) → Ascend xs → Turns (λ x. comes_before x e) xs r → is_level comes_before e (slice_get xs r) ≡ true → put_in comes_before e xs ≡ xs
put_level e xs r ascend turns here = by (slice_get xs r) refl
  where
    by : (found : Option IndexEntry) → slice_get xs r ≡ found → put_in comes_before e xs ≡ xs
    by None got = let no : false ≡ true = ap (is_level comes_before e) (sym got) ∙ here in cc
    by (Some y) got =
        let early : comes_before y e ≡ false = sym (ap (λ x. comes_before x e) (read_as xs r y e got)) ∙ turns.here e (slice_get_within xs r y got) in
        let late : comes_before e y ≡ false = not-true (comes_before e y) (ap (is_level comes_before e) (sym got) ∙ here) in
        let is : y ≡ e = same y e early late in
        sym (over comes_before order e y xs r ascend turns got here).0 ∙ ap (slice_set xs r) (sym is) ∙ put_back xs r y got

-- Changes.

lt_one : (r s : ℕ) → is_lt (nat_cmp r s) ≡ nat_lt r s
lt_one r s = elim (cases_Bool (nat_lt r s)) [
  | inl y ↦ rw y refl
  | inr n ↦ elim (cases_Bool (r == s)) [ inl e ↦ rw (n, e) refl | inr f ↦ rw (n, f) refl ]
]

lt_pair : (t r u s : ℕ) → is_lt (ordering_then (nat_cmp t u) (nat_cmp r s)) ≡ (nat_lt t u || ((t == u) && nat_lt r s))
lt_pair t r u s = elim (cases_Bool (nat_lt t u)) [
  | inl y ↦ rw y refl
  | inr n ↦ elim (cases_Bool (t == u)) [ inl e ↦ rw (n, e) (lt_one r s) | inr f ↦ rw (n, f) refl ]
]

not_apart : (t r u s : ℕ) → (not (nat_lt t u || ((t == u) && nat_lt r s)) && not (nat_lt u t || ((u == t) && nat_lt s r))) ≡ ((t == u) && (r == s))
not_apart t r u s = grind (arith, nat_tests)

abbrev pub change_before : Change → Change → Bool
change_before a b = is_lt (change_cmp a b)

-- the order by which changes stand in blocks is that by which they rise
pub change_first : change_before ≡ is_before
change_first = λ i a b. lt_pair a.table a.row.0 b.table b.row.0 i

of_row : (table row : ℕ) (like c : Change) → like.table ≡ table → like.row.0 ≡ row → (not (change_before c like) && not (change_before like c)) ≡ is_of table row c
of_row table row like c t r =
    rw (lt_pair c.table c.row.0 like.table like.row.0, lt_pair like.table like.row.0 c.table c.row.0, t, r) (not_apart c.table c.row.0 table row)

pub change_is : (table row : ℕ) (like : Change) (cs : List Change) → like.table ≡ table → like.row.0 ≡ row → standing change_before like cs ≡ change_of table row cs
change_is table row like cs t r = ap (λ p. find p cs) (λ i c. of_row table row like c t r i)

before_page_down : (table page : ℕ) (x y : Change) → is_before x y ≡ true → is_before_page table page y ≡ true → is_before_page table page x ≡ true
before_page_down table page x y h p = grind (arith, nat_tests)

until_page_down : (table page : ℕ) (x y : Change) → is_before x y ≡ true → is_until_page table page y ≡ true → is_until_page table page x ≡ true
until_page_down table page x y h p = grind (arith, nat_tests)

pub before_parted : (table page : ℕ) (cs : List Change) → Rise cs → IsPartitionedBy (is_before_page table page) cs
before_parted table page cs rise = partitioned is_before (λ (c : Change). true) (is_before_page table page) (λ x y h a b p. before_page_down table page x y h p) cs rise (all_true cs)

pub until_page_parted : (table page : ℕ) (cs : List Change) → Rise cs → IsPartitionedBy (is_until_page table page) cs
until_page_parted table page cs rise = partitioned is_before (λ (c : Change). true) (is_until_page table page) (λ x y h a b p. until_page_down table page x y h p) cs rise (all_true cs)

on_span : (table page : ℕ) (c : Change) → (is_until_page table page c && not (is_before_page table page c)) ≡ is_on table page c
on_span table page c = grind (arith, nat_tests)

pub span_on : (table page n m d : ℕ) (cs : List Change)
    → take n cs ≡ filter (is_before_page table page) cs → drop n cs ≡ filter (λ c. not (is_before_page table page c)) cs
    → take m cs ≡ filter (is_until_page table page) cs → drop m cs ≡ filter (λ c. not (is_until_page table page c)) cs
    → d ≡ m - n → take d (drop n cs) ≡ filter (is_on table page) cs
span_on table page n m d cs nf nb mf mb e =
    span_is (is_before_page table page) (is_until_page table page) n m d cs (counted (is_before_page table page) n cs nf nb) (counted (is_until_page table page) m cs mf mb) e
    ∙ filter_agree (λ c. is_until_page table page c && not (is_before_page table page c)) (is_on table page) (on_span table page) cs

-- Sizes.

of_table : (table : ℕ) (like s : TableSize) → like.table ≡ table → (not (nat_lt s.table like.table) && not (nat_lt like.table s.table)) ≡ (s.table == table)
of_table table like s t = rw t (grind (arith, nat_tests))

pub size_is : (table : ℕ) (like : TableSize) (sizes : List TableSize) → like.table ≡ table → standing (λ (a b : TableSize). nat_lt a.table b.table) like sizes ≡ size_of table sizes
size_is table like sizes t = ap (λ p. find p sizes) (λ i s. of_table table like s t i)
