-- Between two of the sixteenths there are at most sixteen entries.
use Rattle.std.proofs.Common.{◌≡◌, ℕ, zero, suc, ◌≤◌, List, [], ◌∷◌, Bool, true, false, not, ◌&&◌, cond, Option, Some, None, inl, inr, refl, ap, sym, subst, ◌∙◌, filter, length, arith}
use Rattle.std.proofs.lemmas.Bool.{cases_Bool, and_parts, and_right, not-true}
use Rattle.std.specs.List.{list_all}
use Rattle.rv_value.specs.declared.record.IndexEntry.{IndexEntry}
use Rattle.rv_value.specs.declared.range.Range.{Range}
use Rattle.rv_value.specs.declared.range.Side.{Side}
use Rattle.rv_value.specs.declared.range.Side.TheVariants.{Before, In, After}
use Rattle.rv_value.specs.Ranges.{in_side, place}
use Rattle.rv_reader.specs.Entries.{comes_before, is_in, Ascend, AreLong}
use Rattle.rv_reader.specs.Leaves.{before_side, is_passed, is_wanted}
use Rattle.rv_reader.specs.Leaves.{is_below}
use Rattle.rv_reader.proofs.Chunks.{is_long}
use Rattle.rv_reader.proofs.Sorting.{same}
use Rattle.rv_reader.proofs.Filters.{filter_none}
use Rattle.rv_reader.proofs.Orders.{one_way, itself}
use Rattle.rv_overlay.specs.Laying.{first_not, marks, sixteenths}
use Rattle.rv_overlay.proofs.Following.{Down, fails_up, passes_down}

-- wanted, and before a cut
abbrev counts : (IndexEntry → Bool) → Option IndexEntry → List IndexEntry → ℕ
counts w next es = length (filter (λ e. w e && is_below next e) es)

skips : (passes : IndexEntry → Bool) (e : IndexEntry) (ms : List IndexEntry) → passes e ≡ true → first_not passes (e ∷ ms) ≡ first_not passes ms
skips passes e ms p = rw p refl

stops : (passes : IndexEntry → Bool) (e : IndexEntry) (ms : List IndexEntry) → passes e ≡ false → first_not passes (e ∷ ms) ≡ Some e
stops passes e ms p = rw p refl

one_more : (b : Bool) (x : IndexEntry) (xs : List IndexEntry) (n : ℕ) → length xs ≤ n → length (cond b (x ∷ xs) xs) ≤ suc n
one_more true x xs n h = omega arith
one_more false x xs n h = omega arith

none_before : (w : IndexEntry → Bool) (e : IndexEntry) (es : List IndexEntry) → list_all (comes_before e) es ≡ true → counts w (Some e) (e ∷ es) ≤ 0
none_before w e es all =
    let none = filter_none (comes_before e) (λ x. w x && comes_before x e) es all (λ x h. and_right (w x) (comes_before x e) (one_way e x h)) in
    rw (and_right (w e) (comes_before e e) (itself e), none) (omega arith)

-- none of them is passed
late : (w passes : IndexEntry → Bool) (next : Option IndexEntry) (left : ℕ) (es : List IndexEntry) → Ascend es → list_all (λ e. not (passes e)) es ≡ true → first_not passes (marks left es) ≡ next → counts w next es ≤ left
late w passes next left [] ascend all is = omega arith
late w passes next zero (e ∷ es) ascend all is =
    let parts = and_parts (not (passes e)) (list_all (λ x. not (passes x)) es) all in
    subst (λ n. counts w n (e ∷ es) ≤ 0) (sym (stops passes e (marks 15 es) (not-true (passes e) parts.0)) ∙ is) (none_before w e es ascend.0)
late w passes next (suc left) (e ∷ es) ascend all is =
    let parts = and_parts (not (passes e)) (list_all (λ x. not (passes x)) es) all in
    one_more (w e && is_below next e) e (filter (λ x. w x && is_below next x) es) left (late w passes next left es ascend.1 parts.1 is)

all_from : (q t : IndexEntry → Bool) (e : IndexEntry) (es : List IndexEntry) → list_all (comes_before e) es ≡ true → list_all q es ≡ true → ((y : IndexEntry) → comes_before e y ≡ true → q y ≡ true → t y ≡ true) → list_all t es ≡ true
all_from q t e [] all long h = refl
all_from q t e (x ∷ xs) all long h =
    let parts = and_parts (comes_before e x) (list_all (comes_before e) xs) all in
    let longs = and_parts (q x) (list_all q xs) long in
    rw (h x parts.0 longs.0) (all_from q t e xs parts.1 longs.1 h)

not_counted : (w : IndexEntry → Bool) (next : Option IndexEntry) (e : IndexEntry) (es : List IndexEntry) (n : ℕ) → w e ≡ false → counts w next es ≤ n → counts w next (e ∷ es) ≤ n
not_counted w next e es n f h = rw f h

-- the last that is passed may be wanted, and none before it
module _ (q w passes : IndexEntry → Bool) (down : Down q passes) (only : (x y : IndexEntry) → w x ≡ true → passes x ≡ true → comes_before x y ≡ true → passes y ≡ false) where
  first : (next : Option IndexEntry) (left n : ℕ) (e : IndexEntry) (es : List IndexEntry) → left ≤ 15 → q e ≡ true → list_all q es ≡ true → list_all (comes_before e) es ≡ true → Ascend es
      → passes e ≡ true → first_not passes (marks left es) ≡ next → counts w next es ≤ 16 → counts w next (e ∷ es) ≤ 16
  first next left n e es le qe long before ascend p is rest = elim (cases_Bool (w e)) [
    | inl t ↦
        let none = all_from q (λ y. not (passes y)) e es before long (λ y h l. rw (only e y t p h) refl) in
        let few = late w passes next left es ascend none is in
        let more = one_more (w e && is_below next e) e (filter (λ x. w x && is_below next x) es) left few in
        omega (arith, more, le)
    | inr f ↦ not_counted w next e es 16 f rest
  ]

  early : (next : Option IndexEntry) (left : ℕ) → left ≤ 15 → (es : List IndexEntry) → list_all q es ≡ true → Ascend es → first_not passes (marks left es) ≡ next → counts w next es ≤ 16
  early next left le [] long ascend is = omega arith
  early next zero le (e ∷ es) long ascend is =
      let longs = and_parts (q e) (list_all q es) long in
      elim (cases_Bool (passes e)) [
        | inl p ↦
            let on : first_not passes (marks 15 es) ≡ next = sym (skips passes e (marks 15 es) p) ∙ is in
            first next 15 0 e es (omega arith) longs.0 longs.1 ascend.0 ascend.1 p on (early next 15 (omega arith) es longs.1 ascend.1 on)
        | inr n ↦
            let none = all_from q (λ y. not (passes y)) e es ascend.0 longs.1 (λ y h l. rw (fails_up q passes down e y longs.0 l h n) refl) in
            let few = late w passes next 0 (e ∷ es) ascend (rw n none) is in
            omega (arith, few)
      ]
  early next (suc left) le (e ∷ es) long ascend is =
      let longs = and_parts (q e) (list_all q es) long in
      elim (cases_Bool (passes e)) [
        | inl p ↦ first next left 0 e es (omega arith) longs.0 longs.1 ascend.0 ascend.1 p is (early next left (omega arith) es longs.1 ascend.1 is)
        | inr n ↦
            let none = all_from q (λ y. not (passes y)) e es ascend.0 longs.1 (λ y h l. rw (fails_up q passes down e y longs.0 l h n) refl) in
            let few = late w passes next (suc left) (e ∷ es) ascend (rw n none) is in
            omega (arith, few, le)
      ]

-- What is wanted of a leaf.

sides_apart : (s : Side) → in_side s ≡ true → before_side s ≡ true → true ≡ false
sides_apart Before h k = cc
sides_apart In h k = cc
sides_apart After h k = cc

one_wanted : (range : Range) (start : Option IndexEntry) (x y : IndexEntry) → is_wanted range start x ≡ true → is_passed start range x ≡ true → comes_before x y ≡ true → is_passed start range y ≡ false
one_wanted range None x y w p h = let no = sides_apart (place range x.key) w p in cc
one_wanted range (Some s) x y w p h =
    let parts = and_parts (not (comes_before x s)) (is_in range x) w in
    let is : x ≡ s = same x s (not-true (comes_before x s) parts.0) (not-true (comes_before s x) p) in
    let above : comes_before s y ≡ true = sym (ap (λ z. comes_before z y) is) ∙ h in
    rw above refl

pub few_added : (range : Range) (start : Option IndexEntry) (es : List IndexEntry) → AreLong range es → Ascend es
    → length (filter (λ e. is_wanted range start e && is_below (first_not (is_passed start range) (sixteenths es)) e) es) ≤ 16
few_added range start es long ascend = early (is_long range) (is_wanted range start) (is_passed start range) (passes_down range start) (one_wanted range start) (first_not (is_passed start range) (sixteenths es)) 0 (omega arith) es long ascend refl
