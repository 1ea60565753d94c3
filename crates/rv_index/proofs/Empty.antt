-- No key is in an empty range.
use Rattle.std.proofs.Common.{◌≤◌, ◌≡◌, List, [], ◌∷◌, Bool, true, false, not, ◌&&◌, Option, Some, None, length, take, refl, ap, sym, ◌∙◌, arith, Ordering, nat_eq, nat_le, inl, inr}
use Rattle.std.proofs.lemmas.Bool.{cases_Bool, leb-true, and_parts, eqb-true, not-false}
use Rattle.std.specs.Ordering.{ordering_reverse, ordering_then}
use Rattle.std.specs.declared.cmp.Ordering.TheVariants.{Less, Equal, Greater}
use Rattle.rv_value.specs.declared.value.Value.{Value}
use Rattle.rv_value.specs.declared.range.Bound.{Bound}
use Rattle.rv_value.specs.declared.range.Range.{Range}
use Rattle.rv_value.specs.Order.{value_cmp, values_cmp, prefix_cmp}
use Rattle.rv_value.specs.Orders.{values_cmp_total}
use Rattle.rv_value.specs.Ranges.{place, in_side, is_empty, is_empty_between, crossed, crosses, falls_under, goes_over}
use Rattle.rv_value.proofs.Same.{prefix_whole}
use Rattle.rv_reader.specs.Entries.{reaches}

prefix_take : (xs ys : List Value) → length ys ≤ length xs → prefix_cmp xs ys ≡ values_cmp (take (length ys) xs) ys
prefix_take [] [] l = refl
prefix_take [] (y ∷ ys) l = absurd (omega arith)
prefix_take (x ∷ xs) [] l = refl
prefix_take (x ∷ xs) (y ∷ ys) l = ap (ordering_then (value_cmp x y)) (prefix_take xs ys (omega arith))

-- a key that is not under the low bound and not over the high one shows that they do not cross
not_crossed : (k low high : List Value) (a b : Bool) → falls_under (values_cmp k low) a ≡ false → goes_over (values_cmp k high) b ≡ false → crosses (values_cmp low high) (a && b) ≡ false
not_crossed k low high a b under over = go (values_cmp k low) refl (values_cmp k high) refl
  where
    go : (p : Ordering) → values_cmp k low ≡ p → (q : Ordering) → values_cmp k high ≡ q → crosses (values_cmp low high) (a && b) ≡ false
    go Less e q f = let no : falls_under (values_cmp k low) a ≡ true = rw e refl in cc
    go Equal e Less f = rw (sym (values_cmp_total.congr k low high e) ∙ f) refl
    go Equal e Equal f =
        let ca : a ≡ true = not-false a (rw e at under) in
        let cb : b ≡ true = not-false b (rw f at over) in
        rw (sym (values_cmp_total.congr k low high e) ∙ f, ca, cb) refl
    go Equal e Greater f = let no : goes_over (values_cmp k high) b ≡ true = rw f refl in cc
    go Greater e Less f =
        let less : values_cmp low k ≡ Less = values_cmp_total.antisymm low k ∙ ap ordering_reverse e in
        rw (values_cmp_total.trans low k high less f) refl
    go Greater e Equal f =
        let above : values_cmp high low ≡ Greater = sym (values_cmp_total.congr k high low f) ∙ e in
        rw (values_cmp_total.antisymm low high ∙ ap ordering_reverse above) refl
    go Greater e Greater f = let no : goes_over (values_cmp k high) b ≡ true = rw f refl in cc

between : (low high : Bound) (starts : Bool) (key : List Value) → crossed low high ≡ true → length low.key ≤ length key → length high.key ≤ length key
    → in_side (place (record { low = Some low; high = Some high; starts = starts }) key) ≡ false
between low high starts key cross long_low long_high =
    let parts = and_parts (nat_eq (length low.key) (length high.key)) (crosses (prefix_cmp low.key high.key) (low.closed && high.closed)) cross in
    let same : length low.key ≡ length high.key = eqb-true (length low.key) (length high.key) parts.0 in
    let k = take (length low.key) key in
    let to_low : prefix_cmp key low.key ≡ values_cmp k low.key = prefix_take key low.key long_low in
    let to_high : prefix_cmp key high.key ≡ values_cmp k high.key = prefix_take key high.key long_high ∙ ap (λ n. values_cmp (take n key) high.key) (sym same) in
    let across : crosses (values_cmp low.key high.key) (low.closed && high.closed) ≡ true = ap (λ o. crosses o (low.closed && high.closed)) (sym (prefix_whole low.key high.key same)) ∙ parts.1 in
    elim (cases_Bool (falls_under (prefix_cmp key low.key) low.closed)) [
      | inl t ↦ rw t refl
      | inr f ↦ elim (cases_Bool (goes_over (prefix_cmp key high.key) high.closed)) [
        | inl t ↦ rw (f, t) refl
        | inr g ↦
            let no = not_crossed k low.key high.key low.closed high.closed (ap (λ o. falls_under o low.closed) (sym to_low) ∙ f) (ap (λ o. goes_over o high.closed) (sym to_high) ∙ g) in
            cc
      ]
    ]

empty_by : (low high : Option Bound) (starts : Bool) (key : List Value) → (not starts && is_empty_between low high) ≡ true → (reaches low key && reaches high key) ≡ true
    → in_side (place (record { low = low; high = high; starts = starts }) key) ≡ false
empty_by None high starts key e l = let parts = and_parts (not starts) false e in cc
empty_by (Some low) None starts key e l = let parts = and_parts (not starts) false e in cc
empty_by (Some low) (Some high) starts key e l =
    let parts = and_parts (not starts) (crossed low high) e in
    let long = and_parts (nat_le (length low.key) (length key)) (nat_le (length high.key) (length key)) l in
    between low high starts key parts.1 (leb-true (length low.key) (length key) long.0) (leb-true (length high.key) (length key) long.1)

pub empty_none : (range : Range) (key : List Value) → is_empty range ≡ true → (reaches range.low key && reaches range.high key) ≡ true → in_side (place range key) ≡ false
empty_none range key e l = empty_by range.low range.high range.starts key e l
