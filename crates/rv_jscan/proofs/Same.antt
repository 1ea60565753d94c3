-- Lists of entries that compare as equal are the same.
use Rattle.std.proofs.Common.{◌≡◌, List, [], ◌∷◌, true, false, refl, arith, sym, ◌∙◌}
use Rattle.std.specs.Cmp.{eq_by_cmp_equiv}
use Rattle.std.specs.Cmp.Lexicographic.{pointwise}
use Rattle.std.specs.Ordering.{eq_by_cmp, is_eq, is_lt}
use Rattle.std.specs.declared.cmp.Ordering.{Ordering}
use Rattle.std.specs.declared.cmp.Ordering.TheVariants.{Less, Equal, Greater}
use Rattle.rv_value.specs.declared.record.IndexEntry.{IndexEntry}
use Rattle.rv_value.specs.Entries.{entry_cmp}
use Rattle.rv_value.specs.Orders.{entry_cmp_total}
use Rattle.rv_reader.proofs.Sorting.{same}

not_less : (o : Ordering) → is_eq o ≡ true → is_lt o ≡ false
not_less Less e = absurd (cc)
not_less Equal e = refl
not_less Greater e = refl

one_same : (x y : IndexEntry) → eq_by_cmp entry_cmp x y ≡ true → x ≡ y
one_same x y e = same x y (not_less (entry_cmp x y) e) (not_less (entry_cmp y x) (sym ((eq_by_cmp_equiv entry_cmp_total).symm x y) ∙ e))

pub all_same : (xs ys : List IndexEntry) → pointwise (eq_by_cmp entry_cmp) xs ys ≡ true → xs ≡ ys
all_same [] [] e = refl
all_same [] (y ∷ ys) e = absurd (cc)
all_same (x ∷ xs) [] e = absurd (cc)
all_same (x ∷ xs) (y ∷ ys) e =
    let here : eq_by_cmp entry_cmp x y ≡ true = grind arith in
    let tail : pointwise (eq_by_cmp entry_cmp) xs ys ≡ true = grind arith in
    let first = one_same x y here in
    let rest = all_same xs ys tail in
    λ i. first i ∷ rest i

pub itself : (xs : List IndexEntry) → pointwise (eq_by_cmp entry_cmp) xs xs ≡ true
itself [] = refl
itself (x ∷ xs) = let here = (eq_by_cmp_equiv entry_cmp_total).refl x in grind (arith, here, itself xs)
