-- Values and their lists that compare as equal are the same, and each compares as equal to itself; an equality by a test, and fronts.
use Rattle.std.proofs.Common.{◌≡◌, ℕ, ℤ, List, [], ◌∷◌, true, refl, ap, sym, ◌∙◌, arith, length}
use Rattle.std.specs.Ordering.{int_cmp, is_eq, nat_cmp, ordering_reverse, ordering_then}
use Rattle.std.specs.Cmp.{ranks, int_ranks, tied_itself}
use Rattle.std.specs.Cmp.Lexicographic.{slice_cmp}
use Rattle.std.specs.declared.cmp.Ordering.{Ordering}
use Rattle.std.specs.declared.cmp.Ordering.TheVariants.{Less, Equal, Greater}
use Rattle.rv_value.specs.declared.value.Value.{Value}
use Rattle.rv_value.specs.declared.value.Value.TheVariants.{Null, Int, Str}
use Rattle.rv_value.specs.Order.{prefix_cmp, value_cmp, values_cmp}
use Rattle.rv_value.specs.Orders.{value_cmp_total, values_cmp_total}
use Rattle.rv_value.proofs.Tests.{equal_is}

pub both_equal : (a b : Ordering) → ordering_then a b ≡ Equal → (a ≡ Equal) × (b ≡ Equal)
both_equal Less b e = cc
both_equal Equal b e = (refl, e)
both_equal Greater b e = cc

-- lists whose items tell each other apart tell each other apart
pub lists_same : {X : Type 0} (R : X → X → Ordering) → ((x y : X) → R x y ≡ Equal → x ≡ y) → (xs ys : List X) → slice_cmp R xs ys ≡ Equal → xs ≡ ys
lists_same R one [] [] e = refl
lists_same R one [] (y ∷ ys) e = cc
lists_same R one (x ∷ xs) [] e = cc
lists_same R one (x ∷ xs) (y ∷ ys) e =
    let parts = both_equal (R x y) (slice_cmp R xs ys) e in
    let first = one x y parts.0 in
    let rest = lists_same R one xs ys parts.1 in
    λ i. first i ∷ rest i

pub numbers_same : (x y : ℕ) → nat_cmp x y ≡ Equal → x ≡ y
numbers_same x y e = rw e at (ranks x y)

integers_same : (x y : ℤ) → int_cmp x y ≡ Equal → x ≡ y
integers_same x y e = rw e at (int_ranks x y)

pub value_same : (v w : Value) → value_cmp v w ≡ Equal → v ≡ w
value_same Null Null e = refl
value_same Null (Int b) e = cc
value_same Null (Str t) e = cc
value_same (Int a) Null e = cc
value_same (Int a) (Int b) e = ap (λ (n : ℤ). Int n) (integers_same a b e)
value_same (Int a) (Str t) e = cc
value_same (Str s) Null e = cc
value_same (Str s) (Int b) e = cc
value_same (Str s) (Str t) e = ap (λ (u : List ℕ). Str u) (lists_same nat_cmp numbers_same s t e)

pub values_same : (vs ws : List Value) → values_cmp vs ws ≡ Equal → vs ≡ ws
values_same = lists_same value_cmp value_same

-- the same, where equality is a test
pub equal_values : (vs ws : List Value) → is_eq (values_cmp vs ws) ≡ true → vs ≡ ws
equal_values vs ws h = values_same vs ws (equal_is (values_cmp vs ws) h)

pub values_turned : (vs ws : List Value) → is_eq (values_cmp vs ws) ≡ is_eq (values_cmp ws vs)
values_turned vs ws = ap is_eq (values_cmp_total.antisymm vs ws) ∙ turned (values_cmp ws vs)
  where
    turned : (o : Ordering) → is_eq (ordering_reverse o) ≡ is_eq o
    turned Less = refl
    turned Equal = refl
    turned Greater = refl

-- lists of one length compare as whole ones do
pub prefix_whole : (vs ws : List Value) → length vs ≡ length ws → prefix_cmp vs ws ≡ values_cmp vs ws
prefix_whole [] [] long = refl
prefix_whole [] (w ∷ ws) long = absurd (omega (arith, long))
prefix_whole (v ∷ vs) [] long = absurd (omega (arith, long))
prefix_whole (v ∷ vs) (w ∷ ws) long = ap (ordering_then (value_cmp v w)) (prefix_whole vs ws (omega (arith, long)))

-- Keys of one number each compare as the numbers do.

then_equal : (o : Ordering) → ordering_then o Equal ≡ o
then_equal Less = refl
then_equal Equal = refl
then_equal Greater = refl

pub numbers_prefix : (x y : ℤ) → int_cmp x y ≡ prefix_cmp (Int x ∷ []) (Int y ∷ [])
numbers_prefix x y = sym (then_equal (int_cmp x y))

pub numbers_whole : (x y : ℤ) → int_cmp x y ≡ values_cmp (Int x ∷ []) (Int y ∷ [])
numbers_whole x y = sym (then_equal (int_cmp x y))

pub value_itself : (v : Value) → value_cmp v v ≡ Equal
value_itself v = tied_itself value_cmp_total v

pub values_itself : (vs : List Value) → values_cmp vs vs ≡ Equal
values_itself vs = tied_itself values_cmp_total vs
