-- What follows where a test is true or false, where an order is known, and where something is there or not.
use Rattle.std.proofs.Common.{◌≡◌, ℕ, Bool, true, false, ◌&&◌, ◌||◌, Option, Some, None, IfSome, is_some, refl, subst, arith, nat_eq}
use Rattle.std.proofs.lemmas.Bool.Decides.{nat_tests}
use Rattle.std.proofs.lemmas.Bool.{or_parts}
use Rattle.std.proofs.lemmas.Option.{none-some, same_Some}
use Rattle.std.specs.Ordering.{is_eq, is_lt, ordering_then}
use Rattle.std.specs.declared.cmp.Ordering.{Ordering}
use Rattle.std.specs.declared.cmp.Ordering.TheVariants.{Less, Equal, Greater}

pub no_way : {X : Type 0} → true ≡ false → X
no_way bad = absurd (cc)

pub no_other : {X : Type 0} → false ≡ true → X
no_other bad = absurd (cc)

pub left_false : (a b : Bool) → (a || b) ≡ false → a ≡ false
left_false a b h = (or_parts a b h).0

pub right_false : (a b : Bool) → (a || b) ≡ false → b ≡ false
right_false a b h = (or_parts a b h).1

-- where the first of both passes and not both do, the second does not
pub other_false : (a b : Bool) → a ≡ true → (a && b) ≡ false → b ≡ false
other_false true b e h = h
other_false false b e h = cc

pub or_swapped : (a b c : Bool) → (a || (b || c)) ≡ (b || (a || c))
or_swapped true true c = refl
or_swapped true false c = refl
or_swapped false true c = refl
or_swapped false false c = refl

pub either : {P : Type 0} (a b : Bool) → (a || b) ≡ true → (a ≡ true → P) → (b ≡ true → P) → P
either true b h left right = left refl
either false b h left right = right h

pub same_number : (n : ℕ) → nat_eq n n ≡ true
same_number n = grind (arith, nat_tests)

pub number_turned : (m n : ℕ) → nat_eq m n ≡ nat_eq n m
number_turned m n = grind (arith, nat_tests)

pub equal_is : (o : Ordering) → is_eq o ≡ true → o ≡ Equal
equal_is Less h = cc
equal_is Equal h = refl
equal_is Greater h = cc

pub less_other : (o : Ordering) → is_lt o ≡ true → is_eq o ≡ false
less_other Less h = refl
less_other Equal h = cc
less_other Greater h = cc

pub first_not : (o p : Ordering) → is_lt (ordering_then o p) ≡ false → is_lt o ≡ false
first_not Less p h = h
first_not Equal p h = refl
first_not Greater p h = refl

-- What is there, and what is not.

pub no_some : {X A : Type 0} {x : X} → None ≡ Some x → A
no_some bad = absurd (none-some _ bad)

pub not_some : {X : Type 0} (o : Option X) → is_some o ≡ false → o ≡ None
not_some (Some x) h = absurd (cc)
not_some None h = refl

pub some_at : {X : Type 0} (P : X → Type 0) (o : Option X) (x : X) → o ≡ Some x → IfSome o P → P x
some_at P None x e h = no_some e
some_at P (Some y) x e h = subst P (same_Some y x e) h
