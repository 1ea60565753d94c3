-- Tests, truths and numbers: what follows where a test is true or false.
use Rattle.std.proofs.Common.{◌≡◌, ℕ, Bool, true, false, ◌&&◌, ◌==◌, refl, arith}
use Rattle.std.proofs.lemmas.Bool.Decides.{nat_tests}
use Rattle.rv_restrict.specs.declared.atom.Tri.{Tri}
use Rattle.rv_restrict.specs.declared.atom.Tri.TheVariants.{True, False, Unknown}
use Rattle.rv_restrict.specs.Truth.{greater, lesser, truth_of}

pub and_true : (a : Bool) → (a && true) ≡ false → a ≡ false
and_true true h = h
and_true false h = refl

pub same_number : (a b : ℕ) → a == b ≡ true → a ≡ b
same_number a b h = grind (arith, nat_tests)

pub is_itself : (n : ℕ) → n == n ≡ true
is_itself n = grind (arith, nat_tests)

pub lesser_left : (a b : Tri) → lesser a b ≡ True → a ≡ True
lesser_left True b h = refl
lesser_left False b h = h
lesser_left Unknown True h = h
lesser_left Unknown False h = absurd (cc)
lesser_left Unknown Unknown h = h

pub lesser_right : (a b : Tri) → lesser a b ≡ True → b ≡ True
lesser_right True b h = h
lesser_right False b h = absurd (cc)
lesser_right Unknown True h = refl
lesser_right Unknown False h = h
lesser_right Unknown Unknown h = h

pub greater_False : (a : Tri) → greater a False ≡ a
greater_False True = refl
greater_False False = refl
greater_False Unknown = refl

pub truth_of_true : (b : Bool) → truth_of b ≡ True → b ≡ true
truth_of_true true h = refl
truth_of_true false h = absurd (cc)
