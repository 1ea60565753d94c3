-- Columns of different names have different numbers.
use Rattle.std.proofs.Common.{◌≡◌, ℕ, ◌==◌, List, [], ◌∷◌, ◌++◌, Bool, true, false, cond, not, bytes_eq, map, None, Some, Result, Ok, refl, arith}
use Rattle.std.specs.List.{list_any}
use Rattle.std.proofs.lemmas.Bool.Decides.{nat_tests}
use Rattle.std.proofs.lemmas.List.{map-append}
use Rattle.std.proofs.lemmas.Slice.Eq.{bytes_eq-Decides}
use Rattle.std.proofs.lemmas.Bool.{and_from, not-true, or_from, or_parts}
use Rattle.std.specs.Cmp.{first_so, second_so}
use Rattle.rv_lang.specs.declared.reply.Refusal.{Refusal}
use Rattle.rv_catalog.specs.Answers.{collected}
use Rattle.rv_catalog.specs.Fits.{all_different}
use Rattle.rv_catalog.specs.Resolve.{first_repeat, itself, stands_among}
use Rattle.rv_catalog.proofs.Steps.{bind_ok, ok_is}

repeat_step : (seen : List (List ℕ)) (x : List ℕ) (xs : List (List ℕ)) → first_repeat itself seen (x ∷ xs) ≡ None → (stands_among itself seen x ≡ false) × (first_repeat itself (seen ++ x ∷ []) xs ≡ None)
repeat_step seen x xs h = elim (stands_among itself seen x) as (λ b. cond b (Some x) (first_repeat itself (seen ++ x ∷ []) xs) ≡ None → (b ≡ false) × (first_repeat itself (seen ++ x ∷ []) xs ≡ None)) [
  | true ↦ λ e. absurd (cc)
  | false ↦ λ e. (refl, e)
] h

turned_number : (a b : ℕ) → a == b ≡ false → b == a ≡ false
turned_number a b h = grind (arith, nat_tests)

any_append : {X : Type 0} (p : X → Bool) (xs : List X) (x : X) → list_any p xs ≡ false → p x ≡ false → list_any p (xs ++ x ∷ []) ≡ false
any_append p [] x h k = or_from (p x) false k refl
any_append p (y ∷ ys) x h k = let n = or_parts (p y) (list_any p ys) h in or_from (p y) (list_any p (ys ++ x ∷ [])) n.0 (any_append p ys x n.1 k)

different_append : (done : List ℕ) (y : ℕ) → all_different done ≡ true → list_any (λ d. d == y) done ≡ false → all_different (done ++ y ∷ []) ≡ true
different_append [] y h k = refl
different_append (c ∷ cs) y h k = let n = or_parts (c == y) (list_any (λ d. d == y) cs) k in let apart : list_any (λ d. d == c) cs ≡ false = not-true (list_any (λ d. d == c) cs) (first_so (not (list_any (λ d. d == c) cs)) (all_different cs) h) in let still : list_any (λ d. d == c) (cs ++ y ∷ []) ≡ false = any_append (λ d. d == c) cs y apart (turned_number c y n.0) in and_from (not (list_any (λ d. d == c) (cs ++ y ∷ []))) (all_different (cs ++ y ∷ [])) (rw still refl) (different_append cs y (second_so (not (list_any (λ d. d == c) cs)) (all_different cs) h) n.1)

own_bytes : (a b : List ℕ) → a ≡ b → bytes_eq a b ≡ true
own_bytes a b h = (bytes_eq-Decides a b).1 h

-- a number among those done has its name among the names seen
number_named : (name_at : ℕ → List ℕ) (done : List ℕ) (y : ℕ) → stands_among itself (map name_at done) (name_at y) ≡ false → list_any (λ d. d == y) done ≡ false
number_named name_at [] y h = refl
number_named name_at (d ∷ ds) y h = let n = or_parts (bytes_eq (name_at y) (name_at d)) (stands_among itself (map name_at ds) (name_at y)) h in or_from (d == y) (list_any (λ d. d == y) ds) (elim (d == y) as (λ b. d == y ≡ b → b ≡ false) [
  | true ↦ λ e. let same : d ≡ y = grind (arith, nat_tests, e) in let own : bytes_eq (name_at y) (name_at d) ≡ true = rw same (own_bytes (name_at y) (name_at y) refl) in let no = n.0 in absurd (cc)
  | false ↦ λ e. refl
] refl) (number_named name_at ds y n.1)

pub numbers_differ : (f : List ℕ → Result ℕ Refusal) (name_at : ℕ → List ℕ) → ((x : List ℕ) (y : ℕ) → f x ≡ Ok y → bytes_eq x (name_at y) ≡ true) → (seen : List (List ℕ)) (done : List ℕ) (xs : List (List ℕ)) (ys : List ℕ) → map name_at done ≡ seen → all_different done ≡ true → first_repeat itself seen xs ≡ None → collected f done xs ≡ Ok ys → all_different ys ≡ true
numbers_differ f name_at named seen done [] ys m d r h = rw (← ok_is done ys h) d
numbers_differ f name_at named seen done (x ∷ xs) ys m d r h = let s = bind_ok (f x) (λ y. collected f (done ++ y ∷ []) xs) ys h in let step = repeat_step seen x xs r in let name : x ≡ name_at s.0 = (bytes_eq-Decides x (name_at s.0)).0 (named x s.0 s.1) in let apart : list_any (λ d. d == s.0) done ≡ false = number_named name_at done s.0 (rw (m, ← name) step.0) in numbers_differ f name_at named (seen ++ x ∷ []) (done ++ s.0 ∷ []) xs ys (rw (map-append name_at done (s.0 ∷ []), m, ← name) refl) (different_append done s.0 d apart) step.1 s.2
