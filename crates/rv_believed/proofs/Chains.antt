-- Chains of tests and answers.
use Rattle.std.proofs.Common.{◌≡◌, refl, sym, ap, ◌∙◌, append_assoc}
use Rattle.std.specs.Prelude.{List, [], ◌∷◌, ◌++◌, Bool, true, false, ◌||◌, Result, Ok, Err, map}
use Rattle.std.specs.List.{list_any}
use Rattle.std.proofs.lemmas.List.{append-nil}
use Rattle.rv_lang.specs.declared.reply.Refusal.{Refusal}
use Rattle.rv_catalog.specs.Answers.{◌>>=◌, collected, refuse_if, all_pass}
use Rattle.rv_believed.specs.Answers.{Test, answers}

pub map_same : {X Y : Type 0} (f g : X → Y) → ((x : X) → f x ≡ g x) → (xs : List X) → map f xs ≡ map g xs
map_same f g same [] = refl
map_same f g same (x ∷ xs) = λ k. same x k ∷ map_same f g same xs k

-- ---- one after another

pub test_end : (t : Test) → (t >>= (λ u. Ok tt)) ≡ t
test_end (Ok u) = refl
test_end (Err e) = refl

pub in_a_row : {A B C : Type 0} (r : Result A Refusal) (f : A → Result B Refusal) (g : B → Result C Refusal)
    → ((r >>= f) >>= g) ≡ (r >>= (λ a. f a >>= g))
in_a_row (Ok a) f g = refl
in_a_row (Err e) f g = refl

pub same_after : {A B : Type 0} (r : Result A Refusal) (f g : A → Result B Refusal) → ((a : A) → f a ≡ g a)
    → (r >>= f) ≡ (r >>= g)
same_after (Ok a) f g same = same a
same_after (Err e) f g same = refl

-- ---- `collected` with its accumulator, and `answers`

abbrev behind : {B : Type 0} → List B → Result (List B) Refusal → Result (List B) Refusal
behind done (Ok ys) = Ok (done ++ ys)
behind done (Err e) = Err e

behind_twice : {B : Type 0} (done : List B) (y : B) (r : Result (List B) Refusal)
    → behind (done ++ y ∷ []) r ≡ behind done (r >>= (λ ys. Ok (y ∷ ys)))
behind_twice done y (Ok ys) = ap Ok (append_assoc done (y ∷ []) ys)
behind_twice done y (Err e) = refl

collected_one : {A B : Type 0} (f : A → Result B Refusal) (done : List B) (xs : List A)
    → ((more : List B) → collected f more xs ≡ behind more (answers f xs)) → (r : Result B Refusal)
    → (r >>= (λ y. collected f (done ++ y ∷ []) xs))
    ≡ behind done (r >>= (λ y. answers f xs >>= (λ ys. Ok (y ∷ ys))))
collected_one f done xs rest (Ok y) = rest (done ++ y ∷ []) ∙ behind_twice done y (answers f xs)
collected_one f done xs rest (Err e) = refl

collected_behind : {A B : Type 0} (f : A → Result B Refusal) (xs : List A) (done : List B)
    → collected f done xs ≡ behind done (answers f xs)
collected_behind f [] done = ap Ok (sym (append-nil done))
collected_behind f (x ∷ xs) done = collected_one f done xs (collected_behind f xs) (f x)

behind_none : {B : Type 0} (r : Result (List B) Refusal) → behind [] r ≡ r
behind_none (Ok ys) = refl
behind_none (Err e) = refl

answers_same : {A B : Type 0} (f g : A → Result B Refusal) → ((a : A) → f a ≡ g a) → (xs : List A)
    → answers f xs ≡ answers g xs
answers_same f g same [] = refl
answers_same f g same (x ∷ xs) =
    λ k. same x k >>= (λ y. answers_same f g same xs k >>= (λ ys. Ok (y ∷ ys)))

pub collected_same : {A B : Type 0} (f g : A → Result B Refusal) → ((a : A) → f a ≡ g a) → (xs : List A)
    → collected f [] xs ≡ answers g xs
collected_same f g same xs = collected_behind f xs [] ∙ behind_none (answers f xs) ∙ answers_same f g same xs

-- ---- one test for all, and a test of each

one_test : {A : Type 0} (p : A → Bool) (r : Refusal) (xs : List A)
    → all_pass (λ x. refuse_if (p x) r) xs ≡ refuse_if (list_any p xs) r → (b : Bool)
    → (refuse_if b r >>= (λ u. all_pass (λ x. refuse_if (p x) r) xs)) ≡ refuse_if (b || list_any p xs) r
one_test p r xs rest true = refl
one_test p r xs rest false = rest

pub all_pass_refuse : {A : Type 0} (p : A → Bool) (r : Refusal) (xs : List A)
    → all_pass (λ x. refuse_if (p x) r) xs ≡ refuse_if (list_any p xs) r
all_pass_refuse p r [] = refl
all_pass_refuse p r (x ∷ xs) = one_test p r xs (all_pass_refuse p r xs) (p x)
