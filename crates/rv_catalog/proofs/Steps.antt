-- Steps from the left that all gave an answer.
use Rattle.std.proofs.Common.{◌≡◌, ℕ, ◌+◌, List, [], ◌∷◌, ◌++◌, Bool, true, false, Option, Some, None, Result, Ok, Err, length, refl, arith, length-append}
use Rattle.std.specs.List.{list_all}
use Rattle.rv_lang.specs.declared.reply.Refusal.{Refusal}
use Rattle.rv_catalog.specs.Answers.{◌>>=◌, collected, ok_or, refuse_if, refuse_some, all_pass}
use Rattle.rv_catalog.proofs.Keeps.{all_append}

pub bind_ok : {A B : Type 0} (r : Result A Refusal) (f : A → Result B Refusal) (b : B) → (r >>= f) ≡ Ok b → (a : A) × (r ≡ Ok a) × (f a ≡ Ok b)
bind_ok (Ok a) f b h = (a, refl, h)
bind_ok (Err e) f b h = absurd (cc)

abbrev pub answer : {A : Type 0} → A → Result A Refusal
answer a = Ok a

pub ok_is : {A : Type 0} (a b : A) → answer a ≡ answer b → a ≡ b
ok_is a b h = cc

pub not_refused : (b : Bool) (r : Refusal) (u : Unit {0}) → refuse_if b r ≡ Ok u → b ≡ false
not_refused true r u h = absurd (cc)
not_refused false r u h = refl

pub none_refused : (o : Option (List ℕ)) (r : List ℕ → Refusal) (u : Unit {0}) → refuse_some o r ≡ Ok u → o ≡ None
none_refused None r u h = refl
none_refused (Some name) r u h = absurd (cc)

pub was_some : {A : Type 0} (o : Option A) (r : Refusal) (a : A) → ok_or o r ≡ Ok a → o ≡ Some a
was_some (Some b) r a h = let e : b ≡ a = cc in rw e refl
was_some None r a h = absurd (cc)

pub collected_all : {A B : Type 0} (f : A → Result B Refusal) (p : B → Bool) → ((x : A) (y : B) → f x ≡ Ok y → p y ≡ true) → (done : List B) (xs : List A) (ys : List B) → list_all p done ≡ true → collected f done xs ≡ Ok ys → list_all p ys ≡ true
collected_all f p each done [] ys d h = rw (← ok_is done ys h) d
collected_all f p each done (x ∷ xs) ys d h = let s = bind_ok (f x) (λ y. collected f (done ++ y ∷ []) xs) ys h in collected_all f p each (done ++ s.0 ∷ []) xs ys (all_append p done s.0 d (each x s.0 s.1)) s.2

pub collected_len : {A B : Type 0} (f : A → Result B Refusal) (done : List B) (xs : List A) (ys : List B) → collected f done xs ≡ Ok ys → length ys ≡ length done + length xs
collected_len f done [] ys h = rw (← ok_is done ys h) (omega arith)
collected_len f done (x ∷ xs) ys h = let s = bind_ok (f x) (λ y. collected f (done ++ y ∷ []) xs) ys h in let k = collected_len f (done ++ s.0 ∷ []) xs ys s.2 in omega (arith, k, length-append done (s.0 ∷ []))

-- tests that agree on each item agree on all
pub pass_same : {X : Type 0} (f g : X → Result (Unit {0}) Refusal) → ((x : X) → f x ≡ g x) → (xs : List X) → all_pass f xs ≡ all_pass g xs
pass_same f g same [] = refl
pass_same f g same (x ∷ xs) = λ k. same x k >>= (λ u. pass_same f g same xs k)
