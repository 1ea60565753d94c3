-- What holds of each item of a list, filters and places: lemmas that the crates above share.
use Rattle.std.proofs.Common.{◌≡◌, ℕ, ◌<◌, ◌≤◌, zero, suc, List, [], ◌∷◌, ◌++◌, Bool, true, false, cond, refl, sym, ap, ◌∙◌, arith, inl, inr, length, filter, take, drop, remove, slice_get, slice_set, Some, Result, Ok, Err, OnOk, OnErr, All, subst, ◌||◌, ◌+◌}
use Rattle.std.proofs.lemmas.Bool.{and_parts, cases_Bool}
use Rattle.std.proofs.lemmas.List.{append_assoc, take_at}
use Rattle.std.proofs.lemmas.Option.{same_Some}
use Rattle.std.specs.List.{AllByRecursion, list_all, slice_index_or}

-- Of each item, as a proposition.

pub all_append : {X : Type 0} (P : X → Type 0) (xs ys : List X) → AllByRecursion P xs → AllByRecursion P ys → AllByRecursion P (xs ++ ys)
all_append P [] ys a b = b
all_append P (x ∷ xs) ys a b = (a.0, all_append P xs ys a.1 b)

pub all_filter : {X : Type 0} (P : X → Type 0) (p : X → Bool) (xs : List X) → AllByRecursion P xs → AllByRecursion P (filter p xs)
all_filter P p [] a = tt
all_filter P p (x ∷ xs) a =
    let rest = all_filter P p xs a.1 in
    elim (p x) as (λ b. AllByRecursion P (cond b (x ∷ filter p xs) (filter p xs))) [ true ↦ (a.0, rest) | false ↦ rest ]

pub all_take : {X : Type 0} (P : X → Type 0) (i : ℕ) (xs : List X) → AllByRecursion P xs → AllByRecursion P (take i xs)
all_take P zero [] a = tt
all_take P zero (x ∷ xs) a = tt
all_take P (suc i) [] a = tt
all_take P (suc i) (x ∷ xs) a = (a.0, all_take P i xs a.1)

pub all_drop : {X : Type 0} (P : X → Type 0) (i : ℕ) (xs : List X) → AllByRecursion P xs → AllByRecursion P (drop i xs)
all_drop P zero [] a = tt
all_drop P zero (x ∷ xs) a = a
all_drop P (suc i) [] a = tt
all_drop P (suc i) (x ∷ xs) a = all_drop P i xs a.1

pub all_more : {X : Type 0} (P Q : X → Type 0) → ((x : X) → P x → Q x) → (xs : List X) → AllByRecursion P xs → AllByRecursion Q xs
all_more P Q more [] a = tt
all_more P Q more (x ∷ xs) a = (more x a.0, all_more P Q more xs a.1)

pub all_got : {X : Type 0} (P : X → Type 0) (xs : List X) (i : ℕ) (x : X) → AllByRecursion P xs → slice_get xs i ≡ Some x → P x
all_got P [] i x a h = cc
all_got P (y ∷ ys) zero x a h = subst P (same_Some y x h) a.0
all_got P (y ∷ ys) (suc i) x a h = all_got P ys i x a.1 h

pub all_at : {X : Type 0} (P : X → Type 0) (xs : List X) (i : ℕ) (d : X) → AllByRecursion P xs → i < length xs → P (slice_index_or xs i d)
all_at P [] i d a within = absurd (omega arith)
all_at P (x ∷ xs) zero d a within = a.0
all_at P (x ∷ xs) (suc i) d a within = all_at P xs i d a.1 (omega arith)

pub all_or : {X : Type 0} (P : X → Type 0) (xs : List X) (i : ℕ) (d : X) → AllByRecursion P xs → P d → P (slice_index_or xs i d)
all_or P [] i d a other = other
all_or P (x ∷ xs) zero d a other = a.0
all_or P (x ∷ xs) (suc i) d a other = all_or P xs i d a.1 other

pub all_set : {X : Type 0} (P : X → Type 0) (xs : List X) (i : ℕ) (x : X) → AllByRecursion P xs → P x → AllByRecursion P (slice_set xs i x)
all_set P [] i x a here = tt
all_set P (y ∷ ys) zero x a here = (here, a.1)
all_set P (y ∷ ys) (suc i) x a here = (a.0, all_set P ys i x a.1 here)

pub all_remove : {X : Type 0} (P : X → Type 0) (xs : List X) (i : ℕ) → AllByRecursion P xs → AllByRecursion P (remove xs i)
all_remove P xs i a = all_append P (take i xs) (drop (suc i) xs) (all_take P i xs a) (all_drop P (suc i) xs a)

pub all_last : {X : Type 0} (P : X → Type 0) (xs : List X) (x : X) → AllByRecursion P xs → P x → AllByRecursion P (xs ++ x ∷ [])
all_last P [] x a here = (here, tt)
all_last P (y ∷ ys) x a here = (a.0, all_last P ys x a.1 here)

-- by recursion, and as std says it of each place
pub to_all : {X : Type 0} (P : X → Type 0) (xs : List X) → AllByRecursion P xs → All P xs
to_all P xs a k d within = all_at P xs k d a within

pub from_all : {X : Type 0} (P : X → Type 0) (xs : List X) → All P xs → AllByRecursion P xs
from_all P [] all = tt
from_all P (x ∷ xs) all = (all zero x (omega arith), from_all P xs (λ k d within. all (suc k) d (omega arith)))

-- Of each item, as a test.

pub all_true : {X : Type 0} (xs : List X) → list_all (λ (x : X). true) xs ≡ true
all_true [] = refl
all_true (x ∷ xs) = all_true xs

pub passes_at : {X : Type 0} (p : X → Bool) (xs : List X) (i : ℕ) (d : X) → i < length xs → list_all p xs ≡ true → p (slice_index_or xs i d) ≡ true
passes_at p [] i d within h = absurd (omega arith)
passes_at p (x ∷ xs) zero d within h = (and_parts (p x) (list_all p xs) h).0
passes_at p (x ∷ xs) (suc i) d within h = passes_at p xs i d (omega arith) (and_parts (p x) (list_all p xs) h).1

pub passes_take : {X : Type 0} (p : X → Bool) (n : ℕ) (xs : List X) → list_all p xs ≡ true → list_all p (take n xs) ≡ true
passes_take p zero xs h = refl
passes_take p (suc n) [] h = refl
passes_take p (suc n) (x ∷ xs) h = let parts = and_parts (p x) (list_all p xs) h in rw parts.0 (passes_take p n xs parts.1)

pub passes_more : {X : Type 0} (p q : X → Bool) → ((x : X) → p x ≡ true → q x ≡ true) → (xs : List X) → list_all p xs ≡ true → list_all q xs ≡ true
passes_more p q more [] h = refl
passes_more p q more (x ∷ xs) h = let parts = and_parts (p x) (list_all p xs) h in rw (more x parts.0) (passes_more p q more xs parts.1)

-- Filters.

pub filter_length : {X : Type 0} (p : X → Bool) (xs : List X) → length (filter p xs) ≤ length xs
filter_length p [] = omega arith
filter_length p (x ∷ xs) =
    let more = filter_length p xs in
    elim (p x) as (λ b. length (cond b (x ∷ filter p xs) (filter p xs)) ≤ length (x ∷ xs)) [ true ↦ omega arith | false ↦ omega arith ]

pub filter_passes : {X : Type 0} (p : X → Bool) (xs : List X) → list_all p (filter p xs) ≡ true
filter_passes p [] = refl
filter_passes p (x ∷ xs) =
    let rest = filter_passes p xs in
    elim (p x) as (λ b. p x ≡ b → list_all p (cond b (x ∷ filter p xs) (filter p xs)) ≡ true) [ true ↦ λ e. rw (e, rest) refl | false ↦ λ e. rest ] refl

-- what two tests leave of a list is no more than what one of them leaves
pub filtered_fewer : {X : Type 0} (p q : X → Bool) (xs : List X) → length (filter p (filter q xs)) ≤ length (filter p xs)
filtered_fewer p q [] = omega arith
filtered_fewer p q (x ∷ xs) =
    let rest = filtered_fewer p q xs in
    elim (cases_Bool (q x)) [
      | inl t ↦ elim (cases_Bool (p x)) [ inl u ↦ rw (t, u) (omega (arith, rest)) | inr v ↦ rw (t, v) rest ]
      | inr f ↦ elim (cases_Bool (p x)) [ inl u ↦ rw (f, u) (omega (arith, rest)) | inr v ↦ rw (f, v) rest ]
    ]

-- what one of two tests passes is no more than what each of them passes
pub either_few : {X : Type 0} (p q : X → Bool) (xs : List X) → length (filter (λ (x : X). p x || q x) xs) ≤ length (filter p xs) + length (filter q xs)
either_few {X = X} p q [] = omega arith
either_few {X = X} p q (x ∷ xs) =
    let more = either_few p q xs in
    elim (p x) as (λ b. length (cond (b || q x) (x ∷ filter (λ (y : X). p y || q y) xs) (filter (λ (y : X). p y || q y) xs)) ≤ length (cond b (x ∷ filter p xs) (filter p xs)) + length (filter q (x ∷ xs))) [
      | true ↦ elim (q x) as (λ b. length (x ∷ filter (λ (y : X). p y || q y) xs) ≤ length (x ∷ filter p xs) + length (cond b (x ∷ filter q xs) (filter q xs))) [ true ↦ omega arith | false ↦ omega arith ]
      | false ↦ elim (q x) as (λ b. length (cond b (x ∷ filter (λ (y : X). p y || q y) xs) (filter (λ (y : X). p y || q y) xs)) ≤ length (filter p xs) + length (cond b (x ∷ filter q xs) (filter q xs))) [ true ↦ omega arith | false ↦ omega arith ]
    ]

pub filter_true : {X : Type 0} (xs : List X) → filter (λ (x : X). true) xs ≡ xs
filter_true [] = refl
filter_true (x ∷ xs) = ap (λ ys. x ∷ ys) (filter_true xs)

pub filter_false : {X : Type 0} (xs : List X) → length (filter (λ (x : X). false) xs) ≡ 0
filter_false [] = refl
filter_false (x ∷ xs) = filter_false xs

-- A list and what it begins with.

pub first_same : {X : Type 0} (x y : X) (xs ys : List X) → x ∷ xs ≡ y ∷ ys → x ≡ y
first_same x y xs ys e = cc

pub front_taken : {X : Type 0} (front rest whole : List X) (n : ℕ) → front ++ rest ≡ whole → length front ≡ n → take n whole ≡ front
front_taken front rest whole n is count = ap (take n) (sym is) ∙ take_at front rest n count

-- An answer of which an error, or a success, owes what holds anyway.

pub on_err : {A E : Type 0} (r : Result A E) (P : Type 0) → P → OnErr r P
on_err (Ok a) P h = tt
on_err (Err e) P h = h

pub on_ok : {A E : Type 0} (r : Result A E) (P : Type 0) → P → OnOk r P
on_ok (Ok a) P h = h
on_ok (Err e) P h = tt

-- A list whose places are written one after another: one more, and then the rest.
pub written_more : {X : Type 0} (before : List X) (x : X) (rest through all : List X) → all ≡ through ++ rest → through ≡ before ++ x ∷ [] → all ≡ before ++ x ∷ rest
written_more {X} before x rest through all e f = e ∙ ap (λ (xs : List X). xs ++ rest) f ∙ append_assoc before (x ∷ []) rest
