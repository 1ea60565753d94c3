-- Facts of all items of a list.
use Rattle.std.proofs.Common.{List, [], ◌∷◌, Bool, filter, map, Result, Ok, Err, IfOk, OnOk}
use Rattle.std.specs.List.{AllByRecursion}
use Rattle.rv_value.proofs.Lists.{all_append, all_filter}
use Rattle.rv_rows.specs.Rising.{put_in}

pub all_put : {X : Type 0} (P : X → Type 0) (before : X → X → Bool) (x : X) (xs : List X) → P x → AllByRecursion P xs → AllByRecursion P (put_in before x xs)
all_put P before x xs here a = all_append P (filter (λ y. before y x) xs) (x ∷ filter (λ y. before x y) xs) (all_filter P (λ y. before y x) xs a) (here, all_filter P (λ y. before x y) xs a)

pub all_map : {X Y : Type 0} (P : Y → Type 0) (f : X → Y) (xs : List X) → AllByRecursion (λ x. P (f x)) xs → AllByRecursion P (map f xs)
all_map P f [] a = tt
all_map P f (x ∷ xs) a = (a.0, all_map P f xs a.1)

pub if_ok_two : {A E : Type 0} (r : Result A E) (P Q S : A → Type 0) → ((a : A) → P a → Q a → S a) → IfOk r P → IfOk r Q → IfOk r S
if_ok_two (Ok a) P Q S more h k = more a h k
if_ok_two (Err e) P Q S more h k = tt

pub any_ok : {A E : Type 0} (r : Result A E) (P : A → Type 0) → ((a : A) → P a) → IfOk r P
any_ok (Ok a) P all = all a
any_ok (Err e) P all = tt

pub if_ok_three : {A E : Type 0} (r : Result A E) (P Q R S : A → Type 0) → ((a : A) → P a → Q a → R a → S a) → IfOk r P → IfOk r Q → IfOk r R → IfOk r S
if_ok_three (Ok a) P Q R S more h k l = more a h k l
if_ok_three (Err e) P Q R S more h k l = tt

-- what holds of each answer that is not an error
pub on_ok : {A E : Type 0} (r : Result A E) (P : Type 0) (Q : A → Type 0) → ((a : A) → P → Q a) → OnOk r P → IfOk r Q
on_ok (Ok a) P Q more h = more a h
on_ok (Err e) P Q more h = tt
