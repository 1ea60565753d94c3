-- Some keys of a list stay.
use Rattle.std.proofs.Common.{◌≡◌, ℕ, ◌+◌, ◌<◌, ◌≤◌, ◌++◌, ◌∷◌, [], List, length, filter, nat_eq, Bool, true, false, cond, ◌||◌, refl, sym, ap, subst, ◌∙◌, inl, inr, arith, append-nil, Option, IfSome, IsSome}
use Rattle.std.proofs.lemmas.Bool.{cases_Bool, eqb-true}
use Rattle.std.proofs.lemmas.List.{length-append}
use Rattle.std.proofs.lemmas.List.Elements.{filter-append}
use Rattle.rv_value.proofs.Lists.{filter_length}
use Rattle.rv_keylist.specs.Keys.{has_key, Once}
use Rattle.rv_keylist.proofs.Onces.{Once-nil, Once-cons, Once-head, Once-tail}
use Rattle.rv_keylist.specs.Marks.{Marks, may_key}
use Rattle.rv_keylist.specs.Whole.{Moves, Placed, Whole}

pub none_stays : (p : ℕ → Bool) (n : ℕ) (xs : List ℕ) → has_key n xs ≡ false → has_key n (filter p xs) ≡ false
none_stays p n [] h = refl
none_stays p n (x ∷ xs) h =
    let here : nat_eq n x ≡ false = grind arith in
    let tail : has_key n xs ≡ false = grind arith in
    elim (p x) as (λ b. has_key n (cond b (x ∷ filter p xs) (filter p xs)) ≡ false) [
      | true ↦ grind (arith, here, none_stays p n xs tail)
      | false ↦ none_stays p n xs tail
    ]

-- a key for which the test is true stays
pub it_stays : (p : ℕ → Bool) (n : ℕ) (xs : List ℕ) → p n ≡ true → has_key n (filter p xs) ≡ has_key n xs
it_stays p n [] so = refl
it_stays p n (x ∷ xs) so =
    let tail = it_stays p n xs so in
    elim (p x) as (λ b. p x ≡ b → has_key n (cond b (x ∷ filter p xs) (filter p xs)) ≡ has_key n (x ∷ xs)) [
      | true ↦ λ e. ap (λ (b : Bool). nat_eq n x || b) tail
      | false ↦ λ e. tail ∙ other (nat_eq n x) (has_key n xs) (differs e)
    ] refl
  where
    differs : p x ≡ false → nat_eq n x ≡ false
    differs e = elim (cases_Bool (nat_eq n x)) [
      | inl here ↦ absurd (let bad : true ≡ false = sym so ∙ ap p (eqb-true n x here) ∙ e in cc)
      | inr off ↦ off
    ]

    other : (a b : Bool) → a ≡ false → b ≡ (a || b)
    other a b h = grind arith

once_stays : (p : ℕ → Bool) (xs : List ℕ) → Once xs → Once (filter p xs)
once_stays p [] once = Once-nil
once_stays p (x ∷ xs) once =
    let tail = once_stays p xs (Once-tail x xs once) in
    elim (p x) as (λ b. Once (cond b (x ∷ filter p xs) (filter p xs))) [
      | true ↦ Once-cons x (filter p xs) (none_stays p x xs (Once-head x xs once)) tail
      | false ↦ tail
    ]

-- Where the keys stand.

pub still_moved : (list few many few' many' : List ℕ) → Placed few many → few' ≡ filter (λ k. may_key k list) few → many' ≡ filter (λ k. may_key k list) many → 0 < length many' → few' ≡ []
still_moved list few many few' many' placed f m some =
    let fewer = filter_length (λ k. may_key k list) many in
    let same = ap length m in
    f ∙ ap (filter (λ k. may_key k list)) (placed.moved (omega arith))

-- the fixed buffer takes them all
pub few_fit : (few many : List ℕ) → length few ≤ 20 → (0 < length many → few ≡ []) → length many ≤ 20 → length few + length many ≤ 20
few_fit few [] held moved short = omega arith
few_fit few (x ∷ many) held moved short = let none = ap length (moved (omega arith)) in omega arith

pub few_moved : (few many few' : List ℕ) → few' ≡ few ++ many → length few + length many ≤ 20 → length few' ≤ 20
few_moved few many few' is fit = let long = ap length is ∙ length-append few many in omega arith

pub moved_few : (few many : List ℕ) (capacity : ℕ) (few' many' : List ℕ) (capacity' : ℕ) → few' ≡ few ++ many → many' ≡ [] → Moves few many capacity few' many' capacity'
moved_few few many capacity few' many' capacity' f m = record {
  keys = ap (λ (xs : List ℕ). few' ++ xs) m ∙ append-nil few' ∙ f;
  placed = record {
    moved = λ some. absurd (let none = ap length m in omega arith);
    spilled = λ some. absurd (let none = ap length m in omega arith);
  };
  room = λ some. absurd (let none = ap length m in omega arith);
}

pub stays_many : (few many : List ℕ) (capacity : ℕ) → (0 < length many → few ≡ []) → (0 < length many → 20 < length many) → Moves few many capacity few many capacity
stays_many few many capacity moved spilled = record { keys = refl; placed = record { moved = moved; spilled = spilled }; room = λ some. refl }

pub narrowed_keys : (list few many few' many' few'' many'' : List ℕ) → few' ≡ filter (λ k. may_key k list) few → many' ≡ filter (λ k. may_key k list) many → few'' ++ many'' ≡ few' ++ many' → few'' ++ many'' ≡ filter (λ k. may_key k list) (few ++ many)
narrowed_keys list few many few' many' few'' many'' f m e =
    e ∙ ap (λ (xs : List ℕ). xs ++ many') f ∙ ap (λ (xs : List ℕ). filter (λ k. may_key k list) few ++ xs) m ∙ sym (filter-append (λ k. may_key k list) few many)

-- the parts of a list of which some keys stayed
pub narrowed :
    (list few many few' many' few'' many'' : List ℕ) (capacity capacity' capacity'' : ℕ) (filter' filter'' : Option (List ℕ)) (spare : ℕ) (done : Bool)
    → Whole few many capacity filter' spare done
    → few' ≡ filter (λ k. may_key k list) few → many' ≡ filter (λ k. may_key k list) many → capacity' ≡ capacity
    → Moves few' many' capacity' few'' many'' capacity'' → length few'' ≤ 20
    → (IsSome filter' → IsSome filter'') → IfSome filter'' (λ words. Marks words (few'' ++ many''))
    → done ≡ false
    → Whole few'' many'' capacity'' filter'' 0 done
narrowed list few many few' many' few'' many'' capacity capacity' capacity'' filter' filter'' spare done whole f m same moves short kept marks unfinished =
    let keys = narrowed_keys list few many few' many' few'' many'' f m moves.keys in
    let count : length (few'' ++ many'') ≤ length (few ++ many) = let fewer = filter_length (λ k. may_key k list) (few ++ many) in let is = ap length keys in omega arith in
    record {
      placed = moves.placed;
      once = subst Once (sym keys) (once_stays (λ k. may_key k list) (few ++ many) whole.once);
      room = λ some. room some;
      filtered = λ some. kept (whole.filtered (omega arith));
      marks = marks;
      ascends = λ now. absurd (let bad : true ≡ false = sym now ∙ unfinished in cc);
    }
  where
    room : 20 < length (few'' ++ many'') + 0 → length (few'' ++ many'') + 0 ≤ capacity''
    room some =
        let keys = narrowed_keys list few many few' many' few'' many'' f m moves.keys in
        let fewer = filter_length (λ k. may_key k list) (few ++ many) in
        let is = ap length keys in
        let before : length (few ++ many) + spare ≤ capacity = whole.room (omega arith) in
        let sum = length-append few'' many'' in
        let room = moves.room (omega arith) in
        omega arith
