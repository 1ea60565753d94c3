-- The offer in hand is one that may be given, and taken out it leaves the others.
use Rattle.std.proofs.Common.{◌≡◌, ℕ, ◌+◌, ◌<◌, List, [], ◌∷◌, Bool, true, false, cond, not, ◌&&◌, refl, ap, sym, ◌∙◌, inl, inr, arith, length, suc, Option, Some, position, remove, nat_lt}
use Rattle.std.proofs.lemmas.Bool.{cases_Bool, and_from, and_parts, not-true, lt-ltb}
use Rattle.std.specs.List.{Contains, list_all, position_or_len}
use Rattle.std.specs.Ordering.{is_lt, is_eq, ordering_then}
use Rattle.std.specs.declared.cmp.Ordering.{Ordering}
use Rattle.std.specs.declared.cmp.Ordering.TheVariants.{Less, Equal, Greater}
use Rattle.rv_value.specs.declared.value.Value.{Value}
use Rattle.rv_value.specs.Order.{values_cmp}
use Rattle.rv_lang.specs.declared.reply.Reply.{Reply}
use Rattle.rv_lang.specs.declared.reply.Reply.TheVariants.{Row}
use Rattle.rv_model.specs.declared.state.Offer.{Offer}
use Rattle.rv_model.specs.Offers.{offer_cmp, offers_in_order, place_of, same_values, with_offer, without}
use Rattle.rv_model.specs.Step.{Offers, offers_after}
use Rattle.rv_value.proofs.Same.{values_itself, values_same}
use Rattle.rv_join.specs.Order.{IsLeastOf}
use Rattle.rv_cursor.specs.Left.{TakesOffer}

abbrev less : Offer → Offer → Bool
less a b = is_lt (offer_cmp a b)

-- the second has no lower order values than the first
abbrev not_after : Offer → Offer → Bool
not_after a b = not (is_lt (values_cmp b.order a.order))

equal_then : (a b : Ordering) → is_lt (ordering_then a b) ≡ true → is_lt a ≡ false → a ≡ Equal
equal_then Less b h f = cc
equal_then Equal b h f = refl
equal_then Greater b h f = cc

-- a test that all offers pass, sorted or not
all_in : (p : Offer → Bool) (o : Offer) (xs : List Offer) → p o ≡ true → list_all p xs ≡ true → list_all p (with_offer o xs) ≡ true
all_in p o [] here all = and_from (p o) true here refl
all_in p o (x ∷ xs) here all =
    let parts = and_parts (p x) (list_all p xs) all in
    let rest = all_in p o xs here parts.1 in
    elim (less x o) as (λ b. list_all p (cond b (x ∷ with_offer o xs) (o ∷ x ∷ xs)) ≡ true) [
      | true ↦ and_from (p x) (list_all p (with_offer o xs)) parts.0 rest
      | false ↦ and_from (p o) (list_all p (x ∷ xs)) here all
    ]

all_sorted : (p : Offer → Bool) (xs : List Offer) → list_all p xs ≡ true → list_all p (offers_in_order xs) ≡ true
all_sorted p [] all = refl
all_sorted p (x ∷ xs) all = let parts = and_parts (p x) (list_all p xs) all in all_in p x (offers_in_order xs) parts.0 (all_sorted p xs parts.1)

-- the offer has these order values and returns these values
abbrev is_it : Offer → Offer → Bool
is_it o x = same_values x.order o.order && same_values x.returned o.returned

it_is : (o : Offer) → is_it o o ≡ true
it_is o = rw (values_itself o.order, values_itself o.returned) refl

-- what comes before is another
before_it : (o x : Offer) → less x o ≡ true → is_it o x ≡ false
before_it o x h = other (values_cmp x.order o.order) (values_cmp x.returned o.returned) h
  where
    other : (a b : Ordering) → is_lt (ordering_then a b) ≡ true → (is_eq a && is_eq b) ≡ false
    other Less b e = refl
    other Equal Less e = refl
    other Equal Equal e = cc
    other Equal Greater e = cc
    other Greater b e = cc

-- an offer put in is found first where it was put, and taken out from there
record Found (o : Offer) (xs : List Offer) : Type 0 where
  pub within : position_or_len (is_it o) (with_offer o xs) < length (with_offer o xs)
  pub left : remove (with_offer o xs) (position_or_len (is_it o) (with_offer o xs)) ≡ xs

found : (o : Offer) (xs : List Offer) → Found o xs
found o [] = let it = it_is o in record { within = rw it (omega arith); left = rw it refl }
found o (x ∷ xs) = elim (cases_Bool (less x o)) [
  | inl t ↦
      let other = before_it o x t in
      let rest = found o xs in
      let k : 1 + position_or_len (is_it o) (with_offer o xs) ≡ suc (position_or_len (is_it o) (with_offer o xs)) = omega arith in
      record {
        within = rw (t, other) (let w = rest.within in omega arith);
        left = rw (t, other, k) (ap (λ ys. x ∷ ys) rest.left);
      }
  | inr f ↦ let it = it_is o in record { within = rw (f, it) (omega arith); left = rw (f, it) refl }
]

-- the first of the sorted offers has the order values of the one that is put in, where no other has lower ones
first_order : (o : Offer) (xs : List Offer) → list_all (not_after o) xs ≡ true → place_of (with_offer o xs) o.returned ≡ position (is_it o) (with_offer o xs)
first_order o [] all = refl
first_order o (x ∷ xs) all = elim (cases_Bool (less x o)) [
  | inl t ↦
      let parts = and_parts (not_after o x) (list_all (not_after o) xs) all in
      let low : is_lt (values_cmp x.order o.order) ≡ false = not-true (is_lt (values_cmp x.order o.order)) parts.0 in
      let same : x.order ≡ o.order = values_same x.order o.order (equal_then (values_cmp x.order o.order) (values_cmp x.returned o.returned) t low) in
      rw t (ap (λ (vs : List Value). position (λ (y : Offer). same_values y.order vs && same_values y.returned o.returned) (x ∷ with_offer o xs)) same)
  | inr f ↦ rw f refl
]

found_place : (o : Offer) (xs : List Offer) → list_all (not_after o) xs ≡ true → place_of (with_offer o xs) o.returned ≡ Some (position_or_len (is_it o) (with_offer o xs))
found_place o xs all =
    let f = found o xs in
    let t : nat_lt (position_or_len (is_it o) (with_offer o xs)) (length (with_offer o xs)) ≡ true = lt-ltb _ _ f.within in
    first_order o xs all ∙ rw t refl

here : (x : Offer) (xs : List Offer) → Contains (x ∷ xs) x
here x xs = (0, omega arith, refl)

there : (x e : Offer) (xs : List Offer) → Contains xs e → Contains (x ∷ xs) e
there x e xs k = (suc k.0, (let h = k.1 in omega arith), k.2)

-- none of some offers is less
none_less : (o : Offer) (xs : List Offer) → IsLeastOf o xs → list_all (not_after o) xs ≡ true
none_less o [] least = refl
none_less o (x ∷ xs) least = and_from (not_after o x) (list_all (not_after o) xs) (ap not (least x (here x xs))) (none_less o xs (λ e k. least e (there x e xs k)))

pub gives_least : (o : Offer) (rest : List Offer) (replies : Reply × Reply) → IsLeastOf o rest → replies.1 ≡ replies.0 → replies.0 ≡ Row o.returned → TakesOffer (offers_in_order (o ∷ rest)) replies (offers_in_order rest)
gives_least o rest replies least twice first =
    let all = all_sorted (not_after o) rest (none_less o rest least) in
    let place = found_place o (offers_in_order rest) all in
    let may : Offers (with_offer o (offers_in_order rest)) (Row o.returned) = rw place refl in
    let left : offers_in_order rest ≡ offers_after (with_offer o (offers_in_order rest)) (Row o.returned) = sym (ap (λ (p : Option ℕ). without p (with_offer o (offers_in_order rest))) place ∙ (found o (offers_in_order rest)).left) in
    (twice, rw first may, rw first left)
