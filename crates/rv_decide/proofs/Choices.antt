-- The offers that the nested loops find are those of the definition.
use Rattle.std.proofs.Common.{◌≡◌, ℕ, List, [], ◌∷◌, ◌++◌, Bool, true, false, refl, sym, ap, ◌∙◌, map, filter}
use Rattle.std.specs.Prelude.{if◌then◌else◌}
use Rattle.std.specs.List.{flat_map}
use Rattle.rv_value.specs.declared.value.Value.{Value}
use Rattle.rv_value.specs.declared.record.Record.{Record}
use Rattle.rv_catalog.specs.declared.def.Select.{Select}
use Rattle.rv_model.specs.declared.state.Offer.{Offer}
use Rattle.rv_model.specs.Offering.{choices, is_kept, offer_over, offers_over}
use Rattle.rv_decide.specs.Choosing.{offer_kept, offers_from}

-- the offers of choices that were made
abbrev offered : Select → List (List (List Value)) → List Offer
offered s made = map (offer_over s.order s.returns) (filter (is_kept s.only) made)

offered-append : (s : Select) (xs ys : List (List (List Value))) → offered s (xs ++ ys) ≡ offered s xs ++ offered s ys
offered-append s [] ys = refl
offered-append s (x ∷ xs) ys = by (is_kept s.only x) (offered-append s xs ys)
  where
    by : (b : Bool) → offered s (xs ++ ys) ≡ offered s xs ++ offered s ys → map (offer_over s.order s.returns) (if b then x ∷ filter (is_kept s.only) (xs ++ ys) else filter (is_kept s.only) (xs ++ ys)) ≡ map (offer_over s.order s.returns) (if b then x ∷ filter (is_kept s.only) xs else filter (is_kept s.only) xs) ++ offered s ys
    by true e = ap (λ os. offer_over s.order s.returns x ∷ os) e
    by false e = e

kept_one : (s : Select) (chosen : List (List Value)) → offer_kept s chosen ≡ offered s (chosen ∷ [])
kept_one s chosen = by (is_kept s.only chosen)
  where
    by : (b : Bool) → (if b then offer_over s.order s.returns chosen ∷ [] else []) ≡ map (offer_over s.order s.returns) (if b then chosen ∷ [] else [])
    by true = refl
    by false = refl

each_row : (s : Select) (f : Record → List Offer) (g : Record → List (List (List Value))) → ((r : Record) → f r ≡ offered s (g r)) → (rs : List Record) → flat_map f rs ≡ offered s (flat_map g rs)
each_row s f g same [] = refl
each_row s f g same (r ∷ rs) = ap (λ os. os ++ flat_map f rs) (same r) ∙ ap (λ os. offered s (g r) ++ os) (each_row s f g same rs) ∙ sym (offered-append s (g r) (flat_map g rs))

offers_chosen : (s : Select) (rows : ℕ → List Record) (tables : List ℕ) (chosen : List (List Value)) → offers_from s (map rows tables) chosen ≡ offered s (choices rows tables chosen)
offers_chosen s rows [] chosen = kept_one s chosen
offers_chosen s rows (t ∷ ts) chosen =
    each_row s (λ (r : Record). offers_from s (map rows ts) (chosen ++ r.values ∷ [])) (λ (r : Record). choices rows ts (chosen ++ r.values ∷ []))
    (λ (r : Record). offers_chosen s rows ts (chosen ++ r.values ∷ [])) (rows t)

-- the lists of rows are those of the tables
offers_are : (s : Select) (lists : List (List Record)) (rows : ℕ → List Record) → lists ≡ map rows s.tables → offers_from s lists [] ≡ offers_over s rows
offers_are s lists rows e = ap (λ ls. offers_from s ls []) e ∙ offers_chosen s rows s.tables []

-- what is found from nothing
pub offers_found : (s : Select) (lists : List (List Record)) (chosen : List (List Value)) (before found : List Offer) → before ≡ [] → chosen ≡ [] → found ≡ before ++ offers_from s lists chosen → (rows : ℕ → List Record) → lists ≡ map rows s.tables → found ≡ offers_over s rows
offers_found s lists chosen before found none first e rows same =
    e ∙ ap (λ os. os ++ offers_from s lists chosen) none ∙ ap (λ c. offers_from s lists c) first ∙ offers_are s lists rows same
