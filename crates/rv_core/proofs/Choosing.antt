-- What a select offers rests on the rows of its tables alone.
use Rattle.std.proofs.Common.{◌≡◌, ℕ, List, [], ◌∷◌, ◌++◌, refl, ap, ◌∙◌, map, filter}
use Rattle.std.specs.List.{AllByRecursion, flat_map}
use Rattle.rv_value.specs.declared.value.Value.{Value}
use Rattle.rv_value.specs.declared.record.Record.{Record}
use Rattle.rv_catalog.specs.declared.def.Select.{Select}
use Rattle.rv_model.specs.Offering.{choices, is_kept, offer_over, offers_over}

each_same : {X Y : Type 0} (f g : X → List Y) → ((x : X) → f x ≡ g x) → (xs : List X) → flat_map f xs ≡ flat_map g xs
each_same f g same [] = refl
each_same f g same (x ∷ xs) =
    let head = same x in
    let rest = each_same f g same xs in
    rw (head, rest) refl

choices_same : (f g : ℕ → List Record) (tables : List ℕ) (chosen : List (List Value)) → AllByRecursion (λ (t : ℕ). f t ≡ g t) tables → choices f tables chosen ≡ choices g tables chosen
choices_same f g [] chosen same = refl
choices_same f g (t ∷ ts) chosen same =
    each_same (λ (r : Record). choices f ts (chosen ++ r.values ∷ [])) (λ (r : Record). choices g ts (chosen ++ r.values ∷ [])) (λ r. choices_same f g ts (chosen ++ r.values ∷ []) same.1) (f t)
    ∙ ap (flat_map (λ (r : Record). choices g ts (chosen ++ r.values ∷ []))) same.0

pub offers_same : (s : Select) (f g : ℕ → List Record) → AllByRecursion (λ (t : ℕ). f t ≡ g t) s.tables → offers_over s f ≡ offers_over s g
offers_same s f g same = ap (λ (cs : List (List (List Value))). map (offer_over s.order s.returns) (filter (is_kept s.only) cs)) (choices_same f g s.tables [] same)
