-- Bridge: what a select offers is what the working definition gathers with the rows chosen so far.
use Rattle.std.proofs.Common.{◌≡◌, ℕ, List, [], ◌∷◌, ◌++◌, refl, sym, ap, ◌∙◌, map, filter, append_assoc}
use Rattle.std.specs.List.{flat_map}
use Rattle.std.proofs.lemmas.List.{append-nil, map-append}
use Rattle.std.proofs.lemmas.List.Elements.{filter_agree}
use Rattle.rv_value.specs.declared.value.Value.{Value}
use Rattle.rv_value.specs.declared.record.Record.{Record}
use Rattle.rv_restrict.specs.Bind.{rows_reads, truth_over}
use Rattle.rv_restrict.specs.Truth.{is_true}
use Rattle.rv_catalog.specs.declared.def.Select.{Select}
use Rattle.rv_model.specs.Offering as working
use Rattle.rv_model.specs.Offering.{offers_over}
use Rattle.rv_believed.specs.Offers.{choices, offer_of, offers_of}
use Rattle.rv_believed.specs.Truth.{keeps}
use Rattle.rv_believed.proofs.TruthSame.{keeps_same}

map_over : (chosen : List (List Value)) (v : List Value) (cs : List (List (List Value)))
    → map (λ c. (chosen ++ v ∷ []) ++ c) cs ≡ map (λ c. chosen ++ c) (map (λ c. v ∷ c) cs)
map_over chosen v [] = refl
map_over chosen v (c ∷ cs) = λ k. append_assoc chosen (v ∷ []) c k ∷ map_over chosen v cs k

over : (rows : ℕ → List Record) (ts : List ℕ) (chosen : List (List Value))
    → ((more : List (List Value)) → working.choices rows ts more ≡ map (λ c. more ++ c) (choices (map rows ts)))
    → (rs : List Record)
    → flat_map (λ (r : Record). working.choices rows ts (chosen ++ r.values ∷ [])) rs
    ≡ map (λ c. chosen ++ c) (flat_map (λ (r : Record). map (λ c. r.values ∷ c) (choices (map rows ts))) rs)
over rows ts chosen rest [] = refl
over rows ts chosen rest (r ∷ rs) =
    (λ k. (rest (chosen ++ r.values ∷ []) ∙ map_over chosen r.values (choices (map rows ts))) k ++ over rows ts chosen rest rs k)
    ∙ sym (map-append (λ c. chosen ++ c) (map (λ c. r.values ∷ c) (choices (map rows ts)))
    (flat_map (λ (q : Record). map (λ c. q.values ∷ c) (choices (map rows ts))) rs))

choices_same : (rows : ℕ → List Record) (ts : List ℕ) (chosen : List (List Value))
    → working.choices rows ts chosen ≡ map (λ c. chosen ++ c) (choices (map rows ts))
choices_same rows [] chosen = λ k. sym (append-nil chosen) k ∷ []
choices_same rows (t ∷ ts) chosen = over rows ts chosen (choices_same rows ts) (rows t)

map_nothing : (cs : List (List (List Value))) → map (λ (c : List (List Value)). [] ++ c) cs ≡ cs
map_nothing [] = refl
map_nothing (c ∷ cs) = ap (λ l. c ∷ l) (map_nothing cs)

pub offers_same : (q : Select) (rows : ℕ → List Record) → offers_of q rows ≡ offers_over q rows
offers_same q rows = ap (λ cs. map (offer_of q) cs) (filter_agree (λ choice. keeps (rows_reads choice) q.only) (λ choice. is_true (truth_over q.only choice))
    (λ choice. keeps_same (rows_reads choice) q.only) (choices (map rows q.tables)))
    ∙ ap (λ cs. map (offer_of q) (filter (λ choice. is_true (truth_over q.only choice)) cs))
    (sym (choices_same rows q.tables [] ∙ map_nothing (choices (map rows q.tables))))
