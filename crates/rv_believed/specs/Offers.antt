-- Believed: what a select has to offer.
use Rattle.std.specs.Prelude.{ℕ, List, [], ◌∷◌, filter, map}
use Rattle.std.specs.List.{flat_map}
use Rattle.rv_value.specs.declared.value.Value.{Value}
use Rattle.rv_value.specs.declared.record.Record.{Record}
use Rattle.rv_restrict.specs.Bind.{rows_reads}
use Rattle.rv_catalog.specs.declared.def.Select.{Select}
use Rattle.rv_model.specs.declared.state.Offer.{Offer}
use Rattle.rv_believed.specs.Truth.{keeps}

-- every choice of one row out of each list
abbrev pub choices : List (List Record) → List (List (List Value))
choices [] = [] ∷ []
choices (rows ∷ more) =
    flat_map (λ (r : Record). map (λ others. r.values ∷ others) (choices more)) rows

-- what a choice of rows offers
abbrev pub offer_of : Select → List (List Value) → Offer
offer_of q rows =
    record { order = map (rows_reads rows) q.order; returned = map (rows_reads rows) q.returns }

-- THE OFFERS OF A SELECT over the rows of each table: one for each choice of one row per FROM item
-- for which the condition is True. Equal offers stand as often as there are choices.
abbrev pub offers_of : Select → (ℕ → List Record) → List Offer
offers_of q rows = map (offer_of q)
    (filter (λ choice. keeps (rows_reads choice) q.only) (choices (map rows q.tables)))
