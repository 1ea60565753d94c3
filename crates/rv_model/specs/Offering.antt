-- What a select offers over several FROM items: one offer for each choice of one row per item whose restriction is
-- True. Equal offers stand as often as there are choices.
use Rattle.std.specs.Prelude.{ℕ, List, [], ◌∷◌, ◌++◌, filter, map, Bool}
use Rattle.std.specs.List.{flat_map}
use Rattle.rv_value.specs.declared.value.Value.{Value}
use Rattle.rv_value.specs.declared.record.Record.{Record}
use Rattle.rv_restrict.specs.declared.atom.Atom.{Atom}
use Rattle.rv_restrict.specs.declared.atom.ColRef.{ColRef}
use Rattle.rv_restrict.specs.Bind.{rows_reads, truth_over}
use Rattle.rv_restrict.specs.Truth.{is_true}
use Rattle.rv_catalog.specs.declared.def.Select.{Select}
use Rattle.rv_model.specs.declared.state.Offer.{Offer}

-- the values that references read in one row for each FROM item
abbrev pub picked_over : List ColRef → List (List Value) → List Value
picked_over columns rows = map (rows_reads rows) columns

abbrev pub offer_over : List ColRef → List ColRef → List (List Value) → Offer
offer_over order returns rows = record { order = picked_over order rows; returned = picked_over returns rows }

-- every choice of one row a table that begins with these rows; the tables are those still to choose from
abbrev pub choices : (ℕ → List Record) → List ℕ → List (List Value) → List (List (List Value))
choices rows [] chosen = chosen ∷ []
choices rows (t ∷ ts) chosen = flat_map (λ (r : Record). choices rows ts (chosen ++ r.values ∷ [])) (rows t)

-- the whole restriction is True
abbrev pub is_kept : List (List Atom) → List (List Value) → Bool
is_kept only rows = is_true (truth_over only rows)

-- THE OFFERS OF A SELECT over the rows of each table
abbrev pub offers_over : Select → (ℕ → List Record) → List Offer
offers_over s rows = map (offer_over s.order s.returns) (filter (is_kept s.only) (choices rows s.tables []))
