-- The offers of a query, row by row: how the code comes to what rv_model says of them.
use Rattle.std.specs.Prelude.{List, [], ◌∷◌, ◌++◌, Bool, true, length, if◌then◌else◌}
use Rattle.std.specs.List.{flat_map}
use Rattle.rv_value.specs.declared.value.Value.{Value}
use Rattle.rv_value.specs.declared.record.Record.{Record}
use Rattle.rv_restrict.specs.declared.atom.Atom.{Atom}
use Rattle.rv_restrict.specs.Bind.{taken}
use Rattle.rv_catalog.specs.declared.def.Select.{Select}
use Rattle.rv_model.specs.declared.state.Offer.{Offer}
use Rattle.rv_model.specs.Offering.{is_kept, offer_over}

-- the offer of a choice, where the restriction is True on it
abbrev pub offer_kept : Select → List (List Value) → List Offer
offer_kept s chosen = if is_kept s.only chosen then offer_over s.order s.returns chosen ∷ [] else []

-- the offers of all choices that begin with these rows; the lists are those still to choose from
abbrev pub offers_from : Select → List (List Record) → List (List Value) → List Offer
offers_from s [] chosen = offer_kept s chosen
offers_from s (rows ∷ more) chosen = flat_map (λ (r : Record). offers_from s more (chosen ++ r.values ∷ [])) rows

-- the groups that name the last of these rows, and none behind it, are True on them
abbrev pub may_go_on : List (List Atom) → List (List Value) → Bool
may_go_on only [] = true
may_go_on only (row ∷ rows) = is_kept (taken (length rows) only) (row ∷ rows)
