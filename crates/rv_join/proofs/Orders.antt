-- Items that are asked for no order.
use Rattle.std.proofs.Common.{◌≡◌, ℕ, List, [], true, false, ◌&&◌, cond, nat_eq, refl, ap, length}
use Rattle.std.proofs.lemmas.Bool.{ne_eqb}
use Rattle.std.proofs.lemmas.List.{nil_from_length}
use Rattle.rv_catalog.specs.declared.def.IndexDef.{IndexDef}
use Rattle.rv_catalog.specs.declared.def.Select.{Select}
use Rattle.rv_join.specs.Asking.{by_index, columns_of, order_at}

-- none is where the select has none
pub no_order : (s : Select) (indexes : List IndexDef) (p : ℕ) → length s.order ≡ 0 → order_at s indexes p ≡ []
no_order s indexes p none =
    let empty : s.order ≡ [] = nil_from_length s.order none in
    elim (nat_eq p 0 && by_index s indexes) as (λ b. cond b (columns_of s.order) [] ≡ []) [ true ↦ ap columns_of empty | false ↦ refl ]

-- no item but the first is
pub first_alone : (s : Select) (indexes : List IndexDef) (p : ℕ) → (p ≡ 0 → ⊥) → order_at s indexes p ≡ []
first_alone s indexes p other = rw (ne_eqb p 0 other) refl
