use Rattle.std.proofs.Common.{◌∙◌, subst, List, ℕ}
use Rattle.try_retrievals.specs.Asking.{Chosen, IsOrder}
use Rattle.try_retrievals.proofs.Asks.{can_ask}
use Rattle.try_retrievals.proofs.asked.query.Goals as goal

pub returns-clause-can : goal.returns-clause-can
returns-clause-can c = λ shown stands.
    let loaded = c.args.table.now.loaded in
    let indexes = c.in_ok-over.ensures ∙ c.from_vec.ensures in
    let chosen : Chosen loaded 4 c.in_ok-over.over = rw indexes c.in_ok-indexes.ensures in
    let order : IsOrder c.in_ok-over.over c.from_vec-3.result = rw (indexes, c.from_vec-3.ensures) (subst (λ (is : List (ℕ × List ℕ)). IsOrder is c.in_ok-order.order.items) c.as_slice.ensures.value c.in_ok-order.ensures) in
    can_ask shown c.args.table.now c.args.asked.now c.in_ok-only.only c.in_ok-over.over c.in_ok-needs.needs c.from_vec-3.result c.args.asked.now.goal c.in_ok-only.ensures chosen (c.in_ok-needs.ensures ∙ c.from_vec-2.ensures ∙ c.in_ok-need.ensures) order stands
