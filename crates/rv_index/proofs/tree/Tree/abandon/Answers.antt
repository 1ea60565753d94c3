use Rattle.std.proofs.Common.{ℕ, ◌-◌, ◌∙◌, ap, arith, None, []}
use Rattle.std.specs.Prelude.{unwrap_or, slice_index_or}
use Rattle.rv_node.specs.Nodes.{empty_node}
use Rattle.rv_index.proofs.Rooting.{value_from-above}
use Rattle.rv_index.proofs.tree.Tree.abandon.Goals as goal

pub returns-clause-later : goal.returns-clause-later
returns-clause-later c = λ snap l pos.
    let last = c.args.commit - 1 in
    let each = λ (id : ℕ). ap (λ v. unwrap_or v empty_node)
    (value_from-above None (slice_index_or c.abandon.new.self id []) c.args.commit snap last (c.abandon.ensures.below id) l (omega arith) ∙ c.abandon.ensures.same id last (omega arith)) in
    rw (← c.self.view_is) (λ i id. each id i)
