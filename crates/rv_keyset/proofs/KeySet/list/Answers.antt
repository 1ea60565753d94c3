use Rattle.std.proofs.Common.{ap, sym, ◌∙◌}
use Rattle.rv_keyset.specs.Sets.{Keyed, ascending}
use Rattle.rv_keyset.proofs.Lists.{one_finished, one_list}
use Rattle.rv_keyset.proofs.Orders.{ascending_same}
use Rattle.rv_keyset.proofs.KeySet.list.Goals as goal

pub returns-clause-keys : goal.returns-clause-keys
returns-clause-keys c =
    let list = c.index-list.result.now in
    let one = one_list c.self.inside.runs.items list c.index-list.ensures (ap (λ (s : Keyed). s.whole) c.self.view_is ∙ c.requires) in
    sym (ap (λ (s : Keyed). s.keys) (sym c.self.view_is) ∙ ap ascending one ∙ ascending_same list.keys (c.len-keys.ensures.ascends (one_finished c.self.inside.runs.items list c.index-list.ensures (ap (λ (s : Keyed). s.whole) c.self.view_is ∙ c.requires) c.self.invariant.finished)))
