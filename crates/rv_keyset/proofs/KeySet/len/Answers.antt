use Rattle.std.proofs.Common.{List, length, ap, subst, sym, ◌∙◌}
use Rattle.std.specs.List.Sorted.{IsStrictlyIncreasing}
use Rattle.rv_keylist.specs.Listed.{Listed}
use Rattle.rv_keyset.specs.Sets.{Keyed, flat}
use Rattle.rv_keyset.proofs.Orders.{ascending_length, ascending_rises}
use Rattle.rv_keyset.proofs.KeySet.len.Goals as goal

pub returns-clause-count : goal.returns-clause-count
returns-clause-count c = c.count_in.ensures ∙ ap (λ (lists : List Listed). length (flat lists)) c.as_slice.ensures.value ∙ sym (ascending_length (flat c.self.inside.runs.items)) ∙ ap (λ (s : Keyed). length s.keys) c.self.view_is

pub returns-clause-ascends : goal.returns-clause-ascends
returns-clause-ascends c = subst (λ (s : Keyed). IsStrictlyIncreasing s.keys) c.self.view_is (ascending_rises (flat c.self.inside.runs.items) c.self.invariant.once)
