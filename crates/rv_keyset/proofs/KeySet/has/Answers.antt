use Rattle.std.proofs.Common.{List, ap, ◌∙◌}
use Rattle.rv_keylist.specs.Keys.{has_key}
use Rattle.rv_keylist.specs.Listed.{Listed}
use Rattle.rv_keyset.specs.Sets.{Keyed, flat}
use Rattle.rv_keyset.proofs.Orders.{ascending_has}
use Rattle.rv_keyset.proofs.KeySet.has.Goals as goal

pub returns : goal.returns
returns c =
    let row = c.args.row.0 in
    c.is_in.ensures ∙ ap (λ (lists : List Listed). has_key row (flat lists)) c.as_slice.ensures.value ∙ ascending_has row (flat c.self.inside.runs.items) ∙ ap (λ (s : Keyed). has_key row s.keys) c.self.view_is
