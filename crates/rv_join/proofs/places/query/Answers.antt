use Rattle.std.proofs.Common.{refl, ap, ◌∙◌}
use Rattle.rv_restrict.specs.Truth.{is_true}
use Rattle.rv_join.specs.declared.places.Item.{Item}
use Rattle.rv_join.proofs.places.query.Goals as goal

pub returns : goal.returns
returns c = record {
  item = record {
    table = ap (λ (i : Item). i.table) c.item-item.ensures;
    snap = refl;
    over = c.in_ok-copy.ensures ∙ ap (λ (i : Item). i.indexes) c.item-item.ensures;
    need = c.in_ok-copy-2.ensures ∙ ap (λ (i : Item). i.need) c.item-item.ensures;
    order = c.in_ok-copy-3.ensures ∙ ap (λ (i : Item). i.order) c.item-item.ensures;
    goal = refl;
  };
  only = c.in_ok-bind.ensures.bound;
  binds = λ row. ap is_true (c.in_ok-bind.ensures.law row);
  names = c.in_ok-bind.ensures.names;
}
