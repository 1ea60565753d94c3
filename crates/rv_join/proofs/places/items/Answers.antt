use Rattle.std.proofs.Common.{arith}
use Rattle.std.proofs.lemmas.Grind.{common_steps}
use Rattle.rv_join.proofs.Running.{items_more}
use Rattle.rv_join.proofs.places.items.Goals as goal

pub places-preserved : goal.places-preserved
places-preserved c = rw c.in_ok-push.ensures.items (record {
  count = let long = c.places.invariant.count in grind (arith, common_steps, long);
  each = items_more c.args.select.now c.args.indexes.now c.places.items.items c.places.place c.in_ok-item_of.field-0 c.places.invariant.count c.places.invariant.each c.in_ok-item_of.ensures;
})
