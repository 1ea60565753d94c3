use Rattle.std.proofs.Common.{◌≡◌, ◌∙◌, ◌+◌, sym}
use Rattle.std.specs.Prelude.{slice_get}
use Rattle.rv_blocks.specs.Flat.{Turns, flat, start_of}
use Rattle.rv_blocks.specs.Taking.{is_level}
use Rattle.rv_blocks.proofs.Order.{put_new}
use Rattle.rv_blocks.proofs.blocks.put_item.Goals as goal

pub returns-in_ok-insert_item-clause-old : goal.returns-in_ok-insert_item-clause-old
returns-in_ok-insert_item-clause-old g c =
    let turns : Turns (λ x. g.X.Placed.before x c.args.item) (flat c.args.blocks.now.items) (start_of c.args.blocks.now.items c.seek-spot.result.block + c.seek-spot.result.at) = rw c.as_slice.ensures.value at c.seek-spot.ensures.turns in
    let here : c.is_here.result ≡ is_level g.X.Placed.before c.args.item (slice_get (flat c.args.blocks.now.items) (start_of c.args.blocks.now.items c.seek-spot.result.block + c.seek-spot.result.at)) = rw c.as_slice-2.ensures.value at c.is_here.ensures in
    sym ((put_new g.X.Placed.before g.met.X.Placed.order c.args.item (flat c.args.blocks.now.items) _ c.requires.kept.rises turns (sym here ∙ c.if-is_here.false)).2)
