use Rattle.std.proofs.Common.{◌≡◌, ◌∙◌, ◌+◌, sym}
use Rattle.std.specs.Prelude.{slice_get}
use Rattle.rv_blocks.specs.Flat.{Turns, flat, start_of}
use Rattle.rv_blocks.specs.Taking.{is_level}
use Rattle.rv_blocks.proofs.Order.{put_new, over}
use Rattle.rv_blocks.proofs.blocks.take_item.Goals as goal

pub returns-in_ok-item-clause-ok : goal.returns-in_ok-item-clause-ok
returns-in_ok-item-clause-ok g c =
    let turns : Turns (λ x. g.X.Placed.before x c.args.like.now) (flat c.args.blocks.now.items) (start_of c.args.blocks.now.items c.seek-spot.result.block + c.seek-spot.result.at) = rw c.as_slice.ensures.value at c.seek-spot.ensures.turns in
    let here : c.is_here.result ≡ is_level g.X.Placed.before c.args.like.now (slice_get (flat c.args.blocks.now.items) (start_of c.args.blocks.now.items c.seek-spot.result.block + c.seek-spot.result.at)) = rw c.as_slice-2.ensures.value at c.is_here.ensures in
    c.in_ok-item.ensures.ok ∙ (over g.X.Placed.before g.met.X.Placed.order c.args.like.now c.in_ok-item.item (flat c.args.blocks.now.items) _ c.requires.kept.rises turns c.in_ok-item.ensures.taken (sym here ∙ c.if-is_here.true)).1

pub returns-in_ok-item-clause-old : goal.returns-in_ok-item-clause-old
returns-in_ok-item-clause-old g c =
    let turns : Turns (λ x. g.X.Placed.before x c.args.like.now) (flat c.args.blocks.now.items) (start_of c.args.blocks.now.items c.seek-spot.result.block + c.seek-spot.result.at) = rw c.as_slice.ensures.value at c.seek-spot.ensures.turns in
    let here : c.is_here.result ≡ is_level g.X.Placed.before c.args.like.now (slice_get (flat c.args.blocks.now.items) (start_of c.args.blocks.now.items c.seek-spot.result.block + c.seek-spot.result.at)) = rw c.as_slice-2.ensures.value at c.is_here.ensures in
    sym ((over g.X.Placed.before g.met.X.Placed.order c.args.like.now c.in_ok-item.item (flat c.args.blocks.now.items) _ c.requires.kept.rises turns c.in_ok-item.ensures.taken (sym here ∙ c.if-is_here.true)).2)

pub returns-else-is_here-clause-ok : goal.returns-else-is_here-clause-ok
returns-else-is_here-clause-ok g c =
    let turns : Turns (λ x. g.X.Placed.before x c.args.like.now) (flat c.args.blocks.now.items) (start_of c.args.blocks.now.items c.seek-spot.result.block + c.seek-spot.result.at) = rw c.as_slice.ensures.value at c.seek-spot.ensures.turns in
    let here : c.is_here.result ≡ is_level g.X.Placed.before c.args.like.now (slice_get (flat c.args.blocks.now.items) (start_of c.args.blocks.now.items c.seek-spot.result.block + c.seek-spot.result.at)) = rw c.as_slice-2.ensures.value at c.is_here.ensures in
    (put_new g.X.Placed.before g.met.X.Placed.order c.args.like.now (flat c.args.blocks.now.items) _ c.requires.kept.rises turns (sym here ∙ c.if-is_here.false)).1

pub returns-else-is_here-clause-old : goal.returns-else-is_here-clause-old
returns-else-is_here-clause-old g c =
    let turns : Turns (λ x. g.X.Placed.before x c.args.like.now) (flat c.args.blocks.now.items) (start_of c.args.blocks.now.items c.seek-spot.result.block + c.seek-spot.result.at) = rw c.as_slice.ensures.value at c.seek-spot.ensures.turns in
    let here : c.is_here.result ≡ is_level g.X.Placed.before c.args.like.now (slice_get (flat c.args.blocks.now.items) (start_of c.args.blocks.now.items c.seek-spot.result.block + c.seek-spot.result.at)) = rw c.as_slice-2.ensures.value at c.is_here.ensures in
    sym ((put_new g.X.Placed.before g.met.X.Placed.order c.args.like.now (flat c.args.blocks.now.items) _ c.requires.kept.rises turns (sym here ∙ c.if-is_here.false)).2)
