use Rattle.std.proofs.Common.{◌∙◌, sym}
use Rattle.rv_blocks.proofs.Order.{put_new, stands}
use Rattle.rv_blocks.specs.Flat.{flat}
use Rattle.rv_blocks.proofs.blocks.find_item.Goals as goal

pub returns-then-is_here : goal.returns-then-is_here
returns-then-is_here g c = c.item_at.ensures ∙ stands g.X.Placed.before g.met.X.Placed.order c.args.like.now (flat c.args.blocks.now) _ c.requires.rises c.seek-spot.ensures.turns (sym c.is_here.ensures ∙ c.if-is_here.true)

pub returns-else-is_here : goal.returns-else-is_here
returns-else-is_here g c = sym (put_new g.X.Placed.before g.met.X.Placed.order c.args.like.now (flat c.args.blocks.now) _ c.requires.rises c.seek-spot.ensures.turns (sym c.is_here.ensures ∙ c.if-is_here.false)).2
