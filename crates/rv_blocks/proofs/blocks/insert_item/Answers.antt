use Rattle.std.proofs.Common.{◌∙◌, ◌+◌, add-one}
use Rattle.rv_blocks.specs.Flat.{flat, start_of}
use Rattle.rv_blocks.proofs.Order.{put_new, kept_insert}
use Rattle.rv_blocks.proofs.blocks.insert_item.Goals as goal

pub returns-clause-ok : goal.returns-clause-ok
returns-clause-ok g c = c.in_ok-insert_at.ensures.ok ∙ (put_new g.X.Placed.before g.met.X.Placed.order c.args.item (flat c.args.blocks.now.items) _ c.requires.kept.rises c.requires.turns c.requires.new).0

pub returns-clause-kept : goal.returns-clause-kept
returns-clause-kept g c =
    kept_insert g.X.Placed.before g.met.X.Placed.order c.args.item c.args.count.now _ c.args.blocks.now.items _ (start_of c.args.blocks.now.items c.args.spot.block + c.args.spot.at) c.requires.kept c.requires.turns.within c.in_ok-insert_at.ensures.sized (add-one c.args.count.now) c.in_ok-insert_at.ensures.ok
    (c.in_ok-insert_at.ensures.ok ∙ (put_new g.X.Placed.before g.met.X.Placed.order c.args.item (flat c.args.blocks.now.items) _ c.requires.kept.rises c.requires.turns c.requires.new).0)
