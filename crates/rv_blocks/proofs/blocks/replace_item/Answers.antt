use Rattle.std.proofs.Common.{◌∙◌, ◌+◌}
use Rattle.rv_blocks.specs.Flat.{flat, start_of}
use Rattle.rv_blocks.proofs.Order.{over, kept_replace}
use Rattle.rv_blocks.proofs.blocks.replace_item.Goals as goal

pub returns-clause-ok : goal.returns-clause-ok
returns-clause-ok g c = c.in_ok-old.ensures.ok ∙ (over g.X.Placed.before g.met.X.Placed.order c.args.item c.in_ok-old.old (flat c.args.blocks.now.items) _ c.requires.kept.rises c.requires.turns c.in_ok-old.ensures.taken c.requires.level).0

pub returns-clause-old : goal.returns-clause-old
returns-clause-old g c = (over g.X.Placed.before g.met.X.Placed.order c.args.item c.in_ok-old.old (flat c.args.blocks.now.items) _ c.requires.kept.rises c.requires.turns c.in_ok-old.ensures.taken c.requires.level).2

pub returns-clause-kept : goal.returns-clause-kept
returns-clause-kept g c =
    kept_replace g.X.Placed.before g.met.X.Placed.order c.args.item c.args.count c.args.blocks.now.items _ (start_of c.args.blocks.now.items c.args.spot.block + c.args.spot.at) c.requires.kept c.in_ok-old.ensures.sized c.in_ok-old.ensures.ok
    (c.in_ok-old.ensures.ok ∙ (over g.X.Placed.before g.met.X.Placed.order c.args.item c.in_ok-old.old (flat c.args.blocks.now.items) _ c.requires.kept.rises c.requires.turns c.in_ok-old.ensures.taken c.requires.level).0)
