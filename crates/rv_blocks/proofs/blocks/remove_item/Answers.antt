use Rattle.std.proofs.Common.{◌+◌, arith}
use Rattle.rv_blocks.specs.Flat.{start_of}
use Rattle.rv_blocks.proofs.Flats.{start_within}
use Rattle.rv_blocks.proofs.Order.{kept_remove}
use Rattle.rv_blocks.proofs.blocks.remove_item.Goals as goal

pub returns-clause-kept : goal.returns-clause-kept
returns-clause-kept g c =
    let within = start_within c.args.blocks.now.items c.args.spot.block c.requires.there in
    kept_remove g.X.Placed.before g.met.X.Placed.order c.args.count.now c.args.blocks.now.items _ (start_of c.args.blocks.now.items c.args.spot.block + c.args.spot.at) c.requires.kept (omega (arith, within, c.requires.inside)) c.in_ok-item.ensures.sized c.in_ok-item.ensures.ok
