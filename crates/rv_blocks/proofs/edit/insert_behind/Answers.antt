use Rattle.std.proofs.Common.{add-one}
use Rattle.rv_blocks.proofs.Edits.{behind, behind_sized}
use Rattle.rv_blocks.proofs.edit.insert_behind.Goals as goal

pub returns-clause-ok : goal.returns-clause-ok
returns-clause-ok g c = rw (c.in_ok-insert.ensures.items, c.in_ok-block.ensures) (behind c.args.blocks.now.items c.args.spot.block c.args.spot.at _ c.args.item c.requires.there c.requires.end (add-one c.args.spot.block))

pub returns-clause-sized : goal.returns-clause-sized
returns-clause-sized g c = rw (c.in_ok-insert.ensures.items, c.in_ok-block.ensures) (behind_sized c.args.blocks.now.items c.args.spot.block _ c.args.item c.requires.there (add-one c.args.spot.block) c.requires.sized)
