use Rattle.std.proofs.Common.{sym, ◌∙◌}
use Rattle.rv_reader.specs.Entries.{comes_before}
use Rattle.rv_reader.proofs.Orders.{order}
use Rattle.rv_blocks.proofs.Order.{put_new}
use Rattle.rv_overlay.proofs.Placing.{put_ascends}
use Rattle.rv_overlay.proofs.Runs.{put_level}
use Rattle.rv_overlay.proofs.laying.put.Goals as goal

pub returns-then-is_level-clause-put : goal.returns-then-is_level-clause-put
returns-then-is_level-clause-put c =
    sym (put_level c.args.entry c.args.entries.now.items c.place_of-place.result c.requires (rw c.as_slice.ensures.value at c.place_of-place.ensures) (sym (rw c.as_slice-2.ensures.value at c.is_level.ensures) ∙ c.if-is_level.true))

pub returns-clause-put : goal.returns-clause-put
returns-clause-put c =
    c.in_ok-insert.ensures.items
    ∙ (put_new comes_before order c.args.entry c.args.entries.now.items c.place_of-place.result c.requires (rw c.as_slice.ensures.value at c.place_of-place.ensures) (sym (rw c.as_slice-2.ensures.value at c.is_level.ensures) ∙ c.if-is_level.false)).0

pub returns-clause-ascend : goal.returns-clause-ascend
returns-clause-ascend c = rw (returns-clause-put c) (put_ascends c.args.entry c.args.entries.now.items c.requires)
