use Rattle.std.specs.Option.{option_copied}
use Rattle.rv_reader.proofs.Halving.{ascend_behind, long_behind}
use Rattle.rv_index.proofs.Finding.{wanted_is}
use Rattle.rv_index.proofs.parts.wanted_part.Goals as goal

pub count_front-requires-clause-ascend : goal.count_front-requires-clause-ascend
count_front-requires-clause-ascend c = ascend_behind c.count_ahead.result c.args.leaf.now c.split_at.result.1.now c.split_at.ensures.back c.requires.ascend

pub count_front-requires-clause-long : goal.count_front-requires-clause-long
count_front-requires-clause-long c = long_behind c.args.range.now c.count_ahead.result c.args.leaf.now c.split_at.result.1.now c.split_at.ensures.back c.requires.long

pub returns : goal.returns
returns c =
    wanted_is c.args.range.now (option_copied c.args.from) c.args.leaf.now c.split_at.result.1.now c.split_at-2.result.0.now c.count_ahead.result c.count_front.result c.split_at.ensures.back c.split_at-2.ensures.front
    c.count_ahead.ensures.passes c.count_ahead.ensures.bound c.count_front.ensures.passes c.count_front.ensures.bound
