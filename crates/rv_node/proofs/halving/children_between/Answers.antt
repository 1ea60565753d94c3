use Rattle.std.proofs.Common.{◌∙◌, sym, subst, ap, arith, length, length-drop}
use Rattle.rv_reader.specs.Entries.{AreLong, Ascend}
use Rattle.rv_reader.proofs.Halving.{ascend_behind, long_behind}
use Rattle.rv_node.proofs.Parted.{found_between}
use Rattle.rv_node.proofs.halving.children_between.Goals as goal

pub count_before-first-requires-clause-ascend : goal.count_before-first-requires-clause-ascend
count_before-first-requires-clause-ascend c = subst Ascend (sym c.split_at.ensures.back) c.requires.ascend

pub count_before-first-requires-clause-long : goal.count_before-first-requires-clause-long
count_before-first-requires-clause-long c = subst (AreLong c.args.range.now) (sym c.split_at.ensures.back) c.requires.long

pub count_front-requires-clause-ascend : goal.count_front-requires-clause-ascend
count_front-requires-clause-ascend c =
    let ascend = subst Ascend (sym c.split_at.ensures.back) c.requires.ascend in
    ascend_behind c.count_before-first.result c.split_at.result.1.now c.split_at-2.result.1.now c.split_at-2.ensures.back ascend

pub count_front-requires-clause-long : goal.count_front-requires-clause-long
count_front-requires-clause-long c =
    let long = subst (AreLong c.args.range.now) (sym c.split_at.ensures.back) c.requires.long in
    long_behind c.args.range.now c.count_before-first.result c.split_at.result.1.now c.split_at-2.result.1.now c.split_at-2.ensures.back long

pub returns-clause-first : goal.returns-clause-first
returns-clause-first c =
    (found_between c.args.range.now c.args.lows.now c.split_at.result.1.now c.split_at-2.result.1.now c.count_before-first.result c.count_front.result c.split_at.ensures.back c.split_at-2.ensures.back
    c.count_before-first.ensures.passes c.count_before-first.ensures.bound c.count_front.ensures.passes c.count_front.ensures.bound).0

pub returns-clause-last : goal.returns-clause-last
returns-clause-last c =
    (found_between c.args.range.now c.args.lows.now c.split_at.result.1.now c.split_at-2.result.1.now c.count_before-first.result c.count_front.result c.split_at.ensures.back c.split_at-2.ensures.back
    c.count_before-first.ensures.passes c.count_before-first.ensures.bound c.count_front.ensures.passes c.count_front.ensures.bound).1

pub returns-clause-within : goal.returns-clause-within
returns-clause-within c =
    let long = ap length c.split_at.ensures.back ∙ length-drop 1 c.args.lows.now in
    let left = ap length c.split_at-2.ensures.back ∙ length-drop c.count_before-first.result c.split_at.result.1.now in
    omega (arith, long, left, c.count_before-first.ensures.bound, c.count_front.ensures.bound, c.requires.some)
