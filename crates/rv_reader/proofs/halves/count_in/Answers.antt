use Rattle.std.proofs.Common.{List, length, subst, ◌≤◌}
use Rattle.rv_value.specs.declared.record.IndexEntry.{IndexEntry}
use Rattle.rv_reader.specs.Halves.{PassesTo, is_not_after}
use Rattle.rv_reader.proofs.Halving.{ascend_behind, count_behind, long_behind}
use Rattle.rv_reader.proofs.halves.count_in.Goals as goal

pub count_front-requires-clause-ascend : goal.count_front-requires-clause-ascend
count_front-requires-clause-ascend c = ascend_behind c.count_before.result c.args.entries.now c.split_at.result.1.now c.split_at.ensures.back c.requires.ascend

pub count_front-requires-clause-long : goal.count_front-requires-clause-long
count_front-requires-clause-long c = long_behind c.args.range.now c.count_before.result c.args.entries.now c.split_at.result.1.now c.split_at.ensures.back c.requires.long

pub returns : goal.returns
returns c =
    let passes = subst (λ (es : List IndexEntry). PassesTo (is_not_after c.args.range.now) c.count_front.result es) c.split_at.ensures.back c.count_front.ensures.passes in
    let bound = subst (λ (es : List IndexEntry). c.count_front.result ≤ length es) c.split_at.ensures.back c.count_front.ensures.bound in
    count_behind c.args.range.now c.count_before.result c.count_front.result c.args.entries.now c.count_before.ensures.passes c.count_before.ensures.bound passes bound
