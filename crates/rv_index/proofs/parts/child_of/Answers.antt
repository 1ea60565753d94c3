use Rattle.std.proofs.Common.{◌∙◌, sym, subst, ap, arith, drop}
use Rattle.std.specs.Option.{option_copied}
use Rattle.rv_reader.specs.Entries.{AreLong, Ascend}
use Rattle.rv_reader.specs.Leaves.{is_passed}
use Rattle.rv_index.proofs.Finding.{found_cut, found_end}
use Rattle.rv_index.proofs.parts.child_of.Goals as goal

pub count_passed-at-requires-clause-ascend : goal.count_passed-at-requires-clause-ascend
count_passed-at-requires-clause-ascend c = subst Ascend (sym (c.split_at.ensures.back ∙ ap (drop 1) c.entries-lows.ensures.same)) c.requires.ascend

pub count_passed-at-requires-clause-long : goal.count_passed-at-requires-clause-long
count_passed-at-requires-clause-long c = subst (AreLong c.args.range.now) (sym (c.split_at.ensures.back ∙ ap (drop 1) c.entries-lows.ensures.same)) c.requires.long

pub returns-then-at-behind : goal.returns-then-at-behind
returns-then-at-behind c =
    found_cut (is_passed (option_copied c.args.from) c.args.range.now) c.args.node.now.entries c.entries-lows.result.now c.split_at.result.1.now c.args.node.now.children c.children-ids.result.now (option_copied c.args.next) c.count_passed-at.result 0 c.index-behind-at.result
    c.entries-lows.ensures.same c.children-ids.ensures.same c.split_at.ensures.back c.requires.same c.requires.some c.count_passed-at.ensures.passes (omega arith) c.index-behind-at.is

pub returns-else-at-behind : goal.returns-else-at-behind
returns-else-at-behind c =
    found_end (is_passed (option_copied c.args.from) c.args.range.now) c.args.node.now.entries c.entries-lows.result.now c.split_at.result.1.now c.args.node.now.children c.children-ids.result.now (option_copied c.args.next) c.count_passed-at.result 0
    c.entries-lows.ensures.same c.children-ids.ensures.same c.split_at.ensures.back c.requires.same c.requires.some c.count_passed-at.ensures.passes (omega arith)
