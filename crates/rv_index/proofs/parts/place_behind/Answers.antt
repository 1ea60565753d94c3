use Rattle.std.proofs.Common.{◌∙◌, sym, subst, ap, arith, length, length-drop}
use Rattle.rv_reader.specs.Entries.{Ascend, comes_before}
use Rattle.rv_node.specs.Trees.{up_to}
use Rattle.rv_index.specs.Steps.{passed_first}
use Rattle.rv_index.proofs.parts.place_behind.Goals as goal

pub count_up_to-requires : goal.count_up_to-requires
count_up_to-requires c = subst Ascend (sym c.split_at.ensures.back) c.requires.ascend

pub returns-clause-within : goal.returns-clause-within
returns-clause-within c = let long = ap length c.split_at.ensures.back ∙ length-drop 1 c.args.lows.now in omega (arith, long, c.count_up_to.ensures.bound, c.requires.some)

pub returns-clause-behind : goal.returns-clause-behind
returns-clause-behind c = let told = c.count_up_to.ensures.passed ∙ ap (passed_first (up_to comes_before c.args.entry.now)) c.split_at.ensures.back in omega (arith, told)
