use Rattle.std.proofs.Common.{◌∙◌, ap, subst, sym}
use Rattle.std.specs.Option.{option_copied}
use Rattle.std.specs.Prelude.{unwrap_or}
use Rattle.rv_node.specs.Nodes.{empty_node}
use Rattle.rv_node.specs.Ranks.{Ranks, is_long}
use Rattle.rv_index.proofs.tree.Tree.part.Goals as goal

pub wanted_of-requires-clause-ascend : goal.wanted_of-requires-clause-ascend
wanted_of-requires-clause-ascend c = (subst (Ranks (is_long c.args.range.now)) (ap (λ v. (unwrap_or (option_copied v) empty_node).entries) c.in-Some.is ∙ sym c.entries.ensures.same) c.requires).ascend

pub wanted_of-requires-clause-long : goal.wanted_of-requires-clause-long
wanted_of-requires-clause-long c = (subst (Ranks (is_long c.args.range.now)) (ap (λ v. (unwrap_or (option_copied v) empty_node).entries) c.in-Some.is ∙ sym c.entries.ensures.same) c.requires).all
