use Rattle.std.proofs.Common.{◌∙◌, sym, length}
use Rattle.rv_index.specs.Index.{nodes_at, tree_of}
use Rattle.rv_index.proofs.Facts.{index_is}
use Rattle.rv_index.specs.Estimates.{exactly}
use Rattle.rv_index.proofs.Exact.{is_estimate, estimate_empty, estimate_other}
use Rattle.rv_index.proofs.descent.split.Goals as goal

pub returns-then-is_empty-clause-exact : goal.returns-then-is_empty-clause-exact
returns-then-is_empty-clause-exact c =
    let w = tree_of c.args.tree.now c.args.snap in
    is_estimate c.args.range.now w (exactly 0) (estimate_empty c.args.range.now w (sym c.is_empty.ensures ∙ c.if-is_empty.true)) c.requires.sound.whole c.requires.long c.requires.long_cuts

pub returns-then-is_empty-clause-index : goal.returns-then-is_empty-clause-index
returns-then-is_empty-clause-index c = index_is (length c.args.tree.now) (nodes_at c.args.tree.now c.args.snap) c.requires.sound c.len-ids.ensures.few

pub returns-else-is_empty-clause-exact : goal.returns-else-is_empty-clause-exact
returns-else-is_empty-clause-exact c =
    let w = tree_of c.args.tree.now c.args.snap in
    is_estimate c.args.range.now w c.descend.result (c.descend.ensures ∙ estimate_other c.args.range.now w (sym c.is_empty.ensures ∙ c.if-is_empty.false)) c.requires.sound.whole c.requires.long c.requires.long_cuts

pub returns-else-is_empty-clause-index : goal.returns-else-is_empty-clause-index
returns-else-is_empty-clause-index c = index_is (length c.args.tree.now) (nodes_at c.args.tree.now c.args.snap) c.requires.sound c.len-ids.ensures.few
