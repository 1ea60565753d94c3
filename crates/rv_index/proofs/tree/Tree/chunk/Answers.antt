use Rattle.std.proofs.Common.{length}
use Rattle.std.specs.Option.{option_copied}
use Rattle.std.specs.Prelude.{unwrap_or}
use Rattle.rv_node.specs.Nodes.{empty_node}
use Rattle.rv_index.specs.Index.{nodes_at}
use Rattle.rv_index.proofs.Descents.{chunk_is}
use Rattle.rv_index.proofs.tree.Tree.chunk.Goals as goal

pub returns : goal.returns
returns c =
    let at = nodes_at c.args.self.now c.args.snap in
    let start = option_copied c.args.from in
    chunk_is (length c.args.self.now) at c.args.range.now start (unwrap_or (option_copied c.leaf.result.0) empty_node).entries c.in_ok-entries.entries (option_copied c.leaf.result.1) c.in_ok-next.next c.requires.sound c.requires.long c.requires.long_cuts
    c.leaf.ensures.leaf c.in_ok-entries.ensures c.in_ok-next.ensures
