use Rattle.std.proofs.Common.{◌≡◌}
use Rattle.std.specs.Option.{option_copied}
use Rattle.rv_reader.specs.Leaves.{is_passed}
use Rattle.rv_node.specs.Descent.{leaf_in}
use Rattle.rv_node.specs.Ranks.{IsRanked, is_long}
use Rattle.rv_node.specs.Stored.{tree_at, IsStored}
use Rattle.rv_index.specs.Index.{nodes_at}
use Rattle.rv_index.specs.Steps.{leaf_of}
use Rattle.rv_index.proofs.tree.Tree.leaf.Given as goal

abbrev pub invariant-down : goal.invariant-down
invariant-down l =
    let at = nodes_at l.self l.snap in
    record {
      stored : IsStored at l.level l.id;
      ranked : IsRanked at (is_long l.range) l.level l.id;
      same : leaf_in l.level (is_passed (option_copied l.from) l.range) (tree_at at l.level l.id) (option_copied l.next) ≡ leaf_of at (option_copied l.from) l.range;
    }

abbrev pub decreases-down : goal.decreases-down
decreases-down l = l.level
