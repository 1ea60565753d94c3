use Rattle.std.proofs.Common.{◌≡◌}
use Rattle.rv_node.specs.Ranks.{IsRanked, is_long}
use Rattle.rv_node.specs.Stored.{tree_at, IsStored}
use Rattle.rv_index.specs.Index.{level_at, nodes_at, whole_at}
use Rattle.rv_index.specs.Estimates.{estimate_in}
use Rattle.rv_index.proofs.descent.descend.Given as goal

abbrev pub invariant-down : goal.invariant-down
invariant-down l =
    let at = nodes_at l.tree l.snap in
    record {
      stored : IsStored at l.level l.id;
      ranked : IsRanked at (is_long l.range) l.level l.id;
      same : estimate_in l.level l.range (tree_at at l.level l.id) ≡ estimate_in (level_at at) l.range (whole_at at).1;
    }

abbrev pub decreases-down : goal.decreases-down
decreases-down l = l.level
