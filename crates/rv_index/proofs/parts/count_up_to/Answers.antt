use Rattle.std.proofs.Common.{rules}
use Rattle.std.proofs.lemmas.List.Sorted.{IsPartitionPoint-from_clause}
use Rattle.rv_reader.specs.Entries.{comes_before}
use Rattle.rv_node.specs.Trees.{up_to}
use Rattle.rv_reader.proofs.Halving.{passes_to}
use Rattle.rv_node.proofs.Parted.{up_to_parted}
use Rattle.rv_index.proofs.Finding.{passed_count}
use Rattle.rv_index.proofs.parts.count_up_to.Goals as goal

pub returns-clause-passed : goal.returns-clause-passed
returns-clause-passed c =
    let test = up_to comes_before c.args.entry.now in
    let at = IsPartitionPoint-from_clause test c.args.lows.now c.partition_point.result c.partition_point.ensures.partitioned (up_to_parted c.args.entry.now c.args.lows.now c.requires) (λ a r f k. search rules) in
    passed_count test c.args.lows.now c.partition_point.result (passes_to test c.args.lows.now c.partition_point.result c.partition_point.ensures.bound at.0 at.1) c.partition_point.ensures.bound
