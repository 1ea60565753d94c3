use Rattle.std.proofs.Common.{rules}
use Rattle.std.proofs.lemmas.List.Sorted.{IsPartitionPoint-from_clause}
use Rattle.rv_rows.proofs.Cuts.{rows_partitioned}
use Rattle.rv_records.specs.Finding.{below}
use Rattle.rv_records.proofs.Searches.{dropped}
use Rattle.rv_records.proofs.finding.rows_below.Goals as goal

pub returns-clause-behind : goal.returns-clause-behind
returns-clause-behind c =
    let at = IsPartitionPoint-from_clause (below c.args.row.0) c.args.rows.now c.partition_point.result c.partition_point.ensures.partitioned (rows_partitioned c.args.row.0 c.args.rows.now c.requires) (λ a r f k. search rules) in
    dropped (below c.args.row.0) c.args.rows.now c.partition_point.result c.partition_point.ensures.bound at.0 at.1
