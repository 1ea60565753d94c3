use Rattle.std.proofs.Common.{rules}
use Rattle.std.proofs.lemmas.List.Sorted.{IsPartitionPoint-from_clause}
use Rattle.rv_rows.specs.Kept.{comes_before}
use Rattle.rv_rows.proofs.Cuts.{cut_at}
use Rattle.rv_rows.proofs.Forms.{changes_partitioned}
use Rattle.rv_rows.proofs.changes.changes_ahead.Goals as goal

pub returns-clause-back : goal.returns-clause-back
returns-clause-back c =
    let at = IsPartitionPoint-from_clause (comes_before c.args.table c.args.row) c.args.listed.now c.partition_point.result c.partition_point.ensures.partitioned (changes_partitioned c.args.table c.args.row c.args.listed.now c.requires) (λ a r f k. search rules) in
    (cut_at (comes_before c.args.table c.args.row) c.args.listed.now c.partition_point.result c.partition_point.ensures.bound at.0 at.1).1
