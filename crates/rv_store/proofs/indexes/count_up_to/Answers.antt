use Rattle.std.proofs.Common.{rules, nat_le}
use Rattle.std.proofs.lemmas.List.Sorted.{IsPartitionPoint-from_clause}
use Rattle.rv_rows.specs.declared.changes.Change.{Change}
use Rattle.rv_rows.proofs.Cuts.{cut_at, up_to_parted}
use Rattle.rv_store.proofs.indexes.count_up_to.Goals as goal

pub returns-clause-front : goal.returns-clause-front
returns-clause-front c =
    let test = λ (x : Change). nat_le x.table c.args.table in
    let at = IsPartitionPoint-from_clause test c.args.changes.now c.partition_point.result c.partition_point.ensures.partitioned (up_to_parted c.args.table c.args.changes.now c.requires) (λ a r f k. search rules) in
    (cut_at test c.args.changes.now c.partition_point.result c.partition_point.ensures.bound at.0 at.1).0
