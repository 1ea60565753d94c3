use Rattle.std.proofs.Common.{leb, rules}
use Rattle.std.proofs.lemmas.List.Sorted.{IsPartitionPoint-from_clause}
use Rattle.rv_versions.proofs.Values.{count_is, parted}
use Rattle.rv_versions.proofs.chain.count_to.Goals as goal

pub returns-clause-count : goal.returns-clause-count
returns-clause-count g c =
    let point = IsPartitionPoint-from_clause (λ v. leb v.commit c.args.snap) _ _ c.partition_point.ensures.partitioned (parted 0 c.args.snap _ c.requires) (λ a r q k. search rules) in
    count_is 0 c.args.snap _ _ c.requires point c.partition_point.ensures.bound
