use Rattle.std.proofs.Common.{rules}
use Rattle.std.proofs.lemmas.List.Sorted.{IsPartitionPoint-from_clause}
use Rattle.rv_reader.specs.Halves.{is_before}
use Rattle.rv_reader.proofs.Halving.{before_parted, passes_to}
use Rattle.rv_reader.proofs.halves.count_before_any.Goals as goal

pub returns-clause-passes : goal.returns-clause-passes
returns-clause-passes c =
    let test = is_before c.args.range.now in
    let at = IsPartitionPoint-from_clause test c.args.entries.now c.partition_point.result c.partition_point.ensures.partitioned (before_parted c.args.range.now c.args.entries.now c.requires.ascend c.requires.long) (λ a r f k. search rules) in
    passes_to test c.args.entries.now c.partition_point.result c.partition_point.ensures.bound at.0 at.1
