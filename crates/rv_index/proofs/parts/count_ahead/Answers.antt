use Rattle.std.proofs.Common.{rules}
use Rattle.std.proofs.lemmas.List.Sorted.{IsPartitionPoint-from_clause}
use Rattle.std.specs.Option.{option_copied}
use Rattle.rv_reader.proofs.Halving.{passes_to}
use Rattle.rv_index.specs.Steps.{is_ahead}
use Rattle.rv_index.proofs.Finding.{ahead_parted}
use Rattle.rv_index.proofs.parts.count_ahead.Goals as goal

pub returns-in-Some-clause-passes : goal.returns-in-Some-clause-passes
returns-in-Some-clause-passes c =
    let test = is_ahead c.args.range.now (option_copied c.args.from) in
    let at = IsPartitionPoint-from_clause test c.args.leaf.now c.partition_point.result c.partition_point.ensures.partitioned (ahead_parted c.args.range.now (option_copied c.args.from) c.args.leaf.now c.requires.ascend c.requires.long) (λ a r f k. search rules) in
    passes_to test c.args.leaf.now c.partition_point.result c.partition_point.ensures.bound at.0 at.1

pub returns-in-None-clause-passes : goal.returns-in-None-clause-passes
returns-in-None-clause-passes c = rw c.in-None.is c.count_before.ensures.passes
