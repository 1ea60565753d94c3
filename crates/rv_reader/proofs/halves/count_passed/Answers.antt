use Rattle.std.proofs.Common.{Option, rules, subst, sym}
use Rattle.std.proofs.lemmas.List.Sorted.{IsPartitionPoint-from_clause}
use Rattle.std.specs.Option.{option_copied}
use Rattle.rv_reader.specs.Leaves.{is_passed}
use Rattle.rv_reader.proofs.Halving.{passed_parted, passes_to}
use Rattle.rv_reader.proofs.halves.count_passed.Goals as goal

pub returns-in-Some-clause-passes : goal.returns-in-Some-clause-passes
returns-in-Some-clause-passes c =
    let test = is_passed (option_copied c.args.from) c.args.range.now in
    let at = IsPartitionPoint-from_clause test c.args.cuts.now c.partition_point.result c.partition_point.ensures.partitioned (passed_parted c.args.range.now (option_copied c.args.from) c.args.cuts.now c.requires.ascend c.requires.long) (λ a r f k. search rules) in
    passes_to test c.args.cuts.now c.partition_point.result c.partition_point.ensures.bound at.0 at.1

pub returns-in-None-clause-passes : goal.returns-in-None-clause-passes
returns-in-None-clause-passes c = rw c.in-None.is c.count_before.ensures.passes
