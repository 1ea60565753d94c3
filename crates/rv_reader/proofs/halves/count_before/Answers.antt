use Rattle.std.proofs.Common.{Bool, rules, subst, sym, ◌≡◌}
use Rattle.std.specs.List.Sorted.{IsPartitionedBy}
use Rattle.std.proofs.lemmas.List.Sorted.{IsPartitionPoint-from_clause}
use Rattle.rv_value.specs.declared.record.IndexEntry.{IndexEntry}
use Rattle.rv_reader.specs.Halves.{PassesTo, is_before}
use Rattle.rv_reader.proofs.Halving.{before_parted, from_number, is_lower, passes_to}
use Rattle.rv_reader.proofs.halves.count_before.Goals as goal

pub returns-in-Some-clause-passes : goal.returns-in-Some-clause-passes
returns-in-Some-clause-passes c =
    let es = c.args.entries.now in
    let same = from_number c.args.range.now c.in-Some.low (rw c.in-Some.is at c.low_number.ensures) in
    let parted = subst (λ (p : IndexEntry → Bool). IsPartitionedBy p es) (sym same) (before_parted c.args.range.now es c.requires.ascend c.requires.long) in
    let at = IsPartitionPoint-from_clause (is_lower c.in-Some.low) es c.partition_point.result c.partition_point.ensures.partitioned parted (λ a r f k. search rules) in
    subst (λ (p : IndexEntry → Bool). PassesTo p c.partition_point.result es) same (passes_to (is_lower c.in-Some.low) es c.partition_point.result c.partition_point.ensures.bound at.0 at.1)
