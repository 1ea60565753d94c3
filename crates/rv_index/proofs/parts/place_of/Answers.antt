use Rattle.std.proofs.Common.{rules}
use Rattle.std.proofs.lemmas.List.Sorted.{IsPartitionPoint-from_clause}
use Rattle.rv_value.specs.declared.record.IndexEntry.{IndexEntry}
use Rattle.rv_reader.specs.Entries.{comes_before}
use Rattle.rv_reader.proofs.Halving.{passes_to}
use Rattle.rv_node.proofs.Parted.{less_parted}
use Rattle.rv_index.proofs.Finding.{passed_count}
use Rattle.rv_index.proofs.parts.place_of.Goals as goal

pub returns-clause-place : goal.returns-clause-place
returns-clause-place c =
    let test = λ (x : IndexEntry). comes_before x c.args.entry.now in
    let at = IsPartitionPoint-from_clause test c.args.entries.now c.partition_point.result c.partition_point.ensures.partitioned (less_parted c.args.entry.now c.args.entries.now c.requires) (λ a r f k. search rules) in
    passed_count test c.args.entries.now c.partition_point.result (passes_to test c.args.entries.now c.partition_point.result c.partition_point.ensures.bound at.0 at.1) c.partition_point.ensures.bound
