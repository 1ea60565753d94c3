use Rattle.std.proofs.Common.{subst, sym}
use Rattle.rv_reader.specs.Entries.{AreLong, Ascend}
use Rattle.rv_reader.proofs.Sorting.{entries_ascend}
use Rattle.rv_rivals.specs.Points.{point}
use Rattle.rv_rivals.proofs.Equals.{counted_any}
use Rattle.rv_rivals.proofs.Finding.{entries_long}
use Rattle.rv_rivals.proofs.equal.has_entry.Goals as goal

pub count_in-requires-clause-ascend : goal.count_in-requires-clause-ascend
count_in-requires-clause-ascend c = subst Ascend (sym c.requires.are) (entries_ascend c.requires.columns c.requires.rows c.requires.ascend)

pub count_in-requires-clause-long : goal.count_in-requires-clause-long
count_in-requires-clause-long c =
    subst (λ r. AreLong r c.args.entries.now) (sym c.in_ok-range.ensures)
    (subst (AreLong (point c.args.key.now)) (sym c.requires.are) (entries_long c.requires.columns c.requires.rows c.args.key.now c.requires.long))

pub returns : goal.returns
returns c = counted_any c.args.key.now c.in_ok-range.range c.args.entries.now c.count_in.result c.in_ok-range.ensures c.count_in.ensures
