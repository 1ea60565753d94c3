use Rattle.std.proofs.Common.{◌+◌, ◌-◌, ◌≤◌, [], vec_len}
use Rattle.rv_io.specs.Lines.{TakesLine}
use Rattle.rv_io.proofs.lines.read_line.Given as goal

abbrev pub invariant-pieces : goal.invariant-pieces
invariant-pieces g l = record {
  taken : TakesLine (g.S.Source.left l.fn.source) (g.S.Source.left l.source) l.fn.pending.items l.pending.items [];
  later : g.S.Source.faults l.fn.source ≤ g.S.Source.faults l.source;
}

abbrev pub decreases-pieces : goal.decreases-pieces
decreases-pieces g l = l.most + 1 - vec_len l.pending
