use Rattle.std.proofs.Common.{length}
use Rattle.rv_audit.proofs.Marking.{PassedSo}
use Rattle.rv_audit.proofs.marks.part.Given as goal

abbrev pub invariant-lines : goal.invariant-lines
invariant-lines l = PassedSo l.input l.passed l.left

abbrev pub decreases-lines : goal.decreases-lines
decreases-lines l = length l.left
