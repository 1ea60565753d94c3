use Rattle.std.proofs.Common.{length}
use Rattle.rv_text.proofs.Passing.{Passed}
use Rattle.rv_text.proofs.values.cut_value.Given as goal

abbrev pub invariant-bytes : goal.invariant-bytes
invariant-bytes l = Passed l.text l.at l.inside l.rest

abbrev pub decreases-bytes : goal.decreases-bytes
decreases-bytes l = length l.rest
