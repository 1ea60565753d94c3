use Rattle.std.proofs.Common.{◌≡◌, length, false}
use Rattle.rv_text.specs.Values.{unquoted}
use Rattle.rv_text.proofs.Passing.{all_before}
use Rattle.rv_text.proofs.values.unquoted.Given as goal

abbrev pub invariant-bytes : goal.invariant-bytes
invariant-bytes l = all_before l.out.items (unquoted l.quoted l.rest) ≡ unquoted false l.bytes

abbrev pub decreases-bytes : goal.decreases-bytes
decreases-bytes l = length l.rest
