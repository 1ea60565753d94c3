use Rattle.std.proofs.Common.{length}
use Rattle.rv_restrict.proofs.truth.+greatest_atom.Given as goal

abbrev pub decreases-greatest_atom : goal.decreases-greatest_atom
decreases-greatest_atom g l = length l.atoms.now
