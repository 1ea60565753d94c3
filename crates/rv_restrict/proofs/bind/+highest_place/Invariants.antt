use Rattle.std.proofs.Common.{length}
use Rattle.rv_restrict.proofs.bind.+highest_place.Given as goal

abbrev pub decreases-highest_place : goal.decreases-highest_place
decreases-highest_place l = length l.atoms.now
