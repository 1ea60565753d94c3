use Rattle.std.proofs.Common.{length}
use Rattle.rv_join.proofs.places.+add_numbers.Given as goal

abbrev pub decreases-add_numbers : goal.decreases-add_numbers
decreases-add_numbers l = length l.columns.now
