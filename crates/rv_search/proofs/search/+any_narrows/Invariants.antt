use Rattle.std.proofs.Common.{length}
use Rattle.rv_search.proofs.search.+any_narrows.Given as goal

abbrev pub decreases-any_narrows : goal.decreases-any_narrows
decreases-any_narrows l = length l.indexes.now
