use Rattle.std.proofs.Common.{length}
use Rattle.rv_choice.proofs.choosing.+put_views.Given as goal

abbrev pub decreases-put_views : goal.decreases-put_views
decreases-put_views g l = length l.indexes.now
