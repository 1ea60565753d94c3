use Rattle.std.proofs.Common.{length}
use Rattle.rv_loading.proofs.naming.+names_only.Given as goal

abbrev pub decreases-names_only : goal.decreases-names_only
decreases-names_only l = length l.groups.now
