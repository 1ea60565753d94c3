use Rattle.std.proofs.Common.{length}
use Rattle.rv_choice.proofs.choosing.+put_plans.Given as goal

abbrev pub decreases-put_plans : goal.decreases-put_plans
decreases-put_plans l = length l.candidates.now
