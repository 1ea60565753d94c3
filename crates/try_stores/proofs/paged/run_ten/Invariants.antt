use Rattle.try_stores.specs.Twins.{AreLaid}
use Rattle.try_stores.proofs.paged.run_ten.Given as goal

abbrev pub invariant-commits : goal.invariant-commits
invariant-commits l = AreLaid l.run.twins
