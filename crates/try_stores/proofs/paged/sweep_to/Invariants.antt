use Rattle.try_stores.specs.Twins.{AreLaid}
use Rattle.try_stores.proofs.paged.sweep_to.Given as goal

abbrev pub invariant-sweeps : goal.invariant-sweeps
invariant-sweeps l = AreLaid l.twins
