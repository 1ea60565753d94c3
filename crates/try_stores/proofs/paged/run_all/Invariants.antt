use Rattle.try_stores.specs.Twins.{AreLaid}
use Rattle.try_stores.proofs.paged.run_all.Given as goal

abbrev pub invariant-early : goal.invariant-early
invariant-early l = AreLaid l.run.twins

abbrev pub invariant-late : goal.invariant-late
invariant-late l = AreLaid l.run.twins
