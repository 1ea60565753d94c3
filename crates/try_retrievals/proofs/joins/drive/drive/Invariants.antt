use Rattle.rv_join.specs.Plans.{plan_rest}
use Rattle.try_retrievals.specs.Planning.{Gives}
use Rattle.try_retrievals.proofs.joins.drive.drive.Given as goal

abbrev pub invariant-steps : goal.invariant-steps
invariant-steps g l = let shown = g.R.Reader.shown l.reader in Gives shown (plan_rest shown l.initial.plan) l.offers.items l.plan
