use Rattle.rv_audit.proofs.Placing.{Going}
use Rattle.rv_audit.proofs.following.follow.Given as goal

abbrev pub invariant-entries : goal.invariant-entries
invariant-entries l = Going l.phases l.fn.entries.items l.followed.items l.places l.entry-iterator.rest.items
