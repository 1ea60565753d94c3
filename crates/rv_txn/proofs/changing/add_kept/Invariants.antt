use Rattle.std.proofs.Common.{◌≡◌, ◌++◌, filter}
use Rattle.rv_txn.proofs.Views.{keeps}
use Rattle.rv_txn.proofs.changing.add_kept.Given as goal

abbrev pub invariant-page : goal.invariant-page
invariant-page l = l.kept.items ≡ l.initial.kept.items ++ filter (keeps l.only) l.yielded
