use Rattle.std.proofs.Common.{◌≡◌, length}
use Rattle.try_stores.proofs.nodes.nines.Given as goal

abbrev pub invariant-ids : goal.invariant-ids
invariant-ids l = length l.ids.items ≡ l._made
