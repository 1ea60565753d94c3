use Rattle.std.proofs.Common.{◌≡◌}
use Rattle.rv_store.proofs.whole.note_nodes.Given as goal

abbrev pub invariant-ids : goal.invariant-ids
invariant-ids l = l.places ≡ l.initial.places
