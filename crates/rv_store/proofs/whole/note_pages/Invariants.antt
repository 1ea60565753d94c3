use Rattle.std.proofs.Common.{◌≡◌}
use Rattle.rv_store.proofs.whole.note_pages.Given as goal

abbrev pub invariant-changes : goal.invariant-changes
invariant-changes l = l.places ≡ l.initial.places
