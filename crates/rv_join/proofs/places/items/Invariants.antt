use Rattle.std.proofs.Common.{◌≡◌, ℕ, ◌<◌, length}
use Rattle.std.specs.List.{slice_index_or}
use Rattle.rv_join.specs.Asking.{IsItem, no_item}
use Rattle.rv_join.proofs.places.items.Given as goal

abbrev pub invariant-places : goal.invariant-places
invariant-places l = record {
  count : length l.items.items ≡ l.place;
  each : (p : ℕ) → p < l.place → IsItem l.select l.indexes p (slice_index_or l.items.items p no_item);
}
