use Rattle.std.proofs.Common.{◌≡◌, ℕ}
use Rattle.std.specs.List.{slice_index_or}
use Rattle.rv_store.proofs.places.fill.Given as goal

abbrev pub invariant-counts : goal.invariant-counts
invariant-counts l = (at : ℕ) → slice_index_or l.counts.items at 0 ≡ slice_index_or l.initial.counts.items at 0
