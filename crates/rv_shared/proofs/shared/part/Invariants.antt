use Rattle.std.proofs.Common.{◌≡◌, ℕ, ◌+◌, ◌<◌, ◌≤◌, All, length, slice_index_or, vec_capacity}
use Rattle.rv_shared.specs.Told.{IsFresh}
use Rattle.rv_shared.proofs.shared.part.Given as goal

abbrev pub invariant-workers : goal.invariant-workers
invariant-workers g l = record {
  count : length l.passes.items + l._worker ≡ 8 + l.workers;
  helped : length l.helpers.items ≡ l._worker;
  room : l.workers ≤ vec_capacity l.helpers;
  passes : All (λ p. IsFresh l.turn p) l.passes.items;
  helpers : All (λ p. IsFresh l.turn p) l.helpers.items;
  workers : All (λ p. 8 ≤ p.number) l.helpers.items;
  numbers : (k : ℕ) (d : _) → k < length l.passes.items → (slice_index_or l.passes.items k d).number ≡ k;
}
