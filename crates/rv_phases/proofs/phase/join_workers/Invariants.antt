use Rattle.std.proofs.Common.{◌≡◌, ◌≤◌, ◌+◌, All, length, vec_capacity}
use Rattle.rv_shared.specs.Told.{IsFresh}
use Rattle.rv_phases.proofs.phase.join_workers.Given as goal

abbrev pub invariant-helpers : goal.invariant-helpers
invariant-helpers g l = record {
  left : All (λ p. IsFresh l.shared.turn p) l.pass-iterator.rest.items;
  jobs : All (λ j. IsFresh l.shared.turn j.pass) l.jobs.items;
  count : length l.jobs.items ≡ length l.fn.jobs.items + length l.yielded;
  total : length l.yielded + length l.pass-iterator.rest.items ≡ length l.fn.helpers.items;
  room : length l.fn.jobs.items + length l.fn.helpers.items ≤ vec_capacity l.jobs;
}
