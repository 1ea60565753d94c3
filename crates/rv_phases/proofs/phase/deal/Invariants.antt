use Rattle.std.proofs.Common.{◌≡◌, ◌≤◌, ◌+◌, ◌-◌, All, false, length, vec_capacity}
use Rattle.rv_shared.specs.Told.{IsFresh}
use Rattle.rv_phases.specs.Phase.{IsDone}
use Rattle.rv_phases.proofs.phase.deal.Given as goal

abbrev pub invariant-passes : goal.invariant-passes
invariant-passes g l = record {
  left : All (λ p. IsFresh l.shared.turn p) l.pass-iterator.rest.items;
  jobs : All (λ j. IsFresh l.shared.turn j.pass) l.jobs.items;
  idle : All (λ p. IsDone (g.C.Served.shown l.shared.turn.mark).phase l.shared.turn l.lines false p) l.idle.items;
  count : length l.jobs.items + length l.idle.items ≡ length l.yielded;
  total : length l.yielded + length l.pass-iterator.rest.items ≡ length l.fn.passes.items;
  room : length l.fn.passes.items ≤ vec_capacity l.jobs;
  more : length l.fn.passes.items ≤ vec_capacity l.idle;
  kept : vec_capacity l.fn.jobs ≤ vec_capacity l.jobs;
}
