use Rattle.std.proofs.Common.{◌≡◌, ◌≤◌, ◌+◌, ◌-◌, All, false, length, vec_capacity}
use Rattle.rv_phases.specs.Phase.{IsDone}
use Rattle.rv_phases.proofs.phase.collect.Given as goal

abbrev pub invariant-jobs : goal.invariant-jobs
invariant-jobs g l = record {
  left : All (λ j. IsDone (g.C.Served.shown l.shared.turn.mark).phase l.shared.turn l.lines l.short j.pass) l.job-iterator.rest.items;
  passes : All (λ p. IsDone (g.C.Served.shown l.shared.turn.mark).phase l.shared.turn l.lines l.short p) l.list.items;
  count : length l.list.items ≡ length l.yielded;
  total : length l.yielded + length l.job-iterator.rest.items ≡ length l.fn.jobs.items;
  room : length l.fn.jobs.items ≤ vec_capacity l.list;
}
