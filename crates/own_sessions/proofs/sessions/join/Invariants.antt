use Rattle.std.proofs.Common.{◌≡◌, ◌≤◌, ◌+◌, All, length, vec_capacity}
use Rattle.rv_turn.specs.State.{IsPassOf}
use Rattle.own_sessions.proofs.sessions.join.Given as goal

abbrev pub invariant-passes : goal.invariant-passes
invariant-passes g l = record {
  left : All (λ p. IsPassOf l.shared.turn p) l.pass-iterator.rest.items;
  list : All (λ p. IsPassOf l.shared.turn p) l.list.items;
  count : length l.list.items ≡ length l.fn.list.items + length l.yielded;
  total : length l.yielded + length l.pass-iterator.rest.items ≡ length l.fn.passes.items;
  room : length l.fn.list.items + length l.fn.passes.items ≤ vec_capacity l.list;
  kept : vec_capacity l.fn.list ≤ vec_capacity l.list;
}
