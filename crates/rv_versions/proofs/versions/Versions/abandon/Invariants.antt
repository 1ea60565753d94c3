use Rattle.std.proofs.Common.{ℕ, ◌+◌, ◌<◌, ◌≡◌, [], length, slice_index_or}
use Rattle.rv_versions.specs.Chains.{value_of, AllBelow}
use Rattle.rv_versions.proofs.versions.Versions.abandon.Given as goal

abbrev pub invariant-chains : goal.invariant-chains
invariant-chains g l = record {
  len : length l.self-inside.chains.items ≡ length l.fn.self;
  same : (id snap : ℕ) → snap < l.commit → value_of l.self-inside.chains.items id snap ≡ value_of l.fn.self id snap;
  below : (id : ℕ) → id < l.id → AllBelow l.commit (slice_index_or l.self-inside.chains.items id []);
  rest : (id : ℕ) → AllBelow (l.commit + 1) (slice_index_or l.self-inside.chains.items id []);
}
