use Rattle.std.proofs.Common.{◌≤◌, ◌-◌, length, vec_len, vec_capacity}
use Rattle.rv_versions.specs.Chains.{IsFilled}
use Rattle.rv_versions.proofs.versions.fill.Given as goal

abbrev pub invariant-fill : goal.invariant-fill
invariant-fill g l = record {
  low : length l.chains.items ≤ l.len;
  room : l.len ≤ vec_capacity l.chains;
  same : IsFilled l.fn.chains.items l.chains.items;
  capacity : vec_capacity l.fn.chains ≤ vec_capacity l.chains;
}

abbrev pub decreases-fill : goal.decreases-fill
decreases-fill g l = l.len - vec_len l.chains
