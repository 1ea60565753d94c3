use Rattle.std.proofs.Common.{◌+◌}
use Rattle.rv_versions.specs.Chains.{AllChainsBelow}
use Rattle.try_stores.proofs.versions.act_all.Given as goal

abbrev pub invariant-acts : goal.invariant-acts
invariant-acts l = AllChainsBelow (l.newest + 1) l.versions
