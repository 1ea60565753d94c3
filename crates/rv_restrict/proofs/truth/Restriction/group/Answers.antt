use Rattle.std.proofs.Common.{ℕ, ◌<◌, ◌∙◌, subst, sym}
use Rattle.rv_restrict.proofs.Branches.{group_in, long_as}
use Rattle.rv_restrict.proofs.truth.Restriction.group.Goals as goal

pub bounds-groups-group : goal.bounds-groups-group
bounds-groups-group c = subst (λ (n : ℕ). c.args.group < n) (sym (long_as c.groups.result.now c.args.self.now c.groups.ensures)) c.requires

pub returns : goal.returns
returns c = c.as_slice.ensures.value ∙ group_in c.groups.result.now c.args.self.now c.args.group c.index-groups-group.result c.groups.ensures c.requires c.index-groups-group.is
