use Rattle.std.proofs.Common.{◌≡◌, take}
use Rattle.rv_restrict.specs.Groups.{groups_of}
use Rattle.rv_restrict.proofs.truth.copy_groups.Given as goal

abbrev pub invariant-groups : goal.invariant-groups
invariant-groups l = groups_of l.copies.items ≡ groups_of (take l.group-index l.groups)
