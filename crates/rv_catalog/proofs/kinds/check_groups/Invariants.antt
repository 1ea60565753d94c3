use Rattle.std.proofs.Common.{◌≡◌, drop}
use Rattle.rv_catalog.specs.Answers.{all_pass}
use Rattle.rv_restrict.specs.Groups.{groups_of}
use Rattle.rv_catalog.specs.Kinds.{group_kinds}
use Rattle.rv_catalog.proofs.kinds.check_groups.Given as goal

abbrev pub invariant-groups : goal.invariant-groups
invariant-groups l = all_pass (group_kinds l.catalog.tables l.reach) (groups_of (drop l.group-index l.groups)) ≡ all_pass (group_kinds l.catalog.tables l.reach) (groups_of l.groups)
