use Rattle.std.proofs.Common.{◌≡◌, [], drop}
use Rattle.rv_restrict.specs.Groups.{groups_of}
use Rattle.rv_catalog.specs.Answers.{collected}
use Rattle.rv_catalog.specs.Columns.{group}
use Rattle.rv_catalog.proofs.columns.find_groups.Given as goal

abbrev pub invariant-groups : goal.invariant-groups
invariant-groups l = collected (group l.catalog.tables l.reach) (groups_of l.found.items) (drop l.raws-index l.only) ≡ collected (group l.catalog.tables l.reach) [] l.only
