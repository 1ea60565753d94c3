use Rattle.std.proofs.Common.{rules}
use Rattle.rv_restrict.specs.Groups.{groups_of}
use Rattle.rv_restrict.proofs.Inside.{kept_inside}
use Rattle.rv_restrict.proofs.part.make_part.Goals as goal

pub invariant_of-result : goal.invariant_of-result
invariant_of-result c = kept_inside c.args.columns.now c.in_ok-columns.columns.items (groups_of c.args.groups.now) (groups_of c.truncate.new.self.items) (search rules) (search rules)
