use Rattle.std.proofs.Common.{rules}
use Rattle.rv_restrict.specs.Groups.{groups_of}
use Rattle.rv_restrict.proofs.Inside.{key_stands}
use Rattle.rv_restrict.proofs.part.Part.pass.Goals as goal

pub all_groups-requires : goal.all_groups-requires
all_groups-requires c = key_stands c.self.inside.columns.items c.as_slice.result.now c.args.key.now c.as_slice-2.result.now (groups_of c.self.inside.groups.items) (groups_of c.as_slice-3.result.now) (rw (← c.self.view_is) at c.requires) c.self.invariant (search rules) (search rules) (search rules)
