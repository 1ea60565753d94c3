use Rattle.std.proofs.Common.{rules}
use Rattle.rv_jscan.specs.Joint.{keys_of}
use Rattle.rv_race.proofs.Lanes.{advanced_race}
use Rattle.rv_race.proofs.race.Race.advance.Goals as goal

pub invariant_of-self : goal.invariant_of-self
invariant_of-self c = advanced_race c.self.inside.plans.items c.self.inside.list (keys_of c.self.inside.list) _ c.self.inside.running c.advance.new.self _ c.self.invariant (rw (← c.self.view_is) at c.requires) (search rules) c.advance.ensures
