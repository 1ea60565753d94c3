use Rattle.std.proofs.Common.{None, ap}
use Rattle.rv_keylist.specs.Listed.{Listed}
use Rattle.rv_jscan.proofs.lane.Lane.renew.Goals as goal

pub invariant_of-self : goal.invariant_of-self
invariant_of-self c = record { building_open = ap (λ (l : Listed). l.finished) c.renew.ensures; short = tt; apart = tt; fresh = tt }

pub returns : goal.returns
returns c = λ k. record { place = None; held = None; building = (c.renew.ensures k).keys }
