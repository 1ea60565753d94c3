use Rattle.std.proofs.Common.{subst, sym, List}
use Rattle.rv_jscan.proofs.Kept.{narrowed_held}
use Rattle.rv_jscan.proofs.lane.Lane.narrow.Goals as goal

pub invariant_of-self : goal.invariant_of-self
invariant_of-self c = record {
  building_open = c.narrow.ensures.finished;
  short = c.self.invariant.short;
  apart = c.self.invariant.apart;
  fresh = narrowed_held c.args.list.now.keys c.self.inside.building.keys c.narrow.new.self.keys c.self.inside.held c.narrow.ensures.keys c.self.invariant.fresh;
}
