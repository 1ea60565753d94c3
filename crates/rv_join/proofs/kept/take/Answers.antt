use Rattle.std.proofs.Common.{rules}
use Rattle.rv_join.proofs.Collecting.{one_taken}
use Rattle.rv_join.proofs.kept.take.Goals as goal

pub returns : goal.returns
returns c = one_taken c.pop.result c.args.offers.now.items c.pop.new.self.items c.pop.ensures.items (c.pop.ensures.variant.1 (search rules))
