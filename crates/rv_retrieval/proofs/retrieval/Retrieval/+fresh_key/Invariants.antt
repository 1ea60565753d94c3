use Rattle.std.proofs.Common.{◌-◌, length}
use Rattle.rv_retrieval.specs.Shape.{lending}
use Rattle.rv_retrieval.proofs.retrieval.Retrieval.+fresh_key.Given as goal

abbrev pub decreases-fresh_key : goal.decreases-fresh_key
decreases-fresh_key l = length (lending l.self.now.joint) - l.self.now.borrowed
