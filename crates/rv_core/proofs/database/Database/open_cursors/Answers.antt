use Rattle.std.proofs.Common.{arith}
use Rattle.rv_core.proofs.Numbering.{listed_few}
use Rattle.rv_core.proofs.database.Database.open_cursors.Goals as goal

pub overflow_cast-result : goal.overflow_cast-result
overflow_cast-result g c = let few = listed_few c.self.inside.opened c.self.inside.cursors c.self.invariant.standing.listed in let n = c.len.ensures in omega (arith, few, n)
