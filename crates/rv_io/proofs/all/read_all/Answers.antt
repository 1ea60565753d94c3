use Rattle.std.proofs.Common.{arith}
use Rattle.rv_io.proofs.Streams.{takes_after}
use Rattle.rv_io.proofs.all.read_all.Goals as goal

pub returns-in_err-count-clause-taken : goal.returns-in_err-count-clause-taken
returns-in_err-count-clause-taken g c = takes_after _ _ _ c.pieces.bytes.items _ _ c.pieces.invariant.taken c.in_err-count.ensures.taken (omega (arith, c.pieces.invariant.within, c.len.ensures))
