use Rattle.try_stores.specs.Drawing.{Drawn}
use Rattle.try_stores.proofs.pieces.table.do_all.Given as goal

abbrev pub invariant-acts : goal.invariant-acts
invariant-acts g l = Drawn (g.R.Reader.shown l.reader) l.jscan
