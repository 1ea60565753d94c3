use Rattle.std.proofs.Common.{◌≡◌}
use Rattle.rv_loading.proofs.Reading.{first_rows}
use Rattle.rv_loading.proofs.read.rows_of.Given as goal

-- the rows of the pages so far
abbrev pub invariant-pages : goal.invariant-pages
invariant-pages g l = l.rows.items ≡ first_rows l.n ((g.S.Reader.shown l.store).rows l.table l.snap)
