use Rattle.std.proofs.Common.{◌≡◌, find}
use Rattle.rv_reader.specs.Entries.{run}
use Rattle.rv_reader.specs.Leaves.{run_from, leaves_from}
use Rattle.rv_rivals.proofs.looking.first_in.Given as goal

abbrev pub invariant-leaves : goal.invariant-leaves
invariant-leaves g l = find (λ e. g.T.RowTest.keeps l.test e.row.0) (run_from ((g.R.Reader.shown l.reader).entries l.index l.snap) l.range l.from) ≡ find (λ e. g.T.RowTest.keeps l.test e.row.0) (run ((g.R.Reader.shown l.reader).entries l.index l.snap) l.range)

abbrev pub decreases-leaves : goal.decreases-leaves
decreases-leaves g l = leaves_from ((g.R.Reader.shown l.reader).cuts l.index l.snap) l.from
