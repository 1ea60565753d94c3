use Rattle.std.proofs.Common.{◌≡◌, ◌++◌}
use Rattle.rv_reader.specs.Leaves.{run_from, leaves_from}
use Rattle.rv_loading.proofs.Reading.{joined}
use Rattle.rv_loading.proofs.read.leaves_of.Given as goal

-- the leaves so far and what is still to be read are the run
abbrev pub invariant-leaves : goal.invariant-leaves
invariant-leaves g l =
    let entries = (g.S.Reader.shown l.store).entries l.index l.snap in
    joined l.leaves.items ++ run_from entries l.range l.from ≡ run_from entries l.range l.initial.from

abbrev pub decreases-leaves : goal.decreases-leaves
decreases-leaves g l = leaves_from ((g.S.Reader.shown l.store).cuts l.index l.snap) l.from
