use Rattle.std.proofs.Common.{◌≡◌, ◌++◌, map}
use Rattle.rv_reader.specs.Entries.{run}
use Rattle.rv_scan.specs.Due.{due, skipped}
use Rattle.rv_scan.specs.Alongs.{leaf_work}
use Rattle.rv_scan.specs.Told.{told, told_rest}
use Rattle.try_stores.proofs.scans.drive.by_keys.Given as goal

-- what was found and the rest are the records told that are due
abbrev pub invariant-scan : goal.invariant-scan
invariant-scan g l =
    let entries = (g.R.Reader.shown l.reader).entries l.index l.snap in
    record {
      index : l.scan.index ≡ l.index;
      snap : l.scan.snap ≡ l.snap;
      range : l.scan.range ≡ l.initial.scan.range;
      told : l.found.items ++ told_rest l.scan entries l.columns l.only (skipped l.skip) ≡ due l.only (skipped l.skip) (map (told l.columns) (run entries l.initial.scan.range));
    }

abbrev pub decreases-scan : goal.decreases-scan
decreases-scan g l = leaf_work l.scan ((g.R.Reader.shown l.reader).entries l.index l.snap) ((g.R.Reader.shown l.reader).cuts l.index l.snap)
