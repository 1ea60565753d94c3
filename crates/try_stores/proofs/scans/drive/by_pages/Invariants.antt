use Rattle.std.proofs.Common.{◌≡◌, ◌++◌}
use Rattle.rv_scan.specs.Due.{due, skipped}
use Rattle.rv_scan.specs.Places.{Fits, rest, work}
use Rattle.try_stores.proofs.scans.drive.by_pages.Given as goal

-- what was found and the rest are the rows that are due
abbrev pub invariant-scan : goal.invariant-scan
invariant-scan g l =
    let rows = (g.R.Reader.shown l.reader).rows l.table l.snap in
    record {
      table : l.scan.table ≡ l.table;
      snap : l.scan.snap ≡ l.snap;
      fits : Fits l.scan rows;
      told : l.found.items ++ rest l.scan rows l.only (skipped l.skip) ≡ due l.only (skipped l.skip) rows;
    }

abbrev pub decreases-scan : goal.decreases-scan
decreases-scan g l = work l.scan ((g.R.Reader.shown l.reader).rows l.table l.snap) ((g.R.Reader.shown l.reader).pages l.table l.snap)
