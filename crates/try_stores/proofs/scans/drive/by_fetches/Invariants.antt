use Rattle.std.proofs.Common.{◌≡◌, ◌++◌}
use Rattle.rv_reader.specs.Entries.{run}
use Rattle.rv_scan.specs.Due.{due, skipped}
use Rattle.rv_scan.specs.Alongs.{fetch_rest, fetched, leaf_work}
use Rattle.try_stores.proofs.scans.drive.by_fetches.Given as goal

-- what was found and the rest are the rows fetched that are due
abbrev pub invariant-scan : goal.invariant-scan
invariant-scan g l =
    let shown = g.R.Reader.shown l.reader in
    let entries = shown.entries l.index l.snap in
    let rows = shown.rows l.table l.snap in
    record {
      table : l.scan.table ≡ l.table;
      index : l.scan.walk.index ≡ l.index;
      snap : l.scan.walk.snap ≡ l.snap;
      range : l.scan.walk.range ≡ l.initial.scan.walk.range;
      told : l.found.items ++ fetch_rest l.scan.walk entries rows l.only (skipped l.skip) ≡ due l.only (skipped l.skip) (fetched rows (run entries l.initial.scan.walk.range));
    }

abbrev pub decreases-scan : goal.decreases-scan
decreases-scan g l = leaf_work l.scan.walk ((g.R.Reader.shown l.reader).entries l.index l.snap) ((g.R.Reader.shown l.reader).cuts l.index l.snap)
