use Rattle.std.proofs.Common.{◌∙◌}
use Rattle.rv_scan.specs.Due.{skipped}
use Rattle.rv_scan.proofs.Telling.{told_passed, told_found}
use Rattle.rv_scan.proofs.sscan.next_told.Goals as goal

pub returns-in-Some : goal.returns-in-Some
returns-in-Some c =
    let e = c.index-entries-at.result in
    (c.entries-test.true, c.entries.invariant ∙ told_found c.args.columns.now c.args.only.now (skipped c.args.skip.now) c.args.entries.now c.entries.at e c.in-Some.record c.entries-test.true c.index-entries-at.is (rw c.in-Some.is at c.in_ok-record.ensures))

pub entries-preserved : goal.entries-preserved
entries-preserved c =
    let e = c.index-entries-at.result in
    c.entries.invariant ∙ told_passed c.args.columns.now c.args.only.now (skipped c.args.skip.now) c.args.entries.now c.entries.at e c.entries-test.true c.index-entries-at.is (rw c.in_default.is at c.in_ok-record.ensures)
