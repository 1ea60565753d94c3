use Rattle.std.proofs.Common.{◌≡◌, drop}
use Rattle.rv_scan.specs.Due.{due, skipped}
use Rattle.rv_scan.proofs.skip.next_due.Given as goal

-- none before the place is due
abbrev pub invariant-records : goal.invariant-records
invariant-records l = due l.only (skipped l.skip) l.records ≡ due l.only (skipped l.skip) (drop l.at l.records)
