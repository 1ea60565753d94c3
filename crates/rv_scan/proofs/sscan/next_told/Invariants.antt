use Rattle.std.proofs.Common.{◌≡◌, drop, map}
use Rattle.rv_scan.specs.Due.{due, skipped}
use Rattle.rv_scan.specs.Told.{told}
use Rattle.rv_scan.proofs.sscan.next_told.Given as goal

-- none before the place is due
abbrev pub invariant-entries : goal.invariant-entries
invariant-entries l = due l.only (skipped l.skip) (map (told l.columns) l.entries) ≡ due l.only (skipped l.skip) (map (told l.columns) (drop l.at l.entries))
