use Rattle.std.proofs.Common.{◌≡◌, true, not, take}
use Rattle.std.specs.List.{list_all}
use Rattle.rv_value.specs.declared.record.IndexEntry.{IndexEntry}
use Rattle.rv_scan.specs.Due.{skipped}
use Rattle.rv_scan.specs.Alongs.{is_given}
use Rattle.rv_scan.proofs.along.next_given.Given as goal

abbrev pub invariant-entries : goal.invariant-entries
invariant-entries l = list_all (λ (e : IndexEntry). not (is_given (skipped l.skip) e)) (take l.at l.entries) ≡ true
