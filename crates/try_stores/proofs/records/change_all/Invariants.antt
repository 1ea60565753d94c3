use Rattle.std.proofs.Common.{◌≡◌, ◌+◌}
use Rattle.rv_records.specs.Pages.{IsBelow}
use Rattle.try_stores.proofs.records.change_all.Given as goal

abbrev pub invariant-words : goal.invariant-words
invariant-words l = record {
  horizon : l.records.horizon ≡ l.initial.records.horizon;
  newest : IsBelow (l.commit + 1) l.records;
}
