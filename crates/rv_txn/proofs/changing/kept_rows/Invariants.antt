use Rattle.std.proofs.Common.{◌≡◌, ◌≤◌, filter}
use Rattle.rv_txn.specs.Changing.{OnlyPages}
use Rattle.rv_txn.proofs.Pages.{rows_up_to}
use Rattle.rv_txn.proofs.Views.{keeps}
use Rattle.rv_txn.proofs.changing.kept_rows.Given as goal

abbrev pub invariant-pages : goal.invariant-pages
invariant-pages g l = record {
  kept : l.kept.items ≡ filter (keeps l.only) (rows_up_to l.n ((g.S.Reader.shown l.store).rows l.table l.snap));
  few : l.n ≤ (g.S.Reader.shown l.store).pages l.table l.snap;
  only : OnlyPages l.n l.initial.steps l.steps;
}
