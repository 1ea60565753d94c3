use Rattle.std.proofs.Common.{◌≡◌, ◌++◌, drop}
use Rattle.rv_model.specs.Showing.{numbers_over}
use Rattle.rv_decide.proofs.showing.numbers_over.Given as goal

abbrev pub invariant-indexes : goal.invariant-indexes
invariant-indexes l = record { number : l.number ≡ l.index-index; so_far : l.numbers.items ++ numbers_over l.table l.number (drop l.index-index l.indexes) ≡ numbers_over l.table 0 l.indexes }
