use Rattle.std.proofs.Common.{◌≡◌, ◌++◌, drop}
use Rattle.rv_search.specs.Searching.{OnlyRecords, rows_of}
use Rattle.rv_search.proofs.search.rows_of.Given as goal

-- the rows so far, and those of the numbers that are left
abbrev pub invariant-numbers : goal.invariant-numbers
invariant-numbers g l = record {
  rows : l.rows.items ++ rows_of ((g.R.Reader.shown l.reader).rows l.table l.snap) (drop l.number-index l.found) ≡ rows_of ((g.R.Reader.shown l.reader).rows l.table l.snap) l.found;
  only : OnlyRecords l.number-index l.initial.steps l.steps;
}
