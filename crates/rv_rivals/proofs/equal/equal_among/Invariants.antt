use Rattle.std.proofs.Common.{◌≡◌, drop, filter, find, take}
use Rattle.rv_reader.specs.Entries.{entries_of}
use Rattle.rv_model.specs.Rivals.{equals_lower}
use Rattle.rv_rivals.specs.Lookups.{is_whole}
use Rattle.rv_rivals.proofs.equal.equal_among.Given as goal

-- no row so far equals an earlier one, and the entries are those of the rows so far
abbrev pub invariant-rows : goal.invariant-rows
invariant-rows l = record {
  seen : l.seen ≡ entries_of l.columns (filter (is_whole l.columns) (take l.row-index l.rows));
  left : find (equals_lower l.columns l.rows) (drop l.row-index l.rows) ≡ find (equals_lower l.columns l.rows) l.rows;
}
