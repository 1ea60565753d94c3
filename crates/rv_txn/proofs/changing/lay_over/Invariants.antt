use Rattle.std.proofs.Common.{◌≡◌, ◌++◌, drop, map, true}
use Rattle.std.specs.List.{AllByRecursion, list_all}
use Rattle.rv_rows.specs.Rows.{Ascend}
use Rattle.rv_rows.specs.Changes.{Rise, change_at, is_from, rows_with_changes}
use Rattle.rv_txn.specs.Changing.{LeavesColumns, kept_change}
use Rattle.rv_txn.proofs.changing.lay_over.Given as goal

-- what was put and what the changes left, of the list and of the map, make of the rows left is what all changes make of
-- all rows
abbrev pub invariant-list : goal.invariant-list
invariant-list l = record {
  ascend : Ascend l.rest;
  rise : Rise (drop l.change-index l.listed ++ map change_at l.mapped);
  from : list_all (is_from l.table) (drop l.change-index l.listed ++ map change_at l.mapped) ≡ true;
  columns : AllByRecursion (LeavesColumns l.table l.only) (drop l.change-index l.listed ++ map change_at l.mapped);
  same : l.all.items ++ rows_with_changes l.table (map (kept_change l.only) (drop l.change-index l.listed ++ map change_at l.mapped)) l.rest ≡ rows_with_changes l.table (map (kept_change l.only) l.changes) l.rows;
}

abbrev pub invariant-changes : goal.invariant-changes
invariant-changes l = record {
  ascend : Ascend l.rest;
  rise : Rise (map change_at l.key-iterator);
  from : list_all (is_from l.table) (map change_at l.key-iterator) ≡ true;
  columns : AllByRecursion (LeavesColumns l.table l.only) (map change_at l.key-iterator);
  same : l.all.items ++ rows_with_changes l.table (map (kept_change l.only) (map change_at l.key-iterator)) l.rest ≡ rows_with_changes l.table (map (kept_change l.only) l.changes) l.rows;
}
