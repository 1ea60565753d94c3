use Rattle.std.proofs.Common.{◌≡◌, ◌++◌, drop, map}
use Rattle.rv_rows.specs.Changes.{change_at}
use Rattle.rv_model.specs.Transactions.{touch_all}
use Rattle.rv_txn.proofs.touched.touch_all.Given as goal

-- the changes left, of the list and of the map, make of what there is what all make of the old
abbrev pub invariant-list : goal.invariant-list
invariant-list l = touch_all l.commit (drop l.change-index l.listed ++ map change_at l.mapped) l.touched ≡ touch_all l.commit l.changes l.fn.touched

abbrev pub invariant-changes : goal.invariant-changes
invariant-changes l = touch_all l.commit (map change_at l.key-iterator) l.touched ≡ touch_all l.commit l.changes l.fn.touched
