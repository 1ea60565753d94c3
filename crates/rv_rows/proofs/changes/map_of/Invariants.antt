use Rattle.std.proofs.Common.{◌≡◌, map, take}
use Rattle.rv_rows.specs.Changes.{change_at}
use Rattle.rv_rows.proofs.changes.map_of.Given as goal

abbrev pub invariant-listed : goal.invariant-listed
invariant-listed l = map change_at l.all.entries ≡ take l.change-index l.listed
