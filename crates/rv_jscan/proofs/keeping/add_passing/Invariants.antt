use Rattle.std.proofs.Common.{◌≡◌, ◌≤◌, ◌+◌, ◌-◌, ◌++◌, length, take, drop, false}
use Rattle.rv_jscan.specs.Entries.{Disjoint}
use Rattle.rv_jscan.specs.Pieces.{kept_by}
use Rattle.rv_jscan.proofs.keeping.add_passing.Given as goal

abbrev pub invariant-entries : goal.invariant-entries
invariant-entries g l = record {
  here : l.i ≤ length l.entries;
  still_open : l.building.finished ≡ false;
  room : length l.entries ≤ l.i + l.building.spare;
  keys : l.building.keys ≡ l.fn.building.keys ++ kept_by (g.T.Admits.admits l.test) l.part (take l.i l.entries);
  fresh : Disjoint l.building.keys (drop l.i l.entries);
}

abbrev pub decreases-entries : goal.decreases-entries
decreases-entries g l = length l.entries - l.i
