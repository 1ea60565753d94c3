use Rattle.std.proofs.Common.{◌≡◌, ◌≤◌, ◌+◌, ◌-◌, ◌++◌, length, take, false}
use Rattle.rv_keyset.proofs.runs.pour.Given as goal

abbrev pub invariant-each : goal.invariant-each
invariant-each l = record {
  count : l.count ≡ length l.list.keys;
  within : l.done ≤ l.count;
  keys : l.put.keys ≡ l.initial.put.keys ++ take l.done l.list.keys;
  room : l.initial.put.spare ≤ l.put.spare + l.done;
  still_open : l.put.finished ≡ false;
}

abbrev pub decreases-each : goal.decreases-each
decreases-each l = l.count - l.done
