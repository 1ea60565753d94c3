use Rattle.std.proofs.Common.{◌≡◌, ◌≤◌, ◌+◌, ◌-◌, ◌++◌, length, take}
use Rattle.rv_keylist.proofs.narrowing.move_few.Given as goal

abbrev pub invariant-loop-key : goal.invariant-loop-key
invariant-loop-key l =
    (l.few.items ≡ l.initial.few.items ++ take l.key-index l.key-items)
    × (l.key-items ≡ l.fn.many.items)
    × (length l.few.items + (length l.key-items - l.key-index) ≤ 20)
