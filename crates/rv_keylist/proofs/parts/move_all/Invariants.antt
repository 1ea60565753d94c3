use Rattle.std.proofs.Common.{◌≡◌, ◌≤◌, ◌+◌, ◌-◌, ◌++◌, length, take, vec_len}
use Rattle.std.specs.Vec.{vec_capacity}
use Rattle.rv_keylist.proofs.parts.move_all.Given as goal

abbrev pub invariant-loop-key : goal.invariant-loop-key
invariant-loop-key l =
    (l.many.items ≡ l.initial.many.items ++ take l.key-index l.key-items)
    × (l.key-items ≡ l.fn.few.items)
    × (vec_len l.many + (length l.key-items - l.key-index) ≤ vec_capacity l.many)
    × (vec_capacity l.initial.many ≤ vec_capacity l.many)
