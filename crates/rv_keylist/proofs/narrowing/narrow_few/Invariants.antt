use Rattle.std.proofs.Common.{◌≡◌, ◌≤◌, filter, length, take}
use Rattle.rv_keylist.specs.Marks.{may_key}
use Rattle.rv_keylist.proofs.narrowing.narrow_few.Given as goal

abbrev pub invariant-loop-key : goal.invariant-loop-key
invariant-loop-key l =
    (l.kept.items ≡ filter (λ k. may_key k l.list.keys) (take l.key-index l.key-items))
    × (l.key-items ≡ l.fn.few.items)
    × (length l.key-items ≤ 20)
    × (length l.kept.items ≤ l.key-index)
