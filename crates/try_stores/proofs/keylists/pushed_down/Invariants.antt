use Rattle.std.proofs.Common.{◌≡◌, ◌-◌, false, length}
use Rattle.try_stores.proofs.Falling.{IsFrom}
use Rattle.try_stores.proofs.keylists.pushed_down.Given as goal

abbrev pub invariant-keys : goal.invariant-keys
invariant-keys l = (l.list.finished ≡ false) × (length l.list.keys ≡ l.i) × IsFrom (l.n - l.i) l.list.keys
