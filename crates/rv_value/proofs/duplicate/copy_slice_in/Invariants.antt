use Rattle.std.proofs.Common.{◌≡◌, take}
use Rattle.rv_value.proofs.duplicate.copy_slice_in.Given as goal

abbrev pub invariant-items : goal.invariant-items
invariant-items g l = l.copies.items ≡ take l.item-index l.items
