use Rattle.std.proofs.Common.{◌≡◌, take}
use Rattle.rv_view.specs.Making.{empty_parts}
use Rattle.rv_view.proofs.making.empty_parts.Given as goal

abbrev pub invariant-indexes : goal.invariant-indexes
invariant-indexes l = l.parts.items ≡ empty_parts (take l.index-index l.indexes)
