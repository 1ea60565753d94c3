use Rattle.std.proofs.Common.{◌≡◌, [], drop, take}
use Rattle.rv_catalog.specs.Resolve.{first_repeat}
use Rattle.rv_catalog.proofs.resolve.repeated.Given as goal

abbrev pub invariant-items : goal.invariant-items
invariant-items g l = first_repeat g.X.Named.name_of (take l.i l.items) (drop l.i l.items) ≡ first_repeat g.X.Named.name_of [] l.items
