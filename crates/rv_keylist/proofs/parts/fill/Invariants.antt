use Rattle.std.proofs.Common.{take}
use Rattle.rv_keylist.specs.Whole.{AddsBits}
use Rattle.rv_keylist.proofs.parts.fill.Given as goal

abbrev pub invariant-keys : goal.invariant-keys
invariant-keys l = AddsBits l.initial.filter l.filter (take l.key-index l.keys)
