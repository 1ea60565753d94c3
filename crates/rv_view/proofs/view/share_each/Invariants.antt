use Rattle.std.proofs.Common.{◌≡◌, take}
use Rattle.rv_view.proofs.view.share_each.Given as goal

abbrev pub invariant-parts : goal.invariant-parts
invariant-parts l = l.shared.items ≡ take l.part-index l.parts
