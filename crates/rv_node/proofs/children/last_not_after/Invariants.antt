use Rattle.std.proofs.Common.{◌<◌, ◌≡◌, drop, length}
use Rattle.rv_reader.specs.Halves.{is_not_after}
use Rattle.rv_node.specs.Children.{last_place, last_child}
use Rattle.rv_node.proofs.children.last_not_after.Given as goal

abbrev pub invariant-lows : goal.invariant-lows
invariant-lows l = record {
  told : last_place (is_not_after l.range) l.at l.last (drop l.at l.lows) ≡ last_child l.range l.lows;
  within : l.last < length l.lows;
}
