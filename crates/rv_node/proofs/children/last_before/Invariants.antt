use Rattle.std.proofs.Common.{◌<◌, ◌≡◌, drop, length}
use Rattle.rv_reader.specs.Halves.{is_before}
use Rattle.rv_node.specs.Children.{last_place}
use Rattle.rv_node.proofs.children.last_before.Given as goal

abbrev pub invariant-lows : goal.invariant-lows
invariant-lows l = record {
  told : last_place (is_before l.range) l.at l.last (drop l.at l.lows) ≡ last_place (is_before l.range) 1 0 (drop 1 l.lows);
  within : l.last < length l.lows;
}
