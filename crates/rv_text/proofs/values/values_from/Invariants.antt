use Rattle.std.proofs.Common.{◌≡◌, Some}
use Rattle.std.specs.Option.{option_copied}
use Rattle.rv_text.specs.Values.{more_values, pieces_of, value_before}
use Rattle.rv_text.proofs.Passing.{left_over, values_behind}
use Rattle.rv_text.proofs.values.values_from.Given as goal

abbrev pub invariant-pieces : goal.invariant-pieces
invariant-pieces l = values_behind l.values.items (more_values (pieces_of (option_copied l.left))) ≡ value_before (Some l.fn.first) (more_values (pieces_of (option_copied l.fn.more)))

abbrev pub decreases-pieces : goal.decreases-pieces
decreases-pieces l = left_over (option_copied l.left)
