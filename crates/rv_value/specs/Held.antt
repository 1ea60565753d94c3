-- The values of a row, wherever they lie.
use Rattle.std.specs.Prelude.{List, []}
use Rattle.std.specs.Arc.{arc_value}
use Rattle.rv_value.specs.declared.value.Value.{Value}
use Rattle.rv_value.specs.declared.value.Held.{Held}
use Rattle.rv_value.specs.declared.value.Held.TheVariants.{Empty, Two, Three, Four, Listed}

abbrev pub held_values : Held → List Value
held_values Empty = []
held_values (Two values) = arc_value values
held_values (Three values) = arc_value values
held_values (Four values) = arc_value values
held_values (Listed values) = (arc_value values).items
