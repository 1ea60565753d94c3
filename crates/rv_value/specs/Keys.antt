-- The values of a key, wherever they lie.
use Rattle.std.specs.Prelude.{List, [], ◌∷◌}
use Rattle.rv_value.specs.declared.value.Value.{Value}
use Rattle.rv_value.specs.declared.key.Kept.{Kept}
use Rattle.rv_value.specs.declared.key.Kept.TheVariants.{One, More}

abbrev pub kept_values : Kept → List Value
kept_values (One value) = value ∷ []
kept_values (More values) = values
