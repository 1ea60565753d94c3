use Rattle.std.proofs.Common.{◌≡◌, ◌++◌, replicate}
use Rattle.rv_value.specs.declared.value.Value.TheVariants.{Null}
use Rattle.rv_join.proofs.level.widen.Given as goal

abbrev pub invariant-nulls : goal.invariant-nulls
invariant-nulls l = l.values.items ≡ l.initial.values.items ++ replicate l._count Null
