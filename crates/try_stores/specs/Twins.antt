-- Two stores that were given the same calls.
use Rattle.std.specs.Prelude.{◌≤◌}
use Rattle.rv_store.specs.Paged as paged
use Rattle.rv_plain.specs.Kept as plain
use Rattle.rv_loading.specs.Laid.{Laid}
use Rattle.try_stores.specs.declared.paged.twins.Twins.{Twins}

-- both are laid out alike
pub record AreLaid (twins : Twins) : Type 0 where
  pub first : Laid twins.schema twins.layout (paged.shown_of twins.paged)
  pub second : Laid twins.schema twins.layout (plain.shown_of twins.plain)
  pub standing : twins.layout.horizon ≤ twins.layout.newest
