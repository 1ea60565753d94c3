-- What a reader shows under a view, where there is one.
use Rattle.std.specs.Prelude.{Option, Some, None}
use Rattle.std.specs.Coded.{Unit-prop}
use Rattle.rv_reader.specs.Shown.{Shown}
use Rattle.rv_overlay.specs.declared.frozen.Frozen.{Frozen}
use Rattle.rv_overlay.specs.Overlaid.{Lays, lays-prop, overlaid}

-- the view's lists where something was frozen; else what the reader shows
abbrev pub laid_over : Shown → Option Frozen → Shown
laid_over shown None = shown
laid_over shown (Some f) = overlaid shown f

-- what was frozen fits the reader, where something was
abbrev pub LaysSome : Shown → Option Frozen → Type 0
LaysSome shown None = Unit {0}
LaysSome shown (Some f) = Lays shown f

-- It holds in one way, so that a struct may keep it.
pub lays_some-prop : (shown : Shown) (frozen : Option Frozen) → IsProp (LaysSome shown frozen)
lays_some-prop shown None = Unit-prop
lays_some-prop shown (Some f) = lays-prop shown f
