-- The first difference that is found.
use Rattle.std.specs.Prelude.{Bool, true, false, Option, Some, None}
use Rattle.try_stores.specs.declared.paged.compare.Difference.{Difference}

-- a difference is noted where there is none yet
abbrev pub noted : Bool → Difference → Option Difference → Option Difference
noted true d first = first
noted false d None = Some d
noted false d (Some first) = Some first
