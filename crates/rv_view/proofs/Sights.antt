-- What is laid over a reader where something was frozen, and what may then be read.
use Rattle.std.proofs.Common.{◌≡◌, ℕ, Option, Some, None, subst}
use Rattle.rv_reader.specs.Shown.{Shown, CanRead, CanScan}
use Rattle.rv_overlay.specs.declared.frozen.Frozen.{Frozen}
use Rattle.rv_overlay.specs.Overlaid.{Lays}
use Rattle.rv_view.specs.Sights.{LaysSome, laid_over}

pub lays_there : (shown : Shown) (frozen : Option Frozen) (f : Frozen) → LaysSome shown frozen → frozen ≡ Some f → Lays shown f
lays_there shown frozen f lays is = subst (LaysSome shown) is lays

-- a view has the reader's tables, indexes and snapshots
pub reads_over : (shown : Shown) (frozen : Option Frozen) (table snap : ℕ) → CanRead shown table snap → CanRead (laid_over shown frozen) table snap
reads_over shown None table snap can = can
reads_over shown (Some f) table snap can = record { there = can.there; snapshot = record { kept = can.snapshot.kept; known = can.snapshot.known } }

pub scans_over : (shown : Shown) (frozen : Option Frozen) (index snap : ℕ) → CanScan shown index snap → CanScan (laid_over shown frozen) index snap
scans_over shown None index snap can = can
scans_over shown (Some f) index snap can = record { there = can.there; snapshot = record { kept = can.snapshot.kept; known = can.snapshot.known } }
