-- The scans may be made of what stands.
use Rattle.std.proofs.Common.{◌<◌, List, arith, subst}
use Rattle.rv_value.specs.declared.range.Range.{Range}
use Rattle.rv_restrict.specs.declared.atom.Atom.{Atom}
use Rattle.rv_restrict.specs.Ranges.{AreShort}
use Rattle.rv_reader.specs.Shown.{Shown, CanRead, CanScan, Suits}
use Rattle.rv_reader.specs.Storing.{AreWide}
use Rattle.rv_scan.specs.Due.{HaveColumns}
use Rattle.rv_loading.specs.declared.schema.Loaded.{Loaded}
use Rattle.rv_loading.specs.Laid.{OffersIndex}
use Rattle.rv_loading.proofs.Offering.{suits_short, wide_columns}
use Rattle.try_stores.specs.Scanning.{IsOver, Stands}

first_table : (loaded : Loaded) (shown : Shown) → Stands loaded shown → 0 < loaded.layout.tables
first_table loaded shown stands = let some = stands.whole.table in omega arith

first_index : (loaded : Loaded) (shown : Shown) → Stands loaded shown → OffersIndex loaded.schema loaded.layout shown loaded.snap 0
first_index loaded shown stands = stands.offers.index 0 (let some = stands.whole.index in omega arith)

pub stands_read : (loaded : Loaded) (shown : Shown) → Stands loaded shown → CanRead shown 0 loaded.snap
stands_read loaded shown stands = stands.offers.read 0 (first_table loaded shown stands)

pub stands_scan : (loaded : Loaded) (shown : Shown) → Stands loaded shown → CanScan shown 0 loaded.snap
stands_scan loaded shown stands = (first_index loaded shown stands).can

pub stands_columns : (loaded : Loaded) (shown : Shown) (only : List (List Atom)) → Stands loaded shown → IsOver only → HaveColumns only (shown.rows 0 loaded.snap)
stands_columns loaded shown only stands over = wide_columns 2 only (shown.rows 0 loaded.snap) over.table (subst (λ n. AreWide n (shown.rows 0 loaded.snap)) stands.whole.wide (stands.offers.wide 0 (first_table loaded shown stands)))

pub stands_suits : (loaded : Loaded) (shown : Shown) (range : Range) → Stands loaded shown → AreShort 2 range → Suits shown 0 loaded.snap range
stands_suits loaded shown range stands short = suits_short loaded.schema loaded.layout shown loaded.snap 0 2 range (first_index loaded shown stands) stands.whole.long short
