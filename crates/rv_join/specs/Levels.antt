-- The combinations that nested loops have still to give, as a bag of offers.
use Rattle.std.specs.Prelude.{◌≡◌, ℕ, ◌+◌, ◌<◌, ◌-◌, ◌&&◌, Bool, true, List, [], ◌∷◌, ◌++◌, length, filter, map, drop}
use Rattle.std.specs.Prelude.{nat_eq, replicate, Option, Some, None}
use Rattle.std.specs.List.{flat_map}
use Rattle.rv_value.specs.declared.value.Value.{Value}
use Rattle.rv_value.specs.declared.value.Value.TheVariants.{Null}
use Rattle.rv_value.specs.declared.record.Record.{Record}
use Rattle.rv_model.specs.declared.state.Offer.{Offer}
use Rattle.rv_restrict.specs.declared.atom.ColRef.{ColRef}
use Rattle.rv_reader.specs.Shown.{Shown}
use Rattle.rv_judge.specs.Counting.{raised}
use Rattle.rv_access.specs.Accesses.{AccessFits, Awaiting, Tells, query_of, rest}
use Rattle.rv_join.specs.declared.places.Item.{Item}
use Rattle.rv_join.specs.declared.places.Asked.{Asked}
use Rattle.rv_join.specs.declared.level.Level.{Level}
use Rattle.rv_model.specs.Offering.{offer_over}
use Rattle.rv_join.specs.Asking.{AreWide, Asks, holds}

abbrev pub tables_of : Asked → List ℕ
tables_of a = map (λ (i : Item). i.table) a.items

abbrev pub offered : Asked → List (List Value) → Offer
offered a rows = offer_over a.order a.returns rows

-- references that read the values of a place one after another, from a column on
abbrev pub reads_on : ℕ → ℕ → List ColRef → Bool
reads_on place from [] = true
reads_on place from (c ∷ cs) = (nat_eq c.place place && nat_eq c.column from) && reads_on place (from + 1) cs

-- they read all values of a row in a place, in their order
abbrev pub reads_whole : ℕ → List Value → List ColRef → Bool
reads_whole place row columns = nat_eq (length columns) (length row) && reads_on place 0 columns

-- the rows of each table at a snapshot
abbrev pub table_rows : Shown → ℕ → ℕ → List Record
table_rows shown snap table = shown.rows table snap

-- all offers over these rows; the tables are those still to choose from, each with the groups of its place
abbrev pub under : Asked → Shown → List ℕ → List (List Value) → List Offer
under a shown [] outer = offered a outer ∷ []
under a shown (t ∷ ts) outer =
    flat_map (λ (r : Record). under a shown ts (outer ++ r.values ∷ []))
    (filter (λ (r : Record). holds a.only (length outer) (outer ++ r.values ∷ [])) (shown.rows t a.snap))

-- the tables below a level
abbrev pub below : Asked → Level → List ℕ
below a l = drop (length l.outer + 1) (tables_of a)

abbrev pub over_row : Asked → Shown → Level → List Value → List Offer
over_row a shown l row = under a shown (below a l) (l.outer ++ row ∷ [])

abbrev pub over_held : Asked → Shown → Level → Option (List Value) → List Offer
over_held a shown l None = []
over_held a shown l (Some row) = over_row a shown l row

abbrev pub over_rest : Asked → Shown → Level → List Offer
over_rest a shown l = flat_map (λ (r : Record). over_row a shown l r.values) (rest l.here shown)

-- what a level has still to give: over the row that it holds, and over the rest of its retrieval
abbrev pub still : Asked → Shown → Level → List Offer
still a shown l = over_held a shown l l.row ++ over_rest a shown l

-- the open levels, those above the innermost one first, and the count of retrievals opened
pub record Stacked : Type 0 where
  pub above : List Level
  pub at : Level
  pub openings : ℕ

-- THE REST of nested loops
abbrev pub bag : Asked → Shown → Stacked → List Offer
bag a shown v = flat_map (still a shown) v.above ++ still a shown v.at

-- the level of the first FROM item
abbrev pub first_in : List Level → Level → Level
first_in [] at = at
first_in (l ∷ ls) at = l

abbrev pub first_of : Stacked → Level
first_of v = first_in v.above v.at

-- what is over the row that the first level gave last
abbrev pub given_in : Asked → Shown → List Level → Level → List Offer
given_in a shown [] at = over_held a shown at at.row
given_in a shown (f ∷ ls) at = over_held a shown f f.row ++ (flat_map (still a shown) ls ++ still a shown at)

abbrev pub given : Asked → Shown → Stacked → List Offer
given a shown v = given_in a shown v.above v.at

-- What it holds was drawn from what a reader shows.

pub record LevelFits (a : Asked) (shown : Shown) (l : Level) : Type 0 where
  pub inside : length l.outer < length a.items
  pub here : AccessFits l.here shown
  pub asks : Asks a l.outer (query_of l.here)
  pub wide : AreWide a l.outer
  pub awaiting : Awaiting l.here
  pub tells : Tells l.here

-- the levels of the places from one on
abbrev pub AllFit : Asked → Shown → ℕ → List Level → Type 0
AllFit a shown place [] = Unit {0}
AllFit a shown place (l ∷ ls) = (length l.outer ≡ place) × LevelFits a shown l × AllFit a shown (place + 1) ls

pub record StackFits (a : Asked) (shown : Shown) (v : Stacked) : Type 0 where
  pub above : AllFit a shown 0 v.above
  pub at : LevelFits a shown v.at
  pub deep : length v.at.outer ≡ length v.above

-- the row with NULL for the columns that it lacks below a width
abbrev pub widened : ℕ → List Value → List Value
widened width row = row ++ replicate (width - length row) Null

-- the inner level is opened over the row that is held
abbrev pub down : Stacked → Level → Stacked
down v inner =
    record { above = v.above ++ (record v.at { row = None }) ∷ []; at = inner; openings = raised v.openings 1 }

-- the row that is held was used
abbrev pub used : Stacked → Stacked
used v = record v { at = record v.at { row = None } }

-- the innermost FROM item
abbrev pub is_last : Asked → Stacked → Bool
is_last a v = nat_eq (length v.at.outer + 1) (length a.items)
