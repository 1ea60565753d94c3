-- Where the final stage stands in a complete list and in the table, and what it has left there.
use Rattle.std.specs.Prelude.{◌≡◌, ℕ, ◌+◌, ◌<◌, ◌^◌, ◌-◌, Bool, false, not, ◌&&◌, List, [], ◌∷◌, drop, find, Option, Some, None}
use Rattle.rv_value.specs.declared.record.Record.{Record}
use Rattle.rv_value.specs.declared.record.RowNo.{RowNo}
use Rattle.rv_keylist.specs.Keys.{has_key}
use Rattle.rv_judge.specs.declared.counting.Counts.{Counts}
use Rattle.rv_judge.specs.Counting.{record_read}
use Rattle.rv_restrict.specs.declared.atom.Atom.{Atom}
use Rattle.rv_reader.specs.Shown.{Shown}
use Rattle.rv_reader.specs.Tables.{row_at}
use Rattle.rv_scan.specs.Alongs.{looked}
use Rattle.rv_scan.specs.Due.{was_delivered}
use Rattle.rv_scan.specs.Places.{Place, unseen, Fits as PlaceFits}
use Rattle.rv_reader.specs.declared.step.Step.{Step}
use Rattle.rv_reader.specs.declared.step.Step.TheVariants.{Row, Working, End}
use Rattle.rv_final.specs.Rest.{has_row}

-- `at` counts the keys of the complete list that were passed, and `last` is the scan of the table
pub record Staged : Type 0 where
  pub at : ℕ
  pub last : Place

-- the rows and the pages of the table that is scanned
abbrev pub own_rows : Place → Shown → List Record
own_rows last shown = shown.rows last.table last.snap

abbrev pub own_pages : Place → Shown → ℕ
own_pages last shown = shown.pages last.table last.snap

-- the keys of the complete list from a place on
abbrev pub keys_left : Option (List ℕ) → ℕ → List ℕ
keys_left None at = []
keys_left (Some keys) at = drop at keys

-- Whether a row is still to be given, if it qualifies: it is of a key left, or on the pages left, and was not delivered
-- before, where a buffer tells what was.

abbrev pub list_left : Option (List ℕ) → Option (List ℕ) → ℕ → ℕ → Bool
list_left list delivered at n = has_key n (keys_left list at) && not (was_delivered delivered n)

abbrev pub table_left : Place → List Record → Option (List ℕ) → ℕ → Bool
table_left last rows delivered n = has_row n (unseen last rows) && not (was_delivered delivered n)

-- the next key of the complete list, or none is left
pub record NextKey (list : Option (List ℕ)) (at : ℕ) (key : ℕ) : Type 0 where
  pub split : keys_left list at ≡ key ∷ keys_left list (at + 1)
  pub gone : has_key key (keys_left list (at + 1)) ≡ false
  pub small : at < 2 ^ 64 - 1

abbrev pub KeyAt : Option (List ℕ) → ℕ → Option RowNo → Type 0
KeyAt list at None = keys_left list at ≡ []
KeyAt list at (Some row) = NextKey list at row.0

-- keys were passed over that are of rows delivered
pub record PassesKeys (list delivered : Option (List ℕ)) (old new : ℕ) : Type 0 where
  pub same : (n : ℕ) → list_left list delivered new n ≡ list_left list delivered old n

-- the first key that is left and was not delivered
abbrev pub first_key : Option (List ℕ) → Option (List ℕ) → ℕ → Option ℕ
first_key list delivered at = find (λ (k : ℕ). not (was_delivered delivered k)) (keys_left list at)

abbrev pub IsFirstKey : Option (List ℕ) → Option (List ℕ) → ℕ → Option RowNo → Type 0
IsFirstKey list delivered at None = first_key list delivered at ≡ None
IsFirstKey list delivered at (Some row) = first_key list delivered at ≡ Some row.0

-- a row that qualifies, or none, as a step's answer
abbrev pub given_as : Option Record → Step Record
given_as None = Working
given_as (Some r) = Row r

-- that key's row is fetched, and given exactly where it qualifies; where there is none it is the end
abbrev pub FetchesKey : Option ℕ → List (List Atom) → List Record → Counts → Counts → Step Record → Type 0
FetchesKey None only rows c d s = (s ≡ End) × (d ≡ c)
FetchesKey (Some key) only rows c d s = (d ≡ record_read c) × (s ≡ looked only (row_at rows key))

-- the scan of the table was drawn from what a reader shows
pub record LastFits (table snap : ℕ) (last : Place) (shown : Shown) : Type 0 where
  pub of_table : last.table ≡ table
  pub at_snap : last.snap ≡ snap
  pub drawn : PlaceFits last (shown.rows table snap)

-- nothing was passed
pub record Unbegun (at : ℕ) (last : Place) : Type 0 where
  pub keys : at ≡ 0
  pub pages : (rows : List Record) → unseen last rows ≡ rows
