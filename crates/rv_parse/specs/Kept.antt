-- Texts that were read, each with its statement.
use Rattle.std.specs.Prelude.{◌≡◌, ◌+◌, ◌<◌, ◌++◌, ◌∷◌, [], ℕ, List, None, length, nat_lt, slice_set, if◌then◌else◌}
use Rattle.std.specs.List.{slice_index_or}
use Rattle.rv_parse.specs.declared.readings.Reading.{Reading}
use Rattle.rv_parse.specs.Reading.{statement_of}

abbrev pub no_reading : Reading
no_reading = record { text = []; statement = None }

abbrev pub reading_at : List Reading → ℕ → Reading
reading_at rs place = slice_index_or rs place no_reading

-- each has the statement of its text
abbrev pub AreRead : List Reading → Type 0
AreRead rs = (place : ℕ) → place < length rs → (reading_at rs place).statement ≡ statement_of (reading_at rs place).text

-- the readings of the last texts, and the place whose turn it is, which is at most the one behind them
pub record AreKept (rs : List Reading) (turn : ℕ) : Type 0 where
  pub read : AreRead rs
  pub next : turn < length rs + 1

-- with one in a place, or behind them
abbrev pub with_reading : List Reading → ℕ → Reading → List Reading
with_reading rs place r = if nat_lt place (length rs) then slice_set rs place r else rs ++ r ∷ []

-- THE STATEMENT OF A TEXT STANDS IN A PLACE
pub record Reads (text : List ℕ) (rs : List Reading) (place : ℕ) : Type 0 where
  pub there : place < length rs
  pub is : (reading_at rs place).statement ≡ statement_of text
