-- The records that a scan is to give: those that qualify and are not skipped.
use Rattle.std.specs.Prelude.{◌≡◌, ℕ, ◌<◌, List, [], ◌∷◌, Bool, true, false, not, ◌&&◌, ◌||◌, Option, Some, None, filter, IfSome, ◌+◌, length, drop}
use Rattle.std.specs.Option.{option_copied}
use Rattle.std.specs.List.{list_all, slice_index_or}
use Rattle.rv_value.specs.declared.record.Record.{Record}
use Rattle.rv_restrict.specs.declared.atom.Atom.{Atom}
use Rattle.rv_restrict.specs.Truth.{names_only, qualifies, row_has}
use Rattle.rv_keylist.specs.Keys.{has_key}
use Rattle.rv_keylist.specs.Listed.{Listed}
use Rattle.rv_keylist.specs.Marks.{may_key}
use Rattle.rv_scan.specs.declared.skip.Skip.{Skip}
use Rattle.rv_reader.specs.declared.step.Step.{Step}
use Rattle.rv_reader.specs.declared.step.Step.TheVariants.{Row, Working, End}

-- rows delivered, and a list of the rows that alone may still be wanted
pub record Skipped : Type 0 where
  pub delivered : Option (List ℕ)
  pub list : Option Listed

abbrev pub skipped : Skip → Skipped
skipped skip = record { delivered = option_copied skip.delivered; list = option_copied skip.list }

abbrev pub was_delivered : Option (List ℕ) → ℕ → Bool
was_delivered None row = false
was_delivered (Some rows) row = has_key row rows

-- the list cannot have the row
abbrev pub is_unlisted : Option Listed → ℕ → Bool
is_unlisted None row = false
is_unlisted (Some list) row = not (may_key row list.keys)

abbrev pub skips : Skipped → ℕ → Bool
skips skip row = was_delivered skip.delivered row || is_unlisted skip.list row

-- a list that is there is finished
abbrev pub IsReady : Skipped → Type 0
IsReady skip = IfSome skip.list (λ list. list.finished ≡ true)

abbrev pub is_due : List (List Atom) → Skipped → Record → Bool
is_due only skip r = not (skips skip r.row.0) && qualifies only r.values

abbrev pub due : List (List Atom) → Skipped → List Record → List Record
due only skip records = filter (is_due only skip) records

-- the restriction is over place 0 alone, and each record has every column that it names
abbrev pub HaveColumns : List (List Atom) → List Record → Type 0
HaveColumns only records = list_all (λ (r : Record). names_only (row_has r.values) only) records ≡ true

-- the place of the first record that is due, or none is
abbrev pub FindsDue : List (List Atom) → Skipped → List Record → Option ℕ → Type 0
FindsDue only skip records None = due only skip records ≡ []
FindsDue only skip records (Some at) =
    (at < length records)
    × ((d : Record) → due only skip records ≡ slice_index_or records at d ∷ due only skip (drop (at + 1) records))

-- What a step may answer, from one rest and work left to the next: it gives the first record of the rest, or leaves the
-- rest and lowers the work left, or the rest is empty.
abbrev pub StepsTo : Step Record → List Record → ℕ → List Record → ℕ → Type 0
StepsTo (Row r) old work new less = (old ≡ r ∷ new) × (less < work)
StepsTo Working old work new less = (new ≡ old) × (less < work)
StepsTo End old work new less = (old ≡ []) × (new ≡ []) × (less ≡ work)
