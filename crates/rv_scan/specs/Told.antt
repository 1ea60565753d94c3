-- What an index tells of rows by itself: the values of its columns.
use Rattle.std.specs.Prelude.{◌≡◌, ℕ, ◌+◌, ◌<◌, List, [], ◌∷◌, true, false, ◌⊎◌, Option, Some, None, length, map, max, drop}
use Rattle.std.specs.List.{range_with_len}
use Rattle.rv_value.specs.declared.value.Value.{Value}
use Rattle.rv_value.specs.declared.record.Record.{Record}
use Rattle.rv_value.specs.declared.record.IndexEntry.{IndexEntry}
use Rattle.rv_judge.specs.declared.counting.Counts.{Counts}
use Rattle.rv_judge.specs.Counting.{leaf_read}
use Rattle.rv_restrict.specs.declared.atom.Atom.{Atom}
use Rattle.rv_restrict.specs.Bind.{passes_home}
use Rattle.rv_restrict.specs.Parts.{stands_among, value_in}
use Rattle.rv_restrict.specs.Truth.{names_only}
use Rattle.rv_reader.specs.declared.step.Step.{Step}
use Rattle.rv_reader.specs.declared.step.Step.TheVariants.{Row, Working, End}
use Rattle.rv_scan.specs.declared.along.Ahead.TheVariants.{Nothing}
use Rattle.rv_scan.specs.Alongs.{Along, Moves, left}
use Rattle.rv_scan.specs.Due.{Skipped, due, is_due}

-- the greatest of the columns plus 1
abbrev pub width : List ℕ → ℕ
width [] = 0
width (c ∷ cs) = max (c + 1) (width cs)

-- a value for each column below the width, NULL where the index has none
abbrev pub told_values : List ℕ → List Value → List Value
told_values columns key = map (value_in columns key) (range_with_len 0 (width columns))

-- the record that an entry tells of its row
abbrev pub told : List ℕ → IndexEntry → Record
told columns e = record { row = e.row; values = told_values columns e.key }

-- the restriction is over place 0 alone, and names these columns alone
abbrev pub NamesThese : List ℕ → List (List Atom) → Type 0
NamesThese columns only = names_only (passes_home (stands_among columns)) only ≡ true

-- the records that an index-only scan will still give
abbrev pub told_rest : Along → List IndexEntry → List ℕ → List (List Atom) → Skipped → List Record
told_rest along entries columns only skip = due only skip (map (told columns) (left along entries))

-- the record of an entry, where it is due
abbrev pub Tells : List ℕ → List (List Atom) → Skipped → IndexEntry → Option Record → Type 0
Tells columns only skip e None = is_due only skip (told columns e) ≡ false
Tells columns only skip e (Some r) = (is_due only skip (told columns e) ≡ true) × (r ≡ told columns e)

-- the first record that is due, and how many entries stand before its own, or none is
abbrev pub FindsTold : List ℕ → List (List Atom) → Skipped → List IndexEntry → Option (ℕ × Record) → Type 0
FindsTold columns only skip entries None = due only skip (map (told columns) entries) ≡ []
FindsTold columns only skip entries (Some found) =
    (found.0 < length entries)
    × (due only skip (map (told columns) entries) ≡ found.1
    ∷ due only skip (map (told columns) (drop (found.0 + 1) entries)))

pub record SameWalk (old new : Along) : Type 0 where
  pub index : new.index ≡ old.index
  pub snap : new.snap ≡ old.snap
  pub range : new.range ≡ old.range

-- the next leaf is read, or there is none
abbrev pub Goes : Along → Along → List IndexEntry → List IndexEntry → Step Record → Type 0
Goes old new entries cuts (Row r) = ⊥
Goes old new entries cuts Working = Moves old new entries cuts
Goes old new entries cuts End = (old.ahead ≡ Nothing) × (new ≡ old)

-- the reads of a step: a leaf where it works on, none where it gives a row or ends
abbrev pub KeyReads : Step Record → Counts → Counts → Type 0
KeyReads (Row r) old new = new ≡ old
KeyReads Working old new = new ≡ leaf_read old
KeyReads End old new = new ≡ old

-- a leaf was read, or nothing was
abbrev pub TriedLeaf : Counts → Counts → Type 0
TriedLeaf old new = (new ≡ old) ⊎ (new ≡ leaf_read old)
