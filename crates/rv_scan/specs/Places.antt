-- What a scan of a table holds, and what it still has to look at.
use Rattle.std.specs.Prelude.{◌≡◌, ℕ, ◌+◌, ◌-◌, ◌*◌, ◌<◌, ◌≤◌, List, ◌++◌, length, filter, drop, nat_le}
use Rattle.rv_value.specs.declared.record.Record.{Record}
use Rattle.rv_judge.specs.declared.counting.Counts.{Counts}
use Rattle.rv_judge.specs.Counting.{page_read}
use Rattle.rv_restrict.specs.declared.atom.Atom.{Atom}
use Rattle.rv_reader.specs.Tables.{page_of}
use Rattle.rv_reader.specs.declared.step.Step.{Step}
use Rattle.rv_reader.specs.declared.step.Step.TheVariants.{Row, Working, End}
use Rattle.rv_scan.specs.Due.{Skipped, due}

-- the table and the snapshot, the next page, and what is left of the page before it
pub record Place : Type 0 where
  pub table : ℕ
  pub snap : ℕ
  pub next : ℕ
  pub held : List Record

-- the rows from a page on
abbrev pub rows_from : List Record → ℕ → List Record
rows_from rows page = filter (λ (r : Record). nat_le (32 * page) r.row.0) rows

-- the rows that it did not look at
abbrev pub unseen : Place → List Record → List Record
unseen place rows = place.held ++ rows_from rows place.next

-- what it holds was drawn from these rows: what it did not look at is an end of them
abbrev pub Fits : Place → List Record → Type 0
Fits place rows = (k : ℕ) × (unseen place rows ≡ drop k rows)

-- the rows that it will still give
abbrev pub rest : Place → List Record → List (List Atom) → Skipped → List Record
rest place rows only skip = due only skip (unseen place rows)

-- the work left, over a table of so many pages
abbrev pub work : Place → List Record → ℕ → ℕ
work place rows pages = length (unseen place rows) + (pages - place.next)

-- the reads of a step: a page where it works on, none where it gives a row or ends
abbrev pub PageReads : Step Record → Counts → Counts → Type 0
PageReads (Row r) old new = new ≡ old
PageReads Working old new = new ≡ page_read old
PageReads End old new = new ≡ old

-- what a step does to the next page: a page that is read was there, and is behind it
abbrev pub PageTurns : Step Record → Place → Place → ℕ → Type 0
PageTurns (Row r) old new pages = new.next ≡ old.next
PageTurns Working old new pages = (old.next < pages) × (new.next ≡ old.next + 1)
PageTurns End old new pages = new.next ≡ old.next

-- the next page is read, or there is none
abbrev pub Turns : Place → Place → List Record → ℕ → Step Record → Type 0
Turns old new rows pages (Row r) = ⊥
Turns old new rows pages Working =
    (old.next < pages) × (new ≡ record old { held = page_of rows old.next; next = old.next + 1 })
Turns old new rows pages End = (pages ≤ old.next) × (new ≡ old)
