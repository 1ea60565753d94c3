-- One step of the reader.
use Rattle.std.specs.Prelude.{◌≡◌, ℕ, ◌+◌, ◌<◌, List, [], ◌∷◌, Option, Some, None, Result, Err, length}
use Rattle.rv_model.specs.declared.entry.Entry.{Entry}
use Rattle.rv_text.specs.declared.reading.Asked.{Asked}
use Rattle.rv_text.specs.declared.reading.Front.{Front}
use Rattle.rv_text.specs.declared.reading.Front.TheVariants as fronts
use Rattle.rv_text.specs.Lines.{cut}
use Rattle.rv_text.specs.Texts.{answer_at, entries_before, paired, read_from, Call}

abbrev pub call_by : Asked → Call
call_by a = record { session = a.session; text = a.text }

-- what is read behind a call, whose line has a number, of the cut at the end of its answer
abbrev pub answered : ℕ → Call → List ℕ → Option (List ℕ) → Result (List Entry) ℕ
answered line call word None = Err (line + 1)
answered line call word (Some behind) = paired line (Some call) (answer_at word) (read_from (line + 2) behind)

abbrev pub answered_at : ℕ → Call → List ℕ → Result (List Entry) ℕ
answered_at line call bytes = answered line call (cut 10 bytes).word (cut 10 bytes).more

-- what was read is an entry, before what is read of fewer bytes; or it is bad at a line
abbrev pub Fronts : List ℕ → ℕ → Result (List Entry) ℕ → Front → Type 0
Fronts bytes line read (fronts.Entry entry behind) =
    (length behind.now < length bytes) × (read ≡ entries_before (entry ∷ []) (read_from (line + 2) behind.now))
Fronts bytes line read (fronts.Bad at) = read ≡ Err at
