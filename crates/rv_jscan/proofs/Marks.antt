-- Marks, one more entry at a time.
use Rattle.std.proofs.Common.{◌≡◌, ℕ, ◌+◌, ◌<◌, List, [], ◌∷◌, ◌++◌, length, take, slice_set, slice_index_or, Bool, ap, sym, ◌∙◌}
use Rattle.std.proofs.lemmas.List.{take_more, take_more_set, map-append}
use Rattle.rv_value.specs.declared.record.IndexEntry.{IndexEntry}
use Rattle.rv_restrict.specs.Parts.{Parted, passes}
use Rattle.rv_jscan.specs.Pieces.{marks_of}

-- an entry to stand in where a list has none
pub no_entry : IndexEntry
no_entry = record { key = []; row = record { 0 = 0 } }

pub marks_more : (part : Parted) (entries : List IndexEntry) (marks : List Bool) (i : ℕ) (v : Bool) (d : IndexEntry) → i < length entries → i < length marks → take i marks ≡ marks_of part (take i entries) → v ≡ passes part (slice_index_or entries i d).key → take (i + 1) (slice_set marks i v) ≡ marks_of part (take (i + 1) entries)
marks_more part entries marks i v d below within same is =
    take_more_set marks i v within ∙ ap (λ (m : List Bool). m ++ v ∷ []) same ∙ ap (λ (w : Bool). marks_of part (take i entries) ++ w ∷ []) is ∙ sym (ap (marks_of part) (take_more entries i d below) ∙ map-append (λ (e : IndexEntry). passes part e.key) (take i entries) (slice_index_or entries i d ∷ []))
