-- The rows of index entries.
use Rattle.std.specs.Prelude.{◌≡◌, ℕ, List, [], ◌∷◌, Bool, false, ◌&&◌, nat_eq}
use Rattle.std.specs.List.{list_any}
use Rattle.rv_value.specs.declared.record.IndexEntry.{IndexEntry}
use Rattle.rv_keylist.specs.Keys.{has_key}

-- whether some entry is of this row
abbrev pub has_entry : ℕ → List IndexEntry → Bool
has_entry n entries = list_any (λ (e : IndexEntry). nat_eq n e.row.0) entries

-- no row stands in two of the entries
abbrev pub Apart : List IndexEntry → Type 0
Apart [] = Unit {0}
Apart (e ∷ entries) = (has_entry e.row.0 entries ≡ false) × Apart entries

-- no entry is of a row among the keys
abbrev pub Disjoint : List ℕ → List IndexEntry → Type 0
Disjoint keys entries = (n : ℕ) → (has_key n keys && has_entry n entries) ≡ false
