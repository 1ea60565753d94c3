-- No row stands in two entries of an index.
use Rattle.std.proofs.Common.{◌≡◌, ℕ, List, [], ◌∷◌, Bool, true, false, cond, ◌||◌, nat_eq, refl, ◌∙◌, arith}
use Rattle.std.proofs.lemmas.Bool.Decides.{nat_tests}
use Rattle.std.specs.List.{list_all}
use Rattle.std.proofs.lemmas.Bool.{and_parts}
use Rattle.rv_value.specs.declared.record.Record.{Record}
use Rattle.rv_value.specs.declared.record.IndexEntry.{IndexEntry}
use Rattle.rv_rows.specs.Rows as rows_by_number
use Rattle.rv_rows.specs.Rows.{comes_below}
use Rattle.rv_reader.specs.Entries.{comes_before, entry_of, sorted_in, entries_of}
use Rattle.rv_jscan.specs.Entries.{has_entry, Apart}

swapped : (x e rest put : Bool) → put ≡ (e || rest) → (x || put) ≡ (e || (x || rest))
swapped x e rest put is = grind (arith, is)

has_in : (n : ℕ) (e : IndexEntry) (xs : List IndexEntry) → has_entry n (sorted_in e xs) ≡ (nat_eq n e.row.0 || has_entry n xs)
has_in n e [] = refl
has_in n e (x ∷ xs) =
    elim (comes_before x e) as (λ b. has_entry n (cond b (x ∷ sorted_in e xs) (e ∷ x ∷ xs)) ≡ (nat_eq n e.row.0 || (nat_eq n x.row.0 || has_entry n xs))) [
      | true ↦ swapped (nat_eq n x.row.0) (nat_eq n e.row.0) (has_entry n xs) (has_entry n (sorted_in e xs)) (has_in n e xs)
      | false ↦ refl
    ]

other_row : (n m : ℕ) (rest : Bool) → nat_eq n m ≡ false → rest ≡ false → (nat_eq m n || rest) ≡ false
other_row n m rest other none = grind (arith, nat_tests, other, none)

apart_in : (e : IndexEntry) (xs : List IndexEntry) → has_entry e.row.0 xs ≡ false → Apart xs → Apart (sorted_in e xs)
apart_in e [] none apart = (refl, tt)
apart_in e (x ∷ xs) none apart =
    let here : nat_eq e.row.0 x.row.0 ≡ false = grind (arith, none) in
    let rest : has_entry e.row.0 xs ≡ false = grind (arith, none) in
    elim (comes_before x e) as (λ b. Apart (cond b (x ∷ sorted_in e xs) (e ∷ x ∷ xs))) [
      | true ↦ (has_in x.row.0 e xs ∙ other_row e.row.0 x.row.0 (has_entry x.row.0 xs) here apart.0, apart_in e xs rest apart.1)
      | false ↦ (none, apart)
    ]

below_other : (r s : Record) → comes_below r s ≡ true → nat_eq r.row.0 s.row.0 ≡ false
below_other r s below = grind (arith, nat_tests)

none_below : (columns : List ℕ) (r : Record) (rows : List Record) → list_all (comes_below r) rows ≡ true → has_entry r.row.0 (entries_of columns rows) ≡ false
none_below columns r [] below = refl
none_below columns r (s ∷ rows) below =
    let parts = and_parts (comes_below r s) (list_all (comes_below r) rows) below in
    let first = below_other r s parts.0 in
    let rest = none_below columns r rows parts.1 in
    has_in r.row.0 (entry_of columns s) (entries_of columns rows) ∙ rw (first, rest) refl

pub entries_apart : (columns : List ℕ) (rows : List Record) → rows_by_number.Ascend rows → Apart (entries_of columns rows)
entries_apart columns [] ascend = tt
entries_apart columns (r ∷ rows) ascend = apart_in (entry_of columns r) (entries_of columns rows) (none_below columns r rows ascend.0) (entries_apart columns rows ascend.1)
