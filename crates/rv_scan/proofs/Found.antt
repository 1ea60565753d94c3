-- The first due record of a list.
use Rattle.std.proofs.Common.{◌≡◌, ℕ, ◌+◌, ◌<◌, List, [], ◌∷◌, true, false, refl, ap, sym, ◌∙◌, arith, length, zero, suc, drop, slice_index_or}
use Rattle.std.proofs.lemmas.List.{drop_more}
use Rattle.std.specs.List.{list_all}
use Rattle.std.proofs.lemmas.Bool.{and_parts}
use Rattle.rv_value.specs.declared.record.Record.{Record}
use Rattle.rv_restrict.specs.declared.atom.Atom.{Atom}
use Rattle.rv_restrict.specs.Truth.{names_only, row_has}
use Rattle.rv_scan.specs.Due.{Skipped, is_due, due, HaveColumns}

pub columns_at : (only : List (List Atom)) (records : List Record) (at : ℕ) (d : Record) → HaveColumns only records → at < length records → names_only (row_has (slice_index_or records at d).values) only ≡ true
columns_at only [] at d have h = absurd (omega arith)
columns_at only (r ∷ records) zero d have h = (and_parts (names_only (row_has r.values) only) (list_all (λ (x : Record). names_only (row_has x.values) only) records) have).0
columns_at only (r ∷ records) (suc at) d have h = columns_at only records at d (and_parts (names_only (row_has r.values) only) (list_all (λ (x : Record). names_only (row_has x.values) only) records) have).1 (omega arith)

pub due_passed : (only : List (List Atom)) (skip : Skipped) (records : List Record) (at : ℕ) (r : Record) → at < length records → r ≡ slice_index_or records at r → is_due only skip r ≡ false → due only skip (drop at records) ≡ due only skip (drop (at + 1) records)
due_passed only skip records at r h e f =
    let next : drop at records ≡ r ∷ drop (at + 1) records = drop_more records at r h ∙ ap (λ (x : Record). x ∷ drop (at + 1) records) (sym e) in
    ap (due only skip) next ∙ rw f refl

pub due_found : (only : List (List Atom)) (skip : Skipped) (records : List Record) (at : ℕ) (r d : Record) → at < length records → r ≡ slice_index_or records at r → is_due only skip r ≡ true → due only skip (drop at records) ≡ slice_index_or records at d ∷ due only skip (drop (at + 1) records)
due_found only skip records at r d h e t =
    let next : drop at records ≡ r ∷ drop (at + 1) records = drop_more records at r h ∙ ap (λ (x : Record). x ∷ drop (at + 1) records) (sym e) in
    let same : r ≡ slice_index_or records at d = e ∙ any_default records at r d h in
    ap (due only skip) next ∙ rw t (ap (λ (x : Record). x ∷ due only skip (drop (at + 1) records)) same)
  where
    any_default : (xs : List Record) (i : ℕ) (a b : Record) → i < length xs → slice_index_or xs i a ≡ slice_index_or xs i b
    any_default [] i a b h = absurd (omega arith)
    any_default (x ∷ xs) zero a b h = refl
    any_default (x ∷ xs) (suc i) a b h = any_default xs i a b (omega arith)
