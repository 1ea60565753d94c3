-- The keys of entries that are taken away.
use Rattle.std.proofs.Common.{◌≡◌, ℕ, List, [], ◌∷◌, true, inl, inr, ap, sym, ◌∙◌, length}
use Rattle.std.proofs.lemmas.Bool.{cases_Bool, and_parts}
use Rattle.std.specs.List.{list_all}
use Rattle.std.specs.Ordering.{is_eq}
use Rattle.rv_value.specs.declared.record.IndexEntry.{IndexEntry}
use Rattle.rv_value.specs.Entries.{entry_cmp}
use Rattle.rv_reader.specs.Storing.{AreKeys}
use Rattle.rv_reader.proofs.Sorting.{equal_entries}
use Rattle.rv_overlay.specs.Laying.{has}

has_key : (width : ℕ) (entries : List IndexEntry) (e : IndexEntry) → AreKeys width entries → has entries e ≡ true → length e.key ≡ width
has_key width [] e keys h = cc
has_key width (x ∷ xs) e keys h = elim (cases_Bool (is_eq (entry_cmp x e))) [
  | inl t ↦ ap (λ (y : IndexEntry). length y.key) (sym (equal_entries x e t)) ∙ keys.0
  | inr f ↦ has_key width xs e keys.1 (rw f at h)
]

pub taken_keys : (width : ℕ) (entries taken : List IndexEntry) → AreKeys width entries → list_all (has entries) taken ≡ true → AreKeys width taken
taken_keys width entries [] keys there = tt
taken_keys width entries (t ∷ ts) keys there =
    let parts = and_parts (has entries t) (list_all (has entries) ts) there in
    (has_key width entries t keys parts.0, taken_keys width entries ts keys parts.1)
