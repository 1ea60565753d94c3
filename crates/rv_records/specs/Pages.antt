-- Pages of a table's rows, kept by versions, and the rows that they make at a snapshot.
use Rattle.std.specs.Prelude.{◌≡◌, ℕ, zero, suc, ◌+◌, ◌/◌, ◌<◌, ◌≤◌, ◌==◌, List, [], ◌++◌, Option, is_some, true, max, unwrap_or, length, if◌then◌else◌}
use Rattle.std.specs.List.{list_all, slice_index_or}
use Rattle.rv_value.specs.declared.value.Value.{Value}
use Rattle.rv_value.specs.declared.record.Record.{Record}
use Rattle.rv_rows.specs.Rows.{Ascend, with_values}
use Rattle.rv_reader.specs.declared.reader.Sizes.{Sizes}
use Rattle.rv_versions.specs.declared.chain.Version.{Version}
use Rattle.rv_versions.specs.Chains as chains
use Rattle.rv_versions.specs.Chains.{value_of, AllChainsBelow}

abbrev pub no_sizes : Sizes
no_sizes = record { pages = 0; rows = 0 }

-- the versions of each page and those of the sizes, which stand under number 0; the snapshots from the horizon on
-- are meant
pub record Kept : Type 0 where
  pub horizon : ℕ
  pub pages : List (List (Version (List Record)))
  pub sizes : List (List (Version Sizes))

-- the rows of a page at a snapshot, none where it was not written yet
abbrev pub page_at : Kept → ℕ → ℕ → List Record
page_at kept snap n = unwrap_or (value_of kept.pages n snap) []

-- the rows of so many pages, one page after another
abbrev pub rows_of : (ℕ → List Record) → ℕ → List Record
rows_of page zero = []
rows_of page (suc n) = rows_of page n ++ page n

-- all rows at a snapshot
abbrev pub rows_at : Kept → ℕ → List Record
rows_at kept snap = rows_of (page_at kept snap) (length kept.pages)

abbrev pub sizes_at : Kept → ℕ → Sizes
sizes_at kept snap = unwrap_or (value_of kept.sizes 0 snap) no_sizes

-- the count of pages at a snapshot
abbrev pub pages_at : Kept → ℕ → ℕ
pages_at kept snap = (sizes_at kept snap).pages

-- rows of one page: ascending, and each number divided by 32 is that of the page
pub record IsPage (n : ℕ) (rows : List Record) : Type 0 where
  pub ascend : Ascend rows
  pub own : list_all (λ (r : Record). r.row.0 / 32 == n) rows ≡ true

-- the sizes are those of the pages, of which all from the page count on are empty
pub record AreSizes (page : ℕ → List Record) (count : ℕ) (sizes : Sizes) : Type 0 where
  pub rows : sizes.rows ≡ length (rows_of page count)
  pub past : (n : ℕ) → sizes.pages ≤ n → page n ≡ []
  pub few : sizes.pages ≤ 134217728

-- what always holds of record pages
pub record IsKept (kept : Kept) : Type 0 where
  pub few : length kept.pages ≤ 134217728
  pub page : (snap n : ℕ) → kept.horizon ≤ snap → IsPage n (page_at kept snap n)
  pub sizes : (snap : ℕ) → kept.horizon ≤ snap → AreSizes (page_at kept snap) (length kept.pages) (sizes_at kept snap)

-- no version is at or above a commit
pub record IsBelow (commit : ℕ) (kept : Kept) : Type 0 where
  pub pages : AllChainsBelow commit kept.pages
  pub sizes : AllChainsBelow commit kept.sizes

-- a snapshot now shows what a snapshot showed before
pub record IsSame (old : Kept) (before : ℕ) (new : Kept) (after : ℕ) : Type 0 where
  pub rows : rows_at new after ≡ rows_at old before
  pub pages : pages_at new after ≡ pages_at old before

-- the count of pages after a row was given values, or was taken away
abbrev pub pages_with : ℕ → Option (List Value) → ℕ → ℕ
pages_with number values pages = if is_some values then max pages (number / 32 + 1) else pages

-- a row was given values, or was taken away, at a commit
pub record IsPut (number : ℕ) (values : Option (List Value)) (commit : ℕ) (old new : Kept) : Type 0 where
  pub rows : (snap : ℕ) → commit ≤ snap → rows_at new snap ≡ with_values number values (rows_at old snap)
  pub pages : (snap : ℕ) → commit ≤ snap → pages_at new snap ≡ pages_with number values (pages_at old snap)

-- Versions of pages and of sizes: a page and the sizes were written.
pub record IsWritten (n commit : ℕ) (page : List Record) (size : Sizes)
    (pages new_pages : List (List (Version (List Record))))
    (sizes new_sizes : List (List (Version Sizes))) : Type 0 where
  pub page_put : chains.IsPut (List Record) n commit page pages new_pages
  pub size_put : chains.IsPut Sizes 0 commit size sizes new_sizes
  pub count : length new_pages ≡ max (length pages) (n + 1)
  pub newest : AllChainsBelow (commit + 1) new_pages
  pub newest_sizes : AllChainsBelow (commit + 1) new_sizes

-- the version of one page of a commit was taken out
pub record IsTaken (n commit : ℕ) (pages new_pages : List (List (Version (List Record)))) : Type 0 where
  pub older : (m snap : ℕ) → snap < commit → value_of new_pages m snap ≡ value_of pages m snap
  pub others : (m : ℕ) → (m ≡ n → ⊥) → slice_index_or new_pages m [] ≡ slice_index_or pages m []
  pub count : length new_pages ≡ length pages
  pub newest : AllChainsBelow (commit + 1) new_pages

-- what was written at a commit was taken back
pub record IsTakenBack (commit : ℕ) (pages new_pages : List (List (Version (List Record))))
    (sizes new_sizes : List (List (Version Sizes))) : Type 0 where
  pub older : (n snap : ℕ) → snap < commit → value_of new_pages n snap ≡ value_of pages n snap
  pub older_sizes : (n snap : ℕ) → snap < commit → value_of new_sizes n snap ≡ value_of sizes n snap
  pub count : length new_pages ≡ length pages
  pub below : AllChainsBelow commit new_pages
  pub below_sizes : AllChainsBelow commit new_sizes

-- the rows of a page, none where it was not written yet
abbrev pub page_of_versions : List (List (Version (List Record))) → ℕ → ℕ → List Record
page_of_versions pages n snap = unwrap_or (value_of pages n snap) []

-- the page of a row after the row was given values, or was taken away
abbrev pub page_after : ℕ → Option (List Value) → List (List (Version (List Record))) → ℕ → List Record
page_after number values pages commit = with_values number values (page_of_versions pages (number / 32) commit)

-- the sizes with a page's rows
abbrev pub sizes_with : Sizes → List Record → Sizes
sizes_with others page = record { pages = others.pages; rows = others.rows + length page }
