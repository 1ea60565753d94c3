-- The entries of a table's rows, and what a scan of them looks through.
use Rattle.std.proofs.Common.{◌≡◌, ℕ, List, [], ◌∷◌, filter, map, drop, Bool, true, false, cond, ◌&&◌, ◌||◌, refl, ap, sym, ◌∙◌, arith, subst, Some, None, Option, nat_eq, zero, suc, inl, inr}
use Rattle.std.specs.List.{list_any, AllByRecursion, cons_option}
use Rattle.std.proofs.lemmas.Bool.{cases_Bool, or_right}
use Rattle.std.specs.Cmp.{second_so}
use Rattle.rv_reader.proofs.Rows.{found_row}
use Rattle.rv_value.proofs.Lists.{all_drop, all_filter}
use Rattle.rv_value.specs.declared.record.Record.{Record}
use Rattle.rv_value.specs.declared.record.IndexEntry.{IndexEntry}
use Rattle.rv_rows.specs.Rows.{Ascend}
use Rattle.rv_restrict.specs.declared.atom.Atom.{Atom}
use Rattle.rv_restrict.specs.Parts.{stands_among}
use Rattle.rv_restrict.specs.Truth.{qualifies}
use Rattle.rv_reader.specs.Entries.{comes_before, entries_of, entry_of, is_in, run, sorted, sorted_in}
use Rattle.rv_reader.specs.Tables.{row_at}
use Rattle.rv_reader.proofs.Sorting.{all_in}
use Rattle.rv_scan.specs.Alongs.{Along, Follows, fetched, left}
use Rattle.rv_scan.specs.Told.{NamesThese, told}
use Rattle.rv_scan.proofs.Telling.{told_wide, told_reads, told_truth}
use Rattle.rv_jscan.specs.Entries.{has_entry, Apart}
use Rattle.rv_jscan.proofs.Parts.{Apart-filter}
use Rattle.rv_final.specs.Rest.{qualifies_at, has_row}
use Rattle.rv_final.proofs.Rests.{rows_found}
use Rattle.rv_final.proofs.Dues.{StandsFor, RowsApart, Looks}

-- an entry of a row
pub record EntryOf (columns : List ℕ) (rows : List Record) (e : IndexEntry) : Type 0 where
  pub row : Record
  pub there : row_at rows e.row.0 ≡ Some row
  pub is : e ≡ entry_of columns row

abbrev pub AreOf : List ℕ → List Record → List IndexEntry → Type 0
AreOf columns rows entries = AllByRecursion (EntryOf columns rows) entries

all_sorted : (P : IndexEntry → Type 0) (xs : List IndexEntry) → AllByRecursion P xs → AllByRecursion P (sorted xs)
all_sorted P [] a = tt
all_sorted P (x ∷ xs) a = all_in P x (sorted xs) a.0 (all_sorted P xs a.1)

any_in : (p : IndexEntry → Bool) (e : IndexEntry) (xs : List IndexEntry) → list_any p (sorted_in e xs) ≡ (p e || list_any p xs)
any_in p e [] = refl
any_in p e (x ∷ xs) = elim (comes_before x e) as (λ b. list_any p (cond b (x ∷ sorted_in e xs) (e ∷ x ∷ xs)) ≡ (p e || list_any p (x ∷ xs))) [
  | true ↦ ap (λ (b : Bool). p x || b) (any_in p e xs) ∙ swapped (p x) (p e) (list_any p xs)
  | false ↦ refl
]
  where
    swapped : (a b c : Bool) → (a || (b || c)) ≡ (b || (a || c))
    swapped a b c = grind arith

any_sorted : (p : IndexEntry → Bool) (xs : List IndexEntry) → list_any p (sorted xs) ≡ list_any p xs
any_sorted p [] = refl
any_sorted p (x ∷ xs) = any_in p x (sorted xs) ∙ ap (λ (b : Bool). p x || b) (any_sorted p xs)

stand_mapped : (columns : List ℕ) (rows some : List Record) → AllByRecursion (λ (x : Record). row_at rows x.row.0 ≡ Some x) some → AreOf columns rows (map (entry_of columns) some)
stand_mapped columns rows [] a = tt
stand_mapped columns rows (r ∷ some) a = (record { row = r; there = a.0; is = refl }, stand_mapped columns rows some a.1)

pub entries_stand : (columns : List ℕ) (rows : List Record) → Ascend rows → AreOf columns rows (entries_of columns rows)
entries_stand columns rows asc = all_sorted (EntryOf columns rows) (map (entry_of columns) rows) (stand_mapped columns rows rows (rows_found rows asc))

apart_dropped : (k : ℕ) (xs : List IndexEntry) → Apart xs → Apart (drop k xs)
apart_dropped zero xs a = a
apart_dropped (suc k) [] a = a
apart_dropped (suc k) (x ∷ xs) a = apart_dropped k xs a.1

-- what a walk did not look at
pub left_apart : (along : Along) (entries : List IndexEntry) → Follows along entries → Apart entries → Apart (left along entries)
left_apart along entries f a = subst Apart (sym f.1) (apart_dropped f.0 (run entries along.range) (Apart-filter (is_in along.range) entries a))

pub left_stands : (along : Along) (columns : List ℕ) (rows : List Record) (entries : List IndexEntry) → Follows along entries → AreOf columns rows entries → AreOf columns rows (left along entries)
left_stands along columns rows entries f a = subst (AreOf columns rows) (sym f.1) (all_drop (EntryOf columns rows) f.0 (run entries along.range) (all_filter (EntryOf columns rows) (is_in along.range) entries a))

-- records fetched
pub fetched_open : (columns : List ℕ) (rows : List Record) (es : List IndexEntry) (n : ℕ) → AreOf columns rows es → has_row n (fetched rows es) ≡ has_entry n es
fetched_open columns rows [] n a = refl
fetched_open columns rows (e ∷ es) n a =
    let o = a.0 in
    let is = found_row rows e.row.0 o.row o.there in
    subst (λ (f : Option Record). has_row n (cons_option f (fetched rows es)) ≡ (nat_eq n e.row.0 || has_entry n es)) (sym o.there) (ap (λ (m : ℕ). nat_eq n m || has_row n (fetched rows es)) is ∙ ap (λ (b : Bool). nat_eq n e.row.0 || b) (fetched_open columns rows es n a.1))

fetched_stand : (need : List ℕ) (only : List (List Atom)) (columns : List ℕ) (rows : List Record) (es : List IndexEntry) → AreOf columns rows es → AllByRecursion (StandsFor need only rows) (fetched rows es)
fetched_stand need only columns rows [] a = tt
fetched_stand need only columns rows (e ∷ es) a = by (row_at rows e.row.0) refl (fetched_stand need only columns rows es a.1)
  where
    by : (f : Option Record) → row_at rows e.row.0 ≡ f → AllByRecursion (StandsFor need only rows) (fetched rows es) → AllByRecursion (StandsFor need only rows) (fetched rows (e ∷ es))
    by None is more = rw is more
    by (Some x) is more =
        let number = found_row rows e.row.0 x is in
        rw is (record { row = x; there = ap (row_at rows) number ∙ is; agrees = λ c h. refl; wide = λ c h l. l; same = refl }, more)

fetched_apart : (columns : List ℕ) (rows : List Record) (es : List IndexEntry) → AreOf columns rows es → Apart es → RowsApart (fetched rows es)
fetched_apart columns rows [] a d = tt
fetched_apart columns rows (e ∷ es) a d =
    let o = a.0 in
    let is = found_row rows e.row.0 o.row o.there in
    rw o.there (ap (λ (m : ℕ). has_row m (fetched rows es)) is ∙ fetched_open columns rows es e.row.0 a.1 ∙ d.0, fetched_apart columns rows es a.1 d.1)

pub fetched_looks : (need : List ℕ) (only : List (List Atom)) (columns : List ℕ) (rows : List Record) (es : List IndexEntry) → AreOf columns rows es → Apart es → Looks need only rows (fetched rows es)
fetched_looks need only columns rows es a d = record { each = fetched_stand need only columns rows es a; apart = fetched_apart columns rows es a d }

-- records told by the index
pub told_open : (columns : List ℕ) (es : List IndexEntry) (n : ℕ) → has_row n (map (told columns) es) ≡ has_entry n es
told_open columns [] n = refl
told_open columns (e ∷ es) n = ap (λ (b : Bool). nat_eq n e.row.0 || b) (told_open columns es n)

-- the index has the columns needed
abbrev pub Covering : List ℕ → List ℕ → Type 0
Covering columns need = (c : ℕ) → stands_among need c ≡ true → stands_among columns c ≡ true

told_stand : (need : List ℕ) (only : List (List Atom)) (columns : List ℕ) (rows : List Record) (es : List IndexEntry) → NamesThese columns only → Covering columns need → AreOf columns rows es → AllByRecursion (StandsFor need only rows) (map (told columns) es)
told_stand need only columns rows [] names covering a = tt
told_stand need only columns rows (e ∷ es) names covering a =
    let o = a.0 in (
      subst (λ (x : IndexEntry). row_at rows x.row.0 ≡ Some o.row → StandsFor need only rows (told columns x)) (sym o.is) (λ there. record {
        row = o.row;
        there = there;
        agrees = λ c h. told_reads columns o.row c (covering c h);
        wide = λ c h l. told_wide columns o.row c (covering c h);
        same = told_truth columns only o.row names;
      }) o.there,
      told_stand need only columns rows es names covering a.1,
    )

told_apart : (columns : List ℕ) (es : List IndexEntry) → Apart es → RowsApart (map (told columns) es)
told_apart columns [] d = tt
told_apart columns (e ∷ es) d = (told_open columns es e.row.0 ∙ d.0, told_apart columns es d.1)

pub told_looks : (need : List ℕ) (only : List (List Atom)) (columns : List ℕ) (rows : List Record) (es : List IndexEntry) → NamesThese columns only → Covering columns need → AreOf columns rows es → Apart es → Looks need only rows (map (told columns) es)
told_looks need only columns rows es names covering a d = record { each = told_stand need only columns rows es names covering a; apart = told_apart columns es d }

-- a row that qualifies has an entry that passes each test that its own entry passes
any_filter : (p : IndexEntry → Bool) (n : ℕ) (es : List IndexEntry) → has_entry n (filter p es) ≡ list_any (λ (e : IndexEntry). nat_eq n e.row.0 && p e) es
any_filter p n [] = refl
any_filter p n (e ∷ es) = elim (p e) as (λ b. p e ≡ b → has_entry n (cond b (e ∷ filter p es) (filter p es)) ≡ ((nat_eq n e.row.0 && p e) || list_any (λ (e : IndexEntry). nat_eq n e.row.0 && p e) es)) [
  | true ↦ λ t. taken _ _ _ _ t (any_filter p n es)
  | false ↦ λ f. passed _ _ _ _ f (any_filter p n es)
] refl
  where
    taken : (a b c d : Bool) → b ≡ true → c ≡ d → (a || c) ≡ ((a && b) || d)
    taken a b c d h i = grind arith

    passed : (a b c d : Bool) → b ≡ false → c ≡ d → c ≡ ((a && b) || d)
    passed a b c d h i = grind arith

any_mapped : (p : IndexEntry → Bool) (columns : List ℕ) (only : List (List Atom)) (n : ℕ) (rows : List Record) → ((r : Record) → qualifies only r.values ≡ true → p (entry_of columns r) ≡ true) → qualifies_at only rows n ≡ true → list_any (λ (e : IndexEntry). nat_eq n e.row.0 && p e) (map (entry_of columns) rows) ≡ true
any_mapped p columns only n [] h q = q
any_mapped p columns only n (r ∷ rows) h q =
    elim (cases_Bool (nat_eq n r.row.0 && qualifies only r.values)) [
      | inl here ↦ first (nat_eq n r.row.0) (qualifies only r.values) (p (entry_of columns r)) (list_any (λ (e : IndexEntry). nat_eq n e.row.0 && p e) (map (entry_of columns) rows)) here (h r (second_so (nat_eq n r.row.0) (qualifies only r.values) here))
      | inr other ↦ or_right (nat_eq n r.row.0 && p (entry_of columns r)) (list_any (λ (e : IndexEntry). nat_eq n e.row.0 && p e) (map (entry_of columns) rows)) (any_mapped p columns only n rows h (rest (nat_eq n r.row.0 && qualifies only r.values) (qualifies_at only rows n) other q))
    ]
  where
    first : (a b c d : Bool) → (a && b) ≡ true → c ≡ true → ((a && c) || d) ≡ true
    first a b c d h i = grind arith

    rest : (a b : Bool) → a ≡ false → (a || b) ≡ true → b ≡ true
    rest a b h i = grind arith

pub entered : (p : IndexEntry → Bool) (columns : List ℕ) (only : List (List Atom)) (n : ℕ) (rows : List Record) → ((r : Record) → qualifies only r.values ≡ true → p (entry_of columns r) ≡ true) → qualifies_at only rows n ≡ true → has_entry n (filter p (entries_of columns rows)) ≡ true
entered p columns only n rows h q = any_filter p n (entries_of columns rows) ∙ any_sorted (λ (e : IndexEntry). nat_eq n e.row.0 && p e) (map (entry_of columns) rows) ∙ any_mapped p columns only n rows h q
