-- The records that are still owed, as a part of a table's rows, and what a step does to them.
use Rattle.std.specs.Prelude.{◌≡◌, ℕ, ◌<◌, Bool, true, false, not, ◌&&◌, List, [], ◌∷◌, ◌++◌, length, filter, map, Some, nat_eq}
use Rattle.std.specs.List.{list_all, list_any}
use Rattle.std.specs.Ordering.{is_lt}
use Rattle.rv_value.specs.declared.value.Value.{Value}
use Rattle.rv_value.specs.declared.record.Record.{Record}
use Rattle.rv_value.specs.Order.{values_cmp}
use Rattle.rv_restrict.specs.declared.atom.Atom.{Atom}
use Rattle.rv_restrict.specs.Parts.{stands_among}
use Rattle.rv_restrict.specs.Truth.{qualifies}
use Rattle.rv_reader.specs.Entries.{column_of}
use Rattle.rv_reader.specs.Tables.{row_at}
use Rattle.rv_reader.specs.declared.step.Step.{Step}
use Rattle.rv_reader.specs.declared.step.Step.TheVariants.{Row, Working, End}

-- the records for which the restriction is True
abbrev pub qualifying : List (List Atom) → List Record → List Record
qualifying only rows = filter (λ (r : Record). qualifies only r.values) rows

-- those of them that are left, by a test on their row numbers
abbrev pub rest_by : (ℕ → Bool) → List (List Atom) → List Record → List Record
rest_by left only rows = filter (λ (r : Record). qualifies only r.values && left r.row.0) rows

-- a row of this number qualifies
abbrev pub qualifies_at : List (List Atom) → List Record → ℕ → Bool
qualifies_at only rows n = list_any (λ (r : Record). nat_eq n r.row.0 && qualifies only r.values) rows

-- two tests tell the same of each row that qualifies
abbrev pub Agree : List (List Atom) → List Record → (ℕ → Bool) → (ℕ → Bool) → Type 0
Agree only rows old new = (n : ℕ) → qualifies_at only rows n ≡ true → new n ≡ old n

abbrev pub has_row : ℕ → List Record → Bool
has_row n rows = list_any (λ (r : Record). nat_eq n r.row.0) rows

-- two records have the same values in these columns
abbrev pub AgreesIn : List ℕ → Record → Record → Type 0
AgreesIn need x y = (c : ℕ) → stands_among need c ≡ true → column_of x.values c ≡ column_of y.values c

-- a record has a value in each of these columns in which another one has
abbrev pub IsWide : List ℕ → Record → Record → Type 0
IsWide need x y = (c : ℕ) → stands_among need c ≡ true → c < length y.values → c < length x.values

-- one record is taken out, the others stay in order; the answer has its row number, agrees with it in the columns
-- needed and has a value in each of them that it has
pub record TakesOut (need : List ℕ) (r : Record) (old new : List Record) : Type 0 where
  pub front : List Record
  pub taken : Record
  pub behind : List Record
  pub before : old ≡ front ++ taken ∷ behind
  pub after : new ≡ front ++ behind
  pub row : r.row.0 ≡ taken.row.0
  pub agrees : AgreesIn need r taken
  pub wide : IsWide need r taken

-- the values by which records are ordered
abbrev pub order_of : List ℕ → Record → List Value
order_of order r = map (column_of r.values) order

-- no record is less in the order columns
abbrev pub IsLeast : List ℕ → Record → List Record → Type 0
IsLeast order r records =
    list_all (λ (x : Record). not (is_lt (values_cmp (order_of order x) (order_of order r)))) records ≡ true

-- what a foreground step does to the rest
abbrev pub Steps : List ℕ → List ℕ → Step Record → List Record → List Record → Type 0
Steps need order (Row r) old new = TakesOut need r old new × IsLeast order r old
Steps need order Working old new = new ≡ old
Steps need order End old new = (old ≡ []) × (new ≡ [])

-- The same said of each row number, by the tests before and after.

pub record Marks (need : List ℕ) (only : List (List Atom)) (rows : List Record) (r : Record)
    (old new : ℕ → Bool) : Type 0 where
  pub taken : Record
  pub there : row_at rows r.row.0 ≡ Some taken
  pub qualifies : qualifies only taken.values ≡ true
  pub left : old r.row.0 ≡ true
  pub agrees : AgreesIn need r taken
  pub others : Agree only rows (λ n. old n && not (nat_eq n r.row.0)) new
  pub wide : IsWide need r taken

abbrev pub StepMarks : List ℕ → List (List Atom) → List Record → Step Record → (ℕ → Bool) → (ℕ → Bool) → Type 0
StepMarks need only rows (Row r) old new = Marks need only rows r old new
StepMarks need only rows Working old new = Agree only rows old new
StepMarks need only rows End old new = Agree only rows (λ n. false) old × Agree only rows (λ n. false) new
