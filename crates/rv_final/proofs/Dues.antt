-- What a scan's step says of each row number: the records that it looks through stand for rows of the table.
use Rattle.std.proofs.Common.{◌≡◌, ℕ, List, [], ◌∷◌, drop, filter, Bool, true, false, not, cond, ◌&&◌, ◌||◌, refl, ap, sym, ◌∙◌, arith, subst, Some, nat_eq, zero, suc, inl, inr}
use Rattle.std.specs.List.{AllByRecursion}
use Rattle.std.proofs.lemmas.Bool.{cases_Bool, and_parts, or_from, eqb-true, or_left}
use Rattle.rv_value.proofs.Lists.{all_drop}
use Rattle.rv_value.proofs.Tests.{same_number}
use Rattle.rv_value.specs.declared.record.Record.{Record}
use Rattle.rv_rows.specs.Rows.{Ascend}
use Rattle.rv_restrict.specs.declared.atom.Atom.{Atom}
use Rattle.rv_restrict.specs.Truth.{qualifies}
use Rattle.rv_reader.specs.Tables.{row_at}
use Rattle.rv_reader.specs.declared.step.Step.{Step}
use Rattle.rv_reader.specs.declared.step.Step.TheVariants.{Row, Working, End}
use Rattle.rv_scan.specs.Due.{Skipped, StepsTo, due, is_due, skips}
use Rattle.rv_final.specs.Rest.{qualifies_at, Agree, AgreesIn, IsWide, Marks, StepMarks, has_row}
use Rattle.rv_final.proofs.Rests.{below_all, rows_found, told_by}

-- a record that stands for a row: it agrees with it in the columns needed, and qualifies exactly where the row does
pub record StandsFor (need : List ℕ) (only : List (List Atom)) (rows : List Record) (x : Record) : Type 0 where
  pub row : Record
  pub there : row_at rows x.row.0 ≡ Some row
  pub agrees : AgreesIn need x row
  pub same : qualifies only x.values ≡ qualifies only row.values
  pub wide : IsWide need x row

-- each number once
abbrev pub RowsApart : List Record → Type 0
RowsApart [] = Unit {0}
RowsApart (x ∷ xs) = (has_row x.row.0 xs ≡ false) × RowsApart xs

pub record Looks (need : List ℕ) (only : List (List Atom)) (rows xs : List Record) : Type 0 where
  pub each : AllByRecursion (StandsFor need only rows) xs
  pub apart : RowsApart xs

has_kept : (n : ℕ) (p : Record → Bool) (xs : List Record) → has_row n xs ≡ false → has_row n (filter p xs) ≡ false
has_kept n p [] h = refl
has_kept n p (x ∷ xs) h =
    let tail : has_row n xs ≡ false = grind arith in
    let here : nat_eq n x.row.0 ≡ false = grind arith in
    elim (p x) as (λ b. has_row n (cond b (x ∷ filter p xs) (filter p xs)) ≡ false) [
      | true ↦ or_from _ _ here (has_kept n p xs tail)
      | false ↦ has_kept n p xs tail
    ]

pub apart_filter : (p : Record → Bool) (xs : List Record) → RowsApart xs → RowsApart (filter p xs)
apart_filter p [] a = tt
apart_filter p (x ∷ xs) a =
    elim (p x) as (λ b. RowsApart (cond b (x ∷ filter p xs) (filter p xs))) [
      | true ↦ (has_kept x.row.0 p xs a.0, apart_filter p xs a.1)
      | false ↦ apart_filter p xs a.1
    ]

-- of the rows that qualify, those due are those looked through that are not skipped
pub due_has : (need : List ℕ) (only : List (List Atom)) (rows : List Record) (skip : Skipped) (xs : List Record) (n : ℕ) → Ascend rows → AllByRecursion (StandsFor need only rows) xs → qualifies_at only rows n ≡ true → has_row n (due only skip xs) ≡ (has_row n xs && not (skips skip n))
due_has need only rows skip [] n asc each q = refl
due_has need only rows skip (x ∷ xs) n asc each q =
    let tail = due_has need only rows skip xs n asc each.1 q in
    elim (cases_Bool (nat_eq n x.row.0)) [
      | inl here ↦
          let is : n ≡ x.row.0 = eqb-true n x.row.0 here in
          let stands = each.0 in
          let yes : qualifies only x.values ≡ true = stands.same ∙ sym (told_by only rows x.row.0 stands.row asc stands.there) ∙ ap (qualifies_at only rows) (sym is) ∙ q in
          let skipped : skips skip x.row.0 ≡ skips skip n = ap (skips skip) (sym is) in
          elim (skips skip x.row.0) as (λ s. skips skip x.row.0 ≡ s → has_row n (cond (not s && qualifies only x.values) (x ∷ due only skip xs) (due only skip xs)) ≡ (has_row n (x ∷ xs) && not (skips skip n))) [
            | true ↦ λ e. let gone : skips skip n ≡ true = sym skipped ∙ e in tail ∙ none_left _ _ _ gone
            | false ↦ λ e.
                let unskipped : skips skip n ≡ false = sym skipped ∙ e in
                ap (λ (b : Bool). has_row n (cond b (x ∷ due only skip xs) (due only skip xs))) yes ∙ or_left _ _ here ∙ sym (and_here _ _ _ here unskipped)
          ] refl
      | inr other ↦
          elim (is_due only skip x) as (λ b. has_row n (cond b (x ∷ due only skip xs) (due only skip xs)) ≡ (has_row n (x ∷ xs) && not (skips skip n))) [
            | true ↦ or_other _ _ other ∙ tail ∙ ap (λ (b : Bool). b && not (skips skip n)) (sym (or_other _ _ other))
            | false ↦ tail ∙ ap (λ (b : Bool). b && not (skips skip n)) (sym (or_other _ _ other))
          ]
    ]
  where
    or_other : (a b : Bool) → a ≡ false → (a || b) ≡ b
    or_other a b h = grind arith

    and_here : (a b s : Bool) → a ≡ true → s ≡ false → ((a || b) && not s) ≡ true
    and_here a b s h i = grind arith

    none_left : (a b s : Bool) → s ≡ true → (b && not s) ≡ ((a || b) && not s)
    none_left a b s h = grind arith

-- the first record that is due
first_due : (need : List ℕ) (only : List (List Atom)) (rows : List Record) (skip : Skipped) (xs more : List Record) (r : Record) → AllByRecursion (StandsFor need only rows) xs → due only skip xs ≡ r ∷ more → StandsFor need only rows r × (is_due only skip r ≡ true)
first_due need only rows skip [] more r each e = absurd (cc)
first_due need only rows skip (x ∷ xs) more r each e =
    elim (is_due only skip x) as (λ b. is_due only skip x ≡ b → cond b (x ∷ due only skip xs) (due only skip xs) ≡ r ∷ more → StandsFor need only rows r × (is_due only skip r ≡ true)) [
      | true ↦ λ d e. let same : x ≡ r = cc in (subst (StandsFor need only rows) same each.0, ap (is_due only skip) (sym same) ∙ d)
      | false ↦ λ d e. first_due need only rows skip xs more r each.1 e
    ] refl e

abbrev pub open_in : List Record → Skipped → ℕ → Bool
open_in xs skip n = has_row n xs && not (skips skip n)

found_marks : (need : List ℕ) (only : List (List Atom)) (rows : List Record) (skip : Skipped) (xs ys : List Record) (r : Record) → Ascend rows → Looks need only rows xs → Looks need only rows ys → due only skip xs ≡ r ∷ due only skip ys → Marks need only rows r (open_in xs skip) (open_in ys skip)
found_marks need only rows skip xs ys r asc lx ly e =
    let first = first_due need only rows skip xs (due only skip ys) r lx.each e in
    let stands = first.0 in
    let parts = and_parts (not (skips skip r.row.0)) (qualifies only r.values) first.1 in
    let qualifies_row : qualifies only stands.row.values ≡ true = sym stands.same ∙ parts.1 in
    let there : qualifies_at only rows r.row.0 ≡ true = told_by only rows r.row.0 stands.row asc stands.there ∙ qualifies_row in
    let split : (n : ℕ) → has_row n (due only skip xs) ≡ (nat_eq n r.row.0 || has_row n (due only skip ys)) = λ n. ap (has_row n) e in
    let apart : has_row r.row.0 (due only skip ys) ≡ false = (subst RowsApart e (apart_filter (is_due only skip) xs lx.apart)).0 in
    record {
      taken = stands.row;
      there = stands.there;
      qualifies = qualifies_row;
      left = sym (due_has need only rows skip xs r.row.0 asc lx.each there) ∙ split r.row.0 ∙ or_left _ _ (same_number r.row.0);
      agrees = stands.agrees;
      wide = stands.wide;
      others = λ n q.
          let old : open_in xs skip n ≡ (nat_eq n r.row.0 || has_row n (due only skip ys)) = sym (due_has need only rows skip xs n asc lx.each q) ∙ split n in
          let new : open_in ys skip n ≡ has_row n (due only skip ys) = sym (due_has need only rows skip ys n asc ly.each q) in
          new ∙ elim (cases_Bool (nat_eq n r.row.0)) [
            | inl here ↦
                let is : n ≡ r.row.0 = eqb-true n r.row.0 here in
                let none : has_row n (due only skip ys) ≡ false = ap (λ (m : ℕ). has_row m (due only skip ys)) is ∙ apart in
                none ∙ sym (and_gone _ _ here)
            | inr other ↦ sym (ap (λ (b : Bool). b && not (nat_eq n r.row.0)) old ∙ and_other _ _ other)
          ];
    }
  where
    and_gone : (a b : Bool) → b ≡ true → (a && not b) ≡ false
    and_gone a b h = grind arith

    and_other : (b c : Bool) → b ≡ false → ((b || c) && not b) ≡ c
    and_other b c h = grind arith

none_due : (need : List ℕ) (only : List (List Atom)) (rows : List Record) (skip : Skipped) (xs : List Record) → Ascend rows → Looks need only rows xs → due only skip xs ≡ [] → Agree only rows (λ n. false) (open_in xs skip)
none_due need only rows skip xs asc l e n q = sym (due_has need only rows skip xs n asc l.each q) ∙ ap (has_row n) e

pub step_marks : (need : List ℕ) (only : List (List Atom)) (rows : List Record) (skip : Skipped) (xs ys : List Record) (s : Step Record) (w v : ℕ) → Ascend rows → Looks need only rows xs → Looks need only rows ys → StepsTo s (due only skip xs) w (due only skip ys) v → StepMarks need only rows s (open_in xs skip) (open_in ys skip)
step_marks need only rows skip xs ys (Row r) w v asc lx ly step = found_marks need only rows skip xs ys r asc lx ly step.0
step_marks need only rows skip xs ys Working w v asc lx ly step = λ n q. sym (due_has need only rows skip ys n asc ly.each q) ∙ ap (has_row n) step.0 ∙ due_has need only rows skip xs n asc lx.each q
step_marks need only rows skip xs ys End w v asc lx ly step = (none_due need only rows skip xs asc lx step.0, none_due need only rows skip ys asc ly step.1)

-- The rows of a table themselves.

pub rows_apart : (rows : List Record) → Ascend rows → RowsApart rows
rows_apart [] a = tt
rows_apart (r ∷ rows) a = (below_all r rows r.row.0 (omega arith) a.0, rows_apart rows a.1)

rows_apart_dropped : (k : ℕ) (xs : List Record) → RowsApart xs → RowsApart (drop k xs)
rows_apart_dropped zero xs a = a
rows_apart_dropped (suc k) [] a = a
rows_apart_dropped (suc k) (x ∷ xs) a = rows_apart_dropped k xs a.1

pub rows_looks : (need : List ℕ) (only : List (List Atom)) (rows : List Record) (k : ℕ) → Ascend rows → Looks need only rows (drop k rows)
rows_looks need only rows k asc = record {
  each = stands (drop k rows) (all_drop (λ (x : Record). row_at rows x.row.0 ≡ Some x) k rows (rows_found rows asc));
  apart = rows_apart_dropped k rows (rows_apart rows asc);
}
  where
    stands : (xs : List Record) → AllByRecursion (λ (x : Record). row_at rows x.row.0 ≡ Some x) xs → AllByRecursion (StandsFor need only rows) xs
    stands [] a = tt
    stands (x ∷ xs) a = (record { row = x; there = a.0; agrees = λ c h. refl; wide = λ c h l. l; same = refl }, stands xs a.1)

-- Marks by tests that tell the same.
pub marks_move : (need : List ℕ) (only : List (List Atom)) (rows : List Record) (s : Step Record) (old new o n : ℕ → Bool) → Ascend rows → Agree only rows old o → Agree only rows new n → StepMarks need only rows s old new → StepMarks need only rows s o n
marks_move need only rows (Row r) old new o n asc a b m =
    let q = told_by only rows r.row.0 m.taken asc m.there ∙ m.qualifies in
    record {
      taken = m.taken;
      there = m.there;
      qualifies = m.qualifies;
      left = a r.row.0 q ∙ m.left;
      agrees = m.agrees;
      wide = m.wide;
      others = λ k p. b k p ∙ m.others k p ∙ ap (λ (x : Bool). x && not (nat_eq k r.row.0)) (sym (a k p));
    }
marks_move need only rows Working old new o n asc a b m = λ k p. b k p ∙ m k p ∙ sym (a k p)
marks_move need only rows End old new o n asc a b m = (λ k p. a k p ∙ m.0 k p, λ k p. b k p ∙ m.1 k p)
