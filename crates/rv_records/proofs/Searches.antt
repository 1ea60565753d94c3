-- A row found by its number in ascending rows.
use Rattle.std.proofs.Common.{◌≡◌, ℕ, ◌<◌, ◌≤◌, List, [], ◌∷◌, Bool, true, false, not, ◌==◌, refl, ap, sym, ◌∙◌, Option, Some, None, inl, inr, arith, length, zero, suc, filter, drop, nat_lt}
use Rattle.std.proofs.lemmas.Bool.{cases_Bool, and_parts}
use Rattle.std.proofs.lemmas.Bool.Decides.{nat_tests}
use Rattle.std.specs.List.{slice_index_or, list_all, AllWithin}
use Rattle.rv_reader.proofs.Rows.{row_behind}
use Rattle.rv_value.specs.declared.record.Record.{Record}
use Rattle.rv_rows.specs.Rows.{Ascend, comes_below}
use Rattle.rv_reader.specs.Tables.{row_at}
use Rattle.rv_records.specs.Finding.{below, row_from}

all_false : {X : Type 0} (p : X → Bool) (xs : List X) → AllWithin (λ y. p y ≡ false) xs 0 (length xs) → filter (λ x. not (p x)) xs ≡ xs
all_false p [] none = refl
all_false p (x ∷ xs) none =
    let here : p x ≡ false = none 0 x (omega arith) (omega arith) in
    rw here (ap (λ ys. x ∷ ys) (all_false p xs (λ k d l h. none (suc k) d (omega arith) (omega arith))))

-- the place up to which a test holds and from which it fails
pub dropped : {X : Type 0} (p : X → Bool) (xs : List X) (i : ℕ) → i ≤ length xs → AllWithin (λ y. p y ≡ true) xs 0 i → AllWithin (λ y. p y ≡ false) xs i (length xs) → drop i xs ≡ filter (λ x. not (p x)) xs
dropped p xs zero h front back = sym (all_false p xs (λ k d l u. back k d (omega arith) u))
dropped p [] (suc i) h front back = absurd (omega arith)
dropped p (x ∷ xs) (suc i) h front back =
    let rest = dropped p xs i (omega arith) (λ k d l u. front (suc k) d (omega arith) (omega arith)) (λ k d l u. back (suc k) d (omega arith) (omega arith)) in
    let here : p x ≡ true = front 0 x (omega arith) (omega arith) in
    rw here rest

above_all : (x : Record) (rows : List Record) (i : ℕ) (d : Record) → i < length rows → list_all (comes_below x) rows ≡ true → comes_below x (slice_index_or rows i d) ≡ true
above_all x [] i d h all = absurd (omega arith)
above_all x (r ∷ rows) zero d h all = (and_parts (comes_below x r) (list_all (comes_below x) rows) all).0
above_all x (r ∷ rows) (suc i) d h all = above_all x rows i d (omega arith) (and_parts (comes_below x r) (list_all (comes_below x) rows) all).1

-- the row of a number is the first one from the number on
pub first_is : (number : ℕ) (rows : List Record) → Ascend rows → row_from number (filter (λ (r : Record). not (below number r)) rows) ≡ row_at rows number
first_is number [] ascend = refl
first_is number (r ∷ rows) ascend = elim (cases_Bool (nat_lt r.row.0 number)) [
  | inl t ↦
      let other : r.row.0 == number ≡ false = grind (arith, nat_tests) in
      rw (t, other) (first_is number rows ascend.1)
  | inr f ↦ elim (cases_Bool (r.row.0 == number)) [
    | inl e ↦ rw (f, e) refl
    | inr n ↦
        let high : number ≤ r.row.0 = grind (arith, nat_tests) in
        rw (f, n) (sym (row_behind number r rows ascend.0 high))
  ]
]

-- a row of the number, in whatever place, is the row of the number
pub found_in : (number place : ℕ) (rows : List Record) (r : Record) → Ascend rows → row_from number (drop place rows) ≡ Some r → row_at rows number ≡ Some r
found_in number zero [] r ascend found = found
found_in number zero (x ∷ rows) r ascend found = elim (cases_Bool (x.row.0 == number)) [
  | inl e ↦
      let same : row_at (x ∷ rows) number ≡ row_from number (x ∷ rows) = rw e refl in
      same ∙ found
  | inr n ↦
      let none : row_from number (x ∷ rows) ≡ None = rw n refl in
      let no : None ≡ Some r = sym none ∙ found in
      absurd cc
]
found_in number (suc place) [] r ascend found = found
found_in number (suc place) (x ∷ rows) r ascend found =
    let rest = found_in number place rows r ascend.1 found in
    elim (cases_Bool (x.row.0 == number)) [
      | inl e ↦
          let high : number ≤ x.row.0 = grind (arith, nat_tests) in
          let no : None ≡ Some r = sym (row_behind number x rows ascend.0 high) ∙ rest in
          absurd cc
      | inr n ↦ rw n rest
    ]
