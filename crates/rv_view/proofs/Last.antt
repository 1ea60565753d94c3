-- The last written row of a table, found by the number of changes up to it.
use Rattle.std.proofs.Common.{◌≡◌, ℕ, zero, suc, ◌-◌, ◌<◌, ◌≤◌, List, [], ◌∷◌, true, false, ◌&&◌, ◌==◌, cond, Option, Some, None, inl, inr, refl, ap, sym, subst, ◌∙◌, filter, take, length, nat_le, arith}
use Rattle.std.specs.Prelude.{slice_get}
use Rattle.std.proofs.lemmas.Bool.{cases_Bool, and_parts}
use Rattle.std.proofs.lemmas.Bool.Decides.{nat_tests}
use Rattle.std.proofs.lemmas.List.{length-take-le}
use Rattle.std.specs.List.{list_all}
use Rattle.std.proofs.lemmas.Option.{same_Some}
use Rattle.rv_value.proofs.Lists.{filter_passes, all_true}
use Rattle.rv_rows.specs.declared.changes.Change.{Change}
use Rattle.rv_rows.specs.Changes.{Rise, is_before}
use Rattle.rv_rows.proofs.Filters.{filter_same, filter_twice}
use Rattle.rv_rows.proofs.Puts.{rising_filter}
use Rattle.rv_view.specs.Making.{last_of, of_table}
use Rattle.rv_view.proofs.Written.{all_last, last_is, last_or}

abbrev last_in : List Change → Option Change
last_in cs = slice_get cs (length cs - 1)

-- the last of a list is that of the list with one more before it
last_more : (c : Change) (cs : List Change) (l : Change) → last_in cs ≡ Some l → last_in (c ∷ cs) ≡ Some l
last_more c [] l is = cc
last_more c (d ∷ ds) l is =
    let e : length (c ∷ d ∷ ds) - 1 ≡ suc (length ds) = omega arith in
    let f : length (d ∷ ds) - 1 ≡ length ds = omega arith in
    ap (slice_get (c ∷ d ∷ ds)) e ∙ sym (ap (slice_get (d ∷ ds)) f) ∙ is

last_own : (table : ℕ) (c : Change) (cs : List Change) → Rise (c ∷ cs) → list_all (λ (d : Change). nat_le d.table table) (c ∷ cs) ≡ true → last_of table (c ∷ cs) ≡ cond ((last_or c cs).table == table) (Some (last_or c cs)) None
last_own table c [] rise up = elim (c.table == table) as (λ b. last_in (cond b (c ∷ []) []) ≡ cond b (Some c) None) [ true ↦ refl | false ↦ refl ]
last_own table c (d ∷ ds) rise up =
    let parts = and_parts (nat_le c.table table) (list_all (λ (e : Change). nat_le e.table table) (d ∷ ds)) up in
    let l = last_or d ds in
    let rest = last_own table d ds rise.1 parts.1 in
    let behind : is_before c l ≡ true = all_last (is_before c) d ds rise.0 in
    let most : nat_le l.table table ≡ true = all_last (λ (e : Change). nat_le e.table table) d ds parts.1 in
    elim (cases_Bool (l.table == table)) [
      | inl t ↦
          let found : last_in (of_table table (d ∷ ds)) ≡ Some l = rest ∙ ap (λ b. cond b (Some l) None) t in
          elim (c.table == table) as (λ b. last_in (cond b (c ∷ of_table table (d ∷ ds)) (of_table table (d ∷ ds))) ≡ Some l) [
            | true ↦ last_more c (of_table table (d ∷ ds)) l found
            | false ↦ found
          ] ∙ sym (ap (λ b. cond b (Some l) None) t)
      | inr f ↦
          let apart : c.table == table ≡ false = grind (arith, nat_tests) in
          ap (λ b. last_in (cond b (c ∷ of_table table (d ∷ ds)) (of_table table (d ∷ ds)))) apart ∙ rest
    ]

up_own : (table : ℕ) (cs : List Change) → of_table table (filter (λ (c : Change). nat_le c.table table) cs) ≡ of_table table cs
up_own table cs =
    filter_twice (λ (c : Change). c.table == table) (λ (c : Change). nat_le c.table table) cs
    ∙ filter_same (λ (c : Change). true) (λ (c : Change). nat_le c.table table && (c.table == table)) (λ (c : Change). c.table == table) cs (all_true cs) (λ c h. grind (arith, nat_tests))

taken_at : (n rank : ℕ) (cs : List Change) (c : Change) → n < rank → slice_get cs n ≡ Some c → slice_get (take rank cs) n ≡ Some c
taken_at n zero cs c low is = absurd (omega (arith, low))
taken_at n (suc rank) [] c low is = cc
taken_at zero (suc rank) (d ∷ ds) c low is = is
taken_at (suc n) (suc rank) (d ∷ ds) c low is = taken_at n rank ds c (omega (arith, low)) is

-- where no change is of the table or of one before it
pub last_none : (table rank : ℕ) (cs : List Change) → take rank cs ≡ filter (λ (c : Change). nat_le c.table table) cs → rank ≡ 0 → last_of table cs ≡ None
last_none table rank cs front none =
    let empty : filter (λ (c : Change). nat_le c.table table) cs ≡ [] = sym front ∙ ap (λ n. take n cs) none in
    ap last_in (sym (up_own table cs) ∙ ap (of_table table) empty)

-- where some are, the last of them is the table's last, or the table has none
pub last_at : (table rank : ℕ) (cs : List Change) (l : Change) → Rise cs → rank ≤ length cs → take rank cs ≡ filter (λ (c : Change). nat_le c.table table) cs → 0 < rank → slice_get cs (rank - 1) ≡ Some l
    → last_of table cs ≡ cond (l.table == table) (Some l) None
last_at table rank cs l rise within front some got =
    ap last_in (sym (up_own table cs)) ∙ by (filter (λ (c : Change). nat_le c.table table) cs) refl
  where
    by : (up : List Change) → filter (λ (c : Change). nat_le c.table table) cs ≡ up → last_of table up ≡ cond (l.table == table) (Some l) None
    by [] is =
        let count = sym (length-take-le rank cs within) ∙ ap length (front ∙ is) in
        absurd (omega (arith, count, some))
    by (d ∷ ds) is =
        let count : rank ≡ suc (length ds) = sym (length-take-le rank cs within) ∙ ap length (front ∙ is) in
        let place : rank - 1 ≡ length ds = omega (arith, count) in
        let there : slice_get (take rank cs) (rank - 1) ≡ Some l = taken_at (rank - 1) rank cs l (omega (arith, some)) got in
        let last : last_or d ds ≡ l = same_Some (last_or d ds) l (sym (last_is d ds) ∙ ap (slice_get (d ∷ ds)) (sym place) ∙ ap (λ xs. slice_get xs (rank - 1)) (sym (front ∙ is)) ∙ there) in
        let rises : Rise (d ∷ ds) = subst Rise is (rising_filter is_before (λ (c : Change). nat_le c.table table) cs rise) in
        let low : list_all (λ (c : Change). nat_le c.table table) (d ∷ ds) ≡ true = ap (list_all (λ (c : Change). nat_le c.table table)) (sym is) ∙ filter_passes (λ (c : Change). nat_le c.table table) cs in
        last_own table d ds rises low ∙ ap (λ (x : Change). cond (x.table == table) (Some x) None) last
