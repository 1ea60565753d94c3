-- What INSERT makes of row numbers, and COMMIT of who last wrote a row, at each table and row.
use Rattle.std.proofs.Common.{◌≡◌, ℕ, zero, suc, ◌+◌, ◌-◌, ◌<◌, ◌≤◌, List, [], ◌∷◌, ◌++◌, Bool, true, false, cond, ◌&&◌, ◌||◌, refl, sym, ap, ◌∙◌, arith, length, nat_eq, nat_lt, slice_index_or, slice_set, if◌then◌else◌, zero-add, add-sub_of_le}
use Rattle.std.proofs.lemmas.Bool.Decides.{nat_tests}
use Rattle.std.proofs.lemmas.Bool.{eqb-true, ltb-false, ltb-true}
use Rattle.std.proofs.lemmas.List.{get_or_past, length_push}
use Rattle.rv_value.proofs.Tests.{number_turned, same_number}
use Rattle.rv_value.proofs.Places.{default_behind}
use Rattle.rv_rows.specs.declared.changes.Change.{Change}
use Rattle.rv_rows.specs.Changes.{has_change, is_of}
use Rattle.rv_model.specs.Transactions.{empty_lists, next_row, touch, touch_all, touched_by, touched_in, with_number}
use Rattle.rv_believed.specs.Taken.{ChangesTaken}
use Rattle.rv_believed.proofs.TakenStates.{changes_more, touched_rises}

-- ---- equal numbers

suc_zero : (t : ℕ) → nat_eq (suc t) 0 ≡ false
suc_zero t = grind (arith, nat_tests)

zero_suc : (n : ℕ) → nat_eq 0 (suc n) ≡ false
zero_suc n = grind (arith, nat_tests)

zero_plus : (n k : ℕ) → nat_eq 0 (suc n + k) ≡ false
zero_plus n k = grind (arith, nat_tests)

suc_by : (t n : ℕ) (b : Bool) → nat_eq t n ≡ b → nat_eq (suc t) (suc n) ≡ b
suc_by t n true e = grind (arith, nat_tests)
suc_by t n false e = grind (arith, nat_tests)

suc_plus_by : (t n k : ℕ) (b : Bool) → nat_eq t (n + k) ≡ b → nat_eq (suc t) (suc n + k) ≡ b
suc_plus_by t n k true e = grind (arith, nat_tests)
suc_plus_by t n k false e = grind (arith, nat_tests)

turned_by : (a b : ℕ) (c : Bool) → nat_eq a b ≡ c → nat_eq b a ≡ c
turned_by a b true e = grind (arith, nat_tests)
turned_by a b false e = grind (arith, nat_tests)

-- ---- an item in the place of one

set_at : {X : Type 0} (xs : List X) (n t : ℕ) (y d : X) → n < length xs
    → slice_index_or (slice_set xs n y) t d ≡ cond (nat_eq t n) y (slice_index_or xs t d)
set_at [] n t y d lt = absurd (omega (arith, lt))
set_at (x ∷ xs) zero zero y d lt = ap (λ b. cond b y x) (sym (same_number zero))
set_at (x ∷ xs) zero (suc t) y d lt = ap (λ b. cond b y (slice_index_or xs t d)) (sym (suc_zero t))
set_at (x ∷ xs) (suc n) zero y d lt = ap (λ b. cond b y x) (sym (zero_suc n))
set_at (x ∷ xs) (suc n) (suc t) y d lt = set_at xs n t y d (omega (arith, lt))
    ∙ ap (λ b. cond b y (slice_index_or xs t d)) (sym (suc_by t n (nat_eq t n) refl))

-- ---- INSERT

past_empty : (k t : ℕ) → slice_index_or (empty_lists k ++ (0 ∷ []) ∷ []) t [] ≡ cond (nat_eq t k) (0 ∷ []) []
past_empty zero zero = ap (λ b. cond b (0 ∷ []) []) (sym (same_number zero))
past_empty zero (suc t) = ap (λ b. cond b (0 ∷ []) []) (sym (suc_zero t))
past_empty (suc k) zero = ap (λ b. cond b (0 ∷ []) []) (sym (zero_suc k))
past_empty (suc k) (suc t) = past_empty k t ∙ ap (λ b. cond b (0 ∷ []) []) (sym (suc_by t k (nat_eq t k) refl))

past_at : (xs : List (List ℕ)) (k t : ℕ)
    → slice_index_or (xs ++ empty_lists k ++ (0 ∷ []) ∷ []) t [] ≡ cond (nat_eq t (length xs + k)) (0 ∷ []) (slice_index_or xs t [])
past_at [] k t = past_empty k t ∙ ap (λ n. cond (nat_eq t n) (0 ∷ []) []) (sym (zero-add k))
past_at (x ∷ xs) k zero = ap (λ b. cond b (0 ∷ []) x) (sym (zero_plus (length xs) k))
past_at (x ∷ xs) k (suc t) = past_at xs k t
    ∙ ap (λ b. cond b (0 ∷ []) (slice_index_or xs t [])) (sym (suc_plus_by t (length xs) k (nat_eq t (length xs + k)) refl))

number_by : (touched : List (List ℕ)) (table t : ℕ) (b : Bool) → nat_lt table (length touched) ≡ b
    → touched_in (if b then slice_set touched table (touched_in touched table ++ 0 ∷ []) else touched ++ empty_lists (table - length touched) ++ (0 ∷ []) ∷ []) t
    ≡ cond (nat_eq t table) (touched_in touched table ++ 0 ∷ []) (touched_in touched t)
number_by touched table t true e = set_at touched table t (touched_in touched table ++ 0 ∷ []) [] (ltb-true table (length touched) e)
number_by touched table t false e =
    let le : length touched ≤ table = ltb-false table (length touched) e in
    past_at touched (table - length touched) t
    ∙ (λ k. cond (nat_eq t (add-sub_of_le le k)) (sym (get_or_past touched table [] le) k ++ 0 ∷ []) (touched_in touched t))

-- the list of the table has one number more, and no other list has
number_in : (touched : List (List ℕ)) (table t : ℕ)
    → touched_in (with_number touched table) t ≡ cond (nat_eq t table) (touched_in touched table ++ 0 ∷ []) (touched_in touched t)
number_in touched table t = number_by touched table t (nat_lt table (length touched)) refl

length_by : (b : Bool) (ns ms : List ℕ) → length (cond b (ns ++ 0 ∷ []) ms) ≡ cond b (length ns + 1) (length ms)
length_by true ns ms = length_push ns 0
length_by false ns ms = refl

pub number_next : (touched : List (List ℕ)) (table t : ℕ)
    → next_row (with_number touched table) t ≡ cond (nat_eq t table) (next_row touched table + 1) (next_row touched t)
number_next touched table t = ap (λ (ns : List ℕ). length ns) (number_in touched table t)
    ∙ length_by (nat_eq t table) (touched_in touched table) (touched_in touched t)

entry_by : (touched : List (List ℕ)) (table t r : ℕ) (b : Bool) → nat_eq t table ≡ b
    → slice_index_or (cond b (touched_in touched table ++ 0 ∷ []) (touched_in touched t)) r 0 ≡ touched_by touched t r
entry_by touched table t r true e = default_behind (touched_in touched table) r 0 ∙ ap (λ n. touched_by touched n r) (sym (eqb-true t table e))
entry_by touched table t r false e = refl

pub number_touched : (touched : List (List ℕ)) (table t r : ℕ) → touched_by (with_number touched table) t r ≡ touched_by touched t r
number_touched touched table t r = ap (λ (ns : List ℕ). slice_index_or ns r 0) (number_in touched table t)
    ∙ entry_by touched table t r (nat_eq t table) refl

-- ---- COMMIT

pub within : (xs : List (List ℕ)) (n m : ℕ) → m < length (slice_index_or xs n []) → n < length xs
within [] n m lt = absurd (omega (arith, lt))
within (x ∷ xs) zero m lt = omega arith
within (x ∷ xs) (suc n) m lt = let rest : n < length xs = within xs n m lt in omega (arith, rest)

row_by : (commit : ℕ) (c : Change) (touched : List (List ℕ)) (t r : ℕ) → c.row.0 < next_row touched c.table → (b : Bool) → nat_eq t c.table ≡ b
    → slice_index_or (cond b (slice_set (touched_in touched c.table) c.row.0 commit) (touched_in touched t)) r 0
    ≡ cond (nat_eq c.table t && nat_eq c.row.0 r) commit (touched_by touched t r)
row_by commit c touched t r lt true e = set_at (touched_in touched c.table) c.row.0 r commit 0 lt
    ∙ (λ k. cond (number_turned r c.row.0 k) commit (touched_by touched (sym (eqb-true t c.table e) k) r))
    ∙ ap (λ b. cond (b && nat_eq c.row.0 r) commit (touched_by touched t r)) (sym (turned_by t c.table true e))
row_by commit c touched t r lt false e = ap (λ b. cond (b && nat_eq c.row.0 r) commit (touched_by touched t r)) (sym (turned_by t c.table false e))

touch_by : (commit : ℕ) (c : Change) (touched : List (List ℕ)) (t r : ℕ) → c.row.0 < next_row touched c.table
    → touched_by (touch commit c touched) t r ≡ cond (is_of t r c) commit (touched_by touched t r)
touch_by commit c touched t r lt = ap (λ (ns : List ℕ). slice_index_or ns r 0)
    (set_at touched c.table t (slice_set (touched_in touched c.table) c.row.0 commit) [] (within touched c.table c.row.0 lt))
    ∙ row_by commit c touched t r lt (nat_eq t c.table) refl

either_way : (a b : Bool) (n m : ℕ) → cond b n (cond a n m) ≡ cond (a || b) n m
either_way true true n m = refl
either_way true false n m = refl
either_way false true n m = refl
either_way false false n m = refl

pub touch_all_by : (commit : ℕ) (cs : List Change) (touched : List (List ℕ)) (t r : ℕ) → ChangesTaken (next_row touched) cs
    → touched_by (touch_all commit cs touched) t r ≡ cond (has_change t r cs) commit (touched_by touched t r)
touch_all_by commit [] touched t r p = refl
touch_all_by commit (c ∷ cs) touched t r p =
    touch_all_by commit cs (touch commit c touched) t r
    (changes_more (next_row touched) (next_row (touch commit c touched)) cs (touched_rises commit (c ∷ []) touched) p.1)
    ∙ ap (λ n. cond (has_change t r cs) commit n) (touch_by commit c touched t r p.0)
    ∙ either_way (is_of t r c) (has_change t r cs) commit (touched_by touched t r)
