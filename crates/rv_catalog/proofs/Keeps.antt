-- What a catalog keeps as tables and indexes are added and taken away.
use Rattle.std.proofs.Common.{◌≡◌, ℕ, ◌+◌, ◌*◌, ◌<◌, ◌≤◌, ◌==◌, List, [], ◌∷◌, ◌++◌, Bool, true, false, cond, not, None, nat_le, filter, length, take, map, refl, arith, if◌then◌else◌, zero, suc, length-append, add-one}
use Rattle.std.specs.Prelude.{bytes_eq}
use Rattle.std.specs.List.{list_any, list_all}
use Rattle.std.proofs.lemmas.Bool.Decides.{nat_tests}
use Rattle.std.proofs.lemmas.List.{length-take}
use Rattle.std.proofs.lemmas.Bool.{and_from}
use Rattle.std.specs.Cmp.{first_so, second_so}
use Rattle.std.proofs.lemmas.List.Filters.{length-filter_both}
use Rattle.rv_value.proofs.Lists.{passes_more, passes_take, filtered_fewer}
use Rattle.rv_catalog.specs.declared.def.IndexDef.{IndexDef}
use Rattle.rv_catalog.specs.declared.def.TableDef.{TableDef}
use Rattle.rv_catalog.specs.Kept.{KeepsIndexes, KeepsTables, indexes_over, is_below, is_narrow, is_over}
use Rattle.rv_catalog.specs.Schema.{columns_of, index_named, table_named}
use Rattle.rv_catalog.proofs.Known.{added, cut}

pub all_append : {X : Type 0} (p : X → Bool) (xs : List X) (x : X) → list_all p xs ≡ true → p x ≡ true → list_all p (xs ++ x ∷ []) ≡ true
all_append p [] x h k = rw k refl
all_append p (y ∷ ys) x h k = and_from (p y) (list_all p (ys ++ x ∷ [])) (first_so (p y) (list_all p ys) h) (all_append p ys x (second_so (p y) (list_all p ys) h) k)

-- Tables.

narrow_at : (tables : List TableDef) (i : ℕ) → list_all is_narrow tables ≡ true → nat_le (length (columns_of tables i)) 16 ≡ true
narrow_at [] i h = refl
narrow_at (t ∷ ts) zero h = first_so (is_narrow t) (list_all is_narrow ts) h
narrow_at (t ∷ ts) (suc i) h = narrow_at ts i (second_so (is_narrow t) (list_all is_narrow ts) h)

pub narrow_columns : (names : List (List ℕ)) (tables : List TableDef) (i : ℕ) → KeepsTables names tables → length (columns_of tables i) ≤ 16
narrow_columns names tables i k = let h = narrow_at tables i k.narrow in grind (arith, nat_tests, h)

pub table_added : {K : Type 0} (f : K → List ℕ) (keys new : List K) (key : K) (tables : List TableDef) (def : TableDef) → KeepsTables (map f keys) tables → table_named tables def.name ≡ None → length tables < 64 → length def.columns ≤ 16 → f key ≡ def.name → new ≡ (if list_any (λ k. bytes_eq (f key) (f k)) keys then keys else keys ++ key ∷ []) → KeepsTables (map f new) (tables ++ def ∷ [])
table_added f keys new key tables def k none room narrow named is = record { named = added f (λ (t : TableDef). t.name) keys new key tables def k.named none named is; room = omega (arith, length-append tables (def ∷ [])); narrow = all_append is_narrow tables def k.narrow (grind (arith, nat_tests)) }

pub table_cut : {K : Type 0} (f : K → List ℕ) (keys : List K) (tables : List TableDef) (n : ℕ) → KeepsTables (map f keys) tables → KeepsTables (map f (take n keys)) (take n tables)
table_cut f keys tables n k = record { named = cut f (λ (t : TableDef). t.name) keys tables n k.named; room = let r = k.room in omega (arith, length-take n tables); narrow = passes_take is_narrow n tables k.narrow }

-- Indexes.

more_tables : (n : ℕ) (i : IndexDef) → is_below n i ≡ true → is_below (n + 1) i ≡ true
more_tables n i h = grind (arith, nat_tests)

pub more_below : (names : List (List ℕ)) (n m : ℕ) (indexes : List IndexDef) → m ≡ n + 1 → KeepsIndexes names n indexes → KeepsIndexes names m indexes
more_below names n m indexes e k = rw e (record { named = k.named; there = passes_more (is_below n) (is_below (n + 1)) (more_tables n) indexes k.there; few = k.few })

below_one : (n : ℕ) (i : IndexDef) → is_below (n + 1) i ≡ true → is_over n i ≡ false → is_below n i ≡ true
below_one n i h o = grind (arith, nat_tests)

fewer_tables : (n : ℕ) (indexes : List IndexDef) → list_all (is_below (n + 1)) indexes ≡ true → indexes_over n indexes ≡ 0 → list_all (is_below n) indexes ≡ true
fewer_tables n [] h z = refl
fewer_tables n (i ∷ more) h z = elim (is_over n i) as (λ b. is_over n i ≡ b → length (cond b (i ∷ filter (is_over n) more) (filter (is_over n) more)) ≡ 0 → list_all (is_below n) (i ∷ more) ≡ true) [
  | true ↦ λ e y. absurd (omega arith)
  | false ↦ λ e y. and_from (is_below n i) (list_all (is_below n) more) (below_one n i (first_so (is_below (n + 1) i) (list_all (is_below (n + 1)) more) h) e) (fewer_tables n more (second_so (is_below (n + 1) i) (list_all (is_below (n + 1)) more) h) y)
] refl z

pub fewer_below : (names : List (List ℕ)) (n m : ℕ) (indexes : List IndexDef) → n ≡ m + 1 → indexes_over m indexes ≡ 0 → KeepsIndexes names n indexes → KeepsIndexes names m indexes
fewer_below names n m indexes e z k = let there : list_all (is_below (m + 1)) indexes ≡ true = rw (← e) (k.there) in record { named = k.named; there = fewer_tables m indexes there z; few = k.few }

filter_append : {X : Type 0} (p : X → Bool) (xs : List X) (x : X) → length (filter p (xs ++ x ∷ [])) ≡ length (filter p xs) + cond (p x) 1 0
filter_append p [] x = elim (p x) as (λ b. length (cond b (x ∷ []) []) ≡ 0 + cond b 1 0) [ true ↦ refl | false ↦ refl ]
filter_append p (y ∷ ys) x = elim (p y) as (λ b. length (cond b (y ∷ filter p (ys ++ x ∷ [])) (filter p (ys ++ x ∷ []))) ≡ length (cond b (y ∷ filter p ys) (filter p ys)) + cond (p x) 1 0) [
  | true ↦ let k = filter_append p ys x in omega (arith, k)
  | false ↦ filter_append p ys x
]

few_added : (indexes : List IndexDef) (def : IndexDef) → ((t : ℕ) → indexes_over t indexes ≤ 8) → indexes_over def.table indexes < 8 → (t : ℕ) → indexes_over t (indexes ++ def ∷ []) ≤ 8
few_added indexes def few room t = rw (filter_append (is_over t) indexes def) (elim (def.table == t) as (λ b. def.table == t ≡ b → length (filter (is_over t) indexes) + cond b 1 0 ≤ 8) [
  | true ↦ λ e. let same : def.table ≡ t = grind (arith, nat_tests) in let r : length (filter (is_over t) indexes) < 8 = rw (← same) room in omega (arith, r)
  | false ↦ λ e. let f = few t in omega (arith, f)
] refl)

pub index_added : {K : Type 0} (f : K → List ℕ) (keys new : List K) (key : K) (tables : ℕ) (indexes : List IndexDef) (def : IndexDef) → KeepsIndexes (map f keys) tables indexes → index_named indexes def.name ≡ None → def.table < tables → indexes_over def.table indexes < 8 → f key ≡ def.name → new ≡ (if list_any (λ k. bytes_eq (f key) (f k)) keys then keys else keys ++ key ∷ []) → KeepsIndexes (map f new) tables (indexes ++ def ∷ [])
index_added f keys new key tables indexes def k none there room named is = record { named = added f (λ (i : IndexDef). i.name) keys new key indexes def k.named none named is; there = all_append (is_below tables) indexes def k.there (grind (arith, nat_tests)); few = few_added indexes def k.few room }

filter_take : {X : Type 0} (p : X → Bool) (n : ℕ) (xs : List X) → length (filter p (take n xs)) ≤ length (filter p xs)
filter_take p zero xs = omega arith
filter_take p (suc n) [] = omega arith
filter_take p (suc n) (x ∷ xs) = elim (p x) as (λ b. length (cond b (x ∷ filter p (take n xs)) (filter p (take n xs))) ≤ length (cond b (x ∷ filter p xs) (filter p xs))) [
  | true ↦ let k = filter_take p n xs in omega (arith, k)
  | false ↦ filter_take p n xs
]

few_taken : (n : ℕ) (indexes : List IndexDef) → ((t : ℕ) → indexes_over t indexes ≤ 8) → (t : ℕ) → indexes_over t (take n indexes) ≤ 8
few_taken n indexes few t = let f = few t in let k = filter_take (is_over t) n indexes in omega (arith, f, k)

pub index_cut : {K : Type 0} (f : K → List ℕ) (keys : List K) (tables : ℕ) (indexes : List IndexDef) (n : ℕ) → KeepsIndexes (map f keys) tables indexes → KeepsIndexes (map f (take n keys)) tables (take n indexes)
index_cut f keys tables indexes n k = record { named = cut f (λ (i : IndexDef). i.name) keys indexes n k.named; there = passes_take (is_below tables) n indexes k.there; few = few_taken n indexes k.few }

-- Eight indexes a table are at most eight times as many as the tables.

others_below : (n : ℕ) (indexes : List IndexDef) → list_all (is_below (n + 1)) indexes ≡ true → list_all (is_below n) (filter (λ i. not (is_over n i)) indexes) ≡ true
others_below n [] h = refl
others_below n (i ∷ more) h = let k = others_below n more (second_so (is_below (n + 1) i) (list_all (is_below (n + 1)) more) h) in elim (is_over n i) as (λ b. is_over n i ≡ b → list_all (is_below n) (cond (not b) (i ∷ filter (λ i. not (is_over n i)) more) (filter (λ i. not (is_over n i)) more)) ≡ true) [
  | true ↦ λ e. k
  | false ↦ λ e. and_from (is_below n i) (list_all (is_below n) (filter (λ i. not (is_over n i)) more)) (below_one n i (first_so (is_below (n + 1) i) (list_all (is_below (n + 1)) more) h) e) k
] refl

none_below : (indexes : List IndexDef) → list_all (is_below 0) indexes ≡ true → length indexes ≡ 0
none_below [] h = refl
none_below (i ∷ more) h = let b : i.table < 0 = let a = first_so (is_below 0 i) (list_all (is_below 0) more) h in grind (arith, nat_tests, a) in absurd (omega (arith, b))

eight_each : (n : ℕ) (indexes : List IndexDef) → list_all (is_below n) indexes ≡ true → ((t : ℕ) → indexes_over t indexes ≤ 8) → length indexes ≤ 8 * n
eight_each zero indexes h few = omega (arith, none_below indexes h)
eight_each (suc n) indexes h few = let s = length-filter_both (is_over n) (λ i. not (is_over n i)) (λ i. refl) indexes in let f = few n in let r = eight_each n (filter (λ i. not (is_over n i)) indexes) (others_below n indexes (rw add-one h)) (λ t. let g = few t in let k = filtered_fewer (is_over t) (λ i. not (is_over n i)) indexes in omega (arith, g, k)) in omega (arith, s, f, r)

pub few_indexes : (names : List (List ℕ)) (tables : ℕ) (indexes : List IndexDef) → tables ≤ 64 → KeepsIndexes names tables indexes → length indexes ≤ 512
few_indexes names tables indexes room k = let e = eight_each tables indexes k.there k.few in omega (arith, e, room)
