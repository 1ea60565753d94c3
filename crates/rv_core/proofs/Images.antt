-- The rows of a database under the calls of its store.
use Rattle.std.proofs.Common.{◌≡◌, ℕ, zero, suc, ◌+◌, ◌<◌, List, [], ◌∷◌, ◌++◌, refl, ap, ◌∙◌, arith, map, length, remove, slice_set}
use Rattle.std.specs.List.{slice_index_or, range_with_len, AllByRecursion}
use Rattle.std.proofs.lemmas.Grind.{common_steps}
use Rattle.std.proofs.lemmas.List.FromFn.{get_or-map-range_with_len, length-map-range_with_len}
use Rattle.rv_rows.specs.declared.changes.Change.{Change}
use Rattle.rv_rows.specs.Changes.{rows_with_changes}
use Rattle.rv_reader.specs.Shown.{Shown}
use Rattle.rv_reader.specs.Storing.{Committed}
use Rattle.rv_model.specs.declared.transactions.Transaction.{Transaction}
use Rattle.rv_model.specs.Database.{rows_at}
use Rattle.rv_model.specs.Transactions.{no_transaction}
use Rattle.rv_model.specs.Step.{tables_changed}
use Rattle.rv_core.specs.Db.{image, bases_of}

pub map_range : {X : Type 0} (f g : ℕ → X) (a n : ℕ) → ((i : ℕ) → i < a + n → f i ≡ g i) → map f (range_with_len a n) ≡ map g (range_with_len a n)
map_range f g a zero same = refl
map_range f g a (suc n) same =
    let head = same a (omega arith) in
    let tail = map_range f g (a + 1) n (λ i h. same i (omega arith)) in
    rw (head, tail) refl

pub map_remove : {X Y : Type 0} (f : X → Y) (xs : List X) (i : ℕ) → map f (remove xs i) ≡ remove (map f xs) i
map_remove f [] i = grind (arith, common_steps)
map_remove f (x ∷ xs) zero = refl
map_remove f (x ∷ xs) (suc i) = ap (λ ys. f x ∷ ys) (map_remove f xs i)

-- what another item in a place leaves as it was
pub set_same : {X Y : Type 0} (f : X → Y) (xs : List X) (i : ℕ) (y d : X) → f y ≡ f (slice_index_or xs i d) → map f (slice_set xs i y) ≡ map f xs
set_same f [] i y d e = refl
set_same f (x ∷ xs) zero y d e = ap (λ u. u ∷ map f xs) e
set_same f (x ∷ xs) (suc i) y d e = ap (λ us. f x ∷ us) (set_same f xs i y d e)

-- a table's rows in an image
pub image_at : (shown : Shown) (tables snap table : ℕ) → table < tables → rows_at (image shown tables snap) table ≡ shown.rows table snap
image_at shown tables snap table h = get_or-map-range_with_len (λ t. shown.rows t snap) 0 tables table table [] (omega arith) (omega arith)

-- the rows at a snapshot stay
pub image_stays : (old new : Shown) (tables snap : ℕ) → ((table : ℕ) → table < tables → new.rows table snap ≡ old.rows table snap) → image new tables snap ≡ image old tables snap
image_stays old new tables snap same = map_range (λ t. new.rows t snap) (λ t. old.rows t snap) 0 tables (λ i h. same i (omega arith))

-- the rows at the bases stay
pub bases_stay : (old new : Shown) (tables : ℕ) (active : List Transaction) → AllByRecursion (λ (t : Transaction). (table : ℕ) → table < tables → new.rows table t.base ≡ old.rows table t.base) active → bases_of new tables active ≡ bases_of old tables active
bases_stay old new tables [] same = refl
bases_stay old new tables (t ∷ ts) same =
    let head = image_stays old new tables t.base same.0 in
    let tail = bases_stay old new tables ts same.1 in
    rw (head, tail) refl

-- the rows at the base of the transaction in a place
pub base_at : (shown : Shown) (tables table : ℕ) (active : List Transaction) (own : ℕ) → own < length active → table < tables → rows_at (slice_index_or (bases_of shown tables active) own []) table ≡ shown.rows table (slice_index_or active own no_transaction).base
base_at shown tables table [] own h k = absurd (omega arith)
base_at shown tables table (t ∷ ts) zero h k = image_at shown tables t.base table k
base_at shown tables table (t ∷ ts) (suc own) h k = base_at shown tables table ts own (omega arith) k

-- a commit applies its changes to the rows at the last commit
pub image_committed : (old new : Shown) (tables : ℕ) (changes : List Change) → tables ≡ old.tables → Committed old new changes → image new tables new.newest ≡ tables_changed changes (image old tables old.newest)
image_committed old new tables changes n c =
    let count : length (image old tables old.newest) ≡ tables = length-map-range_with_len (λ t. old.rows t old.newest) 0 tables in
    rw count (map_range (λ t. new.rows t new.newest) (λ t. rows_with_changes t changes (rows_at (image old tables old.newest) t)) 0 tables (λ i h.
    let at : rows_at (image old tables old.newest) i ≡ old.rows i old.newest = image_at old tables old.newest i (omega arith) in
    rw at (c.rows i (omega arith))))

-- a table more
pub image_created : (old new : Shown) (tables snap : ℕ) → ((table : ℕ) → table < tables → new.rows table snap ≡ old.rows table snap) → new.rows tables snap ≡ [] → image new (tables + 1) snap ≡ image old tables snap ++ [] ∷ []
image_created old new tables snap same none =
    let zeroth : 0 + tables ≡ tables = omega arith in
    let split : map (λ t. new.rows t snap) (range_with_len 0 (tables + 1)) ≡ map (λ t. new.rows t snap) (range_with_len 0 tables) ++ new.rows tables snap ∷ [] = range_more (λ t. new.rows t snap) 0 tables ∙ ap (λ (n : ℕ). map (λ t. new.rows t snap) (range_with_len 0 tables) ++ new.rows n snap ∷ []) zeroth in
    rw (split, none, image_stays old new tables snap same) refl
  where
    range_more : {X : Type 0} (f : ℕ → X) (a n : ℕ) → map f (range_with_len a (n + 1)) ≡ map f (range_with_len a n) ++ f (a + n) ∷ []
    range_more f a zero = let e : a + 0 ≡ a = omega arith in rw e refl
    range_more f a (suc n) =
        let e : a + suc n ≡ (a + 1) + n = omega arith in
        let k : suc n + 1 ≡ suc (n + 1) = omega arith in
        rw (k, e) (ap (λ xs. f a ∷ xs) (range_more f (a + 1) n))
