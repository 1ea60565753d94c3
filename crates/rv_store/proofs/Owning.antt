-- The changes of a table among those of a commit.
use Rattle.std.proofs.Common.{◌≡◌, ℕ, zero, suc, ◌<◌, List, [], ◌∷◌, Bool, true, false, not, ◌&&◌, ◌==◌, length, refl, ap, sym, ◌∙◌, inl, inr, subst, arith, filter, take, drop, nat_le, nat_lt}
use Rattle.std.proofs.lemmas.Bool.{cases_Bool, and_parts}
use Rattle.std.proofs.lemmas.Bool.Decides.{nat_tests}
use Rattle.std.specs.List.{list_all, slice_index_or}
use Rattle.std.specs.List.Sorted.{IsPartitionedBy}
use Rattle.rv_value.specs.declared.record.Record.{Record}
use Rattle.rv_rows.specs.declared.changes.Change.{Change}
use Rattle.rv_rows.specs.Changes.{Rise, is_before, rows_with_changes}
use Rattle.rv_rows.proofs.Cuts.{partitioned}
use Rattle.rv_rows.proofs.Filters.{filter_none, filter_same, filter_twice}
use Rattle.rv_rows.proofs.Puts.{rising_filter}
use Rattle.rv_node.specs.Trees.{Whole}
use Rattle.rv_value.specs.declared.record.IndexEntry.{IndexEntry}
use Rattle.rv_value.proofs.Lists.{all_true}
use Rattle.rv_store.specs.Indexing.{tree_through}

abbrev pub own : ℕ → Change → Bool
own table c = c.table == table

before_goes : (table : ℕ) (c d : Change) → is_before c d ≡ true → nat_lt d.table table ≡ true → nat_lt c.table table ≡ true
before_goes table c d h k = grind (arith, nat_tests)

pub before_parted : (table : ℕ) (cs : List Change) → Rise cs → IsPartitionedBy (λ (c : Change). nat_lt c.table table) cs
before_parted table cs rise = partitioned is_before (λ (c : Change). true) (λ (c : Change). nat_lt c.table table) (λ c d h a b k. before_goes table c d h k) cs rise (all_true cs)

pub rise_behind : (table : ℕ) (cs rest : List Change) (k : ℕ) → Rise cs → rest ≡ drop k cs → drop k cs ≡ filter (λ (c : Change). not (nat_lt c.table table)) cs → Rise rest
rise_behind table cs rest k rise is back = subst Rise (sym (is ∙ back)) (rising_filter is_before (λ (c : Change). not (nat_lt c.table table)) cs rise)

pub own_is : (table : ℕ) (cs from own_part : List Change) (k n : ℕ) → from ≡ drop k cs → own_part ≡ take n from → drop k cs ≡ filter (λ (c : Change). not (nat_lt c.table table)) cs → take n from ≡ filter (λ (c : Change). nat_le c.table table) from
    → own_part ≡ filter (own table) cs
own_is table cs from own_part k n is cut back front =
    cut ∙ front ∙ ap (filter (λ (c : Change). nat_le c.table table)) (is ∙ back)
    ∙ filter_twice (λ (c : Change). nat_le c.table table) (λ (c : Change). not (nat_lt c.table table)) cs
    ∙ filter_same (λ (c : Change). true) (λ (c : Change). not (nat_lt c.table table) && nat_le c.table table) (own table) cs (all_true cs) (λ c h. both_is c.table)
  where
    both_is : (t : ℕ) → (not (nat_lt t table) && nat_le t table) ≡ (t == table)
    both_is t = grind (arith, nat_tests)

-- a table before those of all changes, or behind them

behind_other : (table : ℕ) (c d : Change) → is_before c d ≡ true → table < c.table → own table d ≡ false
behind_other table c d h low = grind (arith, nat_tests)

pub low_none : (table : ℕ) (cs : List Change) (n : Change) → Rise cs → table < (slice_index_or cs 0 n).table → 0 < length cs → filter (own table) cs ≡ []
low_none table [] n rise low some = absurd (omega (arith, some))
low_none table (c ∷ cs) n rise low some =
    let here : own table c ≡ false = grind (arith, nat_tests) in
    rw here (filter_none (is_before c) (own table) cs rise.0 (λ d h. behind_other table c d h low))

-- the last one's table is that of all, or behind it
all_up : (table n : ℕ) (cs : List Change) (l : Change) → Rise cs → suc n ≡ length cs → (slice_index_or cs n l).table ≡ table → list_all (λ (c : Change). nat_le c.table table) cs ≡ true
all_up table n [] l rise e is = refl
all_up table zero (c ∷ []) l rise e is = (let here : nat_le c.table table ≡ true = grind (arith, nat_tests) in rw here refl)
all_up table zero (c ∷ d ∷ ds) l rise e is = absurd (omega (arith, e))
all_up table (suc n) (c ∷ []) l rise e is = absurd (omega (arith, e))
all_up table (suc n) (c ∷ d ∷ ds) l rise e is =
    let rest = all_up table n (d ∷ ds) l rise.1 (omega (arith, e)) is in
    let first = (and_parts (is_before c d) (list_all (is_before c) ds) rise.0).0 in
    let next = (and_parts (nat_le d.table table) (list_all (λ (x : Change). nat_le x.table table) ds) rest).0 in
    let here : nat_le c.table table ≡ true = grind (arith, nat_tests) in
    rw here rest

pub high_none : (table n : ℕ) (cs : List Change) (l : Change) → Rise cs → suc n ≡ length cs → nat_lt (slice_index_or cs n l).table table ≡ true → filter (own table) cs ≡ []
high_none table n cs l rise e high =
    let last = (slice_index_or cs n l).table in
    filter_none (λ (c : Change). nat_le c.table last) (own table) cs (all_up last n cs l rise e refl) (λ c h. grind (arith, nat_tests))

pub own_rise : (table : ℕ) (cs own_part : List Change) → own_part ≡ filter (own table) cs → Rise cs → Rise own_part
own_rise table cs own_part is rise = subst Rise (sym is) (rising_filter is_before (own table) cs rise)

-- changes of other tables make nothing of a table's rows, nor of an index of it
pub own_rows : (table : ℕ) (cs : List Change) (rows : List Record) → rows_with_changes table (filter (own table) cs) rows ≡ rows_with_changes table cs rows
own_rows table [] rows = refl
own_rows table (c ∷ cs) rows = elim (cases_Bool (c.table == table)) [
  | inl here ↦ rw (here, rows_with_changes, here) (own_rows table cs _)
  | inr other ↦ rw other (own_rows table cs rows)
]

pub own_tree : (columns : List ℕ) (table : ℕ) (cs : List Change) (rows : List Record) (tree : Whole IndexEntry) → tree_through columns table (filter (own table) cs) rows tree ≡ tree_through columns table cs rows tree
own_tree columns table [] rows tree = refl
own_tree columns table (c ∷ cs) rows tree = elim (cases_Bool (c.table == table)) [
  | inl here ↦ rw (here, here) (own_tree columns table cs _ _)
  | inr other ↦ rw other (own_tree columns table cs rows tree)
]
