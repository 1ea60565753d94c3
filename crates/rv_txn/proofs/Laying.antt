-- The changes of a table stand together, from its first one on.
use Rattle.std.proofs.Common.{◌≡◌, ◌<◌, ◌+◌, ℕ, suc, List, [], ◌∷◌, ◌++◌, true, false, ◌==◌, nat_lt, refl, ap, sym, ◌∙◌, inl, inr, filter, map, arith, drop, length}
use Rattle.std.specs.List.{list_all, slice_index_or}
use Rattle.std.proofs.Math.Seq.{drop-cons}
use Rattle.std.proofs.lemmas.Bool.{cases_Bool, and_parts}
use Rattle.std.proofs.lemmas.Bool.Decides.{nat_tests}
use Rattle.rv_value.specs.declared.record.Record.{Record}
use Rattle.rv_rows.specs.declared.changes.Change.{Change}
use Rattle.rv_rows.specs.Changes.{Rise, is_before, is_from, rows_with_changes}
use Rattle.rv_rows.proofs.Puts.{rising_filter}
use Rattle.rv_restrict.specs.declared.atom.Atom.{Atom}
use Rattle.rv_txn.specs.Changing.{kept_change}

-- the rows with the changes of a table laid over them, where WHERE keeps what these leave
abbrev pub laid : List (List Atom) → ℕ → List Change → List Record → List Record
laid only table cs rows = rows_with_changes table (map (kept_change only) cs) rows

-- changes of tables before it lay nothing
pub laid_from : (only : List (List Atom)) (table : ℕ) (cs : List Change) (rows : List Record) → laid only table (filter (is_from table) cs) rows ≡ laid only table cs rows
laid_from only table [] rows = refl
laid_from only table (c ∷ cs) rows = elim (cases_Bool (nat_lt c.table table)) [
  | inl low ↦ let other : c.table == table ≡ false = grind (arith, nat_tests) in rw (low, rows_with_changes, other) (laid_from only table cs rows)
  | inr from ↦ rw from (laid_from only table cs _)
]

pub laid_begins : (only : List (List Atom)) (table : ℕ) (cs : List Change) (rows all : List Record) → all ≡ [] → all ++ laid only table (filter (is_from table) cs) rows ≡ laid only table cs rows
laid_begins only table cs rows all none = rw none (laid_from only table cs rows)

pub from_rises : (table : ℕ) (cs : List Change) → Rise cs → Rise (filter (is_from table) cs)
from_rises table cs rise = rising_filter is_before (is_from table) cs rise

-- changes of tables behind it lay nothing
above_lay_nothing : (only : List (List Atom)) (table : ℕ) (c : Change) (cs : List Change) (rows : List Record) → nat_lt table c.table ≡ true → list_all (is_before c) cs ≡ true → laid only table cs rows ≡ rows
above_lay_nothing only table c [] rows above all = refl
above_lay_nothing only table c (d ∷ ds) rows above all =
    let parts = and_parts (is_before c d) (list_all (is_before c) ds) all in
    let first = parts.0 in
    let other : d.table == table ≡ false = grind (arith, nat_tests) in
    rw (rows_with_changes, other) (above_lay_nothing only table c ds rows above parts.1)

pub others_lay_nothing : (only : List (List Atom)) (table : ℕ) (c : Change) (cs : List Change) (rows : List Record) → Rise (c ∷ cs) → is_from table c ≡ true → c.table == table ≡ false → laid only table (c ∷ cs) rows ≡ rows
others_lay_nothing only table c cs rows rise from other =
    let above : nat_lt table c.table ≡ true = grind (arith, nat_tests, from, other) in
    rw (rows_with_changes, other) (above_lay_nothing only table c cs rows above rise.0)

-- what was put, and the rows left behind it, are all where only such changes are left
pub laid_at_last : (only : List (List Atom)) (table : ℕ) (c : Change) (cs : List Change) (left rest all rows : List Record) (changes : List Change) → changes ≡ c ∷ cs → Rise changes → list_all (is_from table) changes ≡ true → c.table == table ≡ false → all ≡ left ++ rest → left ++ laid only table changes rest ≡ rows → all ≡ rows
laid_at_last only table c cs left rest all rows changes is rise from other put same =
    let rises : Rise (c ∷ cs) = rw is at rise in
    let begins = and_parts (is_from table c) (list_all (is_from table) cs) (rw is at from) in
    let nothing : laid only table changes rest ≡ rest = rw is (others_lay_nothing only table c cs rest rises begins.0 other) in
    put ∙ ap (λ (rs : List Record). left ++ rs) (sym nothing) ∙ same

-- the changes of a list from a place on, and those behind them
pub next_listed : (listed : List Change) (i : ℕ) (c : Change) (behind : List Change) → i < length listed → c ≡ slice_index_or listed i c → drop i listed ++ behind ≡ c ∷ (drop (i + 1) listed ++ behind)
next_listed listed i c behind within is =
    let at : suc i ≡ i + 1 = omega arith in
    ap (λ (cs : List Change). cs ++ behind) (drop-cons listed i c within ∙ ap (λ (d : Change). d ∷ drop (suc i) listed) (sym is) ∙ ap (λ (k : ℕ). c ∷ drop k listed) at)
