-- Believed (law): no two rows are equal in a unique index.
use Rattle.std.specs.Prelude.{◌≡◌, ℕ, List, true, false}
use Rattle.std.specs.List.{AllByRecursion, list_any}
use Rattle.rv_value.specs.declared.record.Record.{Record}
use Rattle.rv_catalog.specs.declared.def.IndexDef.{IndexDef}
use Rattle.rv_model.specs.declared.entry.Entry.{Entry}
use Rattle.rv_model.specs.History.{after}
use Rattle.rv_model.specs.Rivals.{is_rival, rows_left, rows_written}
use Rattle.rv_believed.specs.Database.{Database, Transaction, view}
use Rattle.rv_believed.specs.Orderly.{EachTwo}
use Rattle.rv_believed.specs.Standing.{database}

-- no row of these has a rival among those
abbrev pub NoRivals : List ℕ → List Record → List Record → Type 0
NoRivals columns rows others =
    list_any (λ (r : Record). list_any (is_rival columns r) others) rows ≡ false

-- What is kept of a unique index: in the last commit, and in what each active transaction sees, no
-- two rows are equal in it; no row that an active transaction has written equals one that another
-- has written, nor one of the last commit that it has not changed itself.
pub record KeepsApart (d : Database) (i : IndexDef) : Type 0 where
  pub last : NoRivals i.columns (d.rows i.table) (d.rows i.table)
  pub views : AllByRecursion (λ (t : Transaction).
      NoRivals i.columns (view t i.table) (view t i.table)) d.active
  pub commits : AllByRecursion (λ (t : Transaction).
      NoRivals i.columns (rows_written i.table t.changes)
      (rows_left i.table t.changes (d.rows i.table))) d.active
  pub others : EachTwo (λ (t u : Transaction). NoRivals i.columns
      (rows_written i.table t.changes) (rows_written i.table u.changes)) d.active

-- NO TWO ROWS ARE EQUAL in a unique index
abbrev pub IsUnique : Database → Type 0
IsUnique d = AllByRecursion (λ (i : IndexDef). i.unique ≡ true → KeepsApart d i) d.indexes

-- LAW: be the replies as they may
abbrev pub StaysUnique : Type 0
StaysUnique = (history : List Entry) → IsUnique (database (after history))
