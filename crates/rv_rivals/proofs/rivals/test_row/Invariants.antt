use Rattle.std.proofs.Common.{◌≡◌, ℕ, List, drop, map}
use Rattle.std.specs.List.{AllByRecursion}
use Rattle.rv_rows.specs.declared.changes.Change.{Change}
use Rattle.rv_model.specs.Rivals.{key_of}
use Rattle.rv_model.specs.Transactions.{touched_by}
use Rattle.rv_rivals.specs.declared.near.Other.{Other}
use Rattle.rv_rivals.specs.declared.rivals.Unique.{Unique}
use Rattle.rv_rivals.specs.Lookups.{IsStatement, first_equal_to, none_in}
use Rattle.rv_rivals.proofs.rivals.test_row.Given as goal

-- the row has no rival in the indexes so far
abbrev pub invariant-unique : goal.invariant-unique
invariant-unique g l = (new : List Change) → AllByRecursion (λ (u : Unique). IsStatement l.near.table l.row.0 l.near.new u.columns.now u.entries new) l.unique
    → none_in (λ (columns : List ℕ). first_equal_to (g.S.Reader.shown l.store) (touched_by l.txns.touched l.near.table) columns (key_of columns l.values) l.row.0 l.near.table l.near.own.now new (map (λ (o : Other). o.transaction.now) l.near.others.items)) (map (λ (u : Unique). u.columns.now) (drop l.index-index l.unique))
    ≡ none_in (λ (columns : List ℕ). first_equal_to (g.S.Reader.shown l.store) (touched_by l.txns.touched l.near.table) columns (key_of columns l.values) l.row.0 l.near.table l.near.own.now new (map (λ (o : Other). o.transaction.now) l.near.others.items)) (map (λ (u : Unique). u.columns.now) l.unique)
