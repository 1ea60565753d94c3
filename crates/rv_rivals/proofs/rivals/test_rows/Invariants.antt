use Rattle.std.proofs.Common.{◌≡◌, ℕ, List, Option, drop, map}
use Rattle.rv_value.specs.declared.record.Record.{Record}
use Rattle.rv_lang.specs.declared.reply.Refusal.{Refusal}
use Rattle.rv_model.specs.Rivals.{key_of, rows_written}
use Rattle.rv_model.specs.Transactions.{touched_by}
use Rattle.rv_rivals.specs.declared.near.Other.{Other}
use Rattle.rv_rivals.specs.declared.rivals.Unique.{Unique}
use Rattle.rv_rivals.specs.Lookups.{all_none, first_equal_to}
use Rattle.rv_rivals.proofs.Entries.{given}
use Rattle.rv_rivals.proofs.rivals.test_rows.Given as goal

-- no row so far has a rival
abbrev pub invariant-rows : goal.invariant-rows
invariant-rows g l =
    let found : Record → List ℕ → Option Refusal = λ r columns. first_equal_to (g.S.Reader.shown l.store) (touched_by l.txns.touched l.near.table) columns (key_of columns r.values) r.row.0 l.near.table l.near.own.now l.new (map (λ (o : Other). o.transaction.now) l.near.others.items) in
    all_none found (map (λ (u : Unique). u.columns.now) l.unique) (given (drop l.change-index l.new)) ≡ all_none found (map (λ (u : Unique). u.columns.now) l.unique) (rows_written l.near.table l.new)
