use Rattle.std.proofs.Common.{◌≡◌, ◌+◌, ◌∙◌, List, Option, ℕ, suc, Some, ap, arith, drop, length, map, refl, sym}
use Rattle.std.specs.Prelude.{slice_get}
use Rattle.std.proofs.lemmas.Option.{slice_get_read}
use Rattle.rv_value.proofs.Lists.{all_more}
use Rattle.rv_lang.specs.declared.reply.Refusal.{Refusal}
use Rattle.rv_value.specs.declared.record.Record.{Record}
use Rattle.rv_model.specs.Rivals.{key_of}
use Rattle.rv_model.specs.Transactions.{touched_by}
use Rattle.rv_rivals.specs.declared.near.Other.{Other}
use Rattle.rv_rivals.specs.declared.rivals.Unique.{Unique}
use Rattle.rv_rivals.specs.Lookups.{IsStatement, all_none, entries_written, first_equal_to, none_in}
use Rattle.rv_rivals.proofs.Entries.{given, written_given}
use Rattle.rv_rivals.proofs.Testing.{has_at, row_faults, row_passes}
use Rattle.rv_rivals.proofs.rivals.test_rows.Goals as goal

pub rows-init : goal.rows-init
rows-init g c =
    let found : Record → List ℕ → Option Refusal = λ r columns. first_equal_to (g.S.Reader.shown c.args.store.now) (touched_by c.args.txns.now.touched c.args.near.now.table) columns (key_of columns r.values) r.row.0 c.args.near.now.table c.args.near.now.own.now c.args.new.now (map (λ (o : Other). o.transaction.now) c.args.near.now.others.items) in
    let columns = map (λ (u : Unique). u.columns.now) c.args.unique.now in
    ap (all_none found columns) (sym (written_given _ c.args.new.now c.requires.rise c.requires.of_table))

pub rows-preserved : goal.rows-preserved
rows-preserved g c =
    let found : Record → List ℕ → Option Refusal = λ r columns. first_equal_to (g.S.Reader.shown c.args.store.now) (touched_by c.args.txns.now.touched c.args.near.now.table) columns (key_of columns r.values) r.row.0 c.args.near.now.table c.args.near.now.own.now c.args.new.now (map (λ (o : Other). o.transaction.now) c.args.near.now.others.items) in
    let columns = map (λ (u : Unique). u.columns.now) c.args.unique.now in
    let new = c.args.new.now in
    let k = c.rows.change-index in
    let item = c.change-item.result in
    let is : slice_get new k ≡ Some item = slice_get_read new (length new) k item refl c.rows-test.true c.change-item.is in
    let all = all_more (λ (u : Unique). u.entries ≡ entries_written u.columns.now c.args.near.now.table new) (λ (u : Unique). IsStatement c.args.near.now.table item.row.0 c.args.near.now.new u.columns.now u.entries new)
    (λ u told. record { rise = c.requires.rise; same = c.requires.same; told = told; has = has_at c.args.near.now.table new k item is c.requires.of_table }) c.args.unique.now c.requires.entries in
    let more : suc k ≡ k + 1 = omega arith in
    ap (λ n. all_none found columns (given (drop n new))) (sym more)
    ∙ row_passes (λ (r : Record). none_in (found r) columns) new k item _ is (c.in-Ok.ensures.ok new all) c.rows.invariant

pub returns-in-Err-clause-fault : goal.returns-in-Err-clause-fault
returns-in-Err-clause-fault g c =
    let found : Record → List ℕ → Option Refusal = λ r columns. first_equal_to (g.S.Reader.shown c.args.store.now) (touched_by c.args.txns.now.touched c.args.near.now.table) columns (key_of columns r.values) r.row.0 c.args.near.now.table c.args.near.now.own.now c.args.new.now (map (λ (o : Other). o.transaction.now) c.args.near.now.others.items) in
    let columns = map (λ (u : Unique). u.columns.now) c.args.unique.now in
    let new = c.args.new.now in
    let k = c.rows.change-index in
    let item = c.change-item.result in
    let is : slice_get new k ≡ Some item = slice_get_read new (length new) k item refl c.rows-test.true c.change-item.is in
    let all = all_more (λ (u : Unique). u.entries ≡ entries_written u.columns.now c.args.near.now.table new) (λ (u : Unique). IsStatement c.args.near.now.table item.row.0 c.args.near.now.new u.columns.now u.entries new)
    (λ u told. record { rise = c.requires.rise; same = c.requires.same; told = told; has = has_at c.args.near.now.table new k item is c.requires.of_table }) c.args.unique.now c.requires.entries in
    row_faults (λ (r : Record). none_in (found r) columns) new k item c.in-Err.fault _ is (c.in-Err.ensures.fault new all) c.rows.invariant
