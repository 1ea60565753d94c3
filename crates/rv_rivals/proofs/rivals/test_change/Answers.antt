use Rattle.std.proofs.Common.{List, Option, ℕ, map, refl}
use Rattle.std.proofs.lemmas.Result.{IfErr-weaker, on_ok_weaker}
use Rattle.rv_lang.specs.declared.reply.Refusal.{Refusal}
use Rattle.rv_value.specs.declared.record.Record.{Record}
use Rattle.rv_model.specs.Rivals.{key_of}
use Rattle.rv_model.specs.Transactions.{touched_by}
use Rattle.rv_rivals.specs.declared.near.Other.{Other}
use Rattle.rv_rivals.specs.declared.rivals.Unique.{Unique}
use Rattle.rv_rivals.specs.Lookups.{first_equal_to}
use Rattle.rv_rivals.proofs.Testing.{one_fails, one_row}
use Rattle.rv_rivals.proofs.rivals.test_change.Goals as goal

pub returns-in-Some-clause-ok : goal.returns-in-Some-clause-ok
returns-in-Some-clause-ok g c = on_ok_weaker c.test_row.result (λ told new all.
    let found : Record → List ℕ → Option Refusal = λ r columns. first_equal_to (g.S.Reader.shown c.args.store.now) (touched_by c.args.txns.now.touched c.args.near.now.table) columns (key_of columns r.values) r.row.0 c.args.near.now.table c.args.near.now.own.now new (map (λ (o : Other). o.transaction.now) c.args.near.now.others.items) in
    let columns = map (λ (u : Unique). u.columns.now) c.args.unique.now in
    let r : Record = record { row = record { 0 = c.args.change.now.row.0 }; values = c.in-Some.values } in
    one_row found columns c.args.change.now.row.0 c.in-Some.values c.args.change.now.values r refl c.in-Some.is (told new all)) c.test_row.ensures.ok

pub returns-in-Some-clause-fault : goal.returns-in-Some-clause-fault
returns-in-Some-clause-fault g c = IfErr-weaker c.test_row.result _ _ (λ fault told new all.
    let found : Record → List ℕ → Option Refusal = λ r columns. first_equal_to (g.S.Reader.shown c.args.store.now) (touched_by c.args.txns.now.touched c.args.near.now.table) columns (key_of columns r.values) r.row.0 c.args.near.now.table c.args.near.now.own.now new (map (λ (o : Other). o.transaction.now) c.args.near.now.others.items) in
    let columns = map (λ (u : Unique). u.columns.now) c.args.unique.now in
    let r : Record = record { row = record { 0 = c.args.change.now.row.0 }; values = c.in-Some.values } in
    one_fails found columns c.args.change.now.row.0 c.in-Some.values c.args.change.now.values r fault refl c.in-Some.is (told new all)) c.test_row.ensures.fault
