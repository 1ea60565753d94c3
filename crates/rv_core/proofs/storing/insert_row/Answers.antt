use Rattle.std.proofs.Common.{◌≡◌, Ok, refl, subst, sym}
use Rattle.std.specs.List.{AllByRecursion}
use Rattle.rv_rows.specs.declared.changes.Change.{Change}
use Rattle.rv_rows.specs.Changes.{Rise}
use Rattle.rv_core.proofs.Putting.{due_alone, insert_done, insert_fault, insert_keeps, put_back, put_one, rival_fault}
use Rattle.rv_core.proofs.storing.insert_row.Goals as goal

pub unrivalled-requires-clause-can : goal.unrivalled-requires-clause-can
unrivalled-requires-clause-can g c = insert_keeps (g.S.Reader.shown c.args.store.now) c.args.catalog.now c.args.txns.now c.args.session c.args.table c.args.values c.in-Ok.row c.from_ref-new.result.now c.requires.tied c.requires.row.there c.in-Ok.ensures.ok c.from_ref-new.ensures.value

pub unrivalled-requires-clause-rise : goal.unrivalled-requires-clause-rise
unrivalled-requires-clause-rise g c = subst Rise (sym c.from_ref-new.ensures.value) (refl, tt)

pub unrivalled-requires-clause-of_table : goal.unrivalled-requires-clause-of_table
unrivalled-requires-clause-of_table g c = subst (AllByRecursion (λ (x : Change). x.table ≡ c.args.table)) (sym c.from_ref-new.ensures.value) (refl, tt)

pub returns-in-Err-unrivalled-clause-fault : goal.returns-in-Err-unrivalled-clause-fault
returns-in-Err-unrivalled-clause-fault g c = rival_fault (g.S.Reader.shown c.args.store.now) c.args.catalog.now c.args.txns.now c.args.session c.args.table c.args.values c.in-Ok.row c.from_ref-new.result.now c.in-Err-unrivalled.fault c.from_ref-new.ensures.value c.in-Ok.ensures.ok c.in-Err-unrivalled.ensures.fault

pub returns-in-Ok-put_new-clause-alone : goal.returns-in-Ok-put_new-clause-alone
returns-in-Ok-put_new-clause-alone g c = due_alone (g.S.Reader.shown c.args.store.now) c.args.catalog.now c.args.txns.now c.args.session c.args.table c.args.values c.in-Ok.row c.from_ref-new.result.now (Ok tt) c.from_ref-new.ensures.value c.in-Ok-unrivalled.ensures.ok

pub keep_up-requires-clause-can : goal.keep_up-requires-clause-can
keep_up-requires-clause-can g c = insert_keeps (g.S.Reader.shown c.args.store.now) c.args.catalog.now c.args.txns.now c.args.session c.args.table c.args.values c.in-Ok.row c.from_ref-new.result.now c.requires.tied c.requires.row.there c.in-Ok.ensures.ok c.from_ref-new.ensures.value

pub returns-in-Err-clause-fault : goal.returns-in-Err-clause-fault
returns-in-Err-clause-fault g c = insert_fault (g.S.Reader.shown c.args.store.now) c.args.catalog.now c.args.txns.now c.args.session c.args.table c.args.values c.in-Err.fault c.in-Err.ensures.fault

pub returns-in-Ok-put_new-clause-ok : goal.returns-in-Ok-put_new-clause-ok
returns-in-Ok-put_new-clause-ok g c = insert_done c.args.txns.now c.put_new.new.self c.args.session c.args.table c.args.values c.in-Ok.row c.in-Ok.ensures.ok c.in-Ok-put_new.ensures.ok

pub returns-in-Ok-put_new-clause-views : goal.returns-in-Ok-put_new-clause-views
returns-in-Ok-put_new-clause-views g c = put_one (g.S.Reader.shown c.args.store.now) c.args.txns.now c.put_new.new.self c.args.session _ c.from_ref-new.result.now c.keep_up.new.views c.from_ref-new.ensures.value c.in-Ok-put_new.ensures.ok c.keep_up.ensures

pub returns-in-Err-put_new-clause-views : goal.returns-in-Err-put_new-clause-views
returns-in-Err-put_new-clause-views g c = put_back (g.S.Reader.shown c.args.store.now) c.args.txns.now c.put_new.new.self c.args.session c.from_ref-new.result.now c.keep_up.new.views c.let_go.new.self c.in-Err-put_new.ensures.err c.let_go.ensures c.keep_up.ensures
