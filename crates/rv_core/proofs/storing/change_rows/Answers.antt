use Rattle.std.proofs.Common.{◌≡◌, [], Ok, arith, length, refl, subst, sym}
use Rattle.std.specs.Option.{option_copied}
use Rattle.rv_model.specs.declared.transactions.Transactions.{Transactions}
use Rattle.rv_model.specs.Transactions.{transaction_of}
use Rattle.rv_core.specs.Db.{IsTied}
use Rattle.rv_core.proofs.Putting.{change_done, change_fault, change_keeps, put_back, put_these, rivals_fault, these_alone}
use Rattle.rv_core.proofs.Rivals.{these_of, these_rise}
use Rattle.rv_core.proofs.Standing.{rows_same, tied_changed}
use Rattle.rv_core.proofs.storing.change_rows.Goals as goal

pub keep_up-requires-clause-can : goal.keep_up-requires-clause-can
keep_up-requires-clause-can g c = change_keeps (g.S.Reader.shown c.args.store.now) c.args.catalog.now c.args.txns.now c.args.session c.args.table c.args.only.now (option_copied c.args.sets) c.in-Ok.new.items c.as_slice-2.result.now c.requires.tied c.last-newest.ensures.stored c.requires.there c.in-Ok.ensures.ok c.as_slice-2.ensures.value

pub returns-in-Err-clause-fault : goal.returns-in-Err-clause-fault
returns-in-Err-clause-fault g c = change_fault (g.S.Reader.shown c.args.store.now) c.args.catalog.now c.args.txns.now c.args.session c.args.table c.args.only.now (option_copied c.args.sets) c.in-Err.fault c.requires.there c.in-Err.ensures.fault

pub unrivalled-requires-clause-can : goal.unrivalled-requires-clause-can
unrivalled-requires-clause-can g c = change_keeps (g.S.Reader.shown c.args.store.now) c.args.catalog.now c.args.txns.now c.args.session c.args.table c.args.only.now (option_copied c.args.sets) c.in-Ok.new.items c.as_slice.result.now c.requires.tied c.last-newest.ensures.stored c.requires.there c.in-Ok.ensures.ok c.as_slice.ensures.value

pub unrivalled-requires-clause-rise : goal.unrivalled-requires-clause-rise
unrivalled-requires-clause-rise g c = these_rise (g.S.Reader.shown c.args.store.now) c.args.catalog.now c.args.txns.now c.args.session c.args.table c.args.only.now (option_copied c.args.sets) c.in-Ok.new.items c.as_slice.result.now c.requires.tied c.last-newest.ensures.stored c.requires.there c.as_slice.ensures.value c.in-Ok.ensures.ok

pub unrivalled-requires-clause-of_table : goal.unrivalled-requires-clause-of_table
unrivalled-requires-clause-of_table g c = these_of c.args.txns.now c.args.session c.args.table c.args.only.now (option_copied c.args.sets) ((g.S.Reader.shown c.args.store.now).rows c.args.table) c.in-Ok.new.items c.as_slice.result.now c.as_slice.ensures.value c.in-Ok.ensures.ok

pub returns-in-Err-unrivalled-clause-fault : goal.returns-in-Err-unrivalled-clause-fault
returns-in-Err-unrivalled-clause-fault g c = rivals_fault (g.S.Reader.shown c.args.store.now) c.args.catalog.now c.args.txns.now c.args.session c.args.table c.args.only.now (option_copied c.args.sets) c.in-Ok.new.items c.as_slice.result.now c.in-Err-unrivalled.fault c.requires.there c.as_slice.ensures.value c.in-Ok.ensures.ok c.in-Err-unrivalled.ensures.fault

pub returns-in-Ok-put_changes-clause-alone : goal.returns-in-Ok-put_changes-clause-alone
returns-in-Ok-put_changes-clause-alone g c = these_alone (g.S.Reader.shown c.args.store.now) c.args.catalog.now c.args.txns.now c.args.session c.args.table c.args.only.now (option_copied c.args.sets) c.in-Ok.new.items c.as_slice.result.now (Ok tt) c.requires.there c.as_slice.ensures.value c.in-Ok.ensures.ok c.in-Ok-unrivalled.ensures.ok

pub returns-in-Ok-put_changes-clause-ok : goal.returns-in-Ok-put_changes-clause-ok
returns-in-Ok-put_changes-clause-ok g c =
    let shown = g.S.Reader.shown c.args.store.now in
    let long : c.len-count.result ≡ length c.in-Ok.new.items = omega arith in
    rw (rows_same shown c.args.catalog.now c.args.txns.now [] c.args.session c.args.table c.args.only.now (option_copied c.args.sets) (transaction_of c.args.txns.now.active c.args.session) c.requires.there refl)
    (change_done c.args.txns.now c.put_changes.new.self c.args.session c.args.table c.len-count.result c.args.only.now (option_copied c.args.sets) (shown.rows c.args.table) c.in-Ok.new.items c.in-Ok.ensures.ok long c.in-Ok-put_changes.ensures.ok)

pub returns-in-Ok-put_changes-clause-tied : goal.returns-in-Ok-put_changes-clause-tied
returns-in-Ok-put_changes-clause-tied g c =
    let shown = g.S.Reader.shown c.args.store.now in
    let long : c.len-count.result ≡ length c.in-Ok.new.items = omega arith in
    tied_changed shown c.args.catalog.now c.args.txns.now c.put_changes.new.self c.args.session c.args.table c.args.only.now (option_copied c.args.sets) c.len-count.result c.requires.tied c.last-newest.ensures.stored c.requires.there
    (change_done c.args.txns.now c.put_changes.new.self c.args.session c.args.table c.len-count.result c.args.only.now (option_copied c.args.sets) (shown.rows c.args.table) c.in-Ok.new.items c.in-Ok.ensures.ok long c.in-Ok-put_changes.ensures.ok)

pub returns-in-Err-put_changes-clause-tied : goal.returns-in-Err-put_changes-clause-tied
returns-in-Err-put_changes-clause-tied g c = subst (λ (t : Transactions). IsTied (g.S.Reader.shown c.args.store.now) c.args.catalog.now t) (sym c.in-Err-put_changes.ensures.err) c.requires.tied

pub returns-in-Ok-put_changes-clause-views : goal.returns-in-Ok-put_changes-clause-views
returns-in-Ok-put_changes-clause-views g c = put_these (g.S.Reader.shown c.args.store.now) c.args.txns.now c.put_changes.new.self c.args.session c.in-Ok.new.items c.as_slice-2.result.now c.keep_up.new.views c.as_slice-2.ensures.value c.in-Ok-put_changes.ensures.ok c.keep_up.ensures

pub returns-in-Err-put_changes-clause-views : goal.returns-in-Err-put_changes-clause-views
returns-in-Err-put_changes-clause-views g c = put_back (g.S.Reader.shown c.args.store.now) c.args.txns.now c.put_changes.new.self c.args.session c.as_slice-2.result.now c.keep_up.new.views c.let_go.new.self c.in-Err-put_changes.ensures.err c.let_go.ensures c.keep_up.ensures

pub returns-in-Ok-put_changes-clause-found : goal.returns-in-Ok-put_changes-clause-found
returns-in-Ok-put_changes-clause-found g c = c.in-Ok.ensures.found
