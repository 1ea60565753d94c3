use Rattle.std.proofs.Common.{inl, refl}
use Rattle.std.specs.Option.{option_copied}
use Rattle.std.proofs.lemmas.Result.{IfErr-weaker, IfOk-weaker}
use Rattle.rv_txn.proofs.Halving.{changing_unwritten}
use Rattle.rv_core.proofs.Facts.{any_ok}
use Rattle.rv_core.proofs.Putting.{found_due, found_fault}
use Rattle.rv_core.proofs.storing.due_changes.Goals as goal

pub returns-in-Err-clause-fault : goal.returns-in-Err-clause-fault
returns-in-Err-clause-fault g c = changing_unwritten c.args.txns.now c.args.session c.args.table c.args.only.now (option_copied c.args.sets) ((g.S.Reader.shown c.args.store.now).rows c.args.table) c.in-Err.refusal c.in-Err.ensures.fault

pub returns-in-Err-clause-asks : goal.returns-in-Err-clause-asks
returns-in-Err-clause-asks g c = inl refl

pub returns-in-Err-met_by-clause-asks : goal.returns-in-Err-met_by-clause-asks
returns-in-Err-met_by-clause-asks g c = c.met_by.ensures.asks

pub returns-clause-ok : goal.returns-clause-ok
returns-clause-ok g c =
    IfOk-weaker c.changing_found.result _ _ (λ new due.
    found_due c.args.txns.now c.args.session c.args.table c.args.only.now (option_copied c.args.sets) ((g.S.Reader.shown c.args.store.now).rows c.args.table) c.in-Ok.own.now c.in-Ok-met_by.rows.items c.as_slice.result.now new.items
    c.in-Ok.ensures.ok c.in-Ok-met_by.ensures.rows c.as_slice.ensures.value due) c.changing_found.ensures.ok

pub returns-clause-fault : goal.returns-clause-fault
returns-clause-fault g c =
    IfErr-weaker c.changing_found.result _ _ (λ fault due.
    found_fault c.args.txns.now c.args.session c.args.table c.args.only.now (option_copied c.args.sets) ((g.S.Reader.shown c.args.store.now).rows c.args.table) c.in-Ok.own.now c.in-Ok-met_by.rows.items c.as_slice.result.now fault
    c.in-Ok.ensures.ok c.in-Ok-met_by.ensures.rows c.as_slice.ensures.value due) c.changing_found.ensures.fault

pub returns-clause-asks : goal.returns-clause-asks
returns-clause-asks g c = c.met_by.ensures.asks

pub returns-clause-found : goal.returns-clause-found
returns-clause-found g c = any_ok c.changing_found.result _ (λ new. c.in-Ok-met_by.ensures.found)
