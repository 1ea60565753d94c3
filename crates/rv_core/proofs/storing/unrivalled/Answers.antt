use Rattle.std.proofs.Common.{◌∙◌, List, ap, subst, sym}
use Rattle.std.proofs.lemmas.Result.{IfErr-weaker, on_ok_weaker}
use Rattle.rv_catalog.specs.declared.def.IndexDef.{IndexDef}
use Rattle.rv_model.specs.Rivals.{all_alone, rows_written, unique_over}
use Rattle.rv_txn.specs.Calls.{IsFault}
use Rattle.rv_rivals.specs.Lookups.{CanLook, neighbours_in}
use Rattle.rv_core.proofs.Putting.{none_is, owns}
use Rattle.rv_core.proofs.Rivals.{can_look, lone_is, lone_none}
use Rattle.rv_core.proofs.storing.unrivalled.Goals as goal

pub no_rivals-requires : goal.no_rivals-requires
no_rivals-requires g c =
    let shown = g.S.Reader.shown c.args.store.now in
    let own = owns c.args.txns.now.active c.args.session c.in-Some.own.now c.in-Some.ensures in
    subst (λ (ds : List IndexDef). CanLook shown ds c.args.txns.now c.args.views.now c.in-Some.own.now c.args.table c.args.new.now) (sym c.indexes.ensures.same)
    (can_look shown c.args.catalog.now c.args.txns.now c.args.session c.args.table c.in-Some.own.now c.args.new.now c.args.views.now c.requires.tied c.requires.stored c.indexes.ensures.room c.requires.there own c.requires.rise c.requires.of_table c.requires.views)

pub returns-in-None-clause-ok : goal.returns-in-None-clause-ok
returns-in-None-clause-ok g c = lone_none (g.S.Reader.shown c.args.store.now) c.args.catalog.now c.args.txns.now c.args.session c.args.table c.args.new.now (none_is c.args.txns.now.active _ c.in-None.ensures)

pub returns-in-Some-clause-ok : goal.returns-in-Some-clause-ok
returns-in-Some-clause-ok g c =
    let shown = g.S.Reader.shown c.args.store.now in
    let own = owns c.args.txns.now.active c.args.session c.in-Some.own.now c.in-Some.ensures in
    on_ok_weaker c.no_rivals.result (λ k. lone_is shown c.args.catalog.now c.args.txns.now c.args.session c.args.table c.in-Some.own.now c.args.new.now c.requires.there own
    ∙ ap (λ (ds : List IndexDef). all_alone (unique_over c.args.table ds) (neighbours_in shown c.args.txns.now c.in-Some.own.now c.args.table c.args.new.now) (rows_written c.args.table c.args.new.now)) (sym c.indexes.ensures.same) ∙ k) c.no_rivals.ensures.ok

pub returns-in-Some-clause-fault : goal.returns-in-Some-clause-fault
returns-in-Some-clause-fault g c =
    let shown = g.S.Reader.shown c.args.store.now in
    let own = owns c.args.txns.now.active c.args.session c.in-Some.own.now c.in-Some.ensures in
    IfErr-weaker c.no_rivals.result _ _ (λ fault k. subst (λ due. IsFault due fault) (sym (lone_is shown c.args.catalog.now c.args.txns.now c.args.session c.args.table c.in-Some.own.now c.args.new.now c.requires.there own
    ∙ ap (λ (ds : List IndexDef). all_alone (unique_over c.args.table ds) (neighbours_in shown c.args.txns.now c.in-Some.own.now c.args.table c.args.new.now) (rows_written c.args.table c.args.new.now)) (sym c.indexes.ensures.same))) k) c.no_rivals.ensures.fault
