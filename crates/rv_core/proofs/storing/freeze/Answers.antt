use Rattle.std.proofs.Common.{List, [], subst, sym}
use Rattle.std.proofs.lemmas.Result.{IfOk-weaker}
use Rattle.rv_catalog.specs.declared.def.IndexDef.{IndexDef}
use Rattle.rv_own.specs.Views.{CanView}
use Rattle.rv_model.specs.Transactions.{transaction_of}
use Rattle.rv_core.proofs.Putting.{can_view, frozen_owned, none_owned, nothing_new, own_at, owns, views_own}
use Rattle.rv_core.proofs.storing.freeze.Goals as goal

pub freeze-requires-clause-can : goal.freeze-requires-clause-can
freeze-requires-clause-can g c =
    let shown = g.S.Reader.shown c.args.store.now in
    let own = owns c.args.txns.now.active c.args.session c.in-Some.own.now c.in-Some.ensures in
    subst (λ (ds : List IndexDef). CanView shown ds c.in-Some.own.now []) (sym c.indexes.ensures.same)
    (can_view shown c.args.catalog.now c.args.txns.now c.args.session c.in-Some.own.now [] c.requires.tied c.last-newest.ensures.stored own (nothing_new shown c.args.txns.now.active (transaction_of c.args.txns.now.active c.args.session)))

pub freeze-requires-clause-kept : goal.freeze-requires-clause-kept
freeze-requires-clause-kept g c = views_own (g.S.Reader.shown c.args.store.now) c.args.txns.now.active c.args.session c.in-Some.own.now c.args.views.now (owns c.args.txns.now.active c.args.session c.in-Some.own.now c.in-Some.ensures) c.requires.views

pub returns-in-None-clause-freezes : goal.returns-in-None-clause-freezes
returns-in-None-clause-freezes g c = none_owned c.args.txns.now.active c.args.session _ c.in-None.ensures

pub returns-in-Some-clause-freezes : goal.returns-in-Some-clause-freezes
returns-in-Some-clause-freezes g c = IfOk-weaker c.freeze.result _ _ (λ frozen k. frozen_owned (g.S.Reader.shown c.args.store.now) c.args.txns.now.active c.args.session c.in-Some.own.now frozen (owns c.args.txns.now.active c.args.session c.in-Some.own.now c.in-Some.ensures) k) c.freeze.ensures.freezes

pub returns-in-Some-clause-views : goal.returns-in-Some-clause-views
returns-in-Some-clause-views g c =
    let own = owns c.args.txns.now.active c.args.session c.in-Some.own.now c.in-Some.ensures in
    c.freeze.ensures.keeps c.args.txns.now.active own.place (own_at c.args.txns.now.active c.args.session c.in-Some.own.now own) own.here c.requires.views
