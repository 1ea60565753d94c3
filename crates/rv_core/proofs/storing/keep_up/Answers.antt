use Rattle.std.proofs.Common.{List, subst, sym}
use Rattle.rv_catalog.specs.declared.def.IndexDef.{IndexDef}
use Rattle.rv_own.specs.Views.{CanView}
use Rattle.rv_core.proofs.Putting.{can_view, kept_none, kept_these, owns, views_own}
use Rattle.rv_core.proofs.storing.keep_up.Goals as goal

pub keep-requires-clause-can : goal.keep-requires-clause-can
keep-requires-clause-can g c =
    let shown = g.S.Reader.shown c.args.store.now in
    let own = owns c.args.txns.now.active c.args.session c.in-Some.own.now c.in-Some.ensures in
    subst (λ (ds : List IndexDef). CanView shown ds c.in-Some.own.now c.args.new.now) (sym c.indexes.ensures.same)
    (can_view shown c.args.catalog.now c.args.txns.now c.args.session c.in-Some.own.now c.args.new.now c.requires.tied c.requires.stored own c.requires.can)

pub keep-requires-clause-kept : goal.keep-requires-clause-kept
keep-requires-clause-kept g c = views_own (g.S.Reader.shown c.args.store.now) c.args.txns.now.active c.args.session c.in-Some.own.now c.args.views.now (owns c.args.txns.now.active c.args.session c.in-Some.own.now c.in-Some.ensures) c.requires.views

pub returns-in-None : goal.returns-in-None
returns-in-None g c = kept_none (g.S.Reader.shown c.args.store.now) c.args.txns.now c.args.session c.args.new.now c.args.views.now c.in-None.ensures c.requires.views

pub returns-in-Some : goal.returns-in-Some
returns-in-Some g c = kept_these (g.S.Reader.shown c.args.store.now) c.args.txns.now c.args.session c.in-Some.own.now c.args.new.now c.args.views.now c.keep.new.self (owns c.args.txns.now.active c.args.session c.in-Some.own.now c.in-Some.ensures) c.requires.views c.keep.ensures
