use Rattle.std.proofs.Common.{inl, refl}
use Rattle.rv_rows.specs.Changes.{with_changes}
use Rattle.rv_own.specs.Views.{IsMadeOf}
use Rattle.rv_own.proofs.Bases.{kept_up}
use Rattle.rv_own.proofs.Steps.{joins}
use Rattle.rv_own.proofs.views.keep_views.Goals as goal

pub returns-in_default : goal.returns-in_default
returns-in_default g c active place at here all =
    let own = c.args.own.now in
    kept_up (g.S.Reader.shown c.args.store.now) active place own (with_changes c.args.new.now own.changes) c.args.views.now c.updated.new.views c.updated.new.views c.updated.ensures.left (inl refl) at here all

pub returns : goal.returns
returns g c active place at here all =
    let shown = g.S.Reader.shown c.args.store.now in
    let own = c.args.own.now in
    let changes = with_changes c.args.new.now own.changes in
    kept_up shown active place own changes c.args.views.now c.updated.new.views c.put_behind.new.views c.updated.ensures.left
    (joins (IsMadeOf shown own.session own.base changes) c.updated.new.views c.put_behind.new.views c.in-Some.view c.put_behind.ensures c.in-Some.ensures.own) at here all
