use Rattle.std.proofs.Common.{subst, sym, ℕ}
use Rattle.std.specs.List.{AllByRecursion}
use Rattle.rv_own.specs.Views.{CanKeep, IsMadeOf}
use Rattle.rv_own.proofs.Steps.{made_further, view_made}
use Rattle.rv_own.proofs.views.updated.Goals as goal

pub kept_on-requires-clause-can : goal.kept_on-requires-clause-can
kept_on-requires-clause-can g c =
    let shown = g.S.Reader.shown c.args.store.now in
    let own = c.args.own.now in
    let made : IsMadeOf shown own.session own.base own.changes c.in-Some.view = view_made shown own c.args.views.now c.in-Some.view c.requires.kept c.in-Some.ensures.own in
    subst (λ (base : ℕ). AllByRecursion (CanKeep shown base) c.args.new.now) (sym made.base) c.requires.can.new_ones

pub kept_on-requires-clause-keeps : goal.kept_on-requires-clause-keeps
kept_on-requires-clause-keeps g c =
    let shown = g.S.Reader.shown c.args.store.now in
    let own = c.args.own.now in
    let made : IsMadeOf shown own.session own.base own.changes c.in-Some.view = view_made shown own c.args.views.now c.in-Some.view c.requires.kept c.in-Some.ensures.own in
    made.keeps

pub returns-in-Ok-clause-own : goal.returns-in-Ok-clause-own
returns-in-Ok-clause-own g c =
    let shown = g.S.Reader.shown c.args.store.now in
    let own = c.args.own.now in
    made_further shown own.session own.base own.changes c.args.new.now c.in-Some.view c.in-Ok.next (view_made shown own c.args.views.now c.in-Some.view c.requires.kept c.in-Some.ensures.own) c.in-Ok.ensures
