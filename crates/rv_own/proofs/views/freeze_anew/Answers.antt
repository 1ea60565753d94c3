use Rattle.std.proofs.Common.{inl, refl}
use Rattle.rv_own.specs.Views.{IsMadeOf}
use Rattle.rv_own.proofs.Steps.{joins, made_freezes}
use Rattle.rv_own.proofs.views.freeze_anew.Goals as goal

pub returns-in_err-made-clause-joins : goal.returns-in_err-made-clause-joins
returns-in_err-made-clause-joins g c = inl refl

pub returns-clause-freezes : goal.returns-clause-freezes
returns-clause-freezes g c = made_freezes (g.S.Reader.shown c.args.store.now) c.args.own.now c.in_ok-made.made c.in_ok-made.shared c.in_ok-made.ensures.made c.in_ok-made.ensures.same

pub returns-clause-joins : goal.returns-clause-joins
returns-clause-joins g c = joins (IsMadeOf (g.S.Reader.shown c.args.store.now) c.args.own.now.session c.args.own.now.base c.args.own.now.changes) c.args.views.now c.put_behind.new.views c.in_ok-made.made c.put_behind.ensures c.in_ok-made.ensures.made
