use Rattle.rv_own.proofs.Steps.{can_make, made_is}
use Rattle.rv_own.proofs.views.made_of.Goals as goal

pub frozen_of-requires-clause-can : goal.frozen_of-requires-clause-can
frozen_of-requires-clause-can g c = can_make (g.S.Reader.shown c.args.store.now) c.args.own.now.base c.args.changes.now c.requires.can

pub returns : goal.returns
returns g c = made_is (g.S.Reader.shown c.args.store.now) c.args.own.now.session c.args.own.now.base c.args.changes.now c.in_ok-frozen.written c.in_ok-frozen.frozen c.in_ok-view.view c.in_ok-view.ensures c.in_ok-frozen.ensures.keeps c.in_ok-frozen.ensures.changes c.in_ok-frozen.ensures.base
