use Rattle.std.proofs.Common.{◌∙◌, ap}
use Rattle.rv_own.specs.Views.{others}
use Rattle.rv_own.proofs.Steps.{no_view, others_left, view_found}
use Rattle.rv_own.proofs.views.take_first.Goals as goal

pub returns-in-None-clause-own : goal.returns-in-None-clause-own
returns-in-None-clause-own c = no_view c.args.session c.args.views.now c.as_slice.result.now c.as_slice.ensures c.in-None.ensures

pub returns-in-Some-clause-left : goal.returns-in-Some-clause-left
returns-in-Some-clause-left c = ap (others c.args.session) c.remove.ensures.rest ∙ others_left c.args.session c.args.views.now c.as_slice.result.now c.in-Some.place c.remove.result c.as_slice.ensures c.in-Some.ensures c.remove.ensures.taken

pub returns-in-Some-clause-own : goal.returns-in-Some-clause-own
returns-in-Some-clause-own c = view_found c.args.session c.args.views.now c.as_slice.result.now c.in-Some.place c.remove.result c.as_slice.ensures c.in-Some.ensures c.remove.ensures.taken
