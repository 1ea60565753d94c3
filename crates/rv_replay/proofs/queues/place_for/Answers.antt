use Rattle.std.proofs.Common.{◌∙◌, sym}
use Rattle.rv_replay.proofs.Taking.{none_given, takes_out}
use Rattle.rv_replay.proofs.queues.place_for.Goals as goal

pub returns-then-may_give : goal.returns-then-may_give
returns-then-may_give c = takes_out c.args.alike.now c.args.first.now c.args.values.now c.place_of-place.result c.requires.rises c.requires.begins c.place_of-place.ensures (sym c.may_give.ensures ∙ c.if-may_give.true)

pub returns-else-may_give : goal.returns-else-may_give
returns-else-may_give c = none_given c.args.alike.now c.args.first.now c.args.values.now c.place_of-place.result c.requires.rises c.requires.begins c.place_of-place.ensures (sym c.may_give.ensures ∙ c.if-may_give.false)
