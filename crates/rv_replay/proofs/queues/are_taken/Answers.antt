use Rattle.std.proofs.Common.{◌∙◌, ap, option_copied, sym}
use Rattle.rv_replay.specs.Queues.{all_of}
use Rattle.rv_replay.proofs.Taking.{none_empty, some_not_empty}
use Rattle.rv_replay.proofs.queues.are_taken.Goals as goal

pub returns-in-Some : goal.returns-in-Some
returns-in-Some c = some_not_empty (all_of c.args.alike.now) _ (sym c.first_of.ensures ∙ ap option_copied c.in-Some.is)

pub returns-in-None : goal.returns-in-None
returns-in-None c = none_empty (all_of c.args.alike.now) (sym c.first_of.ensures ∙ ap option_copied c.in-None.is)
