use Rattle.std.proofs.Common.{◌∙◌, ap, option_copied, option_map, sym}
use Rattle.rv_replay.specs.declared.queues.Alike.{Alike}
use Rattle.rv_replay.proofs.Taking.{first_is}
use Rattle.rv_replay.proofs.queues.first_of.Goals as goal

pub returns-in-Some : goal.returns-in-Some
returns-in-Some c = sym (first_is c.args.alike.now c.args.front c.requires ∙ ap (option_map (λ (a : Alike). a.offer)) (sym c.those_at.ensures ∙ ap option_copied c.in-Some.is))

pub returns-in-None : goal.returns-in-None
returns-in-None c = sym (first_is c.args.alike.now c.args.front c.requires ∙ ap (option_map (λ (a : Alike). a.offer)) (sym c.those_at.ensures ∙ ap option_copied c.in-None.is))
