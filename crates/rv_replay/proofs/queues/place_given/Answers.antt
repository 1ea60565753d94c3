use Rattle.std.proofs.Common.{◌∙◌, ap, option_copied, sym}
use Rattle.rv_replay.specs.Queues.{all_of}
use Rattle.rv_replay.proofs.Places.{place_empty}
use Rattle.rv_replay.proofs.queues.place_given.Goals as goal

pub place_for-requires : goal.place_for-requires
place_for-requires c = record {
  rises = c.requires.rises;
  begins = sym c.first_of.ensures ∙ ap option_copied c.in-Some.is;
}

pub returns-in-None : goal.returns-in-None
returns-in-None c = place_empty (all_of c.args.alike.now) c.args.values.now (sym c.first_of.ensures ∙ ap option_copied c.in-None.is)
