use Rattle.rv_text.proofs.Finding.{after_is}
use Rattle.rv_text.proofs.cuts.after.Goals as goal

pub returns : goal.returns
returns c = after_is c.args.word.now c.args.text.now c.strip_prefix.result c.strip_prefix.ensures.cases
