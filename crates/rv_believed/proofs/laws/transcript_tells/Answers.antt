use Rattle.rv_believed.proofs.Told.{transcript_tells}
use Rattle.rv_believed.proofs.laws.transcript_tells.Goals as goal

pub returns : goal.returns
returns c = transcript_tells c.text_tells.ensures
