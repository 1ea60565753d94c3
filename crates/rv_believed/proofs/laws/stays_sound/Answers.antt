use Rattle.rv_believed.proofs.TablesThere.{stays_sound}
use Rattle.rv_believed.proofs.laws.stays_sound.Goals as goal

pub returns : goal.returns
returns c = stays_sound
