use Rattle.rv_view.proofs.Changing.{kept_change}
use Rattle.rv_view.proofs.Last.{last_at}
use Rattle.rv_view.proofs.Laying.{lays_kept}
use Rattle.rv_view.proofs.Parts.{parts_step}
use Rattle.rv_view.proofs.Sights.{lays_there}
use Rattle.rv_view.proofs.laws.lays_kept.Goals as goal

pub returns : goal.returns
returns c = lays_kept
