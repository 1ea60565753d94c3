use Rattle.rv_believed.proofs.OffersSame.{offers_same}
use Rattle.rv_believed.proofs.laws.offers_are_same.Goals as goal

pub returns : goal.returns
returns c = offers_same
