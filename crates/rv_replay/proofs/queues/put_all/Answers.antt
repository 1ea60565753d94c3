use Rattle.std.proofs.Common.{◌∙◌, ap, sym}
use Rattle.rv_model.specs.Offers.{with_offer}
use Rattle.rv_replay.proofs.Putting.{one_more_put}
use Rattle.rv_replay.proofs.queues.put_all.Goals as goal

pub offers-preserved : goal.offers-preserved
offers-preserved c = record {
  all = c.in_ok-put.ensures.all ∙ ap (with_offer c.in-Some.offer) c.offers.invariant.all ∙ sym (one_more_put c.offers.yielded c.in-Some.offer);
  rises = c.in_ok-put.ensures.rises;
}
