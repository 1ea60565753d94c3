use Rattle.std.proofs.Common.{◌≡◌}
use Rattle.rv_rows.specs.Rising.{Rising}
use Rattle.rv_model.specs.Offers.{offers_in_order}
use Rattle.rv_replay.specs.Queues.{all_of, comes_before}
use Rattle.rv_replay.proofs.queues.put_all.Given as goal

abbrev pub invariant-offers : goal.invariant-offers
invariant-offers l = record {
  all : all_of l.alike.items ≡ offers_in_order l.yielded;
  rises : Rising comes_before l.alike.items;
}
