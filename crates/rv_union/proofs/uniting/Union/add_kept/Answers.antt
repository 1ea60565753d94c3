use Rattle.std.proofs.Common.{subst, sym}
use Rattle.rv_jscan.specs.Lanes.{Laned}
use Rattle.rv_keyset.specs.Sets.{AreApart}
use Rattle.rv_union.proofs.Lanes.{kept_apart}
use Rattle.rv_union.proofs.uniting.Union.add_kept.Goals as goal

pub invariant_of-self-2 : goal.invariant_of-self-2
invariant_of-self-2 c =
    let u = c.self.inside in
    record {
      there = c.self.invariant.there;
      new = subst (λ (l : Laned). AreApart u.keys.keys l.building) (sym c.in_ok-_last.ensures.ok) (kept_apart u.keys.keys u.lane.building c.args.sieved.now.part c.args.sieved.now.entries c.self.invariant.new);
    }
