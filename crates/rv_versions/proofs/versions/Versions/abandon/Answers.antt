use Rattle.std.proofs.Common.{◌+◌, ◌<◌, ◌≡◌, [], arith, ap, ◌∙◌, length}
use Rattle.std.proofs.lemmas.List.{length-set, get_or_default}
use Rattle.rv_versions.specs.Chains.{AllBelow, value_at, value_of}
use Rattle.rv_versions.proofs.Values.{put_each, AllBelow-more}
use Rattle.rv_versions.proofs.versions.Versions.abandon.Goals as goal

pub chains-preserved : goal.chains-preserved
chains-preserved g c =
    let items = c.chains.self-inside.chains.items in
    let i = c.chains.invariant in
    let long : c.chains.id < length items = omega (arith, i.len, ap length c.self.view_is) in
    let was = c.index_mut.ensures.value ∙ get_or_default items c.chains.id c.index_mut.result.now [] long in
    record {
      len = length-set items c.chains.id c.abandon.new.self ∙ i.len;
      same = λ id snap l. put_each (λ k vs. value_at vs snap ≡ value_of c.args.self.now k snap) items c.chains.id c.abandon.new.self [] long
          (c.abandon.ensures.same snap l ∙ ap (λ vs. value_at vs snap) was ∙ i.same c.chains.id snap l) (λ k _. i.same k snap l) id;
      below = λ id l. put_each (λ k vs. k < c.chains.id + 1 → AllBelow c.args.commit vs) items c.chains.id c.abandon.new.self [] long
          (λ _. c.abandon.ensures.below) (λ k n l. i.below k (omega arith)) id l;
      rest = put_each (λ k vs. AllBelow (c.args.commit + 1) vs) items c.chains.id c.abandon.new.self [] long
          (AllBelow-more c.args.commit (c.args.commit + 1) c.abandon.new.self c.abandon.ensures.below (omega arith)) (λ k _. i.rest k);
    }
