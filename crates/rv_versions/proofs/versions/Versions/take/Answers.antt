use Rattle.std.proofs.Common.{[], arith, ◌+◌}
use Rattle.std.proofs.lemmas.List.{get_or_default}
use Rattle.rv_versions.specs.Chains.{AllBelow}
use Rattle.rv_versions.proofs.Values.{put_each, AllBelow-more}
use Rattle.rv_versions.proofs.versions.Versions.take.Goals as goal

pub returns-then-id-len-clause-below : goal.returns-then-id-len-clause-below
returns-then-id-len-clause-below g c =
    let items = c.self.inside.chains.items in
    let seen = rw (← c.self.view_is) at c.requires in
    let here = AllBelow-more c.args.commit (c.args.commit + 1) c.take.new.self c.take.ensures.below (omega arith) in
    put_each (λ k vs. AllBelow (c.args.commit + 1) vs) items c.args.id c.take.new.self [] (omega arith) here (λ k _. seen k)
