use Rattle.std.proofs.Common.{[], arith}
use Rattle.std.proofs.lemmas.List.{get_or_default}
use Rattle.rv_versions.specs.Chains.{AllBelow}
use Rattle.rv_versions.proofs.Values.{put_each}
use Rattle.rv_versions.proofs.versions.Versions.purge.Goals as goal

pub returns-then-id-len-clause-below : goal.returns-then-id-len-clause-below
returns-then-id-len-clause-below g c high b =
    let items = c.self.inside.chains.items in
    let seen = rw (← c.self.view_is) at b in
    let here = c.purge.ensures.below high (rw (c.index_mut.ensures.value, get_or_default items c.args.id c.index_mut.result.now [] (omega arith)) (seen c.args.id)) in
    put_each (λ k vs. AllBelow high vs) items c.args.id c.purge.new.self [] (omega arith) here (λ k _. seen k)
