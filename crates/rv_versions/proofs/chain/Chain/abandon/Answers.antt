use Rattle.std.proofs.Common.{◌-◌, arith, sym, ◌∙◌, ap}
use Rattle.rv_versions.proofs.Values.{AllBelow-front}
use Rattle.rv_versions.proofs.chain.Chain.abandon.Goals as goal

pub returns-then-index-commit-clause-below : goal.returns-then-index-commit-clause-below
returns-then-index-commit-clause-below g c =
    let at_last = ap (λ v. v.commit) (sym c.index.ensures) ∙ c.if-index-commit.true in
    rw c.truncate.ensures.items (AllBelow-front 0 (c.len-len.result - 1) c.args.commit c.self.inside.versions.items c.index.result.now c.self.invariant (omega (arith, c.self.inside.versions.ok.0)) at_last)
