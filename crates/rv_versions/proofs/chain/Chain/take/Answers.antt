use Rattle.std.proofs.Common.{◌-◌, arith, sym, ◌∙◌, ap, subst, take}
use Rattle.rv_versions.specs.Chains.{AllBelow}
use Rattle.rv_versions.proofs.Values.{AllBelow-front}
use Rattle.rv_versions.proofs.chain.Chain.take.Goals as goal

pub returns-clause-below : goal.returns-clause-below
returns-clause-below g c =
    let items = c.self.inside.versions.items in
    let at_last = ap (λ v. v.commit) (sym c.index.ensures) ∙ c.if-index-commit.false in
    let front = AllBelow-front 0 (c.len-len.result - 1) c.args.commit items c.index.result.now c.self.invariant (omega (arith, c.self.inside.versions.ok.0)) at_last in
    rw c.pop.ensures.rest (subst (λ n. AllBelow c.args.commit (take (n - 1) items)) c.len-len.ensures front)
