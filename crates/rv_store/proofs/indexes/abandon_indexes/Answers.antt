use Rattle.std.proofs.Common.{◌∙◌, ◌<◌, ◌≤◌, ◌+◌, subst, arith, length}
use Rattle.std.proofs.lemmas.List.{get_or_default}
use Rattle.rv_versions.specs.Chains.{AllChainsBelow}
use Rattle.rv_versions.proofs.Values.{chains_more}
use Rattle.rv_store.specs.declared.indexes.Index.{Index}
use Rattle.rv_store.specs.Indexes.{no_index, IsSameIndex}
use Rattle.rv_store.proofs.Listing.{set_index, set_newest, set_first, all_indexes, all_few}
use Rattle.rv_store.proofs.indexes.abandon_indexes.Goals as goal

pub indexes-preserved : goal.indexes-preserved
indexes-preserved c =
    let items = c.indexes.indexes.items in
    let at = c.indexes.at in
    let count = c.indexes.invariant.same.count in
    let there : at < length items = omega arith in
    let was = c.index_mut.ensures.value ∙ get_or_default items at c.index_mut.result.now no_index there in
    let new = c.abandon_index.new.index in
    let same = subst (λ (x : Index). IsSameIndex c.args.commit x new) was c.abandon_index.ensures.same in
    record {
      same = set_index c.args.commit at c.args.indexes.now.items items new there c.indexes.invariant.same same;
      newest = set_newest (c.args.commit + 1) at items new there c.indexes.invariant.newest (chains_more c.args.commit (c.args.commit + 1) new.tree c.abandon_index.ensures.below (omega arith));
      below = set_first (λ k x. AllChainsBelow c.args.commit x.tree) at items new there c.indexes.invariant.below c.abandon_index.ensures.below;
      few = set_first (λ k x. length x.tree ≤ 4294967296) at items new there c.indexes.invariant.few c.abandon_index.ensures.few;
    }

pub returns-clause-below : goal.returns-clause-below
returns-clause-below c =
    let count = c.indexes.invariant.same.count in
    all_indexes c.args.commit c.indexes.indexes.items (λ k h. c.indexes.invariant.below k (omega arith))

pub returns-clause-few : goal.returns-clause-few
returns-clause-few c =
    let count = c.indexes.invariant.same.count in
    all_few c.indexes.indexes.items (λ k h. c.indexes.invariant.few k (omega arith))
