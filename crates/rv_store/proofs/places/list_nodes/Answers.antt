use Rattle.std.proofs.Common.{◌≡◌, ◌∙◌, length, ap, subst, inl, inr, arith}
use Rattle.std.proofs.lemmas.Bool.{cases_lt}
use Rattle.std.proofs.lemmas.List.{get_or_default}
use Rattle.std.specs.List.{slice_index_or}
use Rattle.rv_store.specs.Indexes.{no_index, index_at}
use Rattle.rv_store.specs.Places.{node_places, HasRange}
use Rattle.rv_store.proofs.Placing.{longer_none, longer_trans, node_count, nodes_past, ranges_more}
use Rattle.rv_store.proofs.places.list_nodes.Goals as goal

pub indexes-init : goal.indexes-init
indexes-init c = record {
  longer = longer_none c.args.more.now.items;
  has = λ k low. absurd (omega arith);
}

pub returns-in_err-add_nodes-clause-longer : goal.returns-in_err-add_nodes-clause-longer
returns-in_err-add_nodes-clause-longer c = longer_trans c.args.more.now.items c.indexes.more.items c.add_nodes.new.more.items c.indexes.invariant.longer c.add_nodes.ensures.longer

pub indexes-preserved : goal.indexes-preserved
indexes-preserved c =
    let items = c.args.indexes.now in
    let listed = c.args.listed.now in
    let at = c.indexes.at in
    let old = c.indexes.more.items in
    let new = c.add_nodes.new.more.items in
    let was = get_or_default items at c.index-indexes-at.result no_index c.indexes-test.true in
    let to : c.len-count.result ≡ node_count (index_at items at) = c.len-count.ensures.same ∙ ap node_count was in
    let counted = subst (λ n. HasRange (node_places at) new c.count_at.result n) to c.in_ok-add_nodes.ensures.ok in
    let here = subst (λ n. HasRange (node_places at) new n (node_count (index_at items at))) c.count_at.ensures counted in
    record {
      longer = longer_trans c.args.more.now.items old new c.indexes.invariant.longer c.add_nodes.ensures.longer;
      has = ranges_more node_places (λ k. slice_index_or listed k 0) (λ k. node_count (index_at items k)) at old new c.add_nodes.ensures.longer c.indexes.invariant.has here;
    }

pub returns : goal.returns
returns c =
    let items = c.args.indexes.now in
    let end = c.indexes-test.false in
    record {
      longer = c.indexes.invariant.longer;
      ok = λ k. elim (cases_lt k (length items)) [
        | inl l ↦ c.indexes.invariant.has k (omega arith)
        | inr past ↦ nodes_past items k (slice_index_or c.args.listed.now k 0) c.indexes.more.items past
      ];
    }
