use Rattle.std.proofs.Common.{◌≡◌, ◌∙◌, ◌<◌, ℕ, ap, arith, length, slice_set, subst, sym}
use Rattle.std.proofs.lemmas.List.{get_or_default}
use Rattle.rv_store.specs.Places.{node_places, AreListed}
use Rattle.rv_store.specs.Indexes.{no_index, index_at}
use Rattle.rv_store.proofs.Placing.{listed_set, node_count}
use Rattle.rv_store.proofs.places.count_nodes.Goals as goal

pub returns : goal.returns
returns c =
    let items = c.args.indexes.now in
    let counts = c.args.nodes.now.items in
    let at = c.args.index in
    let there : at < length items = (let low = c.if-index-indexes.false in omega (arith, low)) in
    let fits : at < length counts = (let low = c.if-index-len.false in let count = c.len.ensures in omega (arith, low, count)) in
    let was = get_or_default items at c.index-indexes-index.result no_index there in
    let is : c.len-2.result ≡ node_count (index_at items at) = c.len-2.ensures.same ∙ ap node_count was in
    subst (λ n. AreListed node_places (λ (k : ℕ). node_count (index_at items k)) counts (slice_set counts at n)) (sym is) (listed_set node_places (λ (k : ℕ). node_count (index_at items k)) counts at fits)
