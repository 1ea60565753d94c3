use Rattle.std.proofs.Common.{◌∙◌, ◌<◌, refl, subst, arith, length}
use Rattle.std.proofs.lemmas.List.{get_or_default}
use Rattle.rv_store.specs.declared.indexes.Index.{Index}
use Rattle.rv_store.specs.Indexes.{no_index}
use Rattle.rv_store.specs.Places.{IsSameFrom}
use Rattle.rv_store.proofs.Turning.{node_purged, set_index_from}
use Rattle.rv_store.proofs.places.purge_node.Goals as goal

pub returns-clause-same : goal.returns-clause-same
returns-clause-same c =
    let items = c.args.indexes.now.items in
    let at = c.args.index in
    let there : at < length items = omega (arith, c.len.ensures) in
    let was = c.index_mut.ensures.value ∙ get_or_default items at c.index_mut.result.now no_index there in
    let old = c.index_mut.result.now in
    let kept : IsSameFrom c.args.horizon old (record { table = old.table; columns = old.columns; tree = c.purge.new.self }) = record {
      table = refl;
      columns = refl;
      count = c.purge.ensures.len;
      same = c.purge.ensures.same;
      below = c.purge.ensures.newest;
    } in
    set_index_from c.args.horizon at items _ there (subst (λ (x : Index). IsSameFrom c.args.horizon x (record { table = old.table; columns = old.columns; tree = c.purge.new.self })) was kept)

pub returns-clause-purged : goal.returns-clause-purged
returns-clause-purged c =
    let items = c.args.indexes.now.items in
    let there : c.args.index < length items = omega (arith, c.len.ensures) in
    node_purged c.args.horizon c.args.index c.args.id items _ there c.purge.ensures.one
