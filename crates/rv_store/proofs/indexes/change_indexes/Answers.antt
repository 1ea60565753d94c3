use Rattle.std.proofs.Common.{◌∙◌, ◌≡◌, ◌<◌, ◌+◌, sym, subst, arith, length}
use Rattle.std.specs.List.{slice_index_or}
use Rattle.std.proofs.lemmas.List.{get_or_default}
use Rattle.rv_store.specs.declared.indexes.Index.{Index}
use Rattle.rv_store.specs.Tables.{no_table}
use Rattle.rv_store.specs.Indexes.{no_index, index_at, IsSameIndex, IsThrough}
use Rattle.rv_store.proofs.Listing.{set_index, set_newest, set_first, set_left, through_one}
use Rattle.rv_store.proofs.indexes.change_indexes.Goals as goal

pub returns-in_err-index_changes-clause-same : goal.returns-in_err-index_changes-clause-same
returns-in_err-index_changes-clause-same c =
    let items = c.indexes.indexes.items in
    let at = c.indexes.at in
    let count = c.indexes.invariant.same.count in
    let there : at < length items = omega arith in
    let was = c.index_mut-index.ensures.value ∙ get_or_default items at c.index_mut-index.result.now no_index there in
    set_index c.args.commit at c.args.indexes.now.items items c.index_changes.new.index there c.indexes.invariant.same
    (subst (λ (x : Index). IsSameIndex c.args.commit x c.index_changes.new.index) was c.index_changes.ensures.same)

pub indexes-preserved : goal.indexes-preserved
indexes-preserved c =
    let old = c.args.indexes.now.items in
    let items = c.indexes.indexes.items in
    let at = c.indexes.at in
    let count = c.indexes.invariant.same.count in
    let there : at < length items = omega arith in
    let was = c.index_mut-index.ensures.value ∙ get_or_default items at c.index_mut-index.result.now no_index there in
    let first : c.index_mut-index.result.now ≡ index_at old at = was ∙ c.indexes.invariant.left at (omega arith) in
    let open_ = c.requires.open at (omega arith) in
    let in_range : c.index_mut-index.result.now.table < length c.args.tables.now = subst (λ (x : Index). x.table < length c.args.tables.now) (sym first) open_.there in
    let table = get_or_default c.args.tables.now c.index_mut-index.result.now.table c.index-tables-index.result no_table in_range in
    record {
      same = set_index c.args.commit at old items c.index_changes.new.index there c.indexes.invariant.same
          (subst (λ (x : Index). IsSameIndex c.args.commit x c.index_changes.new.index) was c.index_changes.ensures.same);
      newest = set_newest (c.args.commit + 1) at items c.index_changes.new.index there c.indexes.invariant.newest c.index_changes.ensures.newest;
      through = set_first (λ k x. IsThrough c.args.commit c.args.changes.now c.args.tables.now (index_at old k) x) at items c.index_changes.new.index there c.indexes.invariant.through
          (through_one c.args.commit c.args.changes.now c.args.tables.now (index_at old at) c.index_mut-index.result.now (slice_index_or c.args.tables.now c.index_mut-index.result.now.table c.index-tables-index.result) c.index_changes.new.index first table c.in_ok-index_changes.ensures.ok c.in_ok-index_changes.ensures.tree c.in_ok-index_changes.ensures.few);
      left = set_left at old items c.index_changes.new.index there c.indexes.invariant.left;
    }
