use Rattle.std.proofs.Common.{◌≡◌, ◌+◌, take, drop}
use Rattle.rv_rows.specs.Changes.{rows_with_changes}
use Rattle.rv_versions.specs.Chains.{AllChainsBelow}
use Rattle.rv_records.specs.Pages.{rows_at}
use Rattle.rv_index.specs.Index.{tree_of}
use Rattle.rv_store.specs.Indexes.{IsSameIndex}
use Rattle.rv_store.specs.Indexing.{tree_through, IsIndexed}
use Rattle.rv_store.proofs.indexes.index_part.Given as goal

-- the changes up to a place have been made, and those from it on make of the tree what all make of the old one
abbrev pub invariant-changes : goal.invariant-changes
invariant-changes l =
    let index = l.initial.index in
    let rows = rows_at l.records l.commit in
    let so_far = rows_with_changes index.table (take l.change-index l.changes) rows in
    record {
      same : IsSameIndex l.commit index l.index;
      newest : AllChainsBelow (l.commit + 1) l.index.tree;
      indexed : IsIndexed index.columns so_far l.commit l.index.tree;
      tree : tree_through index.columns index.table (drop l.change-index l.changes) so_far (tree_of l.index.tree l.commit) ≡ tree_through index.columns index.table l.changes rows (tree_of index.tree l.commit);
    }
