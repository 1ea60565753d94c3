-- A tree of so many entries, all of rows below their number and each with a key of one value.
use Rattle.std.specs.Prelude.{ℕ, ◌<◌, ◌≡◌, length}
use Rattle.std.specs.List.{AllByRecursion}
use Rattle.rv_value.specs.declared.record.IndexEntry.{IndexEntry}
use Rattle.rv_reader.specs.Storing.{AreKeys}
use Rattle.rv_versions.specs.Chains.{AllChainsBelow}
use Rattle.rv_index.specs.Index.{Nodes, entries_of, cuts_of, IsSound}

pub record IsFilled (count : ℕ) (tree : Nodes) : Type 0 where
  pub sound : IsSound tree 1
  pub newest : AllChainsBelow 2 tree
  pub number : length (entries_of tree 1) ≡ count
  pub rows : AllByRecursion (λ (e : IndexEntry). e.row.0 < count) (entries_of tree 1)
  pub keys : AreKeys 1 (entries_of tree 1)
  pub cuts : AreKeys 1 (cuts_of tree 1)
