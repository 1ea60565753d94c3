-- Nodes in which a search by halves finds its way.
use Rattle.std.specs.Prelude.{◌≡◌, ◌&&◌, ℕ, zero, suc, List, drop, Bool, true}
use Rattle.std.specs.List.{list_all}
use Rattle.rv_value.specs.declared.record.IndexEntry.{IndexEntry}
use Rattle.rv_value.specs.declared.range.Range.{Range}
use Rattle.rv_reader.specs.Entries.{Ascend, reaches}
use Rattle.rv_node.specs.Nodes.{Parts}
use Rattle.rv_node.specs.Stored.{EachOf}

-- the key of an entry has at least as many values as each bound of the range
abbrev pub is_long : Range → IndexEntry → Bool
is_long range e = reaches range.low e.key && reaches range.high e.key

abbrev pub any : IndexEntry → Bool
any e = true

-- ascending, and all of them pass a test
pub record Ranks (q : IndexEntry → Bool) (es : List IndexEntry) : Type 0 where
  pub ascend : Ascend es
  pub all : list_all q es ≡ true

-- the entries of a leaf, and the low entries of the children after the first, here and in all nodes below
abbrev pub IsRanked : (ℕ → Parts) → (IndexEntry → Bool) → (level : ℕ) → ℕ → Type 0
IsRanked at q zero id = Ranks q (at id).entries
IsRanked at q (suc level) id = Ranks q (drop 1 (at id).entries) × EachOf (IsRanked at q level) (at id).children
