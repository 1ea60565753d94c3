-- Leaves, in which the entries of an index are read. The first leaf is what stands before the first cut, each
-- further one what stands from a cut on and before the next.
use Rattle.std.specs.Prelude.{◌≡◌, ℕ, ◌+◌, ◌<◌, ◌≤◌, List, [], ◌∷◌, ◌++◌, Bool, true, false, not, ◌&&◌, if◌then◌else◌, Option, Some, None, length, filter}
use Rattle.rv_value.specs.declared.record.IndexEntry.{IndexEntry}
use Rattle.rv_value.specs.declared.range.Range.{Range}
use Rattle.rv_value.specs.declared.range.Side.{Side}
use Rattle.rv_value.specs.declared.range.Side.TheVariants.{Before, In, After}
use Rattle.rv_value.specs.Ranges.{place}
use Rattle.rv_reader.specs.Entries.{comes_before, is_in, run}
use Rattle.rv_reader.specs.declared.reader.Chunk.{Chunk}

abbrev pub before_side : Side → Bool
before_side Before = true
before_side In = false
before_side After = false

abbrev pub after_side : Side → Bool
after_side Before = false
after_side In = false
after_side After = true

-- the entries from one on, all where there is none
abbrev pub from_on : Option IndexEntry → List IndexEntry → List IndexEntry
from_on None entries = entries
from_on (Some start) entries = filter (λ (e : IndexEntry). not (comes_before e start)) entries

-- the entries before one, all where there is none
abbrev pub up_to : Option IndexEntry → List IndexEntry → List IndexEntry
up_to None entries = entries
up_to (Some cut) entries = filter (λ (e : IndexEntry). comes_before e cut) entries

-- a leaf: the cut at which it begins, none for the first one, and the cut that follows, none for the last one
pub record Leaf : Type 0 where
  pub low : Option IndexEntry
  pub next : Option IndexEntry

-- the last leaf that begins at a cut which passes a test
abbrev pub leaf_from : (IndexEntry → Bool) → Option IndexEntry → List IndexEntry → Leaf
leaf_from passes low [] = record { low = low; next = None }
leaf_from passes low (cut ∷ cuts) =
    if passes cut then leaf_from passes (Some cut) cuts else record { low = low; next = Some cut }

-- the cut is not behind the leaf in which a reading begins: its key is before the range, or it is not above the
-- entry from which on is read
abbrev pub is_passed : Option IndexEntry → Range → IndexEntry → Bool
is_passed None range cut = before_side (place range cut.key)
is_passed (Some start) range cut = not (comes_before start cut)

-- the leaf in which a reading begins
abbrev pub leaf_at : List IndexEntry → Option IndexEntry → Range → Leaf
leaf_at cuts start range = leaf_from (is_passed start range) None cuts

abbrev pub leaf_entries : Leaf → List IndexEntry → List IndexEntry
leaf_entries leaf entries = up_to leaf.next (from_on leaf.low entries)

-- the following cut, none where its key is after the range
abbrev pub within : Range → Option IndexEntry → Option IndexEntry
within range None = None
within range (Some cut) = if after_side (place range cut.key) then None else Some cut

-- what is still to be read of a run: that from an entry on, or from a cut on where there is a following one
abbrev pub run_from : List IndexEntry → Range → Option IndexEntry → List IndexEntry
run_from entries range start = run (from_on start entries) range

abbrev pub run_after : List IndexEntry → Range → Option IndexEntry → List IndexEntry
run_after entries range None = []
run_after entries range (Some cut) = run_from entries range (Some cut)

-- whether an entry is from another one on, where there is one, and in the range
abbrev pub is_from : Option IndexEntry → IndexEntry → Bool
is_from None e = true
is_from (Some start) e = not (comes_before e start)

abbrev pub is_wanted : Range → Option IndexEntry → IndexEntry → Bool
is_wanted range start e = is_from start e && is_in range e

-- before a cut, where there is one
abbrev pub is_below : Option IndexEntry → IndexEntry → Bool
is_below None e = true
is_below (Some cut) e = comes_before e cut

-- wanted of a leaf that ends at a cut
abbrev pub is_taken : Range → Option IndexEntry → Option IndexEntry → IndexEntry → Bool
is_taken range start next e = is_wanted range start e && is_below next e

-- how many leaves may still be read from an entry on, or from a cut on where there is a following one
abbrev pub leaves_from : List IndexEntry → Option IndexEntry → ℕ
leaves_from cuts None = length cuts + 1
leaves_from cuts (Some start) = length (filter (comes_before start) cuts) + 1

abbrev pub leaves_after : List IndexEntry → Option IndexEntry → ℕ
leaves_after cuts None = 0
leaves_after cuts (Some cut) = leaves_from cuts (Some cut)

-- a cut is ahead of where a reading begins, and not behind the range
abbrev pub is_ahead : Option IndexEntry → Range → IndexEntry → Bool
is_ahead start range cut = not (is_passed start range cut) && not (after_side (place range cut.key))

-- HOW MANY LEAVES MAY HOLD what is still to be read of a range: the one in which the reading begins, and one for each
-- cut ahead; from a cut on where there is a following one
abbrev pub leaves_for : List IndexEntry → Range → Option IndexEntry → ℕ
leaves_for cuts range start = length (filter (is_ahead start range) cuts) + 1

abbrev pub leaves_behind : List IndexEntry → Range → Option IndexEntry → ℕ
leaves_behind cuts range None = 0
leaves_behind cuts range (Some cut) = leaves_for cuts range (Some cut)

-- one leaf's part of a range. The first two facts say what is read; from these it follows that the leaves one after
-- another give the whole run, and that their number falls. A store's leaf has at most 32 entries, that of a view with a
-- transaction's changes 16 more.
pub record IsChunk (entries cuts : List IndexEntry) (range : Range) (start : Option IndexEntry) (chunk : Chunk)
    : Type 0 where
  pub found : chunk.entries ≡ run_from (leaf_entries (leaf_at cuts start range) entries) range start
  pub following : chunk.next ≡ within range (leaf_at cuts start range).next
  pub short : length chunk.entries ≤ 48
  pub parts : run_from entries range start ≡ chunk.entries ++ run_after entries range chunk.next
  pub nearer : leaves_after cuts chunk.next < leaves_from cuts start
