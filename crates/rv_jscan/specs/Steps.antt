-- What the calls of a joint scan do.
use Rattle.std.specs.Prelude.{◌≡◌, ℕ, ◌+◌, ◌<◌, Bool, true, false, not, ◌&&◌, List, [], ◌∷◌, ◌++◌, length, slice_set, Option, Some, None, is_some, IsPermutation, if◌then◌else◌}
use Rattle.std.specs.List.Sorted.{IsStrictlyIncreasing}
use Rattle.rv_value.specs.declared.record.IndexEntry.{IndexEntry}
use Rattle.rv_judge.specs.declared.counting.Counts.{Counts}
use Rattle.rv_judge.specs.Counting.{one_more, leaf_read, raised}
use Rattle.rv_reader.specs.declared.reader.Chunk.{Chunk}
use Rattle.rv_reader.specs.Shown.{Shown}
use Rattle.rv_jscan.specs.declared.piece.PieceId.{PieceId}
use Rattle.rv_jscan.specs.declared.jscan.ScanPlan.{ScanPlan}
use Rattle.rv_jscan.specs.declared.jscan.ScanCounts.{ScanCounts}
use Rattle.rv_jscan.specs.declared.jscan.Taken.{Taken}
use Rattle.rv_jscan.specs.declared.jscan.Taken.TheVariants.{Piece, Nothing}
use Rattle.rv_jscan.specs.declared.jscan.Given.{Given}
use Rattle.rv_jscan.specs.declared.jscan.Given.TheVariants.{Accepted, Stale}
use Rattle.rv_jscan.specs.Pieces.{Pieced, kept_by, may}
use Rattle.rv_jscan.specs.Joint.{Joint, JointFits, counts_at, leaves_ahead, no_counts, present, under_way}

abbrev pub eight : ScanCounts → List ScanCounts
eight c = c ∷ c ∷ c ∷ c ∷ c ∷ c ∷ c ∷ c ∷ []

-- before the first step
abbrev pub begun : ℕ → ℕ → List ScanPlan → ℕ → ℕ → Joint
begun table snap plans cursor opening = record {
  table = table;
  snap = snap;
  cursor = cursor;
  opening = opening;
  plans = plans;
  counts = eight no_counts;
  ended = 0;
  number = 1;
  place = None;
  held = None;
  building = [];
  list = None;
}

-- the id of the next piece
abbrev pub next_id : Joint → PieceId
next_id j = record { cursor = j.cursor; opening = j.opening; number = j.number }

-- the id of the awaited piece, none where no scan is under way
abbrev pub awaited_id : Joint → Option PieceId
awaited_id j = if under_way j then Some (next_id j) else None

abbrev pub HasEntries : Option Chunk → List IndexEntry → Type 0
HasEntries None entries = ⊥
HasEntries (Some chunk) entries = chunk.entries ≡ entries

-- the piece is the awaited one, which was taken: id, part and entries are its own
pub record Awaits (j : Joint) (piece : Pieced) : Type 0 where
  pub way : under_way j ≡ true
  pub id : piece.id ≡ next_id j
  pub part : piece.part ≡ (present j).part
  pub entries : HasEntries j.held piece.entries

-- a take has to read a leaf
abbrev pub reads_leaf : Joint → Bool
reads_leaf j = under_way j && not (is_some j.held)

abbrev pub leaf_counted : ScanCounts → ScanCounts
leaf_counted c = record c { leaves = one_more c.leaves }

-- the counts with one more leaf of the present scan
abbrev pub one_leaf : Joint → List ScanCounts
one_leaf j = slice_set j.counts j.ended (leaf_counted (counts_at j.counts j.ended))

abbrev pub counts_read : Joint → List ScanCounts
counts_read j = if reads_leaf j then one_leaf j else j.counts

abbrev pub steps_read : Joint → Counts → Counts
steps_read j steps = if reads_leaf j then leaf_read steps else steps

-- what a take leaves: the leaf that it read is counted and may be held; where it reads none all is as before
pub record TakeLeaves (old new : Joint) : Type 0 where
  pub same : new ≡ record old { held = new.held; counts = counts_read old }
  pub none : reads_leaf old ≡ false → new ≡ old

-- what a take answers: a copy of the awaited piece, or nothing where no scan is under way
abbrev pub Takes : Joint → Taken → Type 0
Takes j (Piece piece) = Awaits j piece
Takes j Nothing = under_way j ≡ false

-- the rows that a scan keeps of entries: those that the last complete list, if any, may have
abbrev pub kept_of : Joint → List IndexEntry → List ℕ
kept_of j entries = kept_by (may j.list) (present j).part entries

abbrev pub piece_counted : ScanCounts → ℕ → ℕ → Bool → ScanCounts
piece_counted c entries kept listed =
    record { scanned = raised c.scanned entries; kept = raised c.kept kept; leaves = c.leaves; listed = listed }

abbrev pub counts_after : Joint → List IndexEntry → Bool → List ScanCounts
counts_after j entries listed =
    slice_set j.counts j.ended (piece_counted (counts_at j.counts j.ended) (length entries)
    (length (kept_of j entries)) listed)

-- after an accepted piece that is not the last of its scan
abbrev pub going : Joint → List IndexEntry → IndexEntry → Joint
going j entries cut =
    record j {
      counts = counts_after j entries false;
      number = one_more j.number;
      held = None;
      place = Some cut;
      building = j.building ++ kept_of j entries;
    }

-- after the last one, with these keys as the complete list
abbrev pub completed : Joint → List IndexEntry → List ℕ → Joint
completed j entries keys =
    record j {
      counts = counts_after j entries true;
      ended = j.ended + 1;
      number = one_more j.number;
      held = None;
      place = None;
      building = [];
      list = Some keys;
    }

-- after a scan was abandoned
abbrev pub abandoned : Joint → Joint
abandoned j = record j { ended = j.ended + 1; held = None; place = None; building = [] }

-- a piece is accepted: its scan goes on at the next cut, or completes with the rows kept in ascending order
abbrev pub Accepts : Joint → Joint → List IndexEntry → Option IndexEntry → Type 0
Accepts old new entries (Some cut) = new ≡ going old entries cut
Accepts old new entries None =
    (keys : List ℕ) × IsPermutation (old.building ++ kept_of old entries) keys × IsStrictlyIncreasing keys
    × (new ≡ completed old entries keys)

-- the cut that follows the leaf held
abbrev pub held_next : Option Chunk → Option IndexEntry
held_next None = None
held_next (Some chunk) = chunk.next

-- the entries of the leaf held
abbrev pub held_entries : Option Chunk → List IndexEntry
held_entries None = []
held_entries (Some chunk) = chunk.entries

-- what a give answers and leaves
abbrev pub Gives : Joint → Pieced → Given → Joint → Type 0
Gives old piece Accepted new = Awaits old piece × Accepts old new piece.entries (held_next old.held)
Gives old piece (Stale asked now) new = ¬ Awaits old piece × (asked ≡ piece.id) × (now ≡ awaited_id old) × (new ≡ old)

-- an accepted piece lowers the number of leaves ahead
abbrev pub Nearer : Joint → Joint → Given → Shown → Type 0
Nearer old new Accepted shown = leaves_ahead new shown < leaves_ahead old shown
Nearer old new (Stale asked now) shown = Unit {0}

-- WHAT A STEP DOES: what a take, a sieve and a give of the awaited piece do together.
pub record Works (shown : Shown) (old new : Joint) : Type 0 where
  pub taken : Joint
  pub piece : Pieced
  pub leaves : TakeLeaves old taken
  pub fits : JointFits taken shown
  pub gives : Gives taken piece Accepted new
