-- What the calls of a union on pieces answer.
use Rattle.std.specs.Prelude.{◌≡◌, Bool, true, false, not, ◌&&◌, Option, Some, None, is_some, if◌then◌else◌}
use Rattle.rv_judge.specs.declared.counting.Counts.{Counts}
use Rattle.rv_judge.specs.Counting.{leaf_read}
use Rattle.rv_reader.specs.declared.reader.Chunk.{Chunk}
use Rattle.rv_reader.specs.Shown.{Shown}
use Rattle.rv_jscan.specs.declared.piece.PieceId.{PieceId}
use Rattle.rv_jscan.specs.declared.jscan.ScanCounts.{ScanCounts}
use Rattle.rv_jscan.specs.declared.jscan.Given.{Given}
use Rattle.rv_jscan.specs.declared.jscan.Given.TheVariants.{Accepted, Stale}
use Rattle.rv_jscan.specs.declared.jscan.Taken.{Taken}
use Rattle.rv_jscan.specs.declared.jscan.Taken.TheVariants.{Piece, Nothing}
use Rattle.rv_jscan.specs.Lanes.{IsOwn, Laned}
use Rattle.rv_jscan.specs.Pieces.{Pieced}
use Rattle.rv_jscan.specs.Steps.{leaf_counted}
use Rattle.rv_union.specs.Unioned.{UnionFits, Unioned, present}
use Rattle.rv_final.specs.Shell.{scanning}

-- the id of the next piece
abbrev pub next_id : Unioned → PieceId
next_id u = record { cursor = u.cursor; opening = u.opening; number = u.number }

-- the id of the awaited piece, none where no member is scanned
abbrev pub awaited : Unioned → Option PieceId
awaited u = if scanning u.control then Some (next_id u) else None

-- the piece is the awaited one, once taken: the leaf that the present member holds
pub record Awaits (u : Unioned) (piece : Pieced) : Type 0 where
  pub under_way : scanning u.control ≡ true
  pub own : IsOwn (present u) (next_id u) u.lane piece

-- what a give answers, and that a stale piece changes nothing
abbrev pub Answers : Unioned → Pieced → Given → Unioned → Type 0
Answers old piece Accepted new = Awaits old piece
Answers old piece (Stale asked now) new = ¬ Awaits old piece × (asked ≡ piece.id) × (now ≡ awaited old) × (new ≡ old)

-- what a take answers
abbrev pub TakesPiece : Unioned → Taken → Type 0
TakesPiece u (Piece piece) = Awaits u piece
TakesPiece u Nothing = scanning u.control ≡ false

-- a take has to read a leaf
abbrev pub reads_leaf : Unioned → Bool
reads_leaf u = scanning u.control && not (is_some u.lane.held)

-- the present member's count after a take
abbrev pub count_read : Unioned → ScanCounts
count_read u = if reads_leaf u then leaf_counted u.count else u.count

abbrev pub piece_read : Unioned → Counts → Counts
piece_read u c = if reads_leaf u then leaf_read c else c

-- the present member stands elsewhere in its index
abbrev pub with_lane : Laned → Unioned → Unioned
with_lane l u = record u { lane = l }

-- it holds a leaf
abbrev pub holding : Option Chunk → Unioned → Unioned
holding held u = with_lane (record u.lane { held = held }) u

-- what a take leaves: the leaf that it read is counted and may be held; where it reads none all is as before. The trace
-- tells no more than before.
pub record TakesLeaf (old new : Unioned) : Type 0 where
  pub same : new ≡ record (holding new.lane.held old) { count = count_read old; trace = new.trace }
  pub none : reads_leaf old ≡ false → new.lane ≡ old.lane
  pub named : new.trace.strategy ≡ old.trace.strategy
  pub events : new.trace.events ≡ old.trace.events

-- WHAT HOLDS OF A TAKE, before what it read is counted
pub record Took (shown : Shown) (c d : Counts) (old new : Unioned) : Type 0 where
  pub leaves : TakesLeaf old new
  pub told : new.trace ≡ old.trace
  pub fits : UnionFits new shown
  pub reads : d ≡ piece_read old c
