-- What the calls of a race on pieces answer.
use Rattle.std.specs.Prelude.{◌≡◌, ℕ, Bool, true, false, not, ◌&&◌, List, Option, Some, None, is_some, slice_set, if◌then◌else◌}
use Rattle.rv_judge.specs.declared.counting.Counts.{Counts}
use Rattle.rv_judge.specs.Counting.{leaf_read}
use Rattle.rv_reader.specs.declared.reader.Chunk.{Chunk}
use Rattle.rv_reader.specs.Shown.{Shown}
use Rattle.rv_jscan.specs.declared.piece.PieceId.{PieceId}
use Rattle.rv_jscan.specs.declared.jscan.ScanPlan.{ScanPlan}
use Rattle.rv_jscan.specs.declared.jscan.ScanCounts.{ScanCounts}
use Rattle.rv_jscan.specs.declared.jscan.Given.{Given}
use Rattle.rv_jscan.specs.declared.jscan.Given.TheVariants.{Accepted, Stale}
use Rattle.rv_jscan.specs.declared.jscan.Taken.{Taken}
use Rattle.rv_jscan.specs.declared.jscan.Taken.TheVariants.{Piece, Nothing}
use Rattle.rv_jscan.specs.Joint.{counts_at, plan_at}
use Rattle.rv_jscan.specs.Lanes.{IsOwn, Laned}
use Rattle.rv_jscan.specs.Pieces.{Pieced}
use Rattle.rv_jscan.specs.Steps.{leaf_counted}
use Rattle.rv_race.specs.Raced.{RaceFits, Raced}
use Rattle.rv_final.specs.Shell.{scanning}

-- the scan whose turn it is
abbrev pub turn_scan : Raced → ℕ
turn_scan r = r.running.turn.scan

abbrev pub turn_plan : Raced → ScanPlan
turn_plan r = plan_at r.plans (turn_scan r)

abbrev pub turn_lane : Raced → Laned
turn_lane r = r.running.turn.lane

-- the id of the next piece
abbrev pub next_id : Raced → PieceId
next_id r = record { cursor = r.cursor; opening = r.opening; number = r.number }

-- the id of the awaited piece, none where no scan is under way
abbrev pub awaited : Raced → Option PieceId
awaited r = if scanning r.control then Some (next_id r) else None

-- the piece is the awaited one, once taken: the leaf that the scan whose turn it is holds
pub record Awaits (r : Raced) (piece : Pieced) : Type 0 where
  pub under_way : scanning r.control ≡ true
  pub own : IsOwn (turn_plan r) (next_id r) (turn_lane r) piece

-- what a give answers, and that a stale piece changes nothing
abbrev pub Answers : Raced → Pieced → Given → Raced → Type 0
Answers old piece Accepted new = Awaits old piece
Answers old piece (Stale asked now) new = ¬ Awaits old piece × (asked ≡ piece.id) × (now ≡ awaited old) × (new ≡ old)

-- what a take answers
abbrev pub TakesPiece : Raced → Taken → Type 0
TakesPiece r (Piece piece) = Awaits r piece
TakesPiece r Nothing = scanning r.control ≡ false

-- a take has to read a leaf
abbrev pub reads_leaf : Raced → Bool
reads_leaf r = scanning r.control && not (is_some (turn_lane r).held)

-- the counts with one more leaf of the scan whose turn it is
abbrev pub one_leaf : Raced → List ScanCounts
one_leaf r = slice_set r.counts (turn_scan r) (leaf_counted (counts_at r.counts (turn_scan r)))

abbrev pub counts_read : Raced → List ScanCounts
counts_read r = if reads_leaf r then one_leaf r else r.counts

abbrev pub piece_read : Raced → Counts → Counts
piece_read r c = if reads_leaf r then leaf_read c else c

-- the scan whose turn it is stands elsewhere in its index
abbrev pub with_lane : Laned → Raced → Raced
with_lane l r = record r { running = record r.running { turn = record r.running.turn { lane = l } } }

-- it holds a leaf
abbrev pub holding : Option Chunk → Raced → Raced
holding held r = with_lane (record (turn_lane r) { held = held }) r

-- what a take leaves: the leaf that it read is counted and may be held; where it reads none all is as before. The trace
-- tells no more than before.
pub record TakesLeaf (old new : Raced) : Type 0 where
  pub same : new ≡ record (holding (turn_lane new).held old) { counts = counts_read old; trace = new.trace }
  pub none : reads_leaf old ≡ false → new.running ≡ old.running
  pub named : new.trace.strategy ≡ old.trace.strategy
  pub events : new.trace.events ≡ old.trace.events

-- WHAT HOLDS OF A TAKE, before what it read is counted
pub record Took (shown : Shown) (c d : Counts) (old new : Raced) : Type 0 where
  pub leaves : TakesLeaf old new
  pub told : new.trace ≡ old.trace
  pub fits : RaceFits new shown
  pub reads : d ≡ piece_read old c
