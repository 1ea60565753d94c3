-- What the calls of an access on pieces answer, and what they leave.
use Rattle.std.specs.Prelude.{◌≡◌, ℕ, Option, None}
use Rattle.rv_judge.specs.declared.counting.Counts.{Counts}
use Rattle.rv_judge.specs.declared.judging.Facts.{Facts}
use Rattle.rv_judge.specs.Counting.{one_more}
use Rattle.rv_judge.specs.Verdicts.{Ruling}
use Rattle.rv_jscan.specs.declared.piece.PieceId.{PieceId}
use Rattle.rv_jscan.specs.declared.jscan.Given.{Given}
use Rattle.rv_jscan.specs.declared.jscan.Given.TheVariants.{Accepted, Stale}
use Rattle.rv_jscan.specs.declared.jscan.Taken.{Taken}
use Rattle.rv_jscan.specs.declared.jscan.Taken.TheVariants.{Piece, Nothing}
use Rattle.rv_jscan.specs.Pieces.{Pieced}
use Rattle.rv_retrieval.specs.Given.{AwaitsPiece as RetrievalAwaits, TakesLeaf as RetrievalTakes, awaited as retrieval_awaited}
use Rattle.rv_retrieval.specs.Rulings.{GivesOn as RetrievalGives}
use Rattle.rv_retrieval.specs.Runs.{IsOfUndropped as RetrievalUndropped, SameCourse as RetrievalCourse}
use Rattle.rv_retrieval.specs.Shape.{Shape}
use Rattle.rv_retrieval.specs.Stepping.{piece_read as retrieval_read}
use Rattle.rv_race.specs.Given.{Awaits as RaceAwaits, TakesLeaf as RaceTakes, awaited as race_awaited, piece_read as race_read}
use Rattle.rv_race.specs.Rulings.{GivesOn as RaceGives, HasNextTurn}
use Rattle.rv_race.specs.Runs.{IsOfUndropped as RaceUndropped}
use Rattle.rv_union.specs.Given.{Awaits as UnionAwaits, TakesLeaf as UnionTakes, awaited as union_awaited, piece_read as union_read}
use Rattle.rv_union.specs.Rulings.{GivesOn as UnionGives}
use Rattle.rv_union.specs.Runs.{IsOfUndropped as UnionUndropped}
use Rattle.rv_access.specs.declared.access.Access.{Access}
use Rattle.rv_access.specs.declared.access.Access.TheVariants.{Competing, Racing, Uniting}
use Rattle.rv_access.specs.declared.racing.RacedQuery.{RacedQuery}
use Rattle.rv_access.specs.declared.uniting.UnitedQuery.{UnitedQuery}
use Rattle.rv_access.specs.Accesses.{Alike, number_of}

-- the id of the awaited piece, none where no scan is under way
abbrev pub awaited : Access → Option PieceId
awaited (Competing v) = retrieval_awaited v.value
awaited (Racing r) = race_awaited r.value.race
awaited (Uniting u) = union_awaited u.value.union

-- the piece is the awaited one, once taken
abbrev pub AwaitsPiece : Access → Pieced → Type 0
AwaitsPiece (Competing v) piece = RetrievalAwaits v.value piece
AwaitsPiece (Racing r) piece = RaceAwaits r.value.race piece
AwaitsPiece (Uniting u) piece = UnionAwaits u.value.union piece

-- what a give answers, and that a stale piece changes nothing
abbrev pub Answers : Access → Pieced → Given → Access → Type 0
Answers old piece Accepted new = AwaitsPiece old piece
Answers old piece (Stale asked now) new =
    ¬ AwaitsPiece old piece × (asked ≡ piece.id) × (now ≡ awaited old) × (new ≡ old)

-- what a take answers
abbrev pub TakesPiece : Access → Taken → Type 0
TakesPiece a (Piece piece) = AwaitsPiece a piece
TakesPiece a Nothing = awaited a ≡ None

-- what a take has read, where it has to read a leaf
abbrev pub piece_read : Access → Counts → Counts
piece_read (Competing v) c = retrieval_read v.value c
piece_read (Racing r) c = race_read r.value.race c
piece_read (Uniting u) c = union_read u.value.union c

-- what a take leaves: the leaf that it read may be held, and the events stay
pub record RetrievalLeaf (old new : Shape) : Type 0 where
  pub same : new ≡ record old { joint = new.joint; trace = new.trace }
  pub leaves : RetrievalTakes old new.joint
  pub course : RetrievalCourse old new

pub record RacedLeaf (old new : RacedQuery) : Type 0 where
  pub same : new ≡ record old { race = new.race }
  pub leaves : RaceTakes old.race new.race

pub record UnitedLeaf (old new : UnitedQuery) : Type 0 where
  pub same : new ≡ record old { union = new.union }
  pub leaves : UnionTakes old.union new.union

abbrev pub TakesLeaf : Access → Access → Type 0
TakesLeaf old new = Alike RetrievalLeaf RacedLeaf UnitedLeaf old new

-- a piece that is handed out is of a scan that was not dropped
abbrev pub IsOfUndropped : Access → Taken → Type 0
IsOfUndropped (Competing v) taken = RetrievalUndropped v.value taken
IsOfUndropped (Racing r) taken = RaceUndropped r.value.race taken
IsOfUndropped (Uniting u) taken = UnionUndropped u.value.union taken

-- what a give leaves of a race
pub record RacedGives (would : ℕ → Facts → Ruling) (state after : ℕ) (piece : Pieced) (given : Given)
    (old new : RacedQuery) : Type 0 where
  pub same : new ≡ record old { race = new.race }
  pub gives : RaceGives would state after piece given old.race new.race
  pub turns : HasNextTurn given old.race new.race

-- what it leaves of a union
pub record UnitedGives (would : ℕ → Facts → Ruling) (state after : ℕ) (piece : Pieced) (given : Given)
    (old new : UnitedQuery) : Type 0 where
  pub same : new ≡ record old { union = new.union }
  pub gives : UnionGives would state after piece given old.union new.union

-- WHAT A GIVE LEAVES: an accepted piece is counted, the judge is asked where its scan goes on, and is obeyed
abbrev pub GivesOn : (ℕ → Facts → Ruling) → ℕ → ℕ → Pieced → Given → Access → Access → Type 0
GivesOn would state after piece given old new =
    Alike (RetrievalGives would state after piece given) (RacedGives would state after piece given)
    (UnitedGives would state after piece given) old new

-- an accepted piece is counted, a stale one is not
abbrev pub CountsPiece : Given → ℕ → ℕ → Type 0
CountsPiece Accepted old new = new ≡ one_more old
CountsPiece (Stale asked now) old new = new ≡ old

-- the same piece is awaited, and none was counted
pub record SamePieces (old new : Access) : Type 0 where
  pub awaited : awaited new ≡ awaited old
  pub number : number_of new ≡ number_of old
