-- What the background's calls of a retrieval answer.
use Rattle.std.specs.Prelude.{◌≡◌, Bool, true, false, Option, None, if◌then◌else◌, ◌&&◌, nat_lt, ◌+◌, length, not}
use Rattle.rv_jscan.specs.declared.piece.PieceId.{PieceId}
use Rattle.rv_jscan.specs.declared.jscan.Given.{Given}
use Rattle.rv_jscan.specs.declared.jscan.Given.TheVariants.{Accepted, Stale}
use Rattle.rv_jscan.specs.declared.jscan.Taken.{Taken}
use Rattle.rv_jscan.specs.declared.jscan.Taken.TheVariants.{Piece, Nothing}
use Rattle.rv_jscan.specs.Joint.{Joint, is_empty_list}
use Rattle.rv_jscan.specs.Pieces.{Pieced}
use Rattle.rv_jscan.specs.Steps.{Awaits, TakeLeaves, awaited_id}
use Rattle.rv_retrieval.specs.Shape.{Shape, is_background}

-- the piece that is awaited: that of the joint scan, where a background runs
abbrev pub awaited : Shape → Option PieceId
awaited v = if is_background v.control then awaited_id v.joint else None

-- the piece is the awaited one, once taken
pub record AwaitsPiece (v : Shape) (piece : Pieced) : Type 0 where
  pub back : is_background v.control ≡ true
  pub awaits : Awaits v.joint piece

-- what a give answers, and that a stale piece changes nothing
abbrev pub Answers : Shape → Pieced → Given → Shape → Type 0
Answers old piece Accepted new = AwaitsPiece old piece
Answers old piece (Stale asked now) new =
    ¬ AwaitsPiece old piece × (asked ≡ piece.id) × (now ≡ awaited old) × (new ≡ old)

-- what a take answers
abbrev pub TakesPiece : Shape → Taken → Type 0
TakesPiece v (Piece piece) = AwaitsPiece v piece
TakesPiece v Nothing = awaited v ≡ None

-- what a take leaves of the joint scan, where a background runs and where none does
abbrev pub TakesLeafBy : Bool → Joint → Joint → Type 0
TakesLeafBy true old new = TakeLeaves old new
TakesLeafBy false old new = new ≡ old

abbrev pub TakesLeaf : Shape → Joint → Type 0
TakesLeaf v new = TakesLeafBy (is_background v.control) v.joint new

-- whether a further scan is planned behind the present one, and the complete list, if any, has a key
abbrev pub more_behind : Joint → Bool
more_behind j = nat_lt (j.ended + 1) (length j.plans) && not (is_empty_list j.list)
