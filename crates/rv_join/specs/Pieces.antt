-- The pieces of a plan: those of the first retrieval in FROM order that awaits one.
use Rattle.std.specs.Prelude.{◌≡◌, ℕ, Bool, ◌||◌, List, [], ◌∷◌, length, Option, Some, None, is_some, position, zero, suc}
use Rattle.std.specs.List.{list_any, slice_index_or}
use Rattle.rv_judge.specs.Counting.{one_more, raised}
use Rattle.rv_jscan.specs.declared.piece.PieceId.{PieceId}
use Rattle.rv_jscan.specs.declared.jscan.Given.{Given}
use Rattle.rv_jscan.specs.declared.jscan.Given.TheVariants.{Accepted, Stale}
use Rattle.rv_jscan.specs.declared.jscan.Taken.{Taken}
use Rattle.rv_jscan.specs.declared.jscan.Taken.TheVariants.{Piece, Nothing}
use Rattle.rv_jscan.specs.Pieces.{Pieced}
use Rattle.rv_retrieval.specs.Shape.{is_building}
use Rattle.rv_access.specs.declared.access.Access.{Access}
use Rattle.rv_access.specs.Accesses.{control_of, number_of}
use Rattle.rv_access.specs.Given.{AwaitsPiece, awaited}
use Rattle.rv_join.specs.declared.level.Level.{Level}
use Rattle.rv_join.specs.Levels.{Stacked}
use Rattle.rv_join.specs.Plans.{Planned}

abbrev pub is_waiting : Level → Bool
is_waiting l = is_some (awaited l.here)

abbrev pub place_or : Option ℕ → ℕ → ℕ
place_or None n = n
place_or (Some at) n = at

-- the place of the first level above the innermost one that awaits a piece, else that of the innermost one
abbrev pub waits : Stacked → ℕ
waits v = place_or (position is_waiting v.above) (length v.above)

abbrev pub level_at : Stacked → ℕ → Level
level_at v i = slice_index_or v.above i v.at

-- THE RETRIEVAL whose pieces are the plan's
abbrev pub waiting : Planned → Access
waiting p = (level_at p.stack (waits p.stack)).here

-- the same one after a call
abbrev pub waited : Planned → Planned → Access
waited old new = (level_at new.stack (waits old.stack)).here

abbrev pub plan_awaited : Planned → Option PieceId
plan_awaited p = awaited (waiting p)

-- what a give answers, and that a stale piece changes nothing
abbrev pub GivesPiece : Planned → Pieced → Given → Planned → Type 0
GivesPiece old piece Accepted new = AwaitsPiece (waiting old) piece
GivesPiece old piece (Stale asked now) new =
    ¬ AwaitsPiece (waiting old) piece × (asked ≡ piece.id) × (now ≡ plan_awaited old) × (new ≡ old)

-- what a take answers of the awaited piece
abbrev pub TakesAwaited : Planned → Taken → Type 0
TakesAwaited p (Piece piece) = plan_awaited p ≡ Some piece.id
TakesAwaited p Nothing = plan_awaited p ≡ None

-- some retrieval has both sides running
abbrev pub stack_builds : Stacked → Bool
stack_builds v = list_any (λ (l : Level). is_building (control_of l.here)) v.above || is_building (control_of v.at.here)

-- THE NUMBER OF THE NEXT PIECE: over one FROM item that of its retrieval, over several those of the open retrievals
-- added
abbrev pub pieces_in : List Level → Level → ℕ
pieces_in [] at = number_of at.here
pieces_in (l ∷ ls) at = raised (number_of l.here) (pieces_in ls at)

abbrev pub plan_pieces : Planned → ℕ
plan_pieces p = pieces_in p.stack.above p.stack.at

-- raised by one so many times; it stays at the greatest u64
abbrev pub counted_up : ℕ → ℕ → ℕ
counted_up n zero = n
counted_up n (suc m) = one_more (counted_up n m)

-- the same piece is awaited of some levels, and of a stack, and none was counted
pub record LevelsAwait (old new : List Level) : Type 0 where
  pub count : length new ≡ length old
  pub first : position is_waiting new ≡ position is_waiting old
  pub each : (i : ℕ) (d : Level) → awaited (slice_index_or new i d).here ≡ awaited (slice_index_or old i d).here
  pub pieces : (at : Level) → pieces_in new at ≡ pieces_in old at

pub record StackAwaits (old new : Stacked) : Type 0 where
  pub place : waits new ≡ waits old
  pub same : awaited (level_at new (waits new)).here ≡ awaited (level_at old (waits old)).here
  pub pieces : pieces_in new.above new.at ≡ pieces_in old.above old.at
