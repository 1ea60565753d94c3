-- What turns make of the story that a pass has seen, which is a history.
use Rattle.std.specs.Prelude.{◌≡◌, ℕ, ◌+◌, ◌-◌, ◌≤◌, List, [], ◌∷◌, ◌++◌, Option, Some, None, Result, Ok, Err, IfOk, length}
use Rattle.rv_value.specs.declared.duplicate.NoMemory.{NoMemory}
use Rattle.rv_lang.specs.declared.reply.Reply.{Reply}
use Rattle.rv_jscan.specs.declared.jscan.Taken.{Taken}
use Rattle.rv_jscan.specs.declared.jscan.Taken.TheVariants as taken
use Rattle.rv_model.specs.declared.entry.Entry.{Entry}
use Rattle.rv_model.specs.History.{IsLegal, after}
use Rattle.rv_turn.specs.State.{IsPassOf, PassState, TurnState}
use Rattle.rv_turn.specs.Story.{GoesOn}
use Rattle.rv_shared.specs.declared.helping.Cutting.{Cutting}
use Rattle.rv_shared.specs.declared.helping.Cutting.TheVariants as cutting
use Rattle.rv_shared.specs.declared.shared.Helped.{Helped}
use Rattle.rv_shared.specs.declared.shared.Helped.TheVariants as helped
use Rattle.rv_shared.specs.Served.{IsFetch, entry}

-- The number of the pass whose session made the entry. Sessions are 1 to 8, and their passes 0 to 7.
abbrev pub maker : Entry → ℕ
maker e = e.session - 1

-- THE WORKS, each by the history that it finds and the one that it leaves

-- a call: the history gains exactly its entry, or nothing where memory was wanting
abbrev pub AddsCall : ℕ → ℕ → List ℕ → List Entry → List Entry → Result Reply NoMemory → Type 0
AddsCall session phase text found left (Ok reply) = left ≡ found ++ entry session phase text reply ∷ []
AddsCall session phase text found left (Err refused) = left ≡ found

pub record CallsOn (session phase : ℕ) (text : List ℕ) (found left : List Entry)
    (answer : Result Reply NoMemory) : Type 0 where
  pub adds : AddsCall session phase text found left answer
  pub legal : IsLegal left

-- one turn's part of a call: the same, or nothing yet
abbrev pub AddsPart : ℕ → ℕ → List ℕ → List Entry → List Entry → Result (Option Reply) NoMemory → Type 0
AddsPart session phase text found left (Ok (Some reply)) = left ≡ found ++ entry session phase text reply ∷ []
AddsPart session phase text found left (Ok None) = IsFetch text × (left ≡ found)
AddsPart session phase text found left (Err refused) = left ≡ found

pub record StepsOn (session phase : ℕ) (text : List ℕ) (found left : List Entry)
    (answer : Result (Option Reply) NoMemory) : Type 0 where
  pub adds : AddsPart session phase text found left answer
  pub legal : IsLegal left

-- how many cursors are open after a history
abbrev pub opens : List Entry → ℕ
opens history = length (after history).cursors

-- what a worker's first turn tells: where it has no piece, how many cursors are open
abbrev pub TellsOf : List Entry → Cutting → Type 0
TellsOf history (cutting.Piece piece) = Unit {0}
TellsOf history (cutting.Idle cursors) = cursors ≡ opens history

pub record TakesOn (found left : List Entry) (answer : Result Cutting NoMemory) : Type 0 where
  pub same : left ≡ found
  pub legal : IsLegal left
  pub tells : IfOk answer (TellsOf left)

-- a worker's second turn
pub record GivesBack (found left : List Entry) : Type 0 where
  pub same : left ≡ found
  pub legal : IsLegal left

-- what a worker's first turn does with the core: a piece is taken, or none is awaited and the store is swept a step
abbrev pub Cuts : {C : Type 0} → (C → ℕ → Result Taken NoMemory → C → Type 0) → (C → C → Type 0) → C → ℕ
    → Result Cutting NoMemory → C → Type 0
Cuts takes sweeps old after (Ok (cutting.Piece piece)) new = takes old after (Ok (taken.Piece piece)) new
Cuts {C} takes sweeps old after (Ok (cutting.Idle cursors)) new =
    (between : C) × takes old after (Ok taken.Nothing) between × sweeps between new
Cuts takes sweeps old after (Err refused) new = takes old after (Err refused) new

-- WHAT A PASS HAS SEEN

-- A pass that has all its turns, and has seen the history at opening.
pub record IsFresh {C : Type 0} (turn : TurnState Entry C) (pass : PassState Entry C) : Type 0 where
  pub own : IsPassOf turn pass
  pub left : pass.left ≡ 4294967295
  pub seen : pass.seen ≡ turn.opening

-- The history goes on from what the pass had seen, without an entry of its session, and ends with this call. It is
-- legal.
pub record Replied (number phase : ℕ) (text : List ℕ) (reply : Reply) (seen now : List Entry) : Type 0 where
  pub found : List Entry
  pub goes_on : GoesOn maker number seen found
  pub last : now ≡ found ++ entry (number + 1) phase text reply ∷ []
  pub legal : IsLegal now

-- The history goes on from what the pass had seen, without an entry of its session. It is legal.
pub record Unanswered (number : ℕ) (seen now : List Entry) : Type 0 where
  pub goes_on : GoesOn maker number seen now
  pub legal : IsLegal now

-- some turns of a call: the reply, or none yet
abbrev pub Turned : ℕ → ℕ → List ℕ → List Entry → List Entry → Option Reply → Type 0
Turned number phase text seen now (Some reply) = Replied number phase text reply seen now
Turned number phase text seen now None = IsFetch text × GoesOn maker number seen now

-- A worker that had nothing to do tells how many cursors are open after what its pass has seen.
abbrev pub TellsIdle : List Entry → Helped → Type 0
TellsIdle seen (helped.Worked given) = Unit {0}
TellsIdle seen (helped.Idle cursors) = cursors ≡ opens seen

-- How many turns a worker's part takes: two where it gave a piece, and one where it had none.
abbrev pub turns_of : Helped → ℕ
turns_of (helped.Worked given) = 2
turns_of (helped.Idle cursors) = 1

-- A call takes at most 64 turns of its pass, and one turn where it is no FETCH.
pub record TakesTurns {C : Type 0} (text : List ℕ) (old new : PassState Entry C) : Type 0 where
  pub granted : new.taken + new.left ≡ old.taken + old.left
  pub most : new.taken ≤ old.taken + 64
  pub one : (IsFetch text → ⊥) → new.taken ≡ old.taken + 1
