-- Pieces of what is read and written.
use Rattle.std.specs.Prelude.{◌≡◌, ℕ, ◌+◌, ◌<◌, ◌≤◌, List, ◌++◌, length, take, Option, Result, Ok, Err, MatchResult, OnOk, OnErr}
use Rattle.rv_io.specs.declared.traits.Failed.{Failed}
use Rattle.rv_io.specs.Causes.{Rose}
use Rattle.std.specs.Io.KnownBytes.{Consumes, Keeps, IsAtEnd, Appends}

-- At Ok(n) the first n bytes of the buffer were the first bytes left, and n is 0 exactly where none is left; at a
-- fault nothing was taken.
abbrev pub Reads : {E : Type 0} → Option (List ℕ) → Option (List ℕ) → Result ℕ E → List ℕ → Type 0
Reads old new r buf =
    MatchResult r (λ n. Consumes old new (take n buf) × (n ≤ length buf) × (n ≡ 0 → IsAtEnd new)) (λ _. Keeps old new)

-- At Ok(n) the first n bytes were appended, 1 or more; at a fault nothing was.
abbrev pub Writes : {E : Type 0} → Option (List ℕ) → Option (List ℕ) → Result ℕ E → List ℕ → Type 0
Writes old new r bytes =
    MatchResult r (λ n. Appends old new (take n bytes) × (n ≤ length bytes)
    × (0 < length bytes → 0 < n)) (λ _. Keeps old new)

-- The list gained a piece, which was taken.
pub record TakesPiece (old new : Option (List ℕ)) (before now : List ℕ) (n : ℕ) : Type 0 where
  pub piece : List ℕ
  pub gained : now ≡ before ++ piece
  pub count : length piece ≡ n
  pub taken : Consumes old new piece
  pub end : n ≡ 0 → IsAtEnd new

-- So many bytes were taken at most.
pub record TakesUpTo (old new : Option (List ℕ)) (most : ℕ) : Type 0 where
  pub bytes : List ℕ
  pub taken : Consumes old new bytes
  pub few : length bytes ≤ most

-- These are all the bytes that were left.
pub record TakesAll (old new : Option (List ℕ)) (bytes : List ℕ) : Type 0 where
  pub taken : Consumes old new bytes
  pub end : IsAtEnd new

-- One byte more than the limit was taken.
pub record TakesTooMany (old new : Option (List ℕ)) (limit : ℕ) : Type 0 where
  pub bytes : List ℕ
  pub taken : Consumes old new bytes
  pub many : length bytes ≡ limit + 1

-- Some bytes at the front were appended.
pub record AppendsFront (old new : Option (List ℕ)) (bytes : List ℕ) : Type 0 where
  pub count : ℕ
  pub within : count ≤ length bytes
  pub front : Appends old new (take count bytes)

-- All the bytes were appended, or a fault came and some at the front were.
pub record Wrote (old new : Option (List ℕ)) (before now : ℕ) (result : Result (Unit {0}) Failed)
    (bytes : List ℕ) : Type 0 where
  pub ok : OnOk result (Appends old new bytes)
  pub err : OnErr result (AppendsFront old new bytes)
  pub cause : OnErr result (Rose before now)
  pub later : before ≤ now

-- After a result so far: the bytes are written where it is Ok; where it is a fault, it stays, and nothing is done.
abbrev pub GoesOn : Result (Unit {0}) Failed → Option (List ℕ) → Option (List ℕ) → ℕ → ℕ → Result (Unit {0}) Failed
    → List ℕ → Type 0
GoesOn (Ok u) old new before now result bytes = Wrote old new before now result bytes
GoesOn (Err e) old new before now result bytes = (result ≡ Err e) × (new ≡ old) × (now ≡ before)

pub record Goes (sofar : Result (Unit {0}) Failed) (old new : Option (List ℕ)) (before now : ℕ)
    (result : Result (Unit {0}) Failed) (bytes : List ℕ) : Type 0 where
  pub on : GoesOn sofar old new before now result bytes
