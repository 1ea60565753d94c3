-- A line at a time.
use Rattle.std.specs.Prelude.{◌≡◌, ◌<◌, ◌==◌, ℕ, List, [], ◌∷◌, ◌++◌, Bool, Option, false, if◌then◌else◌, length}
use Rattle.std.specs.List.{AllByRecursion}
use Rattle.std.specs.Io.KnownBytes.{Consumes}

-- no byte of these ends a line
abbrev pub HasNoFeed : List ℕ → Type 0
HasNoFeed bytes = AllByRecursion (λ (b : ℕ). (b == 10) ≡ false) bytes

-- A LINE: bytes without a line feed, and a line feed, where it is ended.
pub record IsLine (line : List ℕ) (ended : Bool) : Type 0 where
  pub front : List ℕ
  pub free : HasNoFeed front
  pub is : line ≡ front ++ (if ended then 10 ∷ [] else [])

-- A LINE WAS TAKEN: what pended and what was read is the line, and what pends now.
pub record TakesLine (old new : Option (List ℕ)) (before after line : List ℕ) : Type 0 where
  pub piece : List ℕ
  pub taken : Consumes old new piece
  pub whole : before ++ piece ≡ line ++ after

-- Some bytes were taken.
pub record TakesSome (old new : Option (List ℕ)) : Type 0 where
  pub piece : List ℕ
  pub taken : Consumes old new piece

-- What pended and what was read is more than so many bytes, and no line feed is among them.
pub record TakesLongLine (old new : Option (List ℕ)) (before : List ℕ) (most : ℕ) : Type 0 where
  pub piece : List ℕ
  pub taken : Consumes old new piece
  pub free : HasNoFeed (before ++ piece)
  pub long : most < length (before ++ piece)
