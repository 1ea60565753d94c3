-- What the parts of a key list keep.
use Rattle.std.specs.Prelude.{◌≡◌, ℕ, List, [], ◌++◌, ◌+◌, ◌<◌, ◌≤◌, length, Bool, true, Option, IsSome, IfSome, ◌||◌}
use Rattle.std.specs.List.Sorted.{IsStrictlyIncreasing}
use Rattle.rv_keylist.specs.Bits.{is_set}
use Rattle.rv_keylist.specs.Keys.{Once}
use Rattle.rv_keylist.specs.Marks.{Marks, has_bit}

-- The keys are few, in the fixed buffer, or many, in the vector.
pub record Placed (few many : List ℕ) : Type 0 where
  pub moved : 0 < length many → few ≡ []
  pub spilled : 0 < length many → 20 < length many

-- There is room for the places made. A filter that was made has the bits of all keys, and it is there once the keys
-- and the places made are more than 1,024.
pub record Whole (few many : List ℕ) (capacity : ℕ) (filter : Option (List ℕ)) (spare : ℕ)
    (finished : Bool) : Type 0 where
  pub placed : Placed few many
  pub once : Once (few ++ many)
  pub room : 20 < length (few ++ many) + spare → length (few ++ many) + spare ≤ capacity
  pub filtered : 1024 < length (few ++ many) + spare → IsSome filter
  pub marks : IfSome filter (λ words. Marks words (few ++ many))
  pub ascends : finished ≡ true → IsStrictlyIncreasing (few ++ many)

-- a filter has the bits that it had, and those of these keys
pub record AddsBits (old new keys : List ℕ) : Type 0 where
  pub bits : (b : ℕ) → is_set new b ≡ (is_set old b || has_bit b keys)

-- The keys stand as they stood, or those of the vector were few and stand in the fixed buffer now. Few of the vector's
-- are left there.
pub record Moves (few many : List ℕ) (capacity : ℕ) (few' many' : List ℕ) (capacity' : ℕ) : Type 0 where
  pub keys : few' ++ many' ≡ few ++ many
  pub placed : Placed few' many'
  pub room : 0 < length many' → capacity' ≡ capacity
