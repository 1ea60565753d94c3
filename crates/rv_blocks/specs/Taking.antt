-- What is taken out of a rising list, and what stands in a place of it.
use Rattle.std.specs.Prelude.{List, ◌++◌, Bool, false, filter, find, not, ◌&&◌, Option, Some, None}

-- the items before another one, and those behind it: what stood in its place is gone
abbrev pub take_from : {X : Type 0} → (X → X → Bool) → X → List X → List X
take_from before old xs = filter (λ x. before x old) xs ++ filter (λ x. before old x) xs

-- the item in the place of another one: it is neither before it nor behind it
abbrev pub standing : {X : Type 0} → (X → X → Bool) → X → List X → Option X
standing before like xs = find (λ x. not (before x like) && not (before like x)) xs

-- whether an item that is not before another one is in its place
abbrev pub is_level : {X : Type 0} → (X → X → Bool) → X → Option X → Bool
is_level before like None = false
is_level before like (Some x) = not (before like x)
