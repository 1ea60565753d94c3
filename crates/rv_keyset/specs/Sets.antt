-- A key set as contracts see it, and the lists in which its keys stand.
use Rattle.std.specs.Prelude.{◌≡◌, ℕ, ◌<◌, ◌≤◌, ◌++◌, ◌∷◌, ◌^◌, ◌&&◌, Bool, true, false, [], List, length, nat_lt, if◌then◌else◌}
use Rattle.std.specs.List.{AllByRecursion}
use Rattle.rv_keylist.specs.Keys.{has_key, Once}
use Rattle.rv_keylist.specs.Listed.{Listed}

-- its keys, ascending, and whether they stand in one list
pub record Keyed : Type 0 where
  pub keys : List ℕ
  pub whole : Bool

-- a key at its place among ascending ones
abbrev pub placed : ℕ → List ℕ → List ℕ
placed key [] = key ∷ []
placed key (k ∷ keys) = if nat_lt key k then key ∷ k ∷ keys else k ∷ placed key keys

-- keys in ascending order
abbrev pub ascending : List ℕ → List ℕ
ascending [] = []
ascending (key ∷ keys) = placed key (ascending keys)

-- the keys of some lists, those of one list after those of another
abbrev pub flat : List Listed → List ℕ
flat [] = []
flat (list ∷ lists) = list.keys ++ flat lists

-- each of some lists is finished
abbrev pub AreFinished : List Listed → Type 0
AreFinished lists = AllByRecursion (λ (list : Listed). list.finished ≡ true) lists

-- no key is of both lists
pub record AreApart (keys others : List ℕ) : Type 0 where
  pub apart : (n : ℕ) → (has_key n keys && has_key n others) ≡ false

-- THE LISTS OF A SET: each is finished, each key stands once, and there is a place for a list.
pub record AreRuns (lists : List Listed) (places : ℕ) : Type 0 where
  pub finished : AreFinished lists
  pub once : Once (flat lists)
  pub small : length (flat lists) < 2 ^ 32
  pub place : 1 ≤ places

-- the keys of some lists and of one that is filled with them: each stands once, and there is room for all
pub record Pours (lists : List Listed) (put : Listed) : Type 0 where
  pub finished : AreFinished lists
  pub unfinished : put.finished ≡ false
  pub room : length (flat lists) ≤ put.spare
  pub once : Once (flat lists ++ put.keys)
