-- Bytes cut at a byte: at line feeds, at spaces.
use Rattle.std.specs.Prelude.{ℕ, List, [], ◌∷◌, ◌++◌, Option, Some, None, ◌==◌, if◌then◌else◌}

-- what stands before the first such byte, and what stands behind it, where there is one
pub record Cut : Type 0 where
  pub word : List ℕ
  pub more : Option (List ℕ)

abbrev pub extended : List ℕ → Cut → Cut
extended front c = record { word = front ++ c.word; more = c.more }

abbrev pub cut : ℕ → List ℕ → Cut
cut byte [] = record { word = []; more = None }
cut byte (c ∷ cs) = if c == byte then record { word = []; more = Some cs } else extended (c ∷ []) (cut byte cs)

-- complete lines, and the rest
pub record Split : Type 0 where
  pub lines : List (List ℕ)
  pub rest : List ℕ

abbrev pub grown : ℕ → List (List ℕ) → List ℕ → Split
grown c [] rest = record { lines = []; rest = c ∷ rest }
grown c (l ∷ ls) rest = record { lines = (c ∷ l) ∷ ls; rest = rest }

abbrev pub split : List ℕ → Split
split [] = record { lines = []; rest = [] }
split (c ∷ cs) =
    if c == 10 then record { lines = [] ∷ (split cs).lines; rest = (split cs).rest }
    else grown c (split cs).lines (split cs).rest
