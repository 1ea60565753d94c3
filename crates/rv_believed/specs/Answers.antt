-- Believed: tests, and answers for each of several things. Tests stand in their order; the first
-- that refuses decides.
use Rattle.std.specs.Prelude.{List, [], ◌∷◌, Result, Ok}
use Rattle.rv_lang.specs.declared.reply.Refusal.{Refusal}
use Rattle.rv_catalog.specs.Answers.{◌>>=◌}

-- a test: it passes, or refuses
abbrev pub Test : Type 0
Test = Result (Unit {0}) Refusal

-- the answer for each of them, from the left
abbrev pub answers : {A B : Type 0} → (A → Result B Refusal) → List A → Result (List B) Refusal
answers f [] = Ok []
answers f (x ∷ xs) = do
  y ← f x
  ys ← answers f xs
  Ok (y ∷ ys)
