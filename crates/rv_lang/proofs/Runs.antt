-- Cases of a test, and runs of bytes that pass one.
use Rattle.std.proofs.Common.{◌≡◌, ℕ, ◌≤◌, List, [], ◌∷◌, ◌++◌, Bool, true, false, length, refl, ap, arith}
use Rattle.std.specs.List.{list_all}
use Rattle.std.proofs.lemmas.Bool.{and_parts}
use Rattle.rv_lang.specs.Tokens.{past}
use Rattle.rv_lang.specs.Lexing.{run}

-- a case for each value of a test
pub by : {C : Type 0} (b : Bool) → (b ≡ true → C) → (b ≡ false → C) → C
by true y n = y refl
by false y n = n refl

pub run_past : (p : ℕ → Bool) (bs : List ℕ) → run p bs ++ past p bs ≡ bs
run_past p [] = refl
run_past p (b ∷ bs) = by (p b) (λ e. rw e (ap (λ (xs : List ℕ). b ∷ xs) (run_past p bs))) (λ e. rw e refl)

pub run_all : (p : ℕ → Bool) (bs : List ℕ) → list_all p (run p bs) ≡ true
run_all p [] = refl
run_all p (b ∷ bs) = by (p b) (λ e. simp e (run_all p bs)) (λ e. simp e refl)

pub past_le : (p : ℕ → Bool) (bs : List ℕ) → length (past p bs) ≤ length bs
past_le p [] = omega arith
past_le p (b ∷ bs) = by (p b) (λ e. rw e (omega (arith, past_le p bs))) (λ e. rw e (omega arith))

-- what passes is passed
pub past_shorter : (p : ℕ → Bool) (front rest : List ℕ) → list_all p front ≡ true → length (past p (front ++ rest)) ≤ length rest
past_shorter p [] rest h = past_le p rest
past_shorter p (b ∷ front) rest h = let k = and_parts (p b) (list_all p front) h in rw k.0 (past_shorter p front rest k.1)

-- where nothing more is passed, nothing more stands in the run
run_none : (p : ℕ → Bool) (rest : List ℕ) → length (past p rest) ≡ length rest → run p rest ≡ []
run_none p [] h = refl
run_none p (b ∷ bs) h = by (p b) (λ e. let k : length (past p bs) ≡ length (b ∷ bs) = rw e at h in absurd (omega (arith, past_le p bs, k))) (λ e. rw e refl)

pub run_same : (p : ℕ → Bool) (front rest : List ℕ) → list_all p front ≡ true → length (past p (front ++ rest)) ≡ length rest → run p (front ++ rest) ≡ front
run_same p [] rest h k = run_none p rest k
run_same p (b ∷ front) rest h k = let l = and_parts (p b) (list_all p front) h in rw l.0 (ap (λ (xs : List ℕ). b ∷ xs) (run_same p front rest l.1 (rw l.0 at k)))

-- a run ends where the first byte does not pass
pub Stops : (ℕ → Bool) → List ℕ → Type 0
Stops p [] = Unit {0}
Stops p (b ∷ bs) = p b ≡ false

pub stops_nil : (p : ℕ → Bool) → Stops p []
unfolding Stops
stops_nil p = tt

pub stops_at : (p : ℕ → Bool) (b : ℕ) (bs : List ℕ) → p b ≡ false → Stops p (b ∷ bs)
unfolding Stops
stops_at p b bs h = h

pub past_exact : (p : ℕ → Bool) (front rest : List ℕ) → list_all p front ≡ true → Stops p rest → past p (front ++ rest) ≡ rest
unfolding Stops
past_exact p [] [] h k = refl
past_exact p [] (b ∷ bs) h k = rw k refl
past_exact p (b ∷ front) rest h k = let l = and_parts (p b) (list_all p front) h in rw l.0 (past_exact p front rest l.1 k)

pub run_exact : (p : ℕ → Bool) (front rest : List ℕ) → list_all p front ≡ true → Stops p rest → run p (front ++ rest) ≡ front
unfolding Stops
run_exact p [] [] h k = refl
run_exact p [] (b ∷ bs) h k = rw k refl
run_exact p (b ∷ front) rest h k = let l = and_parts (p b) (list_all p front) h in rw l.0 (ap (λ (xs : List ℕ). b ∷ xs) (run_exact p front rest l.1 k))
