-- The pieces that a STEP and a FETCH take and give.
use Rattle.std.proofs.Common.{◌≡◌, ◌⊎◌, ℕ, ◌+◌, ◌≤◌, List, [], ◌∷◌, ◌++◌, Option, Some, None, inl, inr, refl, sym, subst, arith, zero, suc, zero-add, add-one}
use Rattle.rv_judge.specs.declared.judging.Facts.{Facts}
use Rattle.rv_judge.specs.Verdicts.{Ruling}
use Rattle.rv_lang.specs.declared.reply.Reply.{Reply}
use Rattle.rv_model.specs.declared.state.Offer.{Offer}
use Rattle.rv_reader.specs.Shown.{Shown}
use Rattle.rv_reader.specs.declared.step.Step.{Step}
use Rattle.rv_reader.specs.declared.step.Step.TheVariants.{Row, Working, End}
use Rattle.rv_cursor.specs.Fetches.{lost_in}
use Rattle.rv_cursor.specs.Moves.{Beside, BesideBy, EndsBeside, FetchMoves, LacksBeside, Move, Ruled, StepsBack, StepsBacks, StepsBeside, Turn, TurnMoves, TurnsOn}
use Rattle.rv_cursor.specs.Moves.Move.{Front, Take, Give}
use Rattle.rv_cursor.proofs.Fewer.{no_sum, lost_all, more_all}
use Rattle.rv_cursor.proofs.Moving.{all_on}
use Rattle.rv_sums.specs.Sums.{TakesGive, given_in, given_of, taken_in, taken_of}

nothing : (would : ℕ → Facts → Ruling) (shown : Shown) (old new : Ruled) → new ≡ old → TakesGive 0 would shown old new
nothing would shown old new same = record { moves = []; made = same; none = refl; pieces = omega arith }

taken_all : (xs ys : List Move) → taken_in (xs ++ ys) ≡ taken_in xs + taken_in ys
taken_all [] ys = sym (zero-add (taken_in ys))
taken_all (x ∷ xs) ys = more_all (taken_in (xs ++ ys)) (taken_in xs) (taken_in ys) (taken_of x) (taken_all xs ys)

given_all : (xs ys : List Move) → given_in (xs ++ ys) ≡ given_in xs + given_in ys
given_all [] ys = sym (zero-add (given_in ys))
given_all (x ∷ xs) ys = more_all (given_in (xs ++ ys)) (given_in xs) (given_in ys) (given_of x) (given_all xs ys)

pieces_on : (t t1 t2 g g1 g2 m n : ℕ) → t ≡ t1 + t2 → g ≡ g1 + g2 → t1 ≤ g1 + m → t2 ≤ g2 + n → t ≤ g + (n + m)
pieces_on t t1 t2 g g1 g2 m n taken given first then = omega (arith, taken, given, first, then)

on : (n m : ℕ) (would : ℕ → Facts → Ruling) (shown : Shown) (a b c : Ruled) → TakesGive n would shown a b → TakesGive m would shown b c → TakesGive (n + m) would shown a c
on n m would shown a b c first then = record {
  moves = then.moves ++ first.moves;
  made = all_on then.moves first.moves would shown a b c first.made then.made;
  none = no_sum (lost_in (then.moves ++ first.moves)) (lost_in then.moves) (lost_in first.moves) (lost_all then.moves first.moves) then.none first.none;
  pieces = pieces_on (taken_in (then.moves ++ first.moves)) (taken_in then.moves) (taken_in first.moves) (given_in (then.moves ++ first.moves)) (given_in then.moves) (given_in first.moves) m n (taken_all then.moves first.moves) (given_all then.moves first.moves) then.pieces first.pieces;
}

back : (would : ℕ → Facts → Ruling) (shown : Shown) (old new : Ruled) → StepsBack would shown old new → TakesGive 0 would shown old new
back would shown old new b = record { moves = Give ∷ Take ∷ []; made = (b.taken, (old, refl, b.takes), b.gives); none = refl; pieces = omega arith }

pub step_takes : (done : ℕ) (would : ℕ → Facts → Ruling) (shown : Shown) (old new : Ruled) → StepsBacks done would shown old new → TakesGive 0 would shown old new
step_takes zero would shown old new steps = nothing would shown old new steps
step_takes (suc n) would shown old new steps = on 0 0 would shown old steps.0 new (step_takes n would shown old steps.0 steps.1) (back would shown steps.0 new steps.2)

steps_beside : (done : ℕ) (would : ℕ → Facts → Ruling) (shown : Shown) (old new : Ruled) → StepsBeside done would shown old new → TakesGive 0 would shown old new
steps_beside zero would shown old new steps = nothing would shown old new steps
steps_beside (suc n) would shown old new steps = on 0 0 would shown old steps.0 new (steps_beside n would shown old steps.0 steps.1) (back would shown steps.0 new steps.3)

raise : (n m : ℕ) (would : ℕ → Facts → Ruling) (shown : Shown) (old new : Ruled) → n ≤ m → TakesGive n would shown old new → TakesGive m would shown old new
raise n m would shown old new low takes = record { moves = takes.moves; made = takes.made; none = takes.none; pieces = more (taken_in takes.moves) (given_in takes.moves) n m takes.pieces low }
  where
    more : (t g n m : ℕ) → t ≤ g + n → n ≤ m → t ≤ g + m
    more t g n m pieces low = omega (arith, pieces, low)

-- the piece of a step for which no memory was found is taken, and not given
ends : (done most : ℕ) (would : ℕ → Facts → Ruling) (shown : Shown) (last new : Ruled) → EndsBeside done most last new ⊎ LacksBeside done most shown last new → TakesGive 1 would shown last new
ends done most would shown last new (inl e) = raise 0 1 would shown last new (omega arith) (nothing would shown last new e.same)
ends done most would shown last new (inr l) = record { moves = Take ∷ []; made = (last, refl, l.lacks.takes); none = refl; pieces = omega arith }

all_beside : (most : ℕ) (would : ℕ → Facts → Ruling) (shown : Shown) (old new : Ruled) → Beside most would shown old new → TakesGive 1 would shown old new
all_beside most would shown old new b = on 0 1 would shown old b.last new (steps_beside b.done would shown old b.last b.steps) (ends b.done most would shown b.last new b.ends)

beside_by : (step : Step Offer) (most : ℕ) (would : ℕ → Facts → Ruling) (shown : Shown) (old new : Ruled) → BesideBy step most would shown old new → TakesGive 1 would shown old new
beside_by (Row o) most would shown old new b = all_beside most would shown old new b
beside_by End most would shown old new same = raise 0 1 would shown old new (omega arith) (nothing would shown old new same)
beside_by Working most would shown old new b = all_beside most would shown old new b

turn : (step : Step Offer) (most : ℕ) (would : ℕ → Facts → Ruling) (shown : Shown) (old new : Ruled) → Turn step most would shown old new → TakesGive 1 would shown old new
turn step most would shown old new t = on 0 1 would shown old t.stepped new (record { moves = Front ∷ []; made = (old, refl, (step, t.front)); none = refl; pieces = omega arith }) (beside_by step most would shown t.stepped new t.beside)

turns : (n most : ℕ) (would : ℕ → Facts → Ruling) (shown : Shown) (old new : Ruled) → TurnsOn n most would shown old new → TakesGive n would shown old new
turns zero most would shown old new t = nothing would shown old new t
turns (suc n) most would shown old new t = subst (λ (m : ℕ). TakesGive m would shown old new) (add-one n) (on n 1 would shown old t.0 new (turns n most would shown old t.0 t.1) (turn Working most would shown t.0 new t.2))

last_turn : (hand : Option Offer) (replies : Option (Reply × Reply)) (most : ℕ) (would : ℕ → Facts → Ruling) (shown : Shown) (old new : Ruled) → TurnMoves hand replies most would shown old new → TakesGive 1 would shown old new
last_turn (Some o) replies most would shown old new t = raise 0 1 would shown old new (omega arith) (nothing would shown old new t.1)
last_turn None replies most would shown old new t = turn t.0 most would shown old new t.2

pub fetch_takes : (hand : Option Offer) (most : ℕ) (would : ℕ → Facts → Ruling) (shown : Shown) (old new : Ruled) (fetch : FetchMoves hand most would shown old new) → TakesGive (fetch.turns + 1) would shown old new
fetch_takes hand most would shown old new fetch = on fetch.turns 1 would shown old fetch.mid new (turns fetch.turns most would shown old fetch.mid fetch.made) (last_turn hand (Some fetch.replies) most would shown fetch.mid new fetch.last)
