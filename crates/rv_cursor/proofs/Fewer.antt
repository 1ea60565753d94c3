-- Of how many records a plan fetches that moves.
use Rattle.std.proofs.Common.{◌≡◌, ◌⊎◌, inl, inr, ℕ, ◌+◌, ◌-◌, ◌≤◌, List, [], ◌∷◌, ◌++◌, length, Option, Some, None, refl, ap, sym, ◌∙◌, subst, arith, zero, suc, zero-add, le-add_right}
use Rattle.rv_judge.specs.declared.counting.Counts.{Counts}
use Rattle.rv_judge.specs.declared.judging.Facts.{Facts}
use Rattle.rv_judge.specs.Verdicts.{Ruling}
use Rattle.rv_lang.specs.declared.reply.Reply.{Reply}
use Rattle.rv_model.specs.declared.state.Offer.{Offer}
use Rattle.rv_reader.specs.Shown.{Shown}
use Rattle.rv_judge.specs.Counting.{raised}
use Rattle.rv_access.specs.Accesses.{Settled, fetches_left}
use Rattle.rv_join.specs.Alone.{FewFetches, IsAlone, plan_fetches}
use Rattle.rv_join.specs.declared.places.Asked.{Asked}
use Rattle.rv_join.specs.Plans.{Planned}
use Rattle.rv_reader.specs.declared.step.Step.{Step}
use Rattle.rv_reader.specs.declared.step.Step.TheVariants.{Row, Working, End}
use Rattle.rv_cursor.specs.Fetches.{LosesNone, lost_in, lost_of}
use Rattle.rv_cursor.specs.Moves.{Beside, BesideBy, EndsBeside, FetchMoves, GivesBack, LacksBeside, Move, MovesBy, MovesByAll, Ruled, StepsBack, StepsBacks, StepsBeside, TakesOut, Turn, TurnMoves, TurnsOn}
use Rattle.rv_cursor.specs.Moves.Move.{Front, Lost, Take, Give}
use Rattle.rv_cursor.proofs.Moving.{all_on}

-- Records fetched and left.

few_none : (shown : Shown) (p : Planned) → FewFetches 0 shown p p
few_none shown p = record { settled = λ s. s; few = λ s. le-add_right (plan_fetches shown p) 0 }

pub add_few : (a b c m n : ℕ) → b ≤ a + m → c ≤ b + n → c ≤ a + (m + n)
add_few a b c m n first then = omega (arith, first, then)

few_then : (m n : ℕ) (shown : Shown) (a b c : Planned) → FewFetches m shown a b → FewFetches n shown b c → FewFetches (m + n) shown a c
few_then m n shown a b c first then = record {
  settled = λ s. then.settled (first.settled s);
  few = λ s. add_few (plan_fetches shown a) (plan_fetches shown b) (plan_fetches shown c) m n (first.few s) (then.few (first.settled s));
}

-- a take where no piece is awaited reads nothing
take_sum : (had has c d left were : ℕ) → has ≡ raised had (d - c) → d ≡ c → left ≡ were → has + left ≤ had + were + 0
take_sum had has c d left were counted same kept = omega (arith, counted, same, kept)

take_few : (shown : Shown) (old new : Ruled) → TakesOut shown old new → IsAlone old.plan → FewFetches 0 shown old.plan new.plan
take_few shown old new takes one =
    let once = takes.once one in
    record {
      settled = λ s. (once.settled s).0;
      few = λ s. take_sum old.plan.reads.records new.plan.reads.records takes.before.records takes.after.records (fetches_left new.plan.stack.at.here shown) (fetches_left old.plan.stack.at.here shown) takes.counts.fetches (ap (λ (k : Counts). k.records) (once.settled s).1) (once.settled s).2;
    }

still_few : (shown : Shown) (old new : Ruled) → new ≡ old → plan_fetches shown new.plan ≤ plan_fetches shown old.plan + 0
still_few shown old new same = subst (λ (r : Ruled). plan_fetches shown r.plan ≤ plan_fetches shown old.plan + 0) (sym same) (le-add_right (plan_fetches shown old.plan) 0)

give_few : (would : ℕ → Facts → Ruling) (shown : Shown) (old new : Ruled) → GivesBack would shown old new → IsAlone old.plan → FewFetches 0 shown old.plan new.plan
give_few would shown old new gives one = record {
  settled = λ s. subst (λ (r : Ruled). Settled r.plan.stack.at.here) (sym (gives.settled one s)) s;
  few = λ s. still_few shown old new (gives.settled one s);
}

move_few : (move : Move) (would : ℕ → Facts → Ruling) (shown : Shown) (old new : Ruled) → MovesBy move would shown old new → IsAlone old.plan → FewFetches (lost_of move) shown old.plan new.plan
move_few Front would shown old new by one = by.1.few one
move_few Lost would shown old new by one = by.few one
move_few Take would shown old new by one = take_few shown old new by one
move_few Give would shown old new by one = give_few would shown old new by one

move_asked : (move : Move) (would : ℕ → Facts → Ruling) (shown : Shown) (old new : Ruled) → MovesBy move would shown old new → new.plan.asked ≡ old.plan.asked
move_asked Front would shown old new by = by.1.asked
move_asked Lost would shown old new by = by.asked
move_asked Take would shown old new by = by.stays.asked
move_asked Give would shown old new by = by.stays.asked

pub moves_asked : (moves : List Move) (would : ℕ → Facts → Ruling) (shown : Shown) (old new : Ruled) → MovesByAll moves would shown old new → new.plan.asked ≡ old.plan.asked
moves_asked [] would shown old new made = ap (λ (r : Ruled). r.plan.asked) made
moves_asked (move ∷ moves) would shown old new made = move_asked move would shown made.0 new made.2 ∙ moves_asked moves would shown old made.0 made.1

pub still_alone : (old new : Planned) → new.asked ≡ old.asked → IsAlone old → IsAlone new
still_alone old new same one = subst (λ (a : Asked). length a.items ≡ 1) (sym same) one

-- the law
pub moves_few : (moves : List Move) (would : ℕ → Facts → Ruling) (shown : Shown) (old new : Ruled) → MovesByAll moves would shown old new → IsAlone old.plan → FewFetches (lost_in moves) shown old.plan new.plan
moves_few [] would shown old new made one = subst (λ (r : Ruled). FewFetches 0 shown old.plan r.plan) (sym made) (few_none shown old.plan)
moves_few (move ∷ moves) would shown old new made one =
    let first = moves_few moves would shown old made.0 made.1 one in
    let then = move_few move would shown made.0 new made.2 (still_alone old.plan made.0.plan (moves_asked moves would shown old made.0 made.1) one) in
    few_then (lost_in moves) (lost_of move) shown old.plan made.0.plan new.plan first then

-- Answered calls lose no foreground step.

lose_nothing : (would : ℕ → Facts → Ruling) (shown : Shown) (old new : Ruled) → new ≡ old → LosesNone would shown old new
lose_nothing would shown old new same = record { moves = []; made = same; none = refl }

pub more_all : (all xs ys x : ℕ) → all ≡ xs + ys → all + x ≡ xs + x + ys
more_all all xs ys x rest = omega (arith, rest)

pub lost_all : (xs ys : List Move) → lost_in (xs ++ ys) ≡ lost_in xs + lost_in ys
lost_all [] ys = sym (zero-add (lost_in ys))
lost_all (x ∷ xs) ys = more_all (lost_in (xs ++ ys)) (lost_in xs) (lost_in ys) (lost_of x) (lost_all xs ys)

pub no_sum : (all xs ys : ℕ) → all ≡ xs + ys → xs ≡ 0 → ys ≡ 0 → all ≡ 0
no_sum all xs ys sum first then = omega (arith, sum, first, then)

lost_none : (xs ys : List Move) → lost_in xs ≡ 0 → lost_in ys ≡ 0 → lost_in (xs ++ ys) ≡ 0
lost_none xs ys first then = no_sum (lost_in (xs ++ ys)) (lost_in xs) (lost_in ys) (lost_all xs ys) first then

lose_on : (would : ℕ → Facts → Ruling) (shown : Shown) (a b c : Ruled) → LosesNone would shown a b → LosesNone would shown b c → LosesNone would shown a c
lose_on would shown a b c first then = record {
  moves = then.moves ++ first.moves;
  made = all_on then.moves first.moves would shown a b c first.made then.made;
  none = lost_none then.moves first.moves then.none first.none;
}

back_loses : (would : ℕ → Facts → Ruling) (shown : Shown) (old new : Ruled) → StepsBack would shown old new → LosesNone would shown old new
back_loses would shown old new back = record { moves = Give ∷ Take ∷ []; made = (back.taken, (old, refl, back.takes), back.gives); none = refl }

pub backs_lose : (done : ℕ) (would : ℕ → Facts → Ruling) (shown : Shown) (old new : Ruled) → StepsBacks done would shown old new → LosesNone would shown old new
backs_lose zero would shown old new steps = lose_nothing would shown old new steps
backs_lose (suc n) would shown old new steps = lose_on would shown old steps.0 new (backs_lose n would shown old steps.0 steps.1) (back_loses would shown steps.0 new steps.2)

besides_lose : (done : ℕ) (would : ℕ → Facts → Ruling) (shown : Shown) (old new : Ruled) → StepsBeside done would shown old new → LosesNone would shown old new
besides_lose zero would shown old new steps = lose_nothing would shown old new steps
besides_lose (suc n) would shown old new steps = lose_on would shown old steps.0 new (besides_lose n would shown old steps.0 steps.1) (back_loses would shown steps.0 new steps.3)

-- the take of one for which no memory was found is no foreground step
ends_lose : (done most : ℕ) (would : ℕ → Facts → Ruling) (shown : Shown) (last new : Ruled) → EndsBeside done most last new ⊎ LacksBeside done most shown last new → LosesNone would shown last new
ends_lose done most would shown last new (inl ends) = lose_nothing would shown last new ends.same
ends_lose done most would shown last new (inr lacks) = record { moves = Take ∷ []; made = (last, refl, lacks.lacks.takes); none = refl }

all_beside : (most : ℕ) (would : ℕ → Facts → Ruling) (shown : Shown) (old new : Ruled) → Beside most would shown old new → LosesNone would shown old new
all_beside most would shown old new beside = lose_on would shown old beside.last new (besides_lose beside.done would shown old beside.last beside.steps) (ends_lose beside.done most would shown beside.last new beside.ends)

beside_loses : (step : Step Offer) (most : ℕ) (would : ℕ → Facts → Ruling) (shown : Shown) (old new : Ruled) → BesideBy step most would shown old new → LosesNone would shown old new
beside_loses (Row o) most would shown old new beside = all_beside most would shown old new beside
beside_loses End most would shown old new same = lose_nothing would shown old new same
beside_loses Working most would shown old new beside = all_beside most would shown old new beside

pub turn_loses : (step : Step Offer) (most : ℕ) (would : ℕ → Facts → Ruling) (shown : Shown) (old new : Ruled) → Turn step most would shown old new → LosesNone would shown old new
turn_loses step most would shown old new turn = lose_on would shown old turn.stepped new (record { moves = Front ∷ []; made = (old, refl, (step, turn.front)); none = refl }) (beside_loses step most would shown turn.stepped new turn.beside)

turns_lose : (n most : ℕ) (would : ℕ → Facts → Ruling) (shown : Shown) (old new : Ruled) → TurnsOn n most would shown old new → LosesNone would shown old new
turns_lose zero most would shown old new turns = lose_nothing would shown old new turns
turns_lose (suc n) most would shown old new turns = lose_on would shown old turns.0 new (turns_lose n most would shown old turns.0 turns.1) (turn_loses Working most would shown turns.0 new turns.2)

last_loses : (hand : Option Offer) (replies : Option (Reply × Reply)) (most : ℕ) (would : ℕ → Facts → Ruling) (shown : Shown) (old new : Ruled) → TurnMoves hand replies most would shown old new → LosesNone would shown old new
last_loses (Some o) replies most would shown old new turn = lose_nothing would shown old new turn.1
last_loses None replies most would shown old new turn = turn_loses turn.0 most would shown old new turn.2

pub fetch_loses : (hand : Option Offer) (most : ℕ) (would : ℕ → Facts → Ruling) (shown : Shown) (old new : Ruled) → FetchMoves hand most would shown old new → LosesNone would shown old new
fetch_loses hand most would shown old new fetch = lose_on would shown old fetch.mid new (turns_lose fetch.turns most would shown old fetch.mid fetch.made) (last_loses hand (Some fetch.replies) most would shown fetch.mid new fetch.last)
