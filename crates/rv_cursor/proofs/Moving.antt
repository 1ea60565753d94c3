-- How a cursor's plan moves: one call after another.
use Rattle.std.proofs.Common.{◌≡◌, ℕ, ◌+◌, ◌<◌, ◌≤◌, List, [], ◌∷◌, ◌++◌, true, false, Option, Some, None, IsSome, refl, ap, sym, ◌∙◌, subst, inl, inr, arith, zero, suc, add-one}
use Rattle.rv_judge.specs.declared.counting.Counts.{Counts}
use Rattle.rv_judge.specs.declared.judging.Facts.{Facts}
use Rattle.rv_judge.specs.Verdicts.{Ruling}
use Rattle.rv_judge.specs.Counting.{one_more}
use Rattle.rv_lang.specs.declared.reply.Reply.{Reply}
use Rattle.rv_lang.specs.declared.reply.Reply.TheVariants.{End as TheEnd}
use Rattle.rv_model.specs.declared.state.Offer.{Offer}
use Rattle.rv_reader.specs.Shown.{Shown}
use Rattle.rv_jscan.specs.Pieces.{Pieced}
use Rattle.rv_jscan.specs.declared.piece.PieceId.{PieceId}
use Rattle.rv_jscan.specs.declared.jscan.Given.{Given}
use Rattle.rv_jscan.specs.declared.jscan.Given.TheVariants.{Accepted, Stale}
use Rattle.rv_access.specs.Accesses.{Settled}
use Rattle.rv_access.specs.Given.{AwaitsPiece, CountsPiece, GivesOn, piece_read}
use Rattle.rv_access.specs.Stepping.{SameCourse}
use Rattle.rv_retrieval.specs.Effort.{GiveSpends}
use Rattle.rv_judge.specs.Tracing.{CountsRise, SameCounts}
use Rattle.rv_join.specs.Alone.{FewFetches, IsAlone, PlanAsks, PlanSpends, Spends, StepsOnce, TakesOnce, plan_effort}
use Rattle.rv_join.specs.Levels.{first_of}
use Rattle.rv_join.specs.Pieces.{GivesPiece, counted_up, plan_awaited, plan_pieces, stack_builds, waited, waiting}
use Rattle.rv_join.specs.Plans.{PlanFits, PlanKept, PlanMoves, PlanStays, Planned, WorkTo, plan_trace, plan_work}
use Rattle.rv_reader.specs.declared.step.Step.{Step}
use Rattle.rv_reader.specs.declared.step.Step.TheVariants.{Row, Working, End}
use Rattle.rv_reader.specs.declared.step.Step.TheVariants as comes
use Rattle.rv_cursor.specs.Moves.{Beside, BesideBy, FetchMoves, GivesBack, LacksMemory, Move, Moves, MovesBy, MovesByAll, RepliesTo, Ruled, StepsBack, StepsBacks, StepsBeside, StepsFront, TakesOut, Turn, TurnMoves, TurnsOn, WorksPiece}
use Rattle.rv_cursor.specs.Moves.Move.{Front, Take, Give}

-- Moves.

pub moves_rest : (would : ℕ → Facts → Ruling) (shown : Shown) (s : Ruled) → Moves would shown s s
moves_rest would shown s = record { moves = []; made = refl }

pub moves_same : (would : ℕ → Facts → Ruling) (shown : Shown) (old new : Ruled) → new ≡ old → Moves would shown old new
moves_same would shown old new same = record { moves = []; made = same }

pub moves_by : (move : Move) (would : ℕ → Facts → Ruling) (shown : Shown) (old new : Ruled) → MovesBy move would shown old new → Moves would shown old new
moves_by move would shown old new by = record { moves = move ∷ []; made = (old, refl, by) }

pub all_on : (moves before : List Move) (would : ℕ → Facts → Ruling) (shown : Shown) (a b c : Ruled) → MovesByAll before would shown a b → MovesByAll moves would shown b c → MovesByAll (moves ++ before) would shown a c
all_on [] before would shown a b c first then = subst (MovesByAll before would shown a) (sym then) first
all_on (move ∷ moves) before would shown a b c first then = (then.0, all_on moves before would shown a b then.0 first then.1, then.2)

-- what is said of a judge's meaning and a reader is said of the same ones
turned : (P : (ℕ → Facts → Ruling) → Shown → Type 0) (v w : ℕ → Facts → Ruling) (s t : Shown) → v ≡ w → s ≡ t → P v s → P w t
turned P v w s t rule seen p = subst (λ (u : ℕ → Facts → Ruling). P u t) rule (subst (P v) seen p)

-- one call after another, under a judge whose meaning stays
pub moves_on : (v w : ℕ → Facts → Ruling) (s t : Shown) (a b c : Ruled) → v ≡ w → s ≡ t → Moves w t a b → Moves v s b c → Moves w t a c
moves_on v w s t a b c rule seen first then = by (turned (λ u x. Moves u x b c) v w s t rule seen then)
  where
    by : Moves w t b c → Moves w t a c
    by more = record { moves = more.moves ++ first.moves; made = all_on more.moves first.moves w t a b c first.made more.made }

-- A foreground step.

work_le : (m : Step Offer) (n k : ℕ) → WorkTo m n k → k ≤ n
work_le (Row o) n k less = less
work_le End n k less = less
work_le Working n k less = omega (arith, less)

pub front_ok : (m : Step Offer) (would : ℕ → Facts → Ruling) (shown : Shown) (state after : ℕ) (c d : Counts) (old new : Planned) → CountsRise (plan_trace old) (plan_trace new) c d → PlanAsks would state after shown c d old new → (IsAlone old → StepsOnce would state after shown c d old.stack.at new.stack.at) → PlanMoves shown m old new → (IsAlone old → PlanSpends m c d (plan_effort shown old) (plan_effort shown new)) → (IsAlone old → FewFetches 0 shown old new) → PlanFits shown new → StepsFront (Some m) would shown (record { plan = old; judge = state }) (record { plan = new; judge = after })
front_ok m would shown state after c d old new counts asks once moves spends few fits = record { asked = moves.asked; before = c; after = d; counts = counts; asks = asks; once = once; work = work_le m (plan_work shown old) (plan_work shown new) moves.work; answers = moves; spends = spends; few = few; fits = fits }

pub front_err : (would : ℕ → Facts → Ruling) (shown : Shown) (state after : ℕ) (c d : Counts) (old new : Planned) → CountsRise (plan_trace old) (plan_trace new) c d → PlanAsks would state after shown c d old new → (IsAlone old → StepsOnce would state after shown c d old.stack.at new.stack.at) → PlanKept shown old new → (IsAlone old → FewFetches 1 shown old new) → PlanFits shown new → StepsFront None would shown (record { plan = old; judge = state }) (record { plan = new; judge = after })
front_err would shown state after c d old new counts asks once kept few fits = record { asked = kept.asked; before = c; after = d; counts = counts; asks = asks; once = once; work = kept.work; answers = tt; spends = λ alone. tt; few = few; fits = fits }

pub front_moves : (step : Step Offer) (would : ℕ → Facts → Ruling) (shown : Shown) (old new : Ruled) → StepsFront (Some step) would shown old new → Moves would shown old new
front_moves step would shown old new front = moves_by Front would shown old new (step, front)

-- the row in hand is given, which leaves the plan
pub moves_given : (would : ℕ → Facts → Ruling) (shown : Shown) (after : ℕ) (old : Ruled) (new given : Planned) → given ≡ new → Moves would shown old (record { plan = new; judge = after }) → Moves would shown old (record { plan = given; judge = after })
moves_given would shown after old new given same moves = rw same moves

-- A background step.

pub takes_out : (shown : Shown) (state : ℕ) (c d : Counts) (old new : Planned) → d ≡ piece_read (waiting old) c → CountsRise (plan_trace old) (plan_trace new) c d → (IsAlone old → TakesOnce shown c d old.stack.at new.stack.at) → plan_awaited new ≡ plan_awaited old → plan_pieces new ≡ plan_pieces old → SameCourse (first_of old.stack).here (first_of new.stack).here → PlanStays shown old new → PlanFits shown new → TakesOut shown (record { plan = old; judge = state }) (record { plan = new; judge = state })
takes_out shown state c d old new reads counts once awaited pieces course stays fits = record { judge = refl; before = c; after = d; reads = reads; counts = counts; once = once; awaited = awaited; pieces = pieces; course = course; stays = stays; fits = fits }

pub ruled_same : (old new : Planned) (state after : ℕ) → (new ≡ old) × (after ≡ state) → ◌≡◌ {A = Ruled} (record { plan = new; judge = after }) (record { plan = old; judge = state })
ruled_same old new state after same = rw (same.0, same.1) refl

-- the awaited piece, given as it was taken, is accepted
pub gives_back : (g : Given) (would : ℕ → Facts → Ruling) (shown : Shown) (state after : ℕ) (piece sieved : Pieced) (old new : Planned) → AwaitsPiece (waiting old) piece → sieved ≡ piece → GivesPiece old sieved g new → GivesOn would state after sieved g (waiting old) (waited old new) → CountsPiece g (plan_pieces old) (plan_pieces new) → SameCounts (plan_trace old) (plan_trace new) → GiveSpends g (plan_work shown old) (plan_work shown new) → (IsAlone old → GiveSpends g (plan_effort shown old) (plan_effort shown new)) → (IsAlone old → Settled old.stack.at.here → (new ≡ old) × (after ≡ state)) → PlanStays shown old new → PlanFits shown new → GivesBack would shown (record { plan = old; judge = state }) (record { plan = new; judge = after })
gives_back Accepted would shown state after piece sieved old new awaits same gives obeys counted counts lowers less settled stays fits = record { piece = sieved; awaits = subst (AwaitsPiece (waiting old)) (sym same) awaits; obeys = obeys; counted = counted; counts = counts; lowers = lowers; less = less; settled = λ one s. ruled_same old new state after (settled one s); stays = stays; fits = fits }
gives_back (Stale asked now) would shown state after piece sieved old new awaits same gives obeys counted counts lowers less settled stays fits = absurd (gives.0 (subst (AwaitsPiece (waiting old)) (sym same) awaits))

pub back_is : (would : ℕ → Facts → Ruling) (shown : Shown) (state : ℕ) (c d : Counts) (old mid : Planned) (new : Ruled) → d ≡ piece_read (waiting old) c → CountsRise (plan_trace old) (plan_trace mid) c d → (IsAlone old → TakesOnce shown c d old.stack.at mid.stack.at) → plan_awaited mid ≡ plan_awaited old → plan_pieces mid ≡ plan_pieces old → SameCourse (first_of old.stack).here (first_of mid.stack).here → PlanStays shown old mid → PlanFits shown mid → (IsAlone old → Spends c d (plan_effort shown old) (plan_effort shown mid)) → GivesBack would shown (record { plan = mid; judge = state }) new → StepsBack would shown (record { plan = old; judge = state }) new
back_is would shown state c d old mid new reads counts once awaited pieces course stays fits spends gives = record {
  taken = record { plan = mid; judge = state };
  takes = record { judge = refl; before = c; after = d; reads = reads; counts = counts; once = once; awaited = awaited; pieces = pieces; course = course; stays = stays; fits = fits };
  spends = spends;
  gives = gives;
}

pub back_moves : (would : ℕ → Facts → Ruling) (shown : Shown) (old new : Ruled) → StepsBack would shown old new → Moves would shown old new
back_moves would shown old new back = record { moves = Give ∷ Take ∷ []; made = (back.taken, (old, refl, back.takes), back.gives) }

-- no memory was found to take the awaited piece
pub lacks_take : (shown : Shown) (old new : Ruled) → (plan_awaited old.plan ≡ None → ⊥) → TakesOut shown old new → LacksMemory shown old new
lacks_take shown old new some takes = record { awaits = some_is (plan_awaited old.plan) some; takes = takes }
  where
    some_is : {X : Type 0} (o : Option X) → (o ≡ None → ⊥) → IsSome o
    some_is (Some x) h = refl
    some_is None h = absurd (h refl)

-- it was taken, and no memory was found to give it
pub lacks_give : (shown : Shown) (state after : ℕ) (id : PieceId) (old mid new : Planned) → plan_awaited old ≡ Some id → TakesOut shown (record { plan = old; judge = state }) (record { plan = mid; judge = state }) → new ≡ mid → after ≡ state → LacksMemory shown (record { plan = old; judge = state }) (record { plan = new; judge = after })
lacks_give shown state after id old mid new is takes same quiet = rw (same, quiet) (record { awaits = subst IsSome (sym is) refl; takes = takes })

pub lacks_moves : (would : ℕ → Facts → Ruling) (shown : Shown) (old new : Ruled) → LacksMemory shown old new → Moves would shown old new
lacks_moves would shown old new lacks = moves_by Take would shown old new lacks.takes

-- none is awaited
pub none_works : (state : ℕ) (old new : Planned) → plan_awaited old ≡ None → new ≡ old → (plan_awaited old ≡ None) × (◌≡◌ {A = Ruled} (record { plan = new; judge = state }) (record { plan = old; judge = state }))
none_works state old new none same = (none, ap (λ (p : Planned). record { plan = p; judge = state }) same)

-- Background steps, one after another.

pub backs_more : (done : ℕ) (v w : ℕ → Facts → Ruling) (s t : Shown) (a b c : Ruled) → v ≡ w → s ≡ t → StepsBacks done w t a b → WorksPiece true v s b c → StepsBacks (done + 1) w t a c
backs_more done v w s t a b c rule seen first back = subst (λ (n : ℕ). StepsBacks n w t a c) (sym (add-one done)) (b, first, turned (λ u x. StepsBack u x b c) v w s t rule seen back)

pub backs_end : (done : ℕ) (w : ℕ → Facts → Ruling) (t : Shown) (a b c : Ruled) → StepsBacks done w t a b → (plan_awaited b.plan ≡ None) × (c ≡ b) → StepsBacks done w t a c
backs_end done w t a b c first none = subst (StepsBacks done w t a) (sym none.1) first

pub none_then : (b c : Ruled) → (plan_awaited b.plan ≡ None) × (c ≡ b) → plan_awaited c.plan ≡ None
none_then b c none = subst (λ (s : Ruled). plan_awaited s.plan ≡ None) (sym none.1) none.0

-- each of them is counted
pub backs_counted : (done : ℕ) (would : ℕ → Facts → Ruling) (shown : Shown) (old new : Ruled) → StepsBacks done would shown old new → plan_pieces new.plan ≡ counted_up (plan_pieces old.plan) done
backs_counted zero would shown old new steps = ap (λ (s : Ruled). plan_pieces s.plan) steps
backs_counted (suc n) would shown old new steps = steps.2.gives.counted ∙ ap one_more (steps.2.takes.pieces ∙ backs_counted n would shown old steps.0 steps.1)

pub beside_more : (done : ℕ) (v w : ℕ → Facts → Ruling) (s t : Shown) (a b c : Ruled) → v ≡ w → s ≡ t → StepsBeside done w t a b → stack_builds b.plan.stack ≡ true → WorksPiece true v s b c → StepsBeside (done + 1) w t a c
beside_more done v w s t a b c rule seen first builds back = subst (λ (n : ℕ). StepsBeside n w t a c) (sym (add-one done)) (b, first, builds, turned (λ u x. StepsBack u x b c) v w s t rule seen back)

-- they end: none is awaited, no retrieval has both sides running, or there were as many as asked
pub beside_none : (most done : ℕ) (w : ℕ → Facts → Ruling) (t : Shown) (a b c : Ruled) → done < most → StepsBeside done w t a b → (plan_awaited b.plan ≡ None) × (c ≡ b) → Beside most w t a c
beside_none most done w t a b c less first none = record { done = done; within = omega (arith, less); last = b; steps = first; ends = inl (record { same = none.1; fewer = λ l. inr none.0 }) }

pub beside_stopped : (most done : ℕ) (w : ℕ → Facts → Ruling) (shown : Shown) (a b : Ruled) → done < most → StepsBeside done w shown a b → stack_builds b.plan.stack ≡ false → Beside most w shown a b
beside_stopped most done w shown a b less first stopped = record { done = done; within = omega (arith, less); last = b; steps = first; ends = inl (record { same = refl; fewer = λ l. inl stopped }) }

pub beside_full : (most done : ℕ) (w : ℕ → Facts → Ruling) (shown : Shown) (a b : Ruled) → most ≤ done → done ≤ most → StepsBeside done w shown a b → Beside most w shown a b
beside_full most done w shown a b full within first = record { done = done; within = within; last = b; steps = first; ends = inl (record { same = refl; fewer = λ l. absurd (omega (arith, full, l)) }) }

-- no memory was found for one of them
pub beside_lacks : (most done : ℕ) (w : ℕ → Facts → Ruling) (s t : Shown) (a b c : Ruled) → s ≡ t → done < most → StepsBeside done w t a b → stack_builds b.plan.stack ≡ true → LacksMemory s b c → Beside most w t a c
beside_lacks most done w s t a b c seen less first builds lacks = record { done = done; within = omega (arith, less); last = b; steps = first; ends = inr (record { fewer = less; builds = builds; lacks = subst (λ (x : Shown). LacksMemory x b c) seen lacks }) }

-- Turns of a fetch.

-- a foreground step that brought no end, and the background steps beside it
pub turn_made : (step : Step Offer) (most : ℕ) (v w : ℕ → Facts → Ruling) (s t : Shown) (a b c : Ruled) → v ≡ w → s ≡ t → StepsFront (Some step) w t a b → (Beside most w t b c → BesideBy step most w t b c) → Beside most v s b c → Turn step most w t a c
turn_made step most v w s t a b c rule seen front is beside = record { stepped = b; front = front; beside = is (turned (λ u x. Beside most u x b c) v w s t rule seen beside) }

-- one that brought a row
pub turn_gives : (o : Offer) (hand : Option Offer) (replies : Reply × Reply) (most : ℕ) (v w : ℕ → Facts → Ruling) (s t : Shown) (a b c : Ruled) → hand ≡ None → v ≡ w → s ≡ t → StepsFront (Some (Row o)) w t a b → Beside most v s b c → TurnMoves hand (Some replies) most w t a c
turn_gives o hand replies most v w s t a b c empty rule seen front beside = rw empty (Row o, refl, turn_made (Row o) most v w s t a b c rule seen front (λ x. x) beside)

-- the row in hand is given behind a turn, which leaves the plan
pub turn_given : (hand : Option Offer) (part : Option (Reply × Reply)) (most : ℕ) (would : ℕ → Facts → Ruling) (shown : Shown) (after : ℕ) (old : Ruled) (new given : Planned) → given ≡ new → TurnMoves hand part most would shown old (record { plan = new; judge = after }) → TurnMoves hand part most would shown old (record { plan = given; judge = after })
turn_given hand part most would shown after old new given same turn = rw same turn

-- some replies, where it matters only whether there are any
pub none_told : Reply × Reply
none_told = (TheEnd, TheEnd)

-- a turn behind which replies are made works on no more
pub held_is_no_work : {X : Type 0} → ◌≡◌ {A = Step (Unit {0})} (comes.Row tt) comes.Working → X
held_is_no_work e = absurd (cc)

pub end_is_no_work : {X : Type 0} → ◌≡◌ {A = Step (Unit {0})} comes.End comes.Working → X
end_is_no_work e = absurd (cc)

-- one that works on
pub turn_works : (hand : Option Offer) (most : ℕ) (v w : ℕ → Facts → Ruling) (s t : Shown) (a b c : Ruled) → hand ≡ None → v ≡ w → s ≡ t → StepsFront (Some Working) w t a b → Beside most v s b c → TurnMoves hand None most w t a c
turn_works hand most v w s t a b c empty rule seen front beside = rw empty (Working, refl, turn_made Working most v w s t a b c rule seen front (λ x. x) beside)

-- one that finds the end
pub turn_ends : (hand : Option Offer) (replies : Reply × Reply) (most : ℕ) (would : ℕ → Facts → Ruling) (shown : Shown) (a b : Ruled) → hand ≡ None → StepsFront (Some End) would shown a b → TurnMoves hand (Some replies) most would shown a b
turn_ends hand replies most would shown a b empty front = rw empty (End, refl, record { stepped = b; front = front; beside = refl })

-- a row that was in hand is given, and nothing else is done
pub held_turn : (hand : Option Offer) (replies : Reply × Reply) (most : ℕ) (would : ℕ → Facts → Ruling) (shown : Shown) (state : ℕ) (old new : Planned) → IsSome hand → new ≡ old → TurnMoves hand (Some replies) most would shown (record { plan = old; judge = state }) (record { plan = new; judge = state })
held_turn (Some o) replies most would shown state old new some same = (refl, ap (λ (p : Planned). record { plan = p; judge = state }) same)
held_turn None replies most would shown state old new some same = absurd (cc)

-- a turn after which the fetch goes on
pub fetch_on : (hand : Option Offer) (most n : ℕ) (v w : ℕ → Facts → Ruling) (s t : Shown) (a b c : Ruled) → v ≡ w → s ≡ t → TurnsOn n most w t a b → TurnMoves hand None most v s b c → TurnsOn (suc n) most w t a c
fetch_on (Some o) most n v w s t a b c rule seen made turn = absurd (cc)
fetch_on None most n v w s t a b c rule seen made turn = by turn.0 turn.1 turn.2
  where
    by : (m : Step Offer) → RepliesTo m None → Turn m most v s b c → TurnsOn (suc n) most w t a c
    by (Row o) replies x = absurd (cc)
    by End replies x = absurd (cc)
    by Working replies x = (b, made, turned (λ u y. Turn Working most u y b c) v w s t rule seen x)

-- it had no row in hand
pub no_hand : (hand : Option Offer) (most : ℕ) (v : ℕ → Facts → Ruling) (s : Shown) (b c : Ruled) → TurnMoves hand None most v s b c → hand ≡ None
no_hand (Some o) most v s b c turn = absurd (cc)
no_hand None most v s b c turn = refl

pub none_held : (hand : Option Offer) → IsSome hand → hand ≡ None → ⊥
none_held None some none = absurd (cc)
none_held (Some o) some none = cc

-- the turn that makes the replies
pub fetch_ends : (hand first : Option Offer) (replies : Reply × Reply) (most n : ℕ) (v w : ℕ → Facts → Ruling) (s t : Shown) (a b c : Ruled) → v ≡ w → s ≡ t → hand ≡ first → TurnsOn n most w t a b → TurnMoves hand (Some replies) most v s b c → FetchMoves first most w t a c
fetch_ends hand first replies most n v w s t a b c rule seen same made turn = record {
  turns = n;
  mid = b;
  made = made;
  replies = replies;
  last = subst (λ (h : Option Offer). TurnMoves h (Some replies) most w t b c) same (turned (λ u y. TurnMoves hand (Some replies) most u y b c) v w s t rule seen turn);
}
