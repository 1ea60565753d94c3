-- What a core's calls say of a cursor is such calls as its laws ask.
use Rattle.std.proofs.Common.{ℕ, ◌+◌, ◌≤◌, Bool, true, false, not, ◌&&◌, [], ◌∷◌, Some, None, inl, inr, is_some, refl, ap, arith}
use Rattle.std.specs.Prelude.{if◌then◌else◌}
use Rattle.rv_judge.specs.declared.counting.Counts.{Counts}
use Rattle.rv_judge.specs.declared.judging.Facts.{Facts}
use Rattle.rv_judge.specs.Verdicts.{Ruling}
use Rattle.rv_reader.specs.Shown.{Shown}
use Rattle.rv_access.specs.declared.access.Access.{Access}
use Rattle.rv_access.specs.Accesses.{held_of}
use Rattle.rv_access.specs.Given.{awaited}
use Rattle.rv_join.specs.Alone.{CallsOnce}
use Rattle.rv_cursor.specs.declared.cursor.Open.{Open}
use Rattle.rv_cursor.specs.Moves.{ruled}
use Rattle.rv_cursor.specs.Moves.Move.{Front, Lost, Take, Give}
use Rattle.rv_core.proofs.Shorts.{call_moves, still_moves, take_moves}
use Rattle.rv_bounded.specs.CoreCalls.{CallIsSpent, GiveIsGiven, MovesLoseFew, StillIsSpent, TakeIsSpent, steps_and_takes}
use Rattle.rv_bounded.specs.Plans.{lost_call, lost_leaf}
use Rattle.rv_bounded.proofs.Sums.{at_most}

-- ONE READ AT MOST

few_lost : {would : ℕ → Facts → Ruling} {state after : ℕ} {shown : Shown} {c d : Counts} {old new : Access} (calls : CallsOnce would state after shown c d old new) → lost_call calls ≤ 1
few_lost (inl (Some fg, calls)) = omega arith
few_lost (inl (None, calls)) = omega arith
few_lost (inr still) = omega arith

few_leaves : (lacks : Bool) → (if lacks then 1 else 0) ≤ 1
few_leaves true = omega arith
few_leaves false = omega arith

few_leaf : (a : Access) → lost_leaf a ≤ 1
few_leaf a = few_leaves (is_some (awaited a) && not (is_some (held_of a)))

no_more : (n : ℕ) → n + 0 ≤ n
no_more n = omega arith

none_before : (n : ℕ) → 0 + n ≤ n
none_before n = omega arith

pub moves_lose_few : MovesLoseFew
moves_lose_few [] would shown old new made = tt
moves_lose_few (Front ∷ moves) would shown old new made = (steps_and_takes moves, 1, moves_lose_few moves would shown old made.0 made.1, (λ one. few_lost (made.2.1.once one).calls), at_most (steps_and_takes moves + 1))
moves_lose_few (Lost ∷ moves) would shown old new made = (steps_and_takes moves, 1, moves_lose_few moves would shown old made.0 made.1, (λ one. few_lost (made.2.once one).calls), at_most (steps_and_takes moves + 1))
moves_lose_few (Take ∷ moves) would shown old new made = (steps_and_takes moves, 1, moves_lose_few moves would shown old made.0 made.1, few_leaf new.plan.stack.at.here, at_most (steps_and_takes moves + 1))
moves_lose_few (Give ∷ moves) would shown old new made = (steps_and_takes moves, 0, moves_lose_few moves would shown old made.0 made.1, tt, no_more (steps_and_takes moves))

-- THE CALLS

pub call_spent : CallIsSpent
call_spent would store later place judge ruled_to lost old new call rule sees loses = record {
  call = record {
    would = would;
    state = judge;
    after = ruled_to;
    same = call.same;
    made = call.moved.made;
    sees = (call_moves would store later place judge ruled_to old new call sees).sees;
  };
  bounded = rule;
  loses = loses;
}

pub still_spent : StillIsSpent
still_spent would store later judge place cs c rule here sees = record {
  call = record {
    would = would;
    state = judge;
    after = judge;
    same = record { session = refl; name = refl; number = refl; snap = refl; frozen = refl; asked = refl };
    made = refl;
    sees = (still_moves would store later judge place cs c here sees).sees;
  };
  bounded = rule;
  loses = tt;
}

pub take_spent : TakeIsSpent
take_spent would state shown place before after old new tries rule =
    let lost = lost_leaf tries.left.plan.stack.at.here in
    record {
      call = record {
        would = would;
        state = state;
        after = state;
        same = record {
          session = ap (λ (c : Open). c.session) tries.calls.same;
          name = ap (λ (c : Open). c.name) tries.calls.same;
          number = ap (λ (c : Open). c.number) tries.calls.same;
          snap = ap (λ (c : Open). c.snap) tries.calls.same;
          frozen = ap (λ (c : Open). c.frozen) tries.calls.same;
          asked = tries.stays.asked;
        };
        made = (ruled tries.cursor state, refl, take_moves state shown place before after old new tries);
        sees = refl;
      };
      bounded = rule;
      loses = (0, lost, tt, at_most lost, none_before lost);
    }

pub give_given : GiveIsGiven
give_given would state after place shown old new piece given gives rule = record {
  would = would;
  bounded = rule;
  state = state;
  after = after;
  place = place;
  opens = old;
  later = new;
  piece = piece;
  given = given;
  gives = gives;
  was = refl;
  is = refl;
  store = refl;
}
