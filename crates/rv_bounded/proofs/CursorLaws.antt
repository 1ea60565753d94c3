-- The reads of a cursor over one FROM item: its moves are calls of its plan.
use Rattle.std.proofs.Common.{◌≡◌, ℕ, ◌+◌, ◌≤◌, List, [], ◌∷◌, ◌++◌, refl, ap, sym, ◌∙◌, subst, arith}
use Rattle.rv_judge.specs.declared.judging.Facts.{Facts}
use Rattle.rv_judge.specs.Verdicts.{Ruling}
use Rattle.rv_jscan.specs.declared.jscan.Given.TheVariants.{Accepted}
use Rattle.rv_reader.specs.Shown.{Shown}
use Rattle.rv_join.specs.Plans.{PlanFits, Planned}
use Rattle.rv_cursor.specs.declared.cursor.Open.{Open}
use Rattle.rv_cursor.specs.Left.{seen_at, seen_by}
use Rattle.rv_cursor.specs.Moves.{Move, MovesBy, MovesByAll, Ruled, ruled}
use Rattle.rv_cursor.specs.Moves.Move.{Front, Lost, Take, Give}
use Rattle.rv_core.specs.Short.{Held}
use Rattle.rv_core.proofs.Shorts.{sight}
use Rattle.skew_judges.specs.Guard.{IsBounded}
use Rattle.rv_bounded.specs.Cursors.{CallDoes, CallGives, CallSpends, CallsSpend, CursorCall, CursorsAreBounded, FastCursorsAreBounded, MoveLoses, MovesLose, OpensBegin}
use Rattle.rv_bounded.specs.Cursors.CursorCall.{Moving, Giving}
use Rattle.rv_bounded.specs.OtherPlans.{RacedCursorsAreBounded, UnitedCursorsAreBounded}
use Rattle.rv_bounded.specs.Plans.{PlanCall, PlanSpends, PlanSpendsAll}
use Rattle.rv_bounded.specs.Plans.PlanCall.{Steps, Takes, Gives}
use Rattle.rv_bounded.proofs.PlanLaws.{fast_plans_bounded, plans_bounded}
use Rattle.rv_bounded.proofs.RacedPlans.{raced_plans_bounded}
use Rattle.rv_bounded.proofs.UnitedPlans.{united_plans_bounded}
use Rattle.rv_bounded.proofs.Sums.{le_on, at_most, zero_least}

-- ONE MOVE

move_spends : (move : Move) (would : ℕ → Facts → Ruling) (shown : Shown) (old new : Ruled) (lost : ℕ) → IsBounded would → (by : MovesBy move would shown old new) → MoveLoses move would shown old new by lost → (call : PlanCall) × PlanSpends call shown lost old.plan new.plan
move_spends Front would shown old new lost rule by loses = (
  Steps,
  record {
    would = would;
    bounded = rule;
    does = record { state = old.judge; after = new.judge; before = by.1.before; behind = by.1.after; asked = by.1.asked; once = by.1.once; counts = by.1.counts; fits = by.1.fits };
    loses = loses;
  },
)
move_spends Lost would shown old new lost rule by loses = (
  Steps,
  record {
    would = would;
    bounded = rule;
    does = record { state = old.judge; after = new.judge; before = by.before; behind = by.after; asked = by.asked; once = by.once; counts = by.counts; fits = by.fits };
    loses = loses;
  },
)
move_spends Take would shown old new lost rule by loses = (
  Takes,
  record {
    would = would;
    bounded = rule;
    does = record { before = by.before; behind = by.after; asked = by.stays.asked; once = by.once; reads = by.reads; counts = by.counts; fits = by.fits };
    loses = loses;
  },
)
move_spends Give would shown old new lost rule by loses = (
  Gives,
  record {
    would = would;
    bounded = rule;
    does = record { state = old.judge; after = new.judge; piece = by.piece; given = Accepted; asked = by.stays.asked; answers = by.awaits; obeys = by.obeys; counts = by.counts; fits = by.fits };
    loses = tt;
  },
)

-- MOVES, AND CALLS

spends_more : (calls : List PlanCall) (shown : Shown) (m n : ℕ) (old new : Planned) → m ≤ n → PlanSpendsAll calls shown m old new → PlanSpendsAll calls shown n old new
spends_more [] shown m n old new h same = same
spends_more (call ∷ calls) shown m n old new h made = (made.0, made.1, made.2, made.3, made.4, le_on (made.1 + made.2) m n made.5 h)

spends_on : (xs ys : List PlanCall) (shown : Shown) (m k n : ℕ) (a b c : Planned) → m + k ≤ n → PlanSpendsAll ys shown m a b → PlanSpendsAll xs shown k b c → PlanSpendsAll (xs ++ ys) shown n a c
spends_on [] ys shown m k n a b c h first last = subst (PlanSpendsAll ys shown n a) (sym last) (spends_more ys shown m n a b (less m k n h) first)
  where
    less : (m k n : ℕ) → m + k ≤ n → m ≤ n
    less m k n h = omega (arith, h)
spends_on (x ∷ xs) ys shown m k n a b c h first last =
    (last.0, m + last.1, last.2, spends_on xs ys shown m last.1 (m + last.1) a b last.0 (at_most (m + last.1)) first last.3, last.4, sum m last.1 last.2 k n last.5 h)
  where
    sum : (m a b k n : ℕ) → a + b ≤ k → m + k ≤ n → m + a + b ≤ n
    sum m a b k n g h = omega (arith, g, h)

moves_spend : (moves : List Move) (would : ℕ → Facts → Ruling) (shown : Shown) (old new : Ruled) (lost : ℕ) → IsBounded would → (made : MovesByAll moves would shown old new) → MovesLose moves would shown old new made lost → (calls : List PlanCall) × PlanSpendsAll calls shown lost old.plan new.plan
moves_spend [] would shown old new lost rule made loses = ([], ap (λ (r : Ruled). r.plan) made)
moves_spend (move ∷ moves) would shown old new lost rule made loses =
    let first = moves_spend moves would shown old made.0 loses.0 rule made.1 loses.2 in
    let last = move_spends move would shown made.0 new loses.1 rule made.2 loses.3 in
    (last.0 ∷ first.0, (made.0.plan, loses.0, loses.1, first.1, last.1, loses.4))

moves_fit : (moves : List Move) (would : ℕ → Facts → Ruling) (shown : Shown) (old new : Ruled) → MovesByAll moves would shown old new → PlanFits shown old.plan → PlanFits shown new.plan
moves_fit [] would shown old new same fits = subst (λ (r : Ruled). PlanFits shown r.plan) (sym same) fits
moves_fit (Front ∷ moves) would shown old new made fits = made.2.1.fits
moves_fit (Lost ∷ moves) would shown old new made fits = made.2.fits
moves_fit (Take ∷ moves) would shown old new made fits = made.2.fits
moves_fit (Give ∷ moves) would shown old new made fits = made.2.fits

-- what calls of a cursor are to its plan
record Spent (lost : ℕ) (old new : Held) : Type 0 where
  pub plans : List PlanCall
  pub spends : PlanSpendsAll plans (sight old) lost old.cursor.plan new.cursor.plan
  pub sees : sight new ≡ sight old
  pub fits : PlanFits (sight old) new.cursor.plan

moving : (moves : List Move) (lost : ℕ) (old new : Held) → PlanFits (sight old) old.cursor.plan → CallSpends moves lost old new → Spent lost old new
moving moves lost old new fits call =
    let own = moves_spend moves call.call.would (sight old) (ruled old.cursor call.call.state) (ruled new.cursor call.call.after) lost call.bounded call.call.made call.loses in
    record {
      plans = own.0;
      spends = own.1;
      sees = call.call.sees ∙ (λ i. seen_at old.store (call.call.same.snap i) (call.call.same.frozen i));
      fits = moves_fit moves call.call.would (sight old) (ruled old.cursor call.call.state) (ruled new.cursor call.call.after) call.call.made fits;
    }

one_call : (call : PlanCall) (shown : Shown) (lost : ℕ) (old new : Planned) → PlanSpends call shown 0 old new → PlanSpendsAll (call ∷ []) shown lost old new
one_call call shown lost old new spends = (old, 0, 0, refl, spends, zero_least lost)

giving : (lost : ℕ) (old new : Held) → PlanFits (sight old) old.cursor.plan → CallGives old new → Spent lost old new
giving lost old new fits call =
    let gives = call.gives in
    let here : PlanFits (seen_by old.store gives.cursor) gives.cursor.plan = subst (λ (c : Open). PlanFits (seen_by old.store c) c.plan) (sym call.was) fits in
    let left : PlanFits (seen_by old.store gives.cursor) gives.left.plan = gives.fits old.store here in
    let made : PlanSpends Gives (seen_by old.store gives.cursor) 0 gives.cursor.plan gives.left.plan = record {
      would = call.would;
      bounded = call.bounded;
      does = record { state = call.state; after = call.after; piece = call.piece; given = call.given; asked = (gives.stays old.store here).asked; answers = gives.answers; obeys = gives.obeys; counts = gives.counts; fits = left };
      loses = tt;
    } in
    let from : PlanSpends Gives (sight old) 0 old.cursor.plan gives.left.plan = subst (λ (c : Open). PlanSpends Gives (seen_by old.store c) 0 c.plan gives.left.plan) call.was made in
    let to : PlanSpends Gives (sight old) 0 old.cursor.plan new.cursor.plan = subst (λ (c : Open). PlanSpends Gives (sight old) 0 old.cursor.plan c.plan) call.is from in
    let snap : new.cursor.snap ≡ old.cursor.snap = ap (λ (c : Open). c.snap) (sym call.is) ∙ ap (λ (c : Open). c.snap) gives.calls.same ∙ ap (λ (c : Open). c.snap) call.was in
    let frozen : new.cursor.frozen ≡ old.cursor.frozen = ap (λ (c : Open). c.frozen) (sym call.is) ∙ ap (λ (c : Open). c.frozen) gives.calls.same ∙ ap (λ (c : Open). c.frozen) call.was in
    record {
      plans = Gives ∷ [];
      spends = one_call Gives (sight old) lost old.cursor.plan new.cursor.plan to;
      sees = λ i. seen_at (call.store i) (snap i) (frozen i);
      fits = to.does.fits;
    }

call_spends : (call : CursorCall) (lost : ℕ) (old new : Held) → PlanFits (sight old) old.cursor.plan → CallDoes call lost old new → Spent lost old new
call_spends (Moving moves) lost old new fits does = moving moves lost old new fits does
call_spends Giving lost old new fits does = giving lost old new fits does

calls_spend : (calls : List CursorCall) (lost : ℕ) (old new : Held) → PlanFits (sight old) old.cursor.plan → CallsSpend calls lost old new → Spent lost old new
calls_spend [] lost old new fits same = record {
  plans = [];
  spends = ap (λ (h : Held). h.cursor.plan) same;
  sees = ap sight same;
  fits = subst (λ (h : Held). PlanFits (sight old) h.cursor.plan) (sym same) fits;
}
calls_spend (call ∷ calls) lost old new fits made =
    let mid = made.0 in
    let first = calls_spend calls made.1 old mid fits made.3 in
    let last = call_spends call made.2 mid new (subst (λ (s : Shown). PlanFits s mid.cursor.plan) (sym first.sees) first.fits) made.4 in
    record {
      plans = last.plans ++ first.plans;
      spends = spends_on last.plans first.plans (sight old) made.1 made.2 lost old.cursor.plan mid.cursor.plan new.cursor.plan made.5 first.spends (subst (λ (s : Shown). PlanSpendsAll last.plans s made.2 mid.cursor.plan new.cursor.plan) first.sees last.spends);
      sees = last.sees ∙ first.sees;
      fits = subst (λ (s : Shown). PlanFits s new.cursor.plan) first.sees last.fits;
    }

-- THE LAWS

pub opens_begin : OpensBegin
opens_begin race shown s db session name old new opens one = record { fits = opens.fits.plan; leads = opens.leads; one = one; here = refl }

pub cursors_bounded : CursorsAreBounded
cursors_bounded calls lost opened now v opens alone few made =
    let plans = calls_spend calls lost opened now opens.begins.fits made in
    plans_bounded (seen_by opened.store opened.cursor) plans.plans lost opened.cursor.plan now.cursor.plan v opens alone few plans.spends

pub fast_cursors_bounded : FastCursorsAreBounded
fast_cursors_bounded calls lost opened now v opens fast few made =
    let plans = calls_spend calls lost opened now opens.begins.fits made in
    fast_plans_bounded (seen_by opened.store opened.cursor) plans.plans lost opened.cursor.plan now.cursor.plan v opens fast few plans.spends

pub raced_cursors_bounded : RacedCursorsAreBounded
raced_cursors_bounded calls lost opened now r begins few made =
    let plans = calls_spend calls lost opened now begins.fits made in
    raced_plans_bounded (seen_by opened.store opened.cursor) plans.plans lost opened.cursor.plan now.cursor.plan r begins few plans.spends

pub united_cursors_bounded : UnitedCursorsAreBounded
united_cursors_bounded calls lost opened now u begins few less made =
    let plans = calls_spend calls lost opened now begins.fits made in
    united_plans_bounded (seen_by opened.store opened.cursor) plans.plans lost opened.cursor.plan now.cursor.plan u begins few less plans.spends
