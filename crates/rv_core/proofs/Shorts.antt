-- Of how many records a short range makes a cursor fetch.
use Rattle.std.proofs.Common.{◌≡◌, ℕ, ◌+◌, ◌≤◌, true, List, [], ◌∷◌, length, Option, Some, None, zero, suc, slice_get, slice_set, refl, ap, sym, ◌∙◌, subst, arith, le_trans, le-add_right}
use Rattle.rv_value.proofs.Lists.{all_got}
use Rattle.rv_value.proofs.Places.{get_set}
use Rattle.rv_judge.specs.declared.counting.Counts.{Counts}
use Rattle.rv_judge.specs.declared.judging.Facts.{Facts}
use Rattle.rv_judge.specs.Verdicts.{Ruling}
use Rattle.rv_lang.specs.declared.reply.Reply.{Reply}
use Rattle.rv_model.specs.declared.state.Offer.{Offer}
use Rattle.rv_catalog.specs.declared.def.IndexDef.{IndexDef}
use Rattle.rv_catalog.specs.declared.def.Select.{Select}
use Rattle.rv_reader.specs.Shown.{Shown}
use Rattle.rv_access.specs.Accesses.{Settled, fetches_left, query_of}
use Rattle.rv_retrieval.specs.Short.{has_short}
use Rattle.rv_join.specs.Alone.{FewFetches, IsAlone, plan_fetches}
use Rattle.rv_join.specs.declared.places.Asked.{Asked}
use Rattle.rv_join.specs.Plans.{Planned, plan_trace}
use Rattle.rv_cursor.specs.declared.cursor.Open.{Open}
use Rattle.rv_cursor.specs.Fetches.{FetchLosesNone, LosesNone, MovesFetchFew, StepLosesNone, TurnLosesNone, lost_in}
use Rattle.rv_cursor.specs.Left.{SameCursor, seen_at, seen_by}
use Rattle.rv_cursor.specs.Moves.{Move, MovesByAll, Ruled, TakesOut, TurnMoves, ruled}
use Rattle.rv_core.specs.Obeying.{AnyOf, FetchOf, BeginsWithin, MovesAt, SeesSame, StepOf, TurnOf}
use Rattle.rv_core.specs.Pieces.{KeepsSettled, TriesAt}
use Rattle.rv_core.specs.Short.{AnsweredMoves, CallMoves, CallsMove, Held, held, lost_by}

-- what a cursor sees
abbrev pub sight : Held → Shown
sight h = seen_by h.store h.cursor

-- what a call leaves of it
sight_stays : (moves : List Move) (old new : Held) → CallMoves moves old new → sight new ≡ sight old
sight_stays moves old new call = call.sees ∙ (λ i. seen_at old.store (call.same.snap i) (call.same.frozen i))

asked_stays : (moves : List Move) (old new : Held) → CallMoves moves old new → IsAlone old.cursor.plan → IsAlone new.cursor.plan
asked_stays moves old new call one = subst (λ (a : Asked). length a.items ≡ 1) (sym call.same.asked) one

pub sights_stay : (calls : List (List Move)) (old new : Held) → CallsMove calls old new → sight new ≡ sight old
sights_stay [] old new same = ap sight same
sights_stay (moves ∷ calls) old new made = sight_stays moves made.0 new made.2 ∙ sights_stay calls old made.0 made.1

pub stays_alone : (calls : List (List Move)) (old new : Held) → CallsMove calls old new → IsAlone old.cursor.plan → IsAlone new.cursor.plan
stays_alone [] old new same one = subst (λ (h : Held). IsAlone h.cursor.plan) (sym same) one
stays_alone (moves ∷ calls) old new made one = asked_stays moves made.0 new made.2 (stays_alone calls old made.0 made.1 one)

-- settled, and so many records fetched and left
pub record Few (most : ℕ) (shown : Shown) (p : Planned) : Type 0 where
  pub over : Settled p.stack.at.here
  pub few : plan_fetches shown p ≤ most

add_lost : (a b most m : ℕ) → b ≤ a + m → a ≤ most → b ≤ most + m
add_lost a b most m more few = omega (arith, more, few)

few_more : (most m : ℕ) (shown : Shown) (old new : Planned) → FewFetches m shown old new → Few most shown old → Few (most + m) shown new
few_more most m shown old new more few = record {
  over = more.settled few.over;
  few = add_lost (plan_fetches shown old) (plan_fetches shown new) most m (more.few few.over) few.few;
}

sums : (n most a b : ℕ) → n ≤ most + a + b → n ≤ most + (a + b)
sums n most a b h = omega (arith, h)

sum_lost : (most a b : ℕ) (shown : Shown) (p : Planned) → Few (most + a + b) shown p → Few (most + (a + b)) shown p
sum_lost most a b shown p few = record { over = few.over; few = sums (plan_fetches shown p) most a b few.few }

none_lost : (most : ℕ) (shown : Shown) (p : Planned) → Few most shown p → Few (most + 0) shown p
none_lost most shown p few = record { over = few.over; few = le_trans few.few (le-add_right most 0) }

calls_few : MovesFetchFew → (calls : List (List Move)) (most : ℕ) (old new : Held) → CallsMove calls old new → IsAlone old.cursor.plan → Few most (sight old) old.cursor.plan → Few (most + lost_by calls) (sight old) new.cursor.plan
calls_few law [] most old new same one few = subst (λ (h : Held). Few (most + 0) (sight old) h.cursor.plan) (sym same) (none_lost most (sight old) old.cursor.plan few)
calls_few law (moves ∷ calls) most old new made one few =
    let mid = made.0 in
    let call = made.2 in
    let before = calls_few law calls most old mid made.1 one few in
    let more = law moves call.would (sight mid) (ruled mid.cursor call.state) (ruled new.cursor call.after) call.made (stays_alone calls old mid made.1 one) in
    let here = subst (λ (s : Shown). FewFetches (lost_in moves) s mid.cursor.plan new.cursor.plan) (sights_stay calls old mid made.1) more in
    sum_lost most (lost_by calls) (lost_in moves) (sight old) new.cursor.plan (few_more (most + lost_by calls) (lost_in moves) (sight old) mid.cursor.plan new.cursor.plan here before)

fetched_few : (reads left most : ℕ) → reads + left ≤ most → reads ≤ most
fetched_few reads left most h = omega (arith, h)

begin_few : (reads left : ℕ) → reads ≡ 0 → left ≤ 20 → reads + left ≤ 20
begin_few reads left none few = omega (arith, none, few)

pub short_few : MovesFetchFew → (s : Select) (indexes : List IndexDef) (calls : List (List Move)) (opened now : Held) → BeginsWithin (seen_by opened.store opened.cursor) s indexes opened.cursor.snap opened.cursor.plan → has_short (query_of opened.cursor.plan.stack.at.here) (seen_by opened.store opened.cursor) ≡ true → IsAlone opened.cursor.plan → CallsMove calls opened now → Settled now.cursor.plan.stack.at.here × ((plan_trace now.cursor.plan).fetches ≤ 20 + lost_by calls)
short_few law s indexes calls opened now bounds short one made =
    let start = bounds.short short in
    let first : Few 20 (sight opened) opened.cursor.plan = record { over = start.0; few = begin_few opened.cursor.plan.reads.records (fetches_left opened.cursor.plan.stack.at.here (sight opened)) bounds.records start.1 } in
    let last = calls_few law calls 20 opened now made one first in
    (last.over, fetched_few now.cursor.plan.reads.records (fetches_left now.cursor.plan.stack.at.here (sight opened)) (20 + lost_by calls) last.few)

-- A piece that is taken by itself.
pub take_moves : (state : ℕ) (shown : Shown) (place : ℕ) (before after : Counts) (old new : List Open) (tries : TriesAt shown place before after old new) → TakesOut (seen_by shown tries.cursor) (ruled tries.cursor state) (ruled tries.left state)
take_moves state shown place before after old new tries = record {
  judge = refl;
  before = before;
  after = after;
  reads = tries.reads;
  counts = tries.counts;
  once = tries.once;
  awaited = tries.awaited;
  pieces = tries.pieces;
  course = tries.course;
  stays = tries.stays;
  fits = tries.fits;
}

-- A piece that is given by itself.

some_same : (o : Option Open) (x y : Open) → o ≡ Some x → o ≡ Some y → y ≡ x
some_same o x y a b = cc

some_is : (x y : Open) → Some x ≡ Some y → y ≡ x
some_is x y e = cc

keeps_at : (cs : List Open) (place i : ℕ) (c d x y : Open) → slice_get cs place ≡ Some c → (IsAlone c.plan → Settled c.plan.stack.at.here → d ≡ c) → slice_get cs i ≡ Some x → slice_get (slice_set cs place d) i ≡ Some y → IsAlone x.plan → Settled x.plan.stack.at.here → y ≡ x
keeps_at [] place i c d x y at keeps was is one s = cc
keeps_at (o ∷ os) zero zero c d x y at keeps was is one s =
    let back = some_same (Some o) x c was at in
    some_is d y is ∙ keeps (subst (λ (k : Open). IsAlone k.plan) (sym back) one) (subst (λ (k : Open). Settled k.plan.stack.at.here) (sym back) s) ∙ back
keeps_at (o ∷ os) zero (suc i) c d x y at keeps was is one s = some_same (slice_get os i) x y was is
keeps_at (o ∷ os) (suc place) zero c d x y at keeps was is one s = some_same (Some o) x y was is
keeps_at (o ∷ os) (suc place) (suc i) c d x y at keeps was is one s = keeps_at os place i c d x y at keeps was is one s

plan_back : (c : Open) (plan : Planned) → plan ≡ c.plan → ◌≡◌ {A = Open} (record c { plan = plan }) c
plan_back c plan same = rw same refl

pub keeps_set : (cs : List Open) (place : ℕ) (c : Open) (plan : Planned) → slice_get cs place ≡ Some c → (IsAlone c.plan → Settled c.plan.stack.at.here → plan ≡ c.plan) → KeepsSettled cs (slice_set cs place (record c { plan = plan }))
keeps_set cs place c plan at keeps = record { each = λ i x y was is one s. keeps_at cs place i c (record c { plan = plan }) x y at (λ o t. plan_back c plan (keeps o t)) was is one s }

pub keeps_itself : (old new : List Open) → new ≡ old → KeepsSettled old new
keeps_itself old new same = record { each = λ i x y was is one s. some_same (slice_get old i) x y was (subst (λ (cs : List Open). slice_get cs i ≡ Some y) same is) }

-- What the calls say of plans.

place_sees : (store later : Shown) (place : ℕ) (old new : List Open) (before after : Open) → slice_get old place ≡ Some before → new ≡ slice_set old place after → SeesSame store later new → seen_by later after ≡ seen_by store after
place_sees store later place old new before after here set sees =
    let got : slice_get new place ≡ Some after = rw set (get_set old place before after here) in
    all_got (λ (c : Open). seen_by later c ≡ seen_by store c) new place after sees.each got

moved_so : (would : ℕ → Facts → Ruling) (store later : Shown) (place judge ruled_to : ℕ) (old new : List Open) (before after : Open) → slice_get old place ≡ Some before → new ≡ slice_set old place after → SameCursor before after → SeesSame store later new → (moves : List Move) → MovesByAll moves would (seen_by store before) (ruled before judge) (ruled after ruled_to) → CallMoves moves (held store before) (held later after)
moved_so would store later place judge ruled_to old new before after here set same sees moves made = record {
  would = would;
  state = judge;
  after = ruled_to;
  same = same;
  made = made;
  sees = place_sees store later place old new before after here set sees;
}

answered_so : (would : ℕ → Facts → Ruling) (store later : Shown) (place judge ruled_to : ℕ) (old new : List Open) (before after : Open) → slice_get old place ≡ Some before → new ≡ slice_set old place after → SameCursor before after → SeesSame store later new → LosesNone would (seen_by store before) (ruled before judge) (ruled after ruled_to) → AnsweredMoves (held store before) (held later after)
answered_so would store later place judge ruled_to old new before after here set same sees loses = record {
  moves = loses.moves;
  none = loses.none;
  call = moved_so would store later place judge ruled_to old new before after here set same sees loses.moves loses.made;
}

pub call_moves : (would : ℕ → Facts → Ruling) (store later : Shown) (place judge ruled_to : ℕ) (old new : List Open) (call : MovesAt (AnyOf would) store place judge ruled_to old new) → SeesSame store later new → CallMoves call.moved.moves (held store call.before) (held later call.after)
call_moves would store later place judge ruled_to old new call sees = moved_so would store later place judge ruled_to old new call.before call.after call.here call.set call.same sees call.moved.moves call.moved.made

pub fetch_moves : FetchLosesNone → (most : ℕ) (would : ℕ → Facts → Ruling) (store later : Shown) (place judge ruled_to : ℕ) (old new : List Open) (call : MovesAt (FetchOf most would) store place judge ruled_to old new) → SeesSame store later new → AnsweredMoves (held store call.before) (held later call.after)
fetch_moves law most would store later place judge ruled_to old new call sees = answered_so would store later place judge ruled_to old new call.before call.after call.here call.set call.same sees (law call.before.hand most would (seen_by store call.before) (ruled call.before judge) (ruled call.after ruled_to) call.moved.turns)

turn_loses : TurnLosesNone → (hand : Option Offer) (part : Option (Reply × Reply)) (most : ℕ) (would : ℕ → Facts → Ruling) (shown : Shown) (old new : Ruled) → TurnMoves hand part most would shown old new → LosesNone would shown old new
turn_loses law (Some o) part most would shown old new turn = record { moves = []; made = turn.1; none = refl }
turn_loses law None part most would shown old new turn = law turn.0 most would shown old new turn.2

pub turn_moves : TurnLosesNone → (part : Option (Reply × Reply)) (most : ℕ) (would : ℕ → Facts → Ruling) (store later : Shown) (place judge ruled_to : ℕ) (old new : List Open) (call : MovesAt (TurnOf part most would) store place judge ruled_to old new) → SeesSame store later new → AnsweredMoves (held store call.before) (held later call.after)
turn_moves law part most would store later place judge ruled_to old new call sees = answered_so would store later place judge ruled_to old new call.before call.after call.here call.set call.same sees (turn_loses law call.before.hand part most would (seen_by store call.before) (ruled call.before judge) (ruled call.after ruled_to) call.moved)

pub step_moves : StepLosesNone → (would : ℕ → Facts → Ruling) (done most : ℕ) (store later : Shown) (place judge ruled_to : ℕ) (old new : List Open) (call : MovesAt (StepOf would done most) store place judge ruled_to old new) → SeesSame store later new → AnsweredMoves (held store call.before) (held later call.after)
step_moves law would done most store later place judge ruled_to old new call sees = answered_so would store later place judge ruled_to old new call.before call.after call.here call.set call.same sees (law done would (seen_by store call.before) (ruled call.before judge) (ruled call.after ruled_to) call.moved.steps)

-- a cursor that a call left
pub still_moves : (would : ℕ → Facts → Ruling) (store later : Shown) (judge place : ℕ) (cs : List Open) (c : Open) → slice_get cs place ≡ Some c → SeesSame store later cs → CallMoves [] (held store c) (held later c)
still_moves would store later judge place cs c here sees = record {
  would = would;
  state = judge;
  after = judge;
  same = record { session = refl; name = refl; number = refl; snap = refl; frozen = refl; asked = refl };
  made = refl;
  sees = all_got (λ (d : Open). seen_by later d ≡ seen_by store d) cs place c sees.each here;
}
