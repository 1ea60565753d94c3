-- What a plan over one FROM item has read and the effort that is left, over its moves.
use Rattle.std.proofs.Common.{◌≡◌, ℕ, ◌+◌, ◌-◌, ◌<◌, ◌≤◌, List, [], ◌∷◌, Some, None, inl, inr, ap, subst, arith}
use Rattle.rv_judge.specs.declared.counting.Counts.{Counts}
use Rattle.rv_judge.specs.declared.judging.Facts.{Facts}
use Rattle.rv_judge.specs.Counting.{raised, reads}
use Rattle.rv_judge.specs.Tracing.{CountsRise, SameCounts}
use Rattle.rv_judge.specs.Verdicts.{Ruling}
use Rattle.rv_catalog.specs.declared.def.IndexDef.{IndexDef}
use Rattle.rv_catalog.specs.declared.def.Select.{Select}
use Rattle.rv_reader.specs.Shown.{Shown}
use Rattle.rv_access.specs.declared.access.Access.{Access}
use Rattle.rv_join.specs.Alone.{CallsOnce, IsAlone, PlanSpends, Spends, plan_effort, plan_life}
use Rattle.rv_join.specs.Pieces.{waiting}
use Rattle.rv_join.specs.Plans.{Planned, plan_trace}
use Rattle.rv_reader.specs.declared.step.Step.{Step}
use Rattle.rv_model.specs.declared.state.Offer.{Offer}
use Rattle.rv_reader.specs.declared.step.Step.TheVariants.{Row, Working, End}
use Rattle.rv_cursor.specs.Fetches.{lost_in, lost_of}
use Rattle.rv_cursor.specs.Left.{seen_by}
use Rattle.rv_cursor.specs.Moves.{Move, MovesBy, MovesByAll, Ruled, StepsFront, TakesOut, ruled}
use Rattle.rv_cursor.specs.Moves.Move.{Front, Lost, Take, Give}
use Rattle.rv_cursor.proofs.Fewer.{moves_asked, still_alone}
use Rattle.rv_core.specs.Obeying.{BeginsWithin}
use Rattle.rv_core.specs.Short.{CallsMove, Held, lost_by}
use Rattle.rv_core.proofs.Shorts.{sight, sights_stay, stays_alone}
use Rattle.rv_bounded.specs.Bounds.{reads_told}
use Rattle.rv_sums.specs.Sums.{given_by, given_in, given_of, spent, taken_by, taken_in, taken_of}
use Rattle.rv_sums.proofs.Reading.{One, access_one, piece_one, rise, spends_rise, tries_rise}

-- What the trace counts.

all_rise : (p l r q m s x y z : ℕ) → q ≡ raised p x → m ≡ raised l y → s ≡ raised r z → q + m + s ≤ p + l + r + (x + y + z)
all_rise p l r q m s x y z a b c = omega (arith, a, b, c)

counts_rise : (old new : Planned) (c d : Counts) → CountsRise (plan_trace old) (plan_trace new) c d → reads new.reads ≤ reads old.reads + rise c d
counts_rise old new c d rises = all_rise old.reads.pages old.reads.leaves old.reads.records new.reads.pages new.reads.leaves new.reads.records (d.pages - c.pages) (d.leaves - c.leaves) (d.records - c.records) rises.pages rises.leaves rises.fetches

all_same : (p l r q m s : ℕ) → q ≡ p → m ≡ l → s ≡ r → q + m + s ≤ p + l + r + 0
all_same p l r q m s a b c = omega (arith, a, b, c)

counts_same : (old new : Planned) → SameCounts (plan_trace old) (plan_trace new) → reads new.reads ≤ reads old.reads + 0
counts_same old new same = all_same old.reads.pages old.reads.leaves old.reads.records new.reads.pages new.reads.leaves new.reads.records same.pages same.leaves same.fetches

-- One move.

calls_one : (would : ℕ → Facts → Ruling) (state after : ℕ) (shown : Shown) (c d : Counts) (old new : Access) → CallsOnce would state after shown c d old new → One c d
calls_one would state after shown c d old new (inl call) = access_one old c d call.1.may_read
calls_one would state after shown c d old new (inr none) = inl none.1

low : (a b : ℕ) → a < b → a ≤ b
low a b less = omega (arith, less)

step_spends : (m : Step Offer) (c d : Counts) (e f : ℕ) → PlanSpends m c d e f → Spends c d e f × (f ≤ e)
step_spends (Row o) c d e f spends = spends
step_spends End c d e f spends = spends
step_spends Working c d e f spends = (spends.0, low f e spends.1)

-- the sum of what was read and of the effort that is left
sum_by : (was now x e f more : ℕ) → now ≤ was + x → x + f ≤ e + more → now + f ≤ was + e + more
sum_by was now x e f more first then = omega (arith, first, then)

plain : (e f x : ℕ) → x + f ≤ e → x + f ≤ e + 0
plain e f x h = omega (arith, h)

front_sum : (a b : ℕ) → a ≤ b + 0 → a + 0 ≤ b + 0 + 0
front_sum a b h = omega (arith, h)

lost_sum : (a b : ℕ) → a ≤ b + 1 → a + 0 ≤ b + 1 + 0
lost_sum a b h = omega (arith, h)

take_sum : (a b : ℕ) → a ≤ b + 1 → a + 0 ≤ b + 0 + 1
take_sum a b h = omega (arith, h)

give_sum : (was now e f : ℕ) → now ≤ was + 0 → f < e → now + f + 1 ≤ was + e + 0 + 0
give_sum was now e f same less = omega (arith, same, less)

front_spends : (step : Step Offer) (would : ℕ → Facts → Ruling) (shown : Shown) (old new : Ruled) → StepsFront (Some step) would shown old new → IsAlone old.plan → spent shown new.plan ≤ spent shown old.plan + 0
front_spends step would shown old new front one =
    let spends = step_spends step front.before front.after (plan_effort shown old.plan) (plan_effort shown new.plan) (front.spends one) in
    let read = calls_one would old.judge new.judge shown front.before front.after old.plan.stack.at.here new.plan.stack.at.here (front.once one).calls in
    sum_by (reads old.plan.reads) (reads new.plan.reads) (rise front.before front.after) (plan_effort shown old.plan) (plan_effort shown new.plan) 0
    (counts_rise old.plan new.plan front.before front.after front.counts)
    (plain (plan_effort shown old.plan) (plan_effort shown new.plan) (rise front.before front.after) (spends_rise front.before front.after (plan_effort shown old.plan) (plan_effort shown new.plan) read spends.0 spends.1))

lost_spends : (would : ℕ → Facts → Ruling) (shown : Shown) (old new : Ruled) → StepsFront None would shown old new → IsAlone old.plan → spent shown new.plan ≤ spent shown old.plan + 1
lost_spends would shown old new front one =
    let once = front.once one in
    let read = calls_one would old.judge new.judge shown front.before front.after old.plan.stack.at.here new.plan.stack.at.here once.calls in
    sum_by (reads old.plan.reads) (reads new.plan.reads) (rise front.before front.after) (plan_effort shown old.plan) (plan_effort shown new.plan) 1
    (counts_rise old.plan new.plan front.before front.after front.counts)
    (tries_rise front.before front.after (plan_effort shown old.plan) (plan_effort shown new.plan) read once.tries)

take_spends : (shown : Shown) (old new : Ruled) → TakesOut shown old new → IsAlone old.plan → spent shown new.plan ≤ spent shown old.plan + 1
take_spends shown old new takes one =
    sum_by (reads old.plan.reads) (reads new.plan.reads) (rise takes.before takes.after) (plan_effort shown old.plan) (plan_effort shown new.plan) 1
    (counts_rise old.plan new.plan takes.before takes.after takes.counts)
    (tries_rise takes.before takes.after (plan_effort shown old.plan) (plan_effort shown new.plan) (piece_one (waiting old.plan) takes.before takes.after takes.reads) (takes.once one).tries)

move_spends : (move : Move) (would : ℕ → Facts → Ruling) (shown : Shown) (old new : Ruled) → MovesBy move would shown old new → IsAlone old.plan → spent shown new.plan + given_of move ≤ spent shown old.plan + lost_of move + taken_of move
move_spends Front would shown old new by one = front_sum (spent shown new.plan) (spent shown old.plan) (front_spends by.0 would shown old new by.1 one)
move_spends Lost would shown old new by one = lost_sum (spent shown new.plan) (spent shown old.plan) (lost_spends would shown old new by one)
move_spends Take would shown old new by one = take_sum (spent shown new.plan) (spent shown old.plan) (take_spends shown old new by one)
move_spends Give would shown old new by one = give_sum (reads old.plan.reads) (reads new.plan.reads) (plan_effort shown old.plan) (plan_effort shown new.plan) (counts_same old.plan new.plan by.counts) (by.less one)

-- Moves one after another, and then calls.

none_sum : (a b : ℕ) → b ≡ a → b + 0 ≤ a + 0 + 0
none_sum a b same = omega (arith, same)

sums_on : (a b c g1 l1 t1 g2 l2 t2 : ℕ) → b + g1 ≤ a + l1 + t1 → c + g2 ≤ b + l2 + t2 → c + (g1 + g2) ≤ a + (l1 + l2) + (t1 + t2)
sums_on a b c g1 l1 t1 g2 l2 t2 first then = omega (arith, first, then)

pub moves_spend : (moves : List Move) (would : ℕ → Facts → Ruling) (shown : Shown) (old new : Ruled) → MovesByAll moves would shown old new → IsAlone old.plan → spent shown new.plan + given_in moves ≤ spent shown old.plan + lost_in moves + taken_in moves
moves_spend [] would shown old new made one = none_sum (spent shown old.plan) (spent shown new.plan) (ap (λ (r : Ruled). spent shown r.plan) made)
moves_spend (move ∷ moves) would shown old new made one =
    let mid = made.0 in
    let first = moves_spend moves would shown old mid made.1 one in
    let then = move_spends move would shown mid new made.2 (still_alone old.plan mid.plan (moves_asked moves would shown old mid made.1) one) in
    sums_on (spent shown old.plan) (spent shown mid.plan) (spent shown new.plan) (given_in moves) (lost_in moves) (taken_in moves) (given_of move) (lost_of move) (taken_of move) first then

calls_spend : (calls : List (List Move)) (old new : Held) → CallsMove calls old new → IsAlone old.cursor.plan → spent (sight old) new.cursor.plan + given_by calls ≤ spent (sight old) old.cursor.plan + lost_by calls + taken_by calls
calls_spend [] old new same one = none_sum (spent (sight old) old.cursor.plan) (spent (sight old) new.cursor.plan) (ap (λ (h : Held). spent (sight old) h.cursor.plan) same)
calls_spend (moves ∷ calls) old new made one =
    let mid = made.0 in
    let call = made.2 in
    let first = calls_spend calls old mid made.1 one in
    let then = moves_spend moves call.would (sight mid) (ruled mid.cursor call.state) (ruled new.cursor call.after) call.made (stays_alone calls old mid made.1 one) in
    let here = subst (λ (s : Shown). spent s new.cursor.plan + given_in moves ≤ spent s mid.cursor.plan + lost_in moves + taken_in moves) (sights_stay calls old mid made.1) then in
    sums_on (spent (sight old) old.cursor.plan) (spent (sight old) mid.cursor.plan) (spent (sight old) new.cursor.plan) (given_by calls) (lost_by calls) (taken_by calls) (given_in moves) (lost_in moves) (taken_in moves) first here

within : (told effort given begun life lost taken : ℕ) → told + effort + given ≤ begun + lost + taken → begun ≤ life → told + given ≤ life + lost + taken
within told effort given begun life lost taken sum bound = omega (arith, sum, bound)

pub life_bounded : (s : Select) (indexes : List IndexDef) (calls : List (List Move)) (opened now : Held) → BeginsWithin (seen_by opened.store opened.cursor) s indexes opened.cursor.snap opened.cursor.plan → IsAlone opened.cursor.plan → CallsMove calls opened now
    → reads_told (plan_trace now.cursor.plan) + given_by calls ≤ plan_life s indexes (seen_by opened.store opened.cursor) opened.cursor.snap opened.cursor.plan + lost_by calls + taken_by calls
life_bounded s indexes calls opened now bounded one made =
    within (reads now.cursor.plan.reads) (plan_effort (sight opened) now.cursor.plan) (given_by calls) (spent (sight opened) opened.cursor.plan) (plan_life s indexes (sight opened) opened.cursor.snap opened.cursor.plan) (lost_by calls) (taken_by calls)
    (calls_spend calls opened now made one) bounded.life
