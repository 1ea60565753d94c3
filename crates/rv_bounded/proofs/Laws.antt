-- The leaves that a background reads which runs alone, from its opening on.
use Rattle.std.proofs.Common.{◌≡◌, ℕ, ◌+◌, ◌-◌, ◌*◌, ◌<◌, ◌≤◌, List, [], ◌∷◌, length, Bool, true, false, nat_lt, refl, ap, sym, ◌∙◌, subst}
use Rattle.std.proofs.lemmas.Bool.{ltb-true, ltb-false}
use Rattle.rv_judge.specs.declared.events.Strategy.{Strategy}
use Rattle.rv_judge.specs.declared.events.Strategy.TheVariants.{Table, BackgroundOnly, FastFirst, Sorted, IndexOnly, Union}
use Rattle.rv_judge.specs.declared.judging.Facts.{Facts}
use Rattle.rv_judge.specs.Account.{first_guarantee}
use Rattle.rv_judge.specs.Verdicts.{Ruling}
use Rattle.rv_reader.specs.Shown.{Shown}
use Rattle.rv_jscan.specs.Joint.{Joint}
use Rattle.rv_choice.specs.declared.query.Query.{Query}
use Rattle.rv_choice.specs.Choice.{candidates_of}
use Rattle.rv_choice.specs.Leading.{front_candidate, guarantee_of}
use Rattle.rv_retrieval.specs.Opened.{Starts, bounded_by, has_scans}
use Rattle.rv_retrieval.specs.Shape.{Shape, is_led}
use Rattle.rv_retrieval.proofs.Shorts.{none_short}
use Rattle.rv_bounded.specs.Bounds.{LeavesAreFew, OpensAlone}
use Rattle.rv_bounded.specs.Calls.{Call, DoesAll, DoesCall, lost_by, lost_of}
use Rattle.rv_bounded.specs.Calls.Call.{Step, StepLost, Take, TakeLost, Give}
use Rattle.rv_jscan.specs.declared.jscan.Given.{Given}
use Rattle.rv_jscan.specs.declared.jscan.Given.TheVariants.{Accepted, Stale}
use Rattle.rv_jscan.specs.Pieces.{Pieced}
use Rattle.rv_retrieval.specs.Given.{Answers}
use Rattle.rv_retrieval.specs.Rulings.{GivesOn}
use Rattle.skew_judges.specs.Guard.{IsBounded}
use Rattle.rv_bounded.proofs.Ahead.{ahead, greatest}
use Rattle.rv_bounded.proofs.Controls.{first_behind, is_behind}
use Rattle.rv_bounded.proofs.Reading.{step_lost, step_spends, take_lost, take_spends}
use Rattle.rv_bounded.proofs.Shares.{all_scans, to_read}
use Rattle.rv_bounded.proofs.Spending.{Spends, Within, given_spends, stays_still, within_on}
use Rattle.rv_bounded.proofs.Sums.{less_by, great_sum, same_less, zero_most, risen_most, add_lost, from_first, whole_sum, minus_less, none_risen, still_sum}

-- A piece is given, the awaited one or another.

still_spends : (p : ℕ) (old new : Shape) → new ≡ old → Spends p 0 old new
still_spends p old new e = subst (λ (x : Shape). Spends p 0 old x) (sym e) (record { stays = stays_still old; fewer = still_sum old.trace.leaves (ahead p old.joint) })

give_spends : (p planned : ℕ) (would : ℕ → Facts → Ruling) (state after : ℕ) (piece : Pieced) (given : Given) (old new : Shape) → IsBounded would → Within p planned old → Answers old piece given new → GivesOn would state after piece given old new → Spends p 0 old new
give_spends p planned would state after piece Accepted old new rule w answers obeys = given_spends p planned would state after piece old new obeys.0 rule w answers.awaits obeys.1 obeys.2
give_spends p planned would state after piece (Stale asked now) old new rule w answers obeys = still_spends p old new obeys.0

-- ONE CALL

does_call : (p planned : ℕ) (shown : Shown) (call : Call) (would : ℕ → Facts → Ruling) (old new : Shape) → p + 2 * planned < greatest → IsBounded would → Within p planned old → DoesCall call would shown old new → Spends p (lost_of call) old new
does_call p planned shown Step would old new small rule w does = step_spends p planned would shown old new small rule w does
does_call p planned shown StepLost would old new small rule w does = step_lost p planned shown old new small w does
does_call p planned shown Take would old new small rule w does = take_spends p planned does.0 shown old new small w does.1
does_call p planned shown TakeLost would old new small rule w does = take_lost p planned shown old new small w does
does_call p planned shown Give would old new small rule w does = give_spends p planned would does.state does.after does.piece does.given old new rule w does.answers does.obeys

-- ALL CALLS

record AllSpend (p planned lost : ℕ) (old new : Shape) : Type 0 where
  within : Within p planned new
  fewer : new.trace.leaves + ahead p new.joint ≤ old.trace.leaves + ahead p old.joint + lost

all_spend : (p planned : ℕ) (shown : Shown) (calls : List Call) (old new : Shape) → p + 2 * planned < greatest → Within p planned old → DoesAll calls shown old new → AllSpend p planned (lost_by calls) old new
all_spend p planned shown [] old new small w does = subst (AllSpend p planned 0 old) (sym does) (record { within = w; fewer = still_sum old.trace.leaves (ahead p old.joint) })
all_spend p planned shown (call ∷ calls) old new small w does =
    let before = all_spend p planned shown calls old does.0 small w does.1 in
    let last = does_call p planned shown call does.2.would does.0 new small does.2.bounded before.within does.2.does in
    record {
      within = within_on p planned does.0 new last.stays before.within;
      fewer = add_lost (new.trace.leaves + ahead p new.joint) (does.0.trace.leaves + ahead p does.0.joint) (old.trace.leaves + ahead p old.joint) (lost_by calls) (lost_of call) before.fewer last.fewer;
    }

-- A count stays at the greatest number.

call_counted : (call : Call) (would : ℕ → Facts → Ruling) (shown : Shown) (old new : Shape) → DoesCall call would shown old new → old.trace.leaves ≤ greatest → new.trace.leaves ≤ greatest
call_counted Step would shown old new does most = risen_most new.trace.leaves (does.does.stepped.trace.leaves + (does.behind.leaves - does.before.leaves)) greatest (ap (λ (x : Shape). x.trace.leaves) does.does.counts)
call_counted StepLost would shown old new does most = risen_most new.trace.leaves (old.trace.leaves + (does.behind.leaves - does.before.leaves)) greatest does.counts.leaves
call_counted Take would shown old new does most = risen_most new.trace.leaves (old.trace.leaves + (does.1.behind.leaves - does.1.before.leaves)) greatest does.1.counts.leaves
call_counted TakeLost would shown old new does most = risen_most new.trace.leaves (old.trace.leaves + (does.behind.leaves - does.before.leaves)) greatest does.counts.leaves
call_counted Give would shown old new does most = less_by new.trace.leaves old.trace.leaves greatest does.counts.leaves most

all_counted : (calls : List Call) (shown : Shown) (old new : Shape) → DoesAll calls shown old new → old.trace.leaves ≤ greatest → new.trace.leaves ≤ greatest
all_counted [] shown old new does most = subst (λ (x : Shape). x.trace.leaves ≤ greatest) (sym does) most
all_counted (call ∷ calls) shown old new does most = call_counted call does.2.would shown does.0 new does.2.does (all_counted calls shown old does.0 does.1 most)

-- AT OPENING

-- the table's pages are guaranteed
first_pages : (s : Strategy) (pages estimate : ℕ) → is_led s ≡ false → first_guarantee s pages estimate ≡ pages
first_pages Table pages estimate led = refl
first_pages BackgroundOnly pages estimate led = refl
first_pages FastFirst pages estimate led = refl
first_pages Sorted pages estimate led = absurd (cc)
first_pages IndexOnly pages estimate led = absurd (cc)
first_pages Union pages estimate led = refl

opened_within : (query : Query) (shown : Shown) (v : Shape) → OpensAlone query shown v → Within (shown.pages query.table query.snap) (length v.joint.plans) v
opened_within query shown v opens =
    let opened = opens.opened in
    let one = none_short query shown opened.choice query.order (candidates_of query shown) refl opened.chosen opens.long in
    let starts : Starts opens.cursor opens.opening v = opened.started one in
    let pages = shown.pages query.table query.snap in
    let led : is_led opened.choice.strategy ≡ false = ap is_led (sym opened.made.strategy) ∙ opens.alone in
    let bound : v.guaranteed ≡ pages = opened.bound
    ∙ ap (λ (b : Bool). bounded_by b (guarantee_of query shown (candidates_of query shown) opened.choice) v.joint.list) one
    ∙ first_pages opened.choice.strategy pages (front_candidate (candidates_of query shown) opened.choice.front).estimate.value led in
    record {
      behind = ap (is_behind v.strategy) starts.control ∙ first_behind v.strategy (has_scans v.joint.plans) opens.alone;
      plans = refl;
      room = opens.fits.joint.room;
      less = same_less v.guaranteed pages bound;
    }

opened_ahead : (p cursor opening : ℕ) (v : Shape) → Starts cursor opening v → ahead p v.joint ≤ p + 2 * length v.joint.plans
opened_ahead p cursor opening v starts =
    let first : v.joint.ended ≡ 0 = ap (λ (j : Joint). j.ended) starts.joint in
    let all : to_read p v.joint.ended (length v.joint.plans - v.joint.ended) ≡ to_read p 0 (length v.joint.plans) =
    ap (λ (n : ℕ). to_read p n (length v.joint.plans - n)) first ∙ ap (to_read p 0) (from_first (length v.joint.plans)) in
    minus_less (ahead p v.joint) (to_read p v.joint.ended (length v.joint.plans - v.joint.ended)) _ (to_read p 0 (length v.joint.plans)) (p + 2 * length v.joint.plans) refl all (all_scans p (length v.joint.plans))

-- THE LAW

pub leaves_few : LeavesAreFew
leaves_few query shown calls opened now opens does = by (nat_lt (p + 2 * planned) greatest) refl
  where
    p : ℕ
    p = shown.pages query.table query.snap

    planned : ℕ
    planned = length opened.joint.plans

    none : opened.trace.leaves ≡ 0
    none = none_risen opened.trace.leaves opens.steps.leaves greatest opens.unread.leaves

    starts : Starts opens.cursor opens.opening opened
    starts = opens.opened.started (none_short query shown opens.opened.choice query.order (candidates_of query shown) refl opens.opened.chosen opens.long)

    by : (b : Bool) → nat_lt (p + 2 * planned) greatest ≡ b → now.trace.leaves ≤ p + 2 * planned + lost_by calls
    by true test =
        let spent = all_spend p planned shown calls opened now (ltb-true (p + 2 * planned) greatest test) (opened_within query shown opened opens) does in
        whole_sum now.trace.leaves (ahead p now.joint) opened.trace.leaves (ahead p opened.joint) (p + 2 * planned) (lost_by calls) spent.fewer none (opened_ahead p opens.cursor opens.opening opened starts)
    by false test = great_sum now.trace.leaves greatest (p + 2 * planned) (lost_by calls) (all_counted calls shown opened now does (zero_most opened.trace.leaves greatest none)) (ltb-false (p + 2 * planned) greatest test)
