-- The reads of a background that runs alone, and of what follows it, from its opening on.
use Rattle.std.proofs.Common.{◌≡◌, ℕ, ◌+◌, ◌-◌, ◌*◌, ◌^◌, ◌<◌, ◌≤◌, List, [], ◌∷◌, length, Bool, false, refl, ap, sym, ◌∙◌, subst, arith}
use Rattle.rv_judge.specs.declared.events.Control.TheVariants.{BackgroundAlone}
use Rattle.rv_judge.specs.declared.events.Strategy.{Strategy}
use Rattle.rv_judge.specs.declared.events.Strategy.TheVariants.{BackgroundOnly}
use Rattle.rv_judge.specs.declared.judging.Facts.{Facts}
use Rattle.rv_judge.specs.Account.{first_guarantee}
use Rattle.rv_judge.specs.Verdicts.{Ruling}
use Rattle.rv_reader.specs.Shown.{Shown}
use Rattle.rv_jscan.specs.Joint.{Joint}
use Rattle.rv_choice.specs.declared.query.Query.{Query}
use Rattle.rv_choice.specs.Choice.{candidates_of}
use Rattle.rv_choice.specs.Leading.{front_candidate, guarantee_of}
use Rattle.rv_retrieval.specs.Opened.{Opened, Starts, bounded_by, has_scans, is_one}
use Rattle.rv_retrieval.specs.Opens.{first_of}
use Rattle.rv_retrieval.specs.Shape.{Shape}
use Rattle.rv_retrieval.specs.Short.{has_short}
use Rattle.rv_retrieval.proofs.Shorts.{none_short}
use Rattle.skew_judges.specs.Guard.{IsBounded}
use Rattle.rv_bounded.specs.Bounds.{OpensAlone, ReadsAreBounded}
use Rattle.rv_bounded.specs.Calls.{Call, DoesAll, DoesCall, lost_by, lost_of}
use Rattle.rv_bounded.specs.Calls.Call.{Step, StepLost, Take, TakeLost, Give}
use Rattle.rv_bounded.proofs.Ahead.{ahead, greatest}
use Rattle.rv_bounded.proofs.Controls.{is_apart, is_behind}
use Rattle.rv_bounded.proofs.Costs.{Costs, Whole, give_costs, others, rest_back, rest_of, whole_on}
use Rattle.rv_bounded.proofs.Shares.{all_scans, to_read}
use Rattle.rv_bounded.proofs.Sound.{first_sound}
use Rattle.rv_bounded.proofs.StepCosts.{step_costs, step_lost_costs, take_costs, take_lost_costs}
use Rattle.rv_bounded.proofs.Sums.{Spent, none_spent, same_less, small_pages, spent_on, from_first, minus_less, none_risen}

-- ONE CALL

pub does_call : (p planned : ℕ) (query : Query) (shown : Shown) (call : Call) (would : ℕ → Facts → Ruling) (old new : Shape) → p + 2 * planned < greatest → p ≡ shown.pages query.table query.snap → IsBounded would → Whole query p planned old → DoesCall call would shown old new → Costs p (lost_of call) old new
does_call p planned query shown Step would old new small pages rule w does = step_costs p planned would query shown old new small pages rule w does
does_call p planned query shown StepLost would old new small pages rule w does = step_lost_costs p planned query shown old new small w does
does_call p planned query shown Take would old new small pages rule w does = take_costs p planned query does.0 shown old new small w does.1
does_call p planned query shown TakeLost would old new small pages rule w does = take_lost_costs p planned query shown old new small w does
does_call p planned query shown Give would old new small pages rule w does = give_costs p planned would query old new (small_pages p planned greatest small) rule w does

-- ALL CALLS

abbrev pub AllCost : Query → ℕ → ℕ → ℕ → Shape → Shape → Type 0
AllCost query p planned lost old new = Spent (Whole query p planned) (λ (v : Shape). v.trace.leaves + ahead p v.joint) (λ (v : Shape). others v + rest_of p v) lost old new

pub all_cost : (p planned : ℕ) (query : Query) (shown : Shown) (calls : List Call) (old new : Shape) → p + 2 * planned < greatest → p ≡ shown.pages query.table query.snap → Whole query p planned old → DoesAll calls shown old new → AllCost query p planned (lost_by calls) old new
all_cost p planned query shown [] old new small pages w does = none_spent old new does w
all_cost p planned query shown (call ∷ calls) old new small pages w does =
    let mid = does.0 in
    let before = all_cost p planned query shown calls old mid small pages w does.1 in
    let cost = does_call p planned query shown call does.2.would mid new small pages does.2.bounded before.holds does.2.does in
    let last : AllCost query p planned (lost_of call) mid new = record { holds = whole_on query p planned (lost_of call) mid new cost before.holds; leaf = cost.leaf; other = cost.other; both = cost.both; leaves = cost.spends.fewer; fewer = cost.fewer } in
    spent_on (lost_by calls) (lost_of call) old mid new before last

-- AT OPENING

-- what `open` tells of a retrieval of this strategy
pub record Alone (strategy : Strategy) (query : Query) (shown : Shown) (v : Shape) : Type 0 where
  pub cursor : ℕ
  pub opening : ℕ
  pub opened : Opened query shown cursor opening v
  pub alone : v.strategy ≡ strategy
  pub long : has_short query shown ≡ false
  pub room : length v.joint.plans ≤ 8

pub not_one : {s : Strategy} (query : Query) (shown : Shown) (v : Shape) (opens : Alone s query shown v) → is_one opens.opened.choice.background ≡ false
not_one query shown v opens = none_short query shown opens.opened.choice query.order (candidates_of query shown) refl opens.opened.chosen opens.long

pub starts_of : {s : Strategy} (query : Query) (shown : Shown) (v : Shape) (opens : Alone s query shown v) → Starts opens.cursor opens.opening v
starts_of query shown v opens = opens.opened.started (not_one query shown v opens)

pub opened_back : (query : Query) (shown : Shown) (v : Shape) → Alone BackgroundOnly query shown v → v.control ≡ BackgroundAlone
opened_back query shown v opens = (starts_of query shown v opens).control ∙ ap (λ (s : Strategy). first_of s (has_scans v.joint.plans)) opens.alone

pub eight_counts : {s : Strategy} (query : Query) (shown : Shown) (v : Shape) → Alone s query shown v → length v.joint.counts ≡ 8
eight_counts query shown v opens = ap (λ (j : Joint). length j.counts) (starts_of query shown v opens).joint

pub opened_whole : (query : Query) (shown : Shown) (v : Shape) → Alone BackgroundOnly query shown v → Whole query (shown.pages query.table query.snap) (length v.joint.plans) v
opened_whole query shown v opens =
    let opened = opens.opened in
    let starts = starts_of query shown v opens in
    let strategy : opened.choice.strategy ≡ BackgroundOnly = sym opened.made.strategy ∙ opens.alone in
    let pages = shown.pages query.table query.snap in
    let bound : v.guaranteed ≡ pages = opened.bound
    ∙ ap (λ (b : Bool). bounded_by b (guarantee_of query shown (candidates_of query shown) opened.choice) v.joint.list) (not_one query shown v opens)
    ∙ ap (λ (s : Strategy). first_guarantee s pages (front_candidate (candidates_of query shown) opened.choice.front).estimate.value) strategy in
    record {
      within = record {
        behind = ap (is_behind v.strategy) (opened_back query shown v opens);
        plans = refl;
        room = subst (λ (n : ℕ). length v.joint.plans ≤ n) (sym (eight_counts query shown v opens)) opens.room;
        less = same_less v.guaranteed pages bound;
      };
      asked = opened.made.asked;
      apart = ap is_apart (opened_back query shown v opens);
      sound = first_sound pages v.joint (ap (λ (j : Joint). j.counts) starts.joint) (ap (λ (j : Joint). j.building) starts.joint) (ap (λ (j : Joint). j.held) starts.joint) (ap (λ (j : Joint). j.list) starts.joint);
    }

pub opened_ahead : {s : Strategy} (query : Query) (shown : Shown) (v : Shape) (p : ℕ) → Alone s query shown v → ahead p v.joint ≤ p + 2 * length v.joint.plans
opened_ahead query shown v p opens =
    let starts = starts_of query shown v opens in
    let first : v.joint.ended ≡ 0 = ap (λ (j : Joint). j.ended) starts.joint in
    let all : to_read p v.joint.ended (length v.joint.plans - v.joint.ended) ≡ to_read p 0 (length v.joint.plans) =
    ap (λ (n : ℕ). to_read p n (length v.joint.plans - n)) first ∙ ap (to_read p 0) (from_first (length v.joint.plans)) in
    minus_less (ahead p v.joint) (to_read p v.joint.ended (length v.joint.plans - v.joint.ended)) _ (to_read p 0 (length v.joint.plans)) (p + 2 * length v.joint.plans) refl all (all_scans p (length v.joint.plans))

-- THE LAW

-- a joint scan has at most eight plans
pub room_for : {s : Strategy} (query : Query) (shown : Shown) (v : Shape) → OpensAlone query shown v → v.strategy ≡ s → Alone s query shown v
room_for query shown v opens alone = record { cursor = opens.cursor; opening = opens.opening; opened = opens.opened; alone = alone; long = opens.long; room = room }
  where
    one : is_one opens.opened.choice.background ≡ false
    one = none_short query shown opens.opened.choice query.order (candidates_of query shown) refl opens.opened.chosen opens.long

    eight : length v.joint.counts ≡ 8
    eight = ap (λ (j : Joint). length j.counts) (opens.opened.started one).joint

    room : length v.joint.plans ≤ 8
    room = subst (λ (n : ℕ). length v.joint.plans ≤ n) eight opens.fits.joint.room

pub small_all : (p planned most : ℕ) → p < 2 ^ 63 → planned ≤ 8 → most ≡ 2 ^ 64 - 1 → p + 2 * planned < most
small_all p planned most h l m = omega (arith, h, l, m)

pub whole_sum : (pages leaves fetches ahead_now rest_now leaves_was ahead_was pages_was fetches_was rest_was p planned leaf other lost : ℕ) → leaves + ahead_now ≤ leaves_was + ahead_was + leaf → pages + fetches + rest_now ≤ pages_was + fetches_was + rest_was + other → leaf + other ≡ lost → leaves_was ≡ 0 → pages_was ≡ 0 → fetches_was ≡ 0 → ahead_was ≤ p + 2 * planned → rest_was ≡ p + 48 → pages + leaves + fetches ≤ 2 * p + 2 * planned + 48 + lost
whole_sum pages leaves fetches ahead_now rest_now leaves_was ahead_was pages_was fetches_was rest_was p planned leaf other lost l o b lz pz fz a r = omega (arith, l, o, b, lz, pz, fz, a, r)

pub reads_bounded : ReadsAreBounded
reads_bounded query shown calls opened now opens background few does =
    let p = shown.pages query.table query.snap in
    let planned = length opened.joint.plans in
    let alone = room_for query shown opened opens background in
    let small = small_all p planned greatest few alone.room refl in
    let cost = all_cost p planned query shown calls opened now small refl (opened_whole query shown opened alone) does in
    whole_sum now.trace.pages now.trace.leaves now.trace.fetches (ahead p now.joint) (rest_of p now) opened.trace.leaves (ahead p opened.joint) opened.trace.pages opened.trace.fetches (rest_of p opened) p planned cost.leaf cost.other (lost_by calls) cost.leaves cost.fewer cost.both (none_risen opened.trace.leaves opens.steps.leaves greatest opens.unread.leaves) (none_risen opened.trace.pages opens.steps.pages greatest opens.unread.pages) (none_risen opened.trace.fetches opens.steps.records greatest opens.unread.fetches) (opened_ahead query shown opened p alone) (rest_back p opened (opened_back query shown opened alone))
