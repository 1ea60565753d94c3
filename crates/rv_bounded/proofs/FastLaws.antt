-- The reads of a fast-first retrieval from its opening on.
use Rattle.std.proofs.Common.{◌≡◌, ℕ, ◌+◌, ◌-◌, ◌*◌, ◌/◌, ◌<◌, ◌≤◌, List, [], ◌∷◌, length, Bool, None, refl, ap, sym, ◌∙◌, subst, arith}
use Rattle.rv_judge.specs.declared.events.Control.TheVariants.{Building}
use Rattle.rv_judge.specs.declared.events.Strategy.{Strategy}
use Rattle.rv_judge.specs.declared.events.Strategy.TheVariants.{FastFirst}
use Rattle.rv_judge.specs.declared.judging.Facts.{Facts}
use Rattle.rv_judge.specs.Account.{first_guarantee}
use Rattle.rv_judge.specs.Verdicts.{Ruling}
use Rattle.rv_reader.specs.Shown.{Shown}
use Rattle.rv_jscan.specs.Joint.{Joint}
use Rattle.rv_jscan.proofs.Fits.{way_within}
use Rattle.rv_choice.specs.declared.query.Query.{Query}
use Rattle.rv_choice.specs.Choice.{candidates_of}
use Rattle.rv_choice.specs.Leading.{front_candidate, guarantee_of}
use Rattle.rv_retrieval.specs.Opened.{bounded_by, has_scans}
use Rattle.rv_retrieval.specs.Opens.{first_of}
use Rattle.rv_retrieval.specs.Shape.{Shape, is_background}
use Rattle.rv_retrieval.specs.Telling.{list_len}
use Rattle.skew_judges.specs.Guard.{IsBounded}
use Rattle.rv_bounded.specs.Bounds.{FastReadsAreBounded, spare}
use Rattle.rv_bounded.specs.Calls.{Call, DoesAll, DoesCall, lost_by, lost_of}
use Rattle.rv_bounded.specs.Calls.Call.{Step, StepLost, Take, TakeLost, Give}
use Rattle.rv_bounded.proofs.Ahead.{ahead, greatest}
use Rattle.rv_bounded.proofs.Controls.{is_behind}
use Rattle.rv_bounded.proofs.Costs.{others}
use Rattle.rv_bounded.proofs.Fast.{Lending, LoanCosts, due_building, due_of, give_lends, lending_on, most}
use Rattle.rv_bounded.proofs.FastSteps.{step_lends, step_lost_lends, take_lends, take_lost_lends}
use Rattle.rv_bounded.proofs.Loans.{loans, loans_by, loans_first, most_by, part}
use Rattle.rv_bounded.proofs.Sound.{first_sound}
use Rattle.rv_bounded.proofs.WholeLaws.{Alone, eight_counts, not_one, opened_ahead, room_for, small_all, starts_of}
use Rattle.rv_bounded.proofs.Sums.{Spent, none_spent, same_less, zero_most, small_pages, spent_on, none_risen}

-- ONE CALL

fast_call : (p planned : ℕ) (query : Query) (shown : Shown) (call : Call) (would : ℕ → Facts → Ruling) (old new : Shape) → p + 2 * planned < greatest → p ≡ shown.pages query.table query.snap → IsBounded would → Lending query p planned old → DoesCall call would shown old new → LoanCosts p (lost_of call) old new
fast_call p planned query shown Step would old new small pages rule l does = step_lends p planned would query shown old new small pages rule l does
fast_call p planned query shown StepLost would old new small pages rule l does = step_lost_lends p planned query shown old new small l does
fast_call p planned query shown Take would old new small pages rule l does = take_lends p planned query does.0 shown old new small l does.1
fast_call p planned query shown TakeLost would old new small pages rule l does = take_lost_lends p planned query shown old new small l does
fast_call p planned query shown Give would old new small pages rule l does = give_lends p planned would query old new (small_pages p planned greatest small) rule l does

-- ALL CALLS

abbrev pub AllLend : Query → ℕ → ℕ → ℕ → Shape → Shape → Type 0
AllLend query p planned lost old new = Spent (Lending query p planned) (λ (v : Shape). v.trace.leaves + ahead p v.joint) (λ (v : Shape). others v + due_of p v) lost old new

pub all_lend : (p planned : ℕ) (query : Query) (shown : Shown) (calls : List Call) (old new : Shape) → p + 2 * planned < greatest → p ≡ shown.pages query.table query.snap → Lending query p planned old → DoesAll calls shown old new → AllLend query p planned (lost_by calls) old new
all_lend p planned query shown [] old new small pages l does = none_spent old new does l
all_lend p planned query shown (call ∷ calls) old new small pages l does =
    let mid = does.0 in
    let before = all_lend p planned query shown calls old mid small pages l does.1 in
    let cost = fast_call p planned query shown call does.2.would mid new small pages does.2.bounded before.holds does.2.does in
    let last : AllLend query p planned (lost_of call) mid new = record { holds = lending_on query p planned (lost_of call) mid new cost before.holds; leaf = cost.leaf; other = cost.other; both = cost.both; leaves = cost.spends.fewer; fewer = cost.fewer } in
    spent_on (lost_by calls) (lost_of call) old mid new before last

-- AT OPENING

pub opened_both : (query : Query) (shown : Shown) (v : Shape) → Alone FastFirst query shown v → v.control ≡ Building
opened_both query shown v opens = (starts_of query shown v opens).control ∙ ap (λ (s : Strategy). first_of s (has_scans v.joint.plans)) opens.alone

pub opened_lending : (query : Query) (shown : Shown) (v : Shape) → Alone FastFirst query shown v → Lending query (shown.pages query.table query.snap) (length v.joint.plans) v
opened_lending query shown v opens =
    let opened = opens.opened in
    let starts = starts_of query shown v opens in
    let strategy : opened.choice.strategy ≡ FastFirst = sym opened.made.strategy ∙ opens.alone in
    let pages = shown.pages query.table query.snap in
    let bound : v.guaranteed ≡ pages = opened.bound
    ∙ ap (λ (b : Bool). bounded_by b (guarantee_of query shown (candidates_of query shown) opened.choice) v.joint.list) (not_one query shown v opens)
    ∙ ap (λ (s : Strategy). first_guarantee s pages (front_candidate (candidates_of query shown) opened.choice.front).estimate.value) strategy in
    record {
      within = record {
        behind = ap (λ (s : Strategy). is_behind s v.control) opens.alone ∙ ap (is_behind FastFirst) (opened_both query shown v opens);
        plans = refl;
        room = subst (λ (n : ℕ). length v.joint.plans ≤ n) (sym (eight_counts query shown v opens)) opens.room;
        less = same_less v.guaranteed pages bound;
      };
      asked = opened.made.asked;
      sound = first_sound pages v.joint (ap (λ (j : Joint). j.counts) starts.joint) (ap (λ (j : Joint). j.building) starts.joint) (ap (λ (j : Joint). j.held) starts.joint) (ap (λ (j : Joint). j.list) starts.joint);
      fast = λ e. opens.alone;
      few = λ e. zero_most (length v.joint.building) (part pages v.joint.ended) (ap (λ (j : Joint). length j.building) starts.joint);
      kept = λ b. record {
        built = zero_most (length v.joint.building) v.guaranteed (ap (λ (j : Joint). length j.building) starts.joint);
        listed = zero_most (list_len v.joint.list) (most pages v + 48) (ap (λ (j : Joint). list_len j.list) starts.joint);
      };
    }

due_sum : (due m loaned first more p planned rest : ℕ) → due ≡ m + 48 + loaned → m ≡ p → loaned ≡ first + more → first + more + 48 ≤ rest + 48 * planned → due ≤ p + rest + 48 * planned
due_sum due m loaned first more p planned rest d e l h = omega (arith, d, e, l, h)

pub opened_due : (query : Query) (shown : Shown) (v : Shape) (p : ℕ) → Alone FastFirst query shown v → 1 ≤ length v.joint.plans → due_of p v ≤ p + (2 * (p / 8) + spare p) + 48 * length v.joint.plans
opened_due query shown v p opens some =
    let starts = starts_of query shown v opens in
    let planned = length v.joint.plans in
    let none : most p v ≡ p = ap (λ (j : Joint). most_by j.list p v.guaranteed) starts.joint in
    let lent : loans p v.joint v.borrowed ≡ loans_by None p planned 0 0 + 48 * (planned - (0 + 1)) =
    ap (λ (j : Joint). loans p j v.borrowed) starts.joint ∙ ap (λ (b : ℕ). loans_by None p planned 0 b + 48 * (planned - (0 + 1))) starts.borrowed in
    due_sum (due_of p v) (most p v) (loans p v.joint v.borrowed) (loans_by None p planned 0 0) (48 * (planned - (0 + 1))) p planned (2 * (p / 8) + spare p) (due_building p v (opened_both query shown v opens)) none lent (loans_first p planned some)

-- THE LAW

fast_sum : (pages leaves fetches ahead_now due_now leaves_was ahead_was pages_was fetches_was due_was p planned more spared leaf other lost : ℕ) → leaves + ahead_now ≤ leaves_was + ahead_was + leaf → pages + fetches + due_now ≤ pages_was + fetches_was + due_was + other → leaf + other ≡ lost → leaves_was ≡ 0 → pages_was ≡ 0 → fetches_was ≡ 0 → ahead_was ≤ p + 2 * planned → due_was ≤ p + (more + spared) + 48 * planned → pages + leaves + fetches ≤ 2 * p + more + spared + 50 * planned + lost
fast_sum pages leaves fetches ahead_now due_now leaves_was ahead_was pages_was fetches_was due_was p planned more spared leaf other lost l o b lz pz fz a d = omega (arith, l, o, b, lz, pz, fz, a, d)

pub some_plans : (ended planned : ℕ) → ended < planned → 1 ≤ planned
some_plans ended planned h = omega (arith, h)

pub fast_bounded : FastReadsAreBounded
fast_bounded query shown calls opened now opens fast few does =
    let p = shown.pages query.table query.snap in
    let planned = length opened.joint.plans in
    let alone : Alone FastFirst query shown opened = room_for query shown opened opens fast in
    let small = small_all p planned greatest few alone.room refl in
    let both = opened_both query shown opened alone in
    let some = some_plans opened.joint.ended planned (way_within opened.joint (opens.awaiting.way (ap is_background both))) in
    let cost = all_lend p planned query shown calls opened now small refl (opened_lending query shown opened alone) does in
    fast_sum now.trace.pages now.trace.leaves now.trace.fetches (ahead p now.joint) (due_of p now) opened.trace.leaves (ahead p opened.joint) opened.trace.pages opened.trace.fetches (due_of p opened) p planned (2 * (p / 8)) (spare p) cost.leaf cost.other (lost_by calls) cost.leaves cost.fewer cost.both (none_risen opened.trace.leaves opens.steps.leaves greatest opens.unread.leaves) (none_risen opened.trace.pages opens.steps.pages greatest opens.unread.pages) (none_risen opened.trace.fetches opens.steps.records greatest opens.unread.fetches) (opened_ahead query shown opened p alone) (opened_due query shown opened p alone some)
