-- A scan at opening, and what a call counts.
use Rattle.std.proofs.Common.{◌≡◌, ◌⊎◌, ◌∙◌, ◌+◌, ◌-◌, ◌<◌, ◌≤◌, ℕ, ap, sym, subst, refl, true, false, Bool, ◌&&◌, List, [], ◌∷◌, ◌++◌, length, append_assoc, Option, Some, None, IsSome, is_some, inl, inr, arith}
use Rattle.std.specs.Prelude.{if◌then◌else◌}
use Rattle.std.proofs.lemmas.Bool.{cases_Bool, lt-ltb}
use Rattle.std.proofs.lemmas.List.{length-append}
use Rattle.rv_value.proofs.Tests.{no_way}
use Rattle.rv_value.specs.declared.record.Record.{Record}
use Rattle.rv_reader.specs.Shown.{Shown}
use Rattle.rv_judge.specs.Account.{guarantee_with}
use Rattle.rv_judge.specs.Course.{next_control}
use Rattle.rv_judge.specs.declared.counting.Counts.{Counts}
use Rattle.rv_judge.specs.declared.events.Control.{Control}
use Rattle.rv_judge.specs.declared.events.Event.{Event}
use Rattle.rv_judge.specs.declared.events.Event.TheVariants.{At, List as ListOf}
use Rattle.rv_judge.specs.declared.events.Happening.TheVariants.{ScanEnded}
use Rattle.rv_judge.specs.declared.events.Strategy.{Strategy}
use Rattle.rv_judge.specs.declared.events.Trace.{Trace}
use Rattle.rv_judge.specs.Runs.{scan_events, start, start_events}
use Rattle.rv_keylist.specs.Keys.{has_key}
use Rattle.rv_jscan.specs.declared.jscan.ScanPlan.{ScanPlan}
use Rattle.rv_jscan.specs.Joint.{Joint, JointFits, meets, plan_at, under_way}
use Rattle.rv_jscan.specs.Planned.{indexes_of}
use Rattle.rv_jscan.specs.Steps.{begun}
use Rattle.rv_final.specs.Stage.{Unbegun}
use Rattle.rv_judge.specs.Counting.{raised}
use Rattle.rv_reader.specs.declared.step.Step.{Step}
use Rattle.rv_reader.specs.declared.step.Step.TheVariants.{Row, Working, End}
use Rattle.rv_choice.specs.declared.choosing.Background.{Background}
use Rattle.rv_choice.specs.declared.choosing.Choice.{Choice}
use Rattle.rv_choice.specs.declared.query.Query.{Query}
use Rattle.rv_choice.specs.Choice.{AreScans, IsChosen, candidates_of}
use Rattle.rv_retrieval.specs.Opened.{Completes, IsMade, OnlyLists, Opened, RunsOut, SameScans, Scanned, Settles, Starts, bounded_by, has_scans, is_one, settled_events, will_have}
use Rattle.rv_choice.specs.Leading.{guarantee_of}
use Rattle.rv_retrieval.specs.Opens.{first_of}
use Rattle.rv_final.specs.Rest.{Steps}
use Rattle.rv_retrieval.specs.Rulings.{going_on, gone, listed, scan_over}
use Rattle.rv_retrieval.specs.Shape.{DoesStep, RetrievalFits, Shape, is_background, rest}
use Rattle.rv_retrieval.specs.Telling.{events_for, list_len}
use Rattle.rv_judge.specs.Tracing.{CountsAll, NothingCounted, counted, with_events}
use Rattle.rv_retrieval.proofs.Switching.{joint_fits, joint_rest}

pub all_fits : (v mid : Shape) (shown : Shown) → mid ≡ record v { joint = mid.joint } → SameScans v.joint mid.joint → is_background v.control ≡ true → JointFits mid.joint shown → RetrievalFits v shown → RetrievalFits mid shown
all_fits v mid shown e s back j f = subst (λ (x : Shape). RetrievalFits x shown) (sym e) (joint_fits v mid.joint shown back (record { plans = s.plans; snap = s.snap }) j f)

pub all_rest : (v mid : Shape) (shown : Shown) → mid ≡ record v { joint = mid.joint } → is_background v.control ≡ true → rest mid shown ≡ rest v shown
all_rest v mid shown e back = ap (λ (x : Shape). rest x shown) e ∙ joint_rest v mid.joint shown back

pub all_scanned : (v mid new : Shape) → mid ≡ record v { joint = mid.joint } → SameScans v.joint mid.joint → new ≡ record mid { control = new.control; borrowed = new.borrowed; guaranteed = new.guaranteed; trace = new.trace } → Scanned v new
all_scanned v mid new e s n = record {
  asked = ap (λ (x : Shape). x.query) n ∙ ap (λ (x : Shape). x.query) e;
  chosen = ap (λ (x : Shape). x.strategy) n ∙ ap (λ (x : Shape). x.strategy) e;
  scans = subst (SameScans v.joint) (sym (ap (λ (x : Shape). x.joint) n)) s;
  front = ap (λ (x : Shape). x.front) n ∙ ap (λ (x : Shape). x.front) e;
  delivered = ap (λ (x : Shape). x.delivered) n ∙ ap (λ (x : Shape). x.delivered) e;
  at = ap (λ (x : Shape). x.at) n ∙ ap (λ (x : Shape). x.at) e;
  last = ap (λ (x : Shape). x.last) n ∙ ap (λ (x : Shape). x.last) e;
}

pub made_after : (query : Query) (shown : Shown) (choice : Choice) (cursor opening : ℕ) (v new : Shape) → IsMade query shown choice cursor opening v → Scanned v new → IsMade query shown choice cursor opening new
made_after query shown choice cursor opening v new m s = record {
  asked = s.asked ∙ m.asked;
  strategy = s.chosen ∙ m.strategy;
  scans = subst (AreScans query.only (candidates_of query shown) choice.background) (sym s.scans.plans) m.scans;
  front = s.front ∙ m.front;
  fresh = s.delivered ∙ m.fresh;
  unbegun = subst (λ (at : ℕ). Unbegun at new.last) (sym s.at) (subst (Unbegun v.at) (sym s.last) m.unbegun);
  cursor_number = s.scans.cursor ∙ m.cursor_number;
  opening_number = s.scans.opening ∙ m.opening_number;
}

noted_scanned : (v new : Shape) (t : Trace) → new ≡ record v { trace = t } → Scanned v new
noted_scanned v new t n = record {
  asked = ap (λ (x : Shape). x.query) n;
  chosen = ap (λ (x : Shape). x.strategy) n;
  scans = record {
    plans = ap (λ (x : Shape). x.joint.plans) n;
    snap = ap (λ (x : Shape). x.joint.snap) n;
    cursor = ap (λ (x : Shape). x.joint.cursor) n;
    opening = ap (λ (x : Shape). x.joint.opening) n;
  };
  front = ap (λ (x : Shape). x.front) n;
  delivered = ap (λ (x : Shape). x.delivered) n;
  at = ap (λ (x : Shape). x.at) n;
  last = ap (λ (x : Shape). x.last) n;
}

-- The one scan of a short index.

way_same : (a b : Joint) → b.ended ≡ a.ended → b.plans ≡ a.plans → b.list ≡ a.list → under_way b ≡ under_way a
way_same a b e p l = rw e (rw p (rw l refl))

over_done : (way some : Bool) (m : Shape) → way ≡ false → some ≡ true → (if way then going_on (listed 0 m) else gone (ScanEnded way some) (listed 0 m)) ≡ gone (ScanEnded false true) (listed 0 m)
over_done way some m e f = rw e (rw f refl)

pub runs_out : (v mid new : Shape) → mid ≡ record v { joint = mid.joint } → under_way v.joint ≡ true → under_way mid.joint ≡ false → OnlyLists v.joint mid.joint → SameScans v.joint mid.joint → new ≡ scan_over 0 mid → RunsOut v new
runs_out v mid new e way done lists same over =
    let (further, some) = complete lists.either in
    let became = over ∙ over_done (under_way mid.joint) (is_some mid.joint.list) mid done some in
    let joint = ap (λ (x : Shape). x.joint) became in
    record {
      over = ap under_way joint ∙ done;
      behind = subst (λ (j : Joint). v.joint.ended < j.ended) (sym joint) further;
      complete = subst (λ (l : Option (List ℕ)). IsSome l) (sym (ap (λ (j : Joint). j.list) joint)) some;
      same = became ∙ ap (λ (x : Shape). gone (ScanEnded false true) (listed 0 x)) (e ∙ ap (λ (j : Joint). record v { joint = j }) (sym joint));
    }
  where
    complete : (((mid.joint.ended ≡ v.joint.ended) × (mid.joint.list ≡ v.joint.list)) ⊎ ((v.joint.ended < mid.joint.ended) × IsSome mid.joint.list)) → (v.joint.ended < mid.joint.ended) × IsSome mid.joint.list
    complete (inr s) = s
    complete (inl p) = no_way (sym way ∙ sym (way_same v.joint mid.joint p.0 same.plans p.1) ∙ done)

-- What was opened.

starts_some : (cursor opening : ℕ) (v : Shape) → Starts cursor opening v → under_way v.joint ≡ true → has_scans v.joint.plans ≡ true
starts_some cursor opening v s way = both (has_scans v.joint.plans) (sym (ap under_way s.joint) ∙ way)
  where
    both : (a : Bool) → (a && true) ≡ true → a ≡ true
    both a h = grind arith

-- two events more, where there is room
two_noted : (told : List Event) (a b : Event) → length told ≤ 2 → with_events (with_events told (a ∷ [])) (b ∷ []) ≡ told ++ a ∷ b ∷ []
two_noted told a b few =
    let one : with_events told (a ∷ []) ≡ told ++ a ∷ [] = ap (λ (x : Bool). if x then told ++ a ∷ [] else told) (lt-ltb (length told) 32 (omega arith)) in
    let long = length-append told (a ∷ []) in
    let two : with_events (told ++ a ∷ []) (b ∷ []) ≡ (told ++ a ∷ []) ++ b ∷ [] = ap (λ (x : Bool). if x then (told ++ a ∷ []) ++ b ∷ [] else told ++ a ∷ []) (lt-ltb (length (told ++ a ∷ [])) 32 (omega arith)) in
    ap (λ (es : List Event). with_events es (b ∷ [])) one ∙ two ∙ append_assoc told (a ∷ []) (b ∷ [])

start_few : (s : Strategy) (planned : List ℕ) → length (start_events s planned) ≤ 2
start_few s planned = by (start s planned).scan
  where
    by : (scan : Option ℕ) → length (At (start s planned).control ∷ scan_events scan) ≤ 2
    by None = omega arith
    by (Some i) = omega arith

-- what a scan at opening tells
settled_told : (made mid : Shape) → made.trace.events.items ≡ start_events made.strategy (indexes_of made.joint.plans) → has_scans made.joint.plans ≡ true → Scanned made mid → (keys : List ℕ) → mid.joint.list ≡ Some keys → RunsOut made mid → mid.trace.events.items ≡ settled_events mid (length keys)
settled_told made mid told some scanned keys listed r =
    let index = (plan_at mid.joint.plans 0).index in
    let some_mid : has_scans mid.joint.plans ≡ true = ap has_scans scanned.scans.plans ∙ some in
    let list = ap (λ (b : Bool). events_for (λ (i : ℕ). ListOf i (list_len mid.joint.list)) (if b then Some index else None)) some_mid ∙ ap (λ (l : Option (List ℕ)). ListOf index (list_len l) ∷ []) listed in
    let now = sym (ap (λ (x : Shape). x.control) r.same) in
    let start = told ∙ ap (λ (s : Strategy). start_events s (indexes_of made.joint.plans)) (sym scanned.chosen) ∙ ap (λ (ps : List ScanPlan). start_events mid.strategy (indexes_of ps)) (sym scanned.scans.plans) in
    let few = start_few mid.strategy (indexes_of mid.joint.plans) in
    ap (λ (x : Shape). x.trace.events.items) r.same ∙ ap (λ (es : List Event). with_events (with_events made.trace.events.items es) (At (next_control made.strategy made.control (ScanEnded false true)) ∷ [])) list ∙ ap (λ (c : Control). with_events (with_events made.trace.events.items (ListOf index (length keys) ∷ [])) (At c ∷ [])) now ∙ ap (λ (es : List Event). with_events (with_events es (ListOf index (length keys) ∷ [])) (At mid.control ∷ [])) start ∙ two_noted (start_events mid.strategy (indexes_of mid.joint.plans)) (ListOf index (length keys)) (At mid.control) few

settles : (shown : Shown) (cursor opening : ℕ) (made mid : Shape) → Starts cursor opening made → under_way made.joint ≡ true → Scanned made mid → RunsOut made mid → Completes shown made.joint mid.joint → Settles shown cursor opening mid
settles shown cursor opening made mid s way scanned r c =
    let some = starts_some cursor opening made s way in
    record {
      over = r.over;
      keys = c.keys;
      joint = joint;
      whole = record { has = has; ascend = c.ascend };
      control = ap (λ (x : Shape). x.control) r.same ∙ ap (λ (x : Control). next_control made.strategy x (ScanEnded false true)) (s.control ∙ ap (first_of made.strategy) some) ∙ ap (λ (x : Strategy). next_control x (first_of x true) (ScanEnded false true)) (sym scanned.chosen);
      borrowed = ap (λ (x : Shape). x.borrowed) r.same;
      told = settled_told made mid s.told some scanned c.keys (ap (λ (j : Joint). j.list) c.same) r;
    }
  where
    alike : made.joint ≡ begun mid.query.table mid.query.snap mid.joint.plans cursor opening
    alike = s.joint ∙ ap (λ (q : Query). begun q.table q.snap made.joint.plans cursor opening) (sym scanned.asked) ∙ ap (λ (ps : List ScanPlan). begun mid.query.table mid.query.snap ps cursor opening) (sym scanned.scans.plans)

    joint : mid.joint ≡ record (begun mid.query.table mid.query.snap mid.joint.plans cursor opening) { counts = mid.joint.counts; ended = 1; number = mid.joint.number; list = Some c.keys }
    joint = c.same ∙ ap (λ (j : Joint). record j { counts = mid.joint.counts; ended = j.ended + 1; number = mid.joint.number; place = None; held = None; building = []; list = Some c.keys }) alike

    has : (n : ℕ) → has_key n c.keys ≡ meets (plan_at mid.joint.plans 0) shown mid.query.snap n
    has n = c.has n ∙ ap (λ (j : Joint). will_have j shown n) alike

pub opened_by : (query : Query) (shown : Shown) (choice : Choice) (cursor opening : ℕ) (made mid new : Shape) (before after : Counts) → IsChosen query.order query.goal (candidates_of query shown) choice → IsMade query shown choice cursor opening made → Starts cursor opening made → made.guaranteed ≡ guarantee_of query shown (candidates_of query shown) choice → (is_one choice.background ≡ true → under_way made.joint ≡ true) → Scanned made mid → (is_one choice.background ≡ true → RunsOut made mid) → (is_one choice.background ≡ true → Completes shown made.joint mid.joint) → (is_one choice.background ≡ false → mid ≡ made) → new ≡ record mid { trace = counted mid.trace before after } → Opened query shown cursor opening new
opened_by query shown choice cursor opening made mid new before after chosen m s g way scanned runs whole same n = record {
  choice = choice;
  chosen = chosen;
  made = made_after query shown choice cursor opening mid new (made_after query shown choice cursor opening made mid m scanned) (noted_scanned mid new _ n);
  settled = λ one. settled (settles shown cursor opening made mid s (way one) scanned (runs one) (whole one));
  started = λ none. started (subst (Starts cursor opening) (sym (same none)) s);
  bound = elim (cases_Bool (is_one choice.background)) [ inl one ↦ counted_bound one | inr none ↦ plain_bound none ];
}
  where
    settled : Settles shown cursor opening mid → Settles shown cursor opening new
    settled x = subst (Settles shown cursor opening) (sym n) (record { over = x.over; keys = x.keys; joint = x.joint; whole = x.whole; control = x.control; borrowed = x.borrowed; told = x.told })

    started : Starts cursor opening mid → Starts cursor opening new
    started x = subst (Starts cursor opening) (sym n) (record { control = x.control; joint = x.joint; borrowed = x.borrowed; told = x.told })

    counted_bound : is_one choice.background ≡ true → new.guaranteed ≡ bounded_by (is_one choice.background) (guarantee_of query shown (candidates_of query shown) choice) new.joint.list
    counted_bound one = rw one (ap (λ (x : Shape). x.guaranteed) n ∙ ap (λ (x : Shape). x.guaranteed) (runs one).same ∙ ap (λ (x : ℕ). guarantee_with x (list_len mid.joint.list)) g ∙ ap (λ (x : Shape). guarantee_with (guarantee_of query shown (candidates_of query shown) choice) (list_len x.joint.list)) (sym n))

    plain_bound : is_one choice.background ≡ false → new.guaranteed ≡ bounded_by (is_one choice.background) (guarantee_of query shown (candidates_of query shown) choice) new.joint.list
    plain_bound none = rw none (ap (λ (x : Shape). x.guaranteed) n ∙ ap (λ (x : Shape). x.guaranteed) (same none) ∙ g)

pub counts_all : (background : Background) (made mid new : Shape) (before after : Counts) → NothingCounted made.trace → (is_one background ≡ true → RunsOut made mid) → (is_one background ≡ false → mid ≡ made) → new ≡ record mid { trace = counted mid.trace before after } → CountsAll new.trace before after
counts_all background made mid new before after z runs same n =
    let t = ap (λ (x : Shape). x.trace) n in
    let none = none_counted in
    record {
      pages = ap (λ (x : Trace). x.pages) t ∙ ap (λ (x : ℕ). raised x (after.pages - before.pages)) none.pages;
      leaves = ap (λ (x : Trace). x.leaves) t ∙ ap (λ (x : ℕ). raised x (after.leaves - before.leaves)) none.leaves;
      fetches = ap (λ (x : Trace). x.fetches) t ∙ ap (λ (x : ℕ). raised x (after.records - before.records)) none.fetches;
    }
  where
    from_runs : RunsOut made mid → NothingCounted mid.trace
    from_runs r = record {
      pages = ap (λ (x : Shape). x.trace.pages) r.same ∙ z.pages;
      leaves = ap (λ (x : Shape). x.trace.leaves) r.same ∙ z.leaves;
      fetches = ap (λ (x : Shape). x.trace.fetches) r.same ∙ z.fetches;
    }

    none_counted : NothingCounted mid.trace
    none_counted = elim (cases_Bool (is_one background)) [ inl one ↦ from_runs (runs one) | inr none ↦ subst (λ (x : Shape). NothingCounted x.trace) (sym (same none)) z ]
