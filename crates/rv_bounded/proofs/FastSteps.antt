-- What pieces that are taken and foreground steps of a fast-first retrieval cost beside leaves, and what they leave.
use Rattle.std.proofs.Common.{◌≡◌, ◌⊎◌, ℕ, ◌+◌, ◌-◌, ◌*◌, ◌<◌, ◌≤◌, ◌==◌, zero, suc, List, [], ◌∷◌, length, drop, find, min, Bool, true, false, not, ◌&&◌, Option, Some, None, inl, inr, refl, ap, sym, ◌∙◌, subst, arith}
use Rattle.std.specs.Prelude.{if◌then◌else◌}
use Rattle.rv_keylist.specs.Keys.{has_key}
use Rattle.rv_value.proofs.Tests.{no_other}
use Rattle.rv_judge.specs.declared.counting.Counts.{Counts}
use Rattle.rv_judge.specs.declared.events.Control.{Control}
use Rattle.rv_judge.specs.declared.events.Control.TheVariants.{Building, ForegroundAlone, BackgroundAlone, FinalList, FinalTable, Done}
use Rattle.rv_judge.specs.declared.events.Event.TheVariants.{Full as FullEvent}
use Rattle.rv_judge.specs.declared.events.Happening.TheVariants.{FinalEnded, FrontEnded, Full}
use Rattle.rv_judge.specs.declared.events.Strategy.{Strategy}
use Rattle.rv_judge.specs.declared.events.Strategy.TheVariants.{FastFirst}
use Rattle.rv_judge.specs.declared.judging.Facts.{Facts}
use Rattle.rv_judge.specs.Counting.{record_read}
use Rattle.rv_judge.specs.Course.{building, fast_first, next_control}
use Rattle.rv_judge.specs.Tracing.{SameCounts, counted, noted}
use Rattle.rv_judge.specs.Verdicts.{Ruling}
use Rattle.rv_reader.specs.Shown.{Shown}
use Rattle.rv_scan.specs.Places.{Place}
use Rattle.rv_reader.specs.declared.step.Step.{Step}
use Rattle.rv_value.specs.declared.record.Record.{Record}
use Rattle.rv_reader.specs.declared.step.Step.TheVariants.{Row, Working, End}
use Rattle.rv_jscan.specs.declared.jscan.Taken.{Taken}
use Rattle.rv_jscan.specs.Joint.{Joint}
use Rattle.rv_jscan.specs.Steps.{TakeLeaves}
use Rattle.rv_final.specs.Stage.{keys_left}
use Rattle.rv_choice.specs.declared.query.Query.{Query}
use Rattle.rv_retrieval.specs.Accounts.{first_fresh, fresh_of}
use Rattle.rv_retrieval.specs.Given.{TakesLeaf, TakesLeafBy}
use Rattle.rv_retrieval.specs.Rulings.{gone}
use Rattle.rv_retrieval.specs.Shape.{Shape, is_background, lending}
use Rattle.rv_retrieval.specs.Telling.{list_len}
use Rattle.rv_retrieval.specs.Stepping.{DoesAs, Kind, MayRead, ReadsAs, RemembersBy, StepsBackground, StepsBehind, ended_by, is_awaiting, kind_of, piece_read, while_both}
use Rattle.skew_judges.specs.Guard.{IsBounded}
use Rattle.rv_bounded.specs.Calls.{Steps, StepsLost, Takes}
use Rattle.rv_bounded.proofs.Ahead.{ahead, counts_long, greatest}
use Rattle.rv_bounded.proofs.Controls.{is_behind}
use Rattle.rv_bounded.proofs.Costs.{given_sound, others}
use Rattle.rv_bounded.proofs.Fast.{Kept, Left, Lending, LoanCosts, due_alone, due_building, due_by, due_of, final_apart, from_costs, given_left, is_final, left_same, most, whole_of}
use Rattle.rv_bounded.proofs.Loans.{loans, loans_borrowed, loans_passed, most_by, part}
use Rattle.rv_bounded.proofs.Reading.{leaf_lost, step_lost, step_spends, take_lost, take_spends}
use Rattle.rv_bounded.proofs.Sound.{Sound, short_held, taken_sound}
use Rattle.rv_bounded.proofs.Spending.{Spends, Stays, within_on}
use Rattle.rv_bounded.proofs.StepCosts.{counted_rise, lost_sound, no_more, record_few, record_pages, rise_piece, rise_sum, step_costs, step_lost_costs, takes_sound, leaf_list, same_others}
use Rattle.rv_bounded.proofs.Sums.{at_most, less_same, record_sum, le_on, more_by, same_less, small_pages, rise_none, sum_none}

-- A leaf that is taken leaves the lists.

leaf_loans : (p borrowed : ℕ) (b : Bool) (old new : Joint) → TakesLeafBy b old new → loans p new borrowed ≡ loans p old borrowed
leaf_loans p borrowed true old new t = ap (λ (j : Joint). loans p j borrowed) t.same
leaf_loans p borrowed false old new e = ap (λ (j : Joint). loans p j borrowed) e

leaf_few : (p : ℕ) (b : Bool) (old new : Joint) → TakesLeafBy b old new → length old.building ≤ part p old.ended → length new.building ≤ part p new.ended
leaf_few p true old new t few = subst (λ (j : Joint). length j.building ≤ part p j.ended) (sym t.same) few
leaf_few p false old new e few = subst (λ (j : Joint). length j.building ≤ part p j.ended) (sym e) few

leaf_built : (b : Bool) (old new : Joint) → TakesLeafBy b old new → new.building ≡ old.building
leaf_built true old new t = ap (λ (j : Joint). j.building) t.same
leaf_built false old new e = ap (λ (j : Joint). j.building) e

most_same : (p : ℕ) (old new : Shape) → new.joint.list ≡ old.joint.list → new.guaranteed ≡ old.guaranteed → most p new ≡ most p old
most_same p old new list g = ap (λ (l : Option (List ℕ)). most_by l p new.guaranteed) list ∙ ap (most_by old.joint.list p) g

kept_same : (p : ℕ) (old new : Shape) → new.joint.building ≡ old.joint.building → new.joint.list ≡ old.joint.list → new.guaranteed ≡ old.guaranteed → Kept p old → Kept p new
kept_same p old new built list g k = record {
  built = subst (λ (n : ℕ). length new.joint.building ≤ n) (sym g) (subst (λ (l : List ℕ). length l ≤ old.guaranteed) (sym built) k.built);
  listed = subst (λ (n : ℕ). list_len new.joint.list ≤ n + 48) (sym (most_same p old new list g)) (subst (λ (l : Option (List ℕ)). list_len l ≤ most p old + 48) (sym list) k.listed);
}

-- what is due does not rise where the control, the lists and the guarantee stay
due_same : (p : ℕ) (old new : Shape) → new.control ≡ old.control → most p new ≡ most p old → loans p new.joint new.borrowed ≤ loans p old.joint old.borrowed → length (keys_left new.joint.list new.at) ≤ length (keys_left old.joint.list old.at) → new.last ≡ old.last → due_of p new ≤ due_of p old
due_same p old new control m lent keys last = by old.control control
  where
    sums : (a b c d : ℕ) → a ≡ b → c ≤ d → a + 48 + c ≤ b + 48 + d
    sums a b c d e h = omega (arith, e, h)

    alone : (a b : ℕ) → a ≡ b → a + 48 ≤ b + 48
    alone a b e = omega (arith, e)

    nothing : (n : ℕ) → 0 ≤ n
    nothing n = omega arith

    to : (c : Control) → new.control ≡ c → due_by c p (most p new) (loans p new.joint new.borrowed) (length (keys_left new.joint.list new.at)) new.last.next ≤ due_by c p (most p old) (loans p old.joint old.borrowed) (length (keys_left old.joint.list old.at)) old.last.next → due_of p new ≤ due_by c p (most p old) (loans p old.joint old.borrowed) (length (keys_left old.joint.list old.at)) old.last.next
    to c e h = subst (λ (x : Control). due_by x p (most p new) (loans p new.joint new.borrowed) (length (keys_left new.joint.list new.at)) new.last.next ≤ due_by c p (most p old) (loans p old.joint old.borrowed) (length (keys_left old.joint.list old.at)) old.last.next) (sym e) h

    by : (c : Control) → new.control ≡ c → due_of p new ≤ due_by c p (most p old) (loans p old.joint old.borrowed) (length (keys_left old.joint.list old.at)) old.last.next
    by Building e = to Building e (sums (most p new) (most p old) (loans p new.joint new.borrowed) (loans p old.joint old.borrowed) m lent)
    by ForegroundAlone e = to ForegroundAlone e (nothing 0)
    by BackgroundAlone e = to BackgroundAlone e (alone (most p new) (most p old) m)
    by FinalList e = to FinalList e keys
    by FinalTable e = to FinalTable e (same_less (p - new.last.next) (p - old.last.next) (ap (λ (x : Place). p - x.next) last))
    by Done e = to Done e (nothing 0)

-- A PIECE IS TAKEN.

takes_left : (p : ℕ) (query : Query) (planned : ℕ) (taken : Option Taken) (shown : Shown) (old new : Shape) → Lending query p planned old → Takes taken shown old new → Left p old new
takes_left p query planned taken shown old new l takes =
    let control = ap (λ (x : Shape). x.control) takes.same in
    let g = ap (λ (x : Shape). x.guaranteed) takes.same in
    let list = leaf_list (is_background old.control) old.joint new.joint takes.leaves in
    let lent : loans p new.joint new.borrowed ≡ loans p old.joint old.borrowed = ap (loans p new.joint) (ap (λ (x : Shape). x.borrowed) takes.same) ∙ leaf_loans p old.borrowed (is_background old.control) old.joint new.joint takes.leaves in
    let keys : length (keys_left new.joint.list new.at) ≡ length (keys_left old.joint.list old.at) = ap (λ (n : Option (List ℕ)). length (keys_left n new.at)) list ∙ ap (λ (n : ℕ). length (keys_left old.joint.list n)) (ap (λ (x : Shape). x.at) takes.same) in
    record {
      fewer = due_same p old new control (most_same p old new list g) (same_less (loans p new.joint new.borrowed) (loans p old.joint old.borrowed) lent) (same_less (length (keys_left new.joint.list new.at)) (length (keys_left old.joint.list old.at)) keys) (ap (λ (x : Shape). x.last) takes.same);
      fast = λ e. ap (λ (x : Shape). x.strategy) takes.same ∙ l.fast (sym control ∙ e);
      few = λ e. leaf_few p (is_background old.control) old.joint new.joint takes.leaves (l.few (sym control ∙ e));
      kept = λ b. kept_same p old new (leaf_built (is_background old.control) old.joint new.joint takes.leaves) list g (l.kept (ap is_background (sym control) ∙ b));
    }

pub take_lends : (p planned : ℕ) (query : Query) (taken : Taken) (shown : Shown) (old new : Shape) → p + 2 * planned < greatest → Lending query p planned old → Takes (Some taken) shown old new → LoanCosts p 0 old new
take_lends p planned query taken shown old new small l takes =
    let left = takes_left p query planned (Some taken) shown old new l takes in
    record {
      leaf = 0;
      other = 0;
      both = refl;
      spends = take_spends p planned taken shown old new small l.within takes;
      fewer = sum_none (others new) (others old) (due_of p new) (due_of p old) (rise_piece old old new takes.before takes.behind takes.reads takes.counts) left.fewer;
      sound = takes_sound p planned (Some taken) shown old new l.within l.sound takes;
      fast = left.fast;
      few = left.few;
      kept = left.kept;
    }

pub take_lost_lends : (p planned : ℕ) (query : Query) (shown : Shown) (old new : Shape) → p + 2 * planned < greatest → Lending query p planned old → Takes None shown old new → LoanCosts p 1 old new
take_lost_lends p planned query shown old new small l takes =
    let left = takes_left p query planned None shown old new l takes in
    record {
      leaf = 1;
      other = 0;
      both = refl;
      spends = take_lost p planned shown old new small l.within takes;
      fewer = sum_none (others new) (others old) (due_of p new) (due_of p old) (rise_piece old old new takes.before takes.behind takes.reads takes.counts) left.fewer;
      sound = takes_sound p planned None shown old new l.within l.sound takes;
      fast = left.fast;
      few = left.few;
      kept = left.kept;
    }

-- A FOREGROUND STEP FOR WHICH NO MEMORY IS FOUND: keys were passed over, and a leaf may have been taken, or a record read.

lost_left : (p : ℕ) (query : Query) (planned : ℕ) (shown : Shown) (old new : Shape) → Lending query p planned old → StepsLost shown old new → Left p old new
lost_left p query planned shown old new l lost = by lost.only.leaves
  where
    control : new.control ≡ old.control
    control = ap (λ (x : Shape). x.control) lost.only.same

    g : new.guaranteed ≡ old.guaranteed
    g = ap (λ (x : Shape). x.guaranteed) lost.only.same

    ends : loans p new.joint old.borrowed ≡ loans p old.joint old.borrowed → new.joint.building ≡ old.joint.building → new.joint.list ≡ old.joint.list → (length old.joint.building ≤ part p old.joint.ended → length new.joint.building ≤ part p new.joint.ended) → Left p old new
    ends same built list few = record {
      fewer = due_same p old new control (most_same p old new list g) (less_same (loans p new.joint new.borrowed) (loans p new.joint old.borrowed) (loans p old.joint old.borrowed) (loans_passed p new.joint old.borrowed new.borrowed lost.only.further) same) lost.only.fewer (ap (λ (x : Shape). x.last) lost.only.same);
      fast = λ e. ap (λ (x : Shape). x.strategy) lost.only.same ∙ l.fast (sym control ∙ e);
      few = λ e. few (l.few (sym control ∙ e));
      kept = λ b. kept_same p old new built list g (l.kept (ap is_background (sym control) ∙ b));
    }

    by : ((new.joint ≡ old.joint) ⊎ TakesLeaf old new.joint) → Left p old new
    by (inl same) = ends (ap (λ (j : Joint). loans p j old.borrowed) same) (ap (λ (j : Joint). j.building) same) (ap (λ (j : Joint). j.list) same) (λ few. subst (λ (j : Joint). length j.building ≤ part p j.ended) (sym same) few)
    by (inr leaves) = ends (leaf_loans p old.borrowed (is_background old.control) old.joint new.joint leaves) (leaf_built (is_background old.control) old.joint new.joint leaves) (leaf_list (is_background old.control) old.joint new.joint leaves) (λ few. leaf_few p (is_background old.control) old.joint new.joint leaves few)

kind_both : (old : Shape) → old.control ≡ Building → old.strategy ≡ FastFirst → kind_of old.control old.strategy (fresh_of old) ≡ while_both FastFirst (fresh_of old)
kind_both old both fast = ap (λ (c : Control). kind_of c old.strategy (fresh_of old)) both ∙ ap (λ (s : Strategy). while_both s (fresh_of old)) fast

pub step_lost_lends : (p planned : ℕ) (query : Query) (shown : Shown) (old new : Shape) → p + 2 * planned < greatest → Lending query p planned old → StepsLost shown old new → LoanCosts p 1 old new
step_lost_lends p planned query shown old new small l lost = by old.control refl
  where
    left : Left p old new
    left = lost_left p query planned shown old new l lost

    sound : Sound p new.joint
    sound = lost_sound p planned shown old new l.within l.sound lost

    spends : Spends p 1 old new
    spends = step_lost p planned shown old new small l.within lost

    piece : lost.behind ≡ piece_read old lost.before → LoanCosts p 1 old new
    piece reads = record {
      leaf = 1;
      other = 0;
      both = refl;
      spends = spends;
      fewer = sum_none (others new) (others old) (due_of p new) (due_of p old) (rise_piece old old new lost.before lost.behind reads lost.counts) left.fewer;
      sound = sound;
      fast = left.fast;
      few = left.few;
      kept = left.kept;
    }

    record_read_one : lost.behind ≡ record_read lost.before → LoanCosts p 1 old new
    record_read_one reads = record {
      leaf = 0;
      other = 1;
      both = refl;
      spends = record {
        stays = spends.stays;
        fewer = sum_none new.trace.leaves old.trace.leaves (ahead p new.joint) (ahead p old.joint) (rise_none new.trace.leaves old.trace.leaves lost.before.leaves lost.behind.leaves greatest lost.counts.leaves (ap (λ (c : Counts). c.leaves) reads)) (fewer lost.only.leaves);
      };
      fewer = record_sum (others new) (due_of p new) (others old) (due_of p old) (rise_sum new.trace.pages new.trace.fetches old.trace.pages old.trace.fetches lost.before.pages lost.behind.pages lost.before.records lost.behind.records 0 1 greatest lost.counts.pages lost.counts.fetches (no_more lost.behind.pages lost.before.pages (ap (λ (c : Counts). c.pages) reads)) (record_few lost.before lost.behind (inr reads))) left.fewer;
      sound = sound;
      fast = left.fast;
      few = left.few;
      kept = left.kept;
    }
      where
        fewer : ((new.joint ≡ old.joint) ⊎ TakesLeaf old new.joint) → ahead p new.joint ≤ ahead p old.joint
        fewer (inl same) = same_less (ahead p new.joint) (ahead p old.joint) (ap (ahead p) same)
        fewer (inr leaves) = leaf_lost p planned old new.joint small l.within leaves

    fresh : (fresh : Option ℕ) → MayRead (while_both FastFirst fresh) old lost.before lost.behind → LoanCosts p 1 old new
    fresh None reads = piece reads
    fresh (Some key) reads = record_read_one reads

    final : is_final old.control ≡ true → LoanCosts p 1 old new
    final f = from_costs p 1 old new f (ap (λ (x : Shape). is_final x.control) lost.only.same ∙ f) (step_lost_costs p planned query shown old new small (whole_of query p planned old l (final_apart old.control f)) lost)

    by : (c : Control) → old.control ≡ c → LoanCosts p 1 old new
    by Building e = fresh (fresh_of old) (subst (λ (k : Kind). MayRead k old lost.before lost.behind) (kind_both old e (l.fast e)) lost.may_read)
    by ForegroundAlone e = no_other (sym (ap (is_behind old.strategy) e) ∙ l.within.behind)
    by BackgroundAlone e = piece (subst (λ (k : Kind). MayRead k old lost.before lost.behind) (ap (λ (c : Control). kind_of c old.strategy (fresh_of old)) e) lost.may_read)
    by FinalList e = final (ap is_final e)
    by FinalTable e = final (ap is_final e)
    by Done e = final (ap is_final e)

-- A FOREGROUND STEP: its reads beside leaves, and what it leaves.

pub record Lends (p : ℕ) (old new : Shape) : Type 0 where
  pub fewer : others new + due_of p new ≤ others old + due_of p old + 0
  pub sound : Sound p new.joint
  pub fast : new.control ≡ Building → new.strategy ≡ FastFirst
  pub few : new.control ≡ Building → length new.joint.building ≤ part p new.joint.ended
  pub kept : is_background new.control ≡ true → Kept p new

-- what a step has done is counted behind it
counted_lends : (p : ℕ) (old stepped new : Shape) (c d : Counts) → new ≡ record stepped { trace = counted stepped.trace c d } → others new + due_of p stepped ≤ others old + due_of p old + 0 → Sound p stepped.joint → (stepped.control ≡ Building → stepped.strategy ≡ FastFirst) → (stepped.control ≡ Building → length stepped.joint.building ≤ part p stepped.joint.ended) → (is_background stepped.control ≡ true → Kept p stepped) → Lends p old new
counted_lends p old stepped new c d e fewer sound fast few kept = record {
  fewer = subst (λ (n : ℕ). others new + n ≤ others old + due_of p old + 0) (sym (ap (due_of p) e)) fewer;
  sound = subst (λ (x : Shape). Sound p x.joint) (sym e) sound;
  fast = subst (λ (x : Shape). x.control ≡ Building → x.strategy ≡ FastFirst) (sym e) fast;
  few = subst (λ (x : Shape). x.control ≡ Building → length x.joint.building ≤ part p x.joint.ended) (sym e) few;
  kept = subst (λ (x : Shape). is_background x.control ≡ true → Kept p x) (sym e) (λ b. record { built = (kept b).built; listed = (kept b).listed });
}

-- a background step
back_lends : (p planned : ℕ) (would : ℕ → Facts → Ruling) (state after : ℕ) (query : Query) (old stepped new : Shape) (c d : Counts) → p ≤ greatest → IsBounded would → Lending query p planned old → is_background old.control ≡ true → StepsBackground would state after old stepped → d ≡ piece_read old c → new ≡ record stepped { trace = counted stepped.trace c d } → Lends p old new
back_lends p planned would state after query old stepped new c d small rule l back steps reads e = by (is_awaiting old) steps.does
  where
    own : Kept p old
    own = l.kept back

    passed : loans p old.joint steps.passed ≤ loans p old.joint old.borrowed
    passed = loans_passed p old.joint old.borrowed steps.passed steps.further

    ends : Left p old stepped → Sound p stepped.joint → others stepped ≡ others old → Lends p old new
    ends left sound same = counted_lends p old stepped new c d e (sum_none (others new) (others old) (due_of p stepped) (due_of p old) (less_same (others new) (others stepped) (others old) (rise_piece old stepped new c d reads (counted_rise stepped new c d e)) same) left.fewer) sound left.fast left.few left.kept

    by : (b : Bool) → StepsBehind b would state after (record old { borrowed = steps.passed }) stepped → Lends p old new
    by true one =
        let mid = record old { borrowed = steps.passed; joint = one.taken } in
        let short = short_held one.taken.held one.piece.entries one.awaits.entries one.short in
        let taken = taken_sound p old.joint one.taken one.leaves l.within.room short l.sound in
        let stays : Stays old mid = record { behind = λ b. b; plans = ap (λ (j : Joint). length j.plans) one.leaves.same; counts = long one.taken one.leaves; less = at_most old.guaranteed; asked = refl; apart = λ b. b } in
        let within = within_on p planned old mid stays l.within in
        let given = given_sound p planned would state after one.piece mid stepped one.obeys.0 rule within small taken one.awaits one.obeys.1 one.obeys.2 in
        let few : old.control ≡ Building → length one.taken.building ≤ part p one.taken.ended = λ both. subst (λ (j : Joint). length j.building ≤ part p j.ended) (sym one.leaves.same) (l.few both) in
        let kept : Kept p mid = kept_same p old mid (ap (λ (j : Joint). j.building) one.leaves.same) (ap (λ (j : Joint). j.list) one.leaves.same) refl own in
        let left = given_left p planned would state after one.piece mid stepped one.obeys.0 rule within small taken back l.fast few kept one.awaits one.obeys.1 one.obeys.2 in
        let same : loans p one.taken steps.passed ≡ loans p old.joint steps.passed = ap (λ (j : Joint). loans p j steps.passed) one.leaves.same in
        let before : due_of p mid ≤ due_of p old = due_same p old mid refl (most_same p old mid (ap (λ (j : Joint). j.list) one.leaves.same) refl) (subst (λ (n : ℕ). n ≤ loans p old.joint old.borrowed) (sym same) passed) (same_less (length (keys_left one.taken.list old.at)) (length (keys_left old.joint.list old.at)) (ap (λ (j : Joint). length (keys_left j.list old.at)) one.leaves.same)) refl in
        ends (record { fewer = le_on (due_of p stepped) (due_of p mid) (due_of p old) left.fewer before; fast = left.fast; few = left.few; kept = left.kept }) given.0 (same_others mid stepped given.1)
      where
        long : (taken : Joint) → TakeLeaves old.joint taken → length taken.counts ≡ length old.joint.counts
        long taken t = ap (λ (j : Joint). length j.counts) t.same ∙ counts_long old.joint
    by false still =
        let mid = record old { borrowed = steps.passed } in
        let left : Left p old mid = left_same p old mid back refl (at_most (most p old)) (λ both. more_by (most p old) (loans p old.joint steps.passed) (loans p old.joint old.borrowed) passed) l.fast l.few (record { built = own.built; listed = own.listed }) in
        ends (subst (Left p old) (sym still.0) left) (subst (λ (x : Shape). Sound p x.joint) (sym still.0) l.sound) (ap others still.0)

-- a fresh key is one that is left of the list

some_left : (delivered : List ℕ) (list : List ℕ) (at key : ℕ) → find (λ (k : ℕ). not (has_key k delivered)) (drop at list) ≡ Some key → at < length list
some_left delivered [] zero key e = let bad : None ≡ Some key = e in absurd (cc)
some_left delivered [] (suc at) key e = let bad : None ≡ Some key = e in absurd (cc)
some_left delivered (x ∷ list) zero key e = omega arith
some_left delivered (x ∷ list) (suc at) key e = let rest = some_left delivered list at key e in omega (arith, rest)

fresh_left : (old : Shape) (key : ℕ) → old.control ≡ Building → old.strategy ≡ FastFirst → fresh_of old ≡ Some key → old.borrowed < length (lending old.joint)
fresh_left old key both fast e =
    let first : fresh_of old ≡ first_fresh old = ap (λ (c : Control). if building c && fast_first old.strategy then first_fresh old else None) both ∙ ap (λ (s : Strategy). if fast_first s then first_fresh old else None) fast in
    some_left old.delivered (lending old.joint) old.borrowed key (sym first ∙ e)

-- what a fetch of a fresh key leaves
record Fetched (p : ℕ) (old stepped : Shape) : Type 0 where
  counts : SameCounts old.trace stepped.trace
  joint : stepped.joint ≡ old.joint
  fewer : due_of p stepped + 1 ≤ due_of p old
  fast : stepped.control ≡ Building → stepped.strategy ≡ FastFirst
  kept : Kept p stepped

one_more_sum : (m a b new old : ℕ) → new ≡ m + 48 + a → old ≡ m + 48 + b → a + 1 ≤ b → new + 1 ≤ old
one_more_sum m a b new old n o h = omega (arith, n, o, h)

one_apart_sum : (new m a b old : ℕ) → new ≡ m + 48 → old ≡ m + 48 + b → a + 1 ≤ b → new + 1 ≤ old
one_apart_sum new m a b old n o h = omega (arith, n, o, h)

full_control : (s : Strategy) (c : Control) → s ≡ FastFirst → c ≡ Building → next_control s c Full ≡ BackgroundAlone
full_control s c fast both = ap (λ (x : Strategy). next_control x c Full) fast ∙ ap (λ (x : Control). next_control FastFirst x Full) both

front_control : (s : Strategy) (c : Control) → s ≡ FastFirst → c ≡ Building → next_control s c FrontEnded ≡ Building
front_control s c fast both = ap (λ (x : Strategy). next_control x c FrontEnded) fast ∙ ap (λ (x : Control). next_control FastFirst x FrontEnded) both

fetched_of : (p : ℕ) (s : Step Record) (old stepped : Shape) → old.control ≡ Building → old.strategy ≡ FastFirst → Kept p old → loans p old.joint stepped.borrowed + 1 ≤ loans p old.joint old.borrowed → RemembersBy s (record old { borrowed = stepped.borrowed }) stepped → Fetched p old stepped
fetched_of p (Row r) old stepped both fast kept less remembers = subst (Fetched p old) (sym remembers.same) (full (length stepped.delivered == 1024))
  where
    w : Shape
    w = record old { borrowed = stepped.borrowed; delivered = stepped.delivered }

    full : (b : Bool) → Fetched p old (if b then gone Full (record w { trace = noted w.trace FullEvent }) else w)
    full true =
        let u = gone Full (record w { trace = noted w.trace FullEvent }) in
        record {
          counts = record { pages = refl; leaves = refl; fetches = refl };
          joint = refl;
          fewer = one_apart_sum (due_of p u) (most p old) (loans p old.joint stepped.borrowed) (loans p old.joint old.borrowed) (due_of p old) (due_alone p u (full_control old.strategy old.control fast both)) (due_building p old both) less;
          fast = λ e. fast;
          kept = record { built = kept.built; listed = kept.listed };
        }
    full false = record {
      counts = record { pages = refl; leaves = refl; fetches = refl };
      joint = refl;
      fewer = one_more_sum (most p old) (loans p old.joint stepped.borrowed) (loans p old.joint old.borrowed) (due_of p w) (due_of p old) (due_building p w both) (due_building p old both) less;
      fast = λ e. fast;
      kept = record { built = kept.built; listed = kept.listed };
    }
fetched_of p Working old stepped both fast kept less remembers =
    let w = record old { borrowed = stepped.borrowed } in
    subst (Fetched p old) (sym remembers) (record {
      counts = record { pages = refl; leaves = refl; fetches = refl };
      joint = refl;
      fewer = one_more_sum (most p old) (loans p old.joint stepped.borrowed) (loans p old.joint old.borrowed) (due_of p w) (due_of p old) (due_building p w both) (due_building p old both) less;
      fast = λ e. fast;
      kept = record { built = kept.built; listed = kept.listed };
    })
fetched_of p End old stepped both fast kept less remembers =
    let u = gone FrontEnded (record old { borrowed = stepped.borrowed }) in
    subst (Fetched p old) (sym remembers) (record {
      counts = record { pages = refl; leaves = refl; fetches = refl };
      joint = refl;
      fewer = one_more_sum (most p old) (loans p old.joint stepped.borrowed) (loans p old.joint old.borrowed) (due_of p u) (due_of p old) (due_building p u (front_control old.strategy old.control fast both)) (due_building p old both) less;
      fast = λ e. fast;
      kept = record { built = kept.built; listed = kept.listed };
    })

fetch_sum : (pages fetches p f dp cp dr cr left had most : ℕ) → pages ≡ min (p + (dp - cp)) most → fetches ≡ min (f + (dr - cr)) most → dp ≡ cp → dr ≤ cr + 1 → left + 1 ≤ had → pages + fetches + left ≤ p + f + had + 0
fetch_sum pages fetches p f dp cp dr cr left had most n m a k l = omega (arith, n, m, a, k, l)

borrow_lends : (p planned : ℕ) (query : Query) (s : Step Record) (old stepped new : Shape) (c d : Counts) (key : ℕ) → Lending query p planned old → old.control ≡ Building → fresh_of old ≡ Some key → old.borrowed < stepped.borrowed → RemembersBy s (record old { borrowed = stepped.borrowed }) stepped → d ≡ record_read c → new ≡ record stepped { trace = counted stepped.trace c d } → Lends p old new
borrow_lends p planned query s old stepped new c d key l both fresh further remembers reads e =
    let fast = l.fast both in
    let less = loans_borrowed p old.joint old.borrowed stepped.borrowed further (fresh_left old key both fast fresh) (l.few both) in
    let fetched = fetched_of p s old stepped both fast (l.kept (ap is_background both)) less remembers in
    let rise = counted_rise stepped new c d e in
    let pages : new.trace.pages ≡ min (old.trace.pages + (d.pages - c.pages)) greatest = subst (λ (n : ℕ). new.trace.pages ≡ min (n + (d.pages - c.pages)) greatest) fetched.counts.pages rise.pages in
    let fetches : new.trace.fetches ≡ min (old.trace.fetches + (d.records - c.records)) greatest = subst (λ (n : ℕ). new.trace.fetches ≡ min (n + (d.records - c.records)) greatest) fetched.counts.fetches rise.fetches in
    counted_lends p old stepped new c d e (fetch_sum new.trace.pages new.trace.fetches old.trace.pages old.trace.fetches d.pages c.pages d.records c.records (due_of p stepped) (due_of p old) greatest pages fetches (record_pages c d (inr reads)) (record_few c d (inr reads)) fetched.fewer) (subst (Sound p) (sym fetched.joint) l.sound) fetched.fast (λ b. subst (λ (j : Joint). length j.building ≤ part p j.ended) (sym fetched.joint) (l.few both)) (λ b. fetched.kept)

both_lends : (p planned : ℕ) (would : ℕ → Facts → Ruling) (state after : ℕ) (query : Query) (shown : Shown) (c d : Counts) (s : Step Record) (fresh : Option ℕ) (old stepped new : Shape) → p ≤ greatest → IsBounded would → Lending query p planned old → old.control ≡ Building → fresh_of old ≡ fresh → DoesAs (while_both FastFirst fresh) would state after shown c d s old stepped → ReadsAs (while_both FastFirst fresh) old s c d → new ≡ record stepped { trace = counted stepped.trace c d } → Lends p old new
both_lends p planned would state after query shown c d s None old stepped new small rule l both fresh does reads e = back_lends p planned would state after query old stepped new c d small rule l (ap is_background both) does.1 reads e
both_lends p planned would state after query shown c d s (Some key) old stepped new small rule l both fresh does reads e = borrow_lends p planned query s old stepped new c d key l both fresh does.1.further does.1.left reads e

-- the final stage goes on, or ends

final_by : (s : Step Record) (old v stepped : Shape) → v.control ≡ old.control → v.strategy ≡ old.strategy → is_final (next_control old.strategy old.control FinalEnded) ≡ true → is_final old.control ≡ true → stepped ≡ ended_by FinalEnded s v → is_final stepped.control ≡ true
final_by (Row r) old v stepped control strategy ends final e = ap (λ (x : Shape). is_final x.control) e ∙ ap is_final control ∙ final
final_by Working old v stepped control strategy ends final e = ap (λ (x : Shape). is_final x.control) e ∙ ap is_final control ∙ final
final_by End old v stepped control strategy ends final e = ap (λ (x : Shape). is_final x.control) e ∙ ap (λ (s : Strategy). is_final (next_control s v.control FinalEnded)) strategy ∙ ap (λ (c : Control). is_final (next_control old.strategy c FinalEnded)) control ∙ ends

list_ends : (s : Strategy) → is_final (next_control s FinalList FinalEnded) ≡ true
list_ends s = refl

table_ends : (s : Strategy) → is_final (next_control s FinalTable FinalEnded) ≡ true
table_ends s = refl

pub step_lends : (p planned : ℕ) (would : ℕ → Facts → Ruling) (query : Query) (shown : Shown) (old new : Shape) → p + 2 * planned < greatest → p ≡ shown.pages query.table query.snap → IsBounded would → Lending query p planned old → Steps would shown old new → LoanCosts p 0 old new
step_lends p planned would query shown old new small pages rule l steps = by old.control refl
  where
    costs : Lends p old new → LoanCosts p 0 old new
    costs left = record {
      leaf = 0;
      other = 0;
      both = refl;
      spends = step_spends p planned would shown old new small rule l.within steps;
      fewer = left.fewer;
      sound = left.sound;
      fast = left.fast;
      few = left.few;
      kept = left.kept;
    }

    does : (k : Kind) → kind_of old.control old.strategy (fresh_of old) ≡ k → DoesAs k would steps.state steps.after shown steps.before steps.behind steps.fg old steps.does.stepped
    does k e = subst (λ (x : Kind). DoesAs x would steps.state steps.after shown steps.before steps.behind steps.fg old steps.does.stepped) e steps.does.does

    reads : (k : Kind) → kind_of old.control old.strategy (fresh_of old) ≡ k → ReadsAs k old steps.fg steps.before steps.behind
    reads k e = subst (λ (x : Kind). ReadsAs x old steps.fg steps.before steps.behind) e steps.does.reads

    kind : (c : Control) → old.control ≡ c → kind_of old.control old.strategy (fresh_of old) ≡ kind_of c old.strategy (fresh_of old)
    kind c e = ap (λ (x : Control). kind_of x old.strategy (fresh_of old)) e

    final : is_final old.control ≡ true → is_final steps.does.stepped.control ≡ true → LoanCosts p 0 old new
    final f g = from_costs p 0 old new f (ap (λ (x : Shape). is_final x.control) steps.does.counts ∙ g) (step_costs p planned would query shown old new small pages rule (whole_of query p planned old l (final_apart old.control f)) steps)

    by : (c : Control) → old.control ≡ c → LoanCosts p 0 old new
    by Building e = costs (both_lends p planned would steps.state steps.after query shown steps.before steps.behind steps.fg (fresh_of old) old steps.does.stepped new (small_pages p planned greatest small) rule l e refl (does (while_both FastFirst (fresh_of old)) (kind_both old e (l.fast e))) (reads (while_both FastFirst (fresh_of old)) (kind_both old e (l.fast e))) steps.does.counts)
    by ForegroundAlone e = no_other (sym (ap (is_behind old.strategy) e) ∙ l.within.behind)
    by BackgroundAlone e = costs (back_lends p planned would steps.state steps.after query old steps.does.stepped new steps.before steps.behind (small_pages p planned greatest small) rule l (ap is_background e) (does (kind_of BackgroundAlone old.strategy (fresh_of old)) (kind BackgroundAlone e)).1 (reads (kind_of BackgroundAlone old.strategy (fresh_of old)) (kind BackgroundAlone e)) steps.does.counts)
    by FinalList e = final (ap is_final e) (final_by steps.fg old (record old { at = steps.does.stepped.at }) steps.does.stepped refl refl (ap (λ (c : Control). is_final (next_control old.strategy c FinalEnded)) e ∙ list_ends old.strategy) (ap is_final e) (does (kind_of FinalList old.strategy (fresh_of old)) (kind FinalList e)).2)
    by FinalTable e = final (ap is_final e) (final_by steps.fg old (record old { last = steps.does.stepped.last }) steps.does.stepped refl refl (ap (λ (c : Control). is_final (next_control old.strategy c FinalEnded)) e ∙ table_ends old.strategy) (ap is_final e) (does (kind_of FinalTable old.strategy (fresh_of old)) (kind FinalTable e)).1)
    by Done e = final (ap is_final e) (ap (λ (x : Shape). is_final x.control) (does (kind_of Done old.strategy (fresh_of old)) (kind Done e)).2 ∙ ap is_final e)
