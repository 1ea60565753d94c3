-- What calls of a fast-first retrieval cost beside leaves, and what they leave.
use Rattle.std.proofs.Common.{◌≡◌, ℕ, ◌+◌, ◌-◌, ◌*◌, ◌^◌, ◌<◌, ◌≤◌, List, ◌++◌, length, min, Bool, true, false, ◌&&◌, ◌||◌, Option, Some, None, is_some, inl, inr, refl, ap, sym, ◌∙◌, subst, arith, le_trans}
use Rattle.std.specs.Prelude.{if◌then◌else◌, nat_lt}
use Rattle.std.proofs.lemmas.Bool.Decides.{nat_tests}
use Rattle.std.proofs.lemmas.List.{length-append}
use Rattle.std.proofs.lemmas.List.Sorted.{length_permutation}
use Rattle.std.specs.Cmp.{first_so}
use Rattle.rv_value.proofs.Tests.{no_other}
use Rattle.rv_value.specs.declared.record.IndexEntry.{IndexEntry}
use Rattle.rv_judge.specs.declared.events.Control.{Control}
use Rattle.rv_judge.specs.declared.events.Control.TheVariants.{Building, ForegroundAlone, BackgroundAlone, FinalList, FinalTable, Done}
use Rattle.rv_judge.specs.declared.events.Event.TheVariants.{Stop}
use Rattle.rv_judge.specs.declared.events.Happening.{Happening}
use Rattle.rv_judge.specs.declared.events.Happening.TheVariants.{Ruled, ScanEnded}
use Rattle.rv_judge.specs.declared.events.Strategy.{Strategy}
use Rattle.rv_judge.specs.declared.events.Strategy.TheVariants.{FastFirst}
use Rattle.rv_judge.specs.declared.judging.Facts.{Facts}
use Rattle.rv_judge.specs.declared.judging.Verdict.{Verdict}
use Rattle.rv_judge.specs.declared.judging.Verdict.TheVariants.{Continue, AbandonScan, AbandonForeground, AbandonBackground}
use Rattle.rv_judge.specs.Account.{ScanAccount, facts_of}
use Rattle.rv_judge.specs.Course.{building, fast_first, index_only, next_control}
use Rattle.rv_judge.specs.Tracing.{noted}
use Rattle.rv_judge.specs.Verdicts.{Ruling}
use Rattle.rv_jscan.specs.declared.jscan.Given.{Given}
use Rattle.rv_jscan.specs.declared.jscan.Given.TheVariants.{Accepted, Stale}
use Rattle.rv_jscan.specs.Joint.{Joint, counts_at, plan_at, under_way}
use Rattle.rv_jscan.specs.Pieces.{Pieced}
use Rattle.rv_jscan.specs.Steps.{Accepts, Awaits, abandoned, completed, going, held_next, kept_of}
use Rattle.rv_jscan.proofs.Fits.{way_within}
use Rattle.rv_final.specs.Stage.{keys_left}
use Rattle.rv_choice.specs.declared.query.Query.{Query}
use Rattle.rv_retrieval.specs.Accounts.{account_of, scan_account}
use Rattle.rv_retrieval.specs.Given.{Answers, more_behind}
use Rattle.rv_retrieval.specs.Rulings.{GivesOn, Obeys, dropped, dropping, going_on, gone, listed, ruled, scan_over, stopped}
use Rattle.rv_retrieval.specs.Shape.{Shape, is_background}
use Rattle.rv_retrieval.specs.Telling.{can_stop, list_len}
use Rattle.rv_retrieval.proofs.Accounting.{account_at}
use Rattle.rv_retrieval.proofs.BackWork.{kept_few}
use Rattle.rv_retrieval.proofs.Courses.{keys_few}
use Rattle.skew_judges.specs.Guard.{IsBounded, goes_on}
use Rattle.skew_judges.specs.Rules.{is_building}
use Rattle.rv_bounded.specs.Calls.{Gives}
use Rattle.rv_bounded.proofs.Ahead.{ahead, greatest}
use Rattle.rv_bounded.proofs.Controls.{is_apart}
use Rattle.rv_bounded.proofs.Costs.{Costs, Whole, given_sound, goes_sound, others, rest_by, rest_of, same_others}
use Rattle.rv_bounded.proofs.Loans.{loans, loans_completed, loans_dropped, most_by, part, part_within}
use Rattle.rv_bounded.proofs.Sound.{Sound, held_short, kept_by}
use Rattle.rv_bounded.proofs.Spending.{Outcome, Spends, Within, asked_of, given_outcome, given_spends, within_on}
use Rattle.rv_bounded.proofs.Sums.{at_most, more_by, min_left, min_right, zero_least, list_sum, sum_none, still_sum}

-- THE READS BESIDE LEAVES that a control may still come to: those of the final stage, as many as the pages or, once a list is
-- complete, as are guaranteed, and 48 more; while both sides run what may still be borrowed, too
abbrev pub due_by : Control → ℕ → ℕ → ℕ → ℕ → ℕ → ℕ
due_by Building p most lent keys next = most + 48 + lent
due_by ForegroundAlone p most lent keys next = 0
due_by BackgroundAlone p most lent keys next = most + 48
due_by FinalList p most lent keys next = keys
due_by FinalTable p most lent keys next = p - next
due_by Done p most lent keys next = 0

abbrev pub most : ℕ → Shape → ℕ
most p v = most_by v.joint.list p v.guaranteed

abbrev pub due_of : ℕ → Shape → ℕ
due_of p v = due_by v.control p (most p v) (loans p v.joint v.borrowed) (length (keys_left v.joint.list v.at)) v.last.next

-- few keys are listed: no more than are guaranteed, and of a complete list 48 more
pub record Kept (p : ℕ) (v : Shape) : Type 0 where
  pub built : length v.joint.building ≤ v.guaranteed
  pub listed : list_len v.joint.list ≤ most p v + 48

-- what holds from opening on
pub record Lending (query : Query) (p planned : ℕ) (v : Shape) : Type 0 where
  pub within : Within p planned v
  pub asked : v.query ≡ query
  pub sound : Sound p v.joint
  pub fast : v.control ≡ Building → v.strategy ≡ FastFirst
  pub few : v.control ≡ Building → length v.joint.building ≤ part p v.joint.ended
  pub kept : is_background v.control ≡ true → Kept p v

-- what a call costs
pub record LoanCosts (p lost : ℕ) (old new : Shape) : Type 0 where
  pub leaf : ℕ
  pub other : ℕ
  pub both : leaf + other ≡ lost
  pub spends : Spends p leaf old new
  pub fewer : others new + due_of p new ≤ others old + due_of p old + other
  pub sound : Sound p new.joint
  pub fast : new.control ≡ Building → new.strategy ≡ FastFirst
  pub few : new.control ≡ Building → length new.joint.building ≤ part p new.joint.ended
  pub kept : is_background new.control ≡ true → Kept p new

pub lending_on : (query : Query) (p planned lost : ℕ) (old new : Shape) → LoanCosts p lost old new → Lending query p planned old → Lending query p planned new
lending_on query p planned lost old new c l = record {
  within = within_on p planned old new c.spends.stays l.within;
  asked = c.spends.stays.asked ∙ l.asked;
  sound = c.sound;
  fast = c.fast;
  few = c.few;
  kept = c.kept;
}

-- In the final stage.

abbrev pub is_final : Control → Bool
is_final Building = false
is_final ForegroundAlone = false
is_final BackgroundAlone = false
is_final FinalList = true
is_final FinalTable = true
is_final Done = true

pub due_rest : (c : Control) (p m lent keys next : ℕ) → is_final c ≡ true → due_by c p m lent keys next ≡ rest_by c p keys next
due_rest Building p m lent keys next a = no_other a
due_rest ForegroundAlone p m lent keys next a = no_other a
due_rest BackgroundAlone p m lent keys next a = no_other a
due_rest FinalList p m lent keys next a = refl
due_rest FinalTable p m lent keys next a = refl
due_rest Done p m lent keys next a = refl

pub due_final : (p : ℕ) (v : Shape) → is_final v.control ≡ true → due_of p v ≡ rest_of p v
due_final p v a = due_rest v.control p (most p v) (loans p v.joint v.borrowed) (length (keys_left v.joint.list v.at)) v.last.next a

pub final_apart : (c : Control) → is_final c ≡ true → is_apart c ≡ true
final_apart Building a = a
final_apart ForegroundAlone a = a
final_apart BackgroundAlone a = refl
final_apart FinalList a = refl
final_apart FinalTable a = refl
final_apart Done a = refl

final_ahead : (c : Control) → is_final c ≡ true → is_background c ≡ false
final_ahead Building a = no_other a
final_ahead ForegroundAlone a = refl
final_ahead BackgroundAlone a = no_other a
final_ahead FinalList a = refl
final_ahead FinalTable a = refl
final_ahead Done a = refl

pub not_final : {X : Type 0} (c : Control) → is_final c ≡ true → is_background c ≡ true → X
not_final c a b = no_other (sym (final_ahead c a) ∙ b)

pub not_both : {X : Type 0} (c : Control) → is_final c ≡ true → c ≡ Building → X
not_both c a e = no_other (sym (ap is_final e) ∙ a)

pub due_building : (p : ℕ) (v : Shape) → v.control ≡ Building → due_of p v ≡ most p v + 48 + loans p v.joint v.borrowed
due_building p v e = ap (λ (c : Control). due_by c p (most p v) (loans p v.joint v.borrowed) (length (keys_left v.joint.list v.at)) v.last.next) e

pub due_alone : (p : ℕ) (v : Shape) → v.control ≡ BackgroundAlone → due_of p v ≡ most p v + 48
due_alone p v e = ap (λ (c : Control). due_by c p (most p v) (loans p v.joint v.borrowed) (length (keys_left v.joint.list v.at)) v.last.next) e

pub whole_of : (query : Query) (p planned : ℕ) (v : Shape) → Lending query p planned v → is_apart v.control ≡ true → Whole query p planned v
whole_of query p planned v l a = record { within = l.within; asked = l.asked; apart = a; sound = l.sound }

same_sums : (now was other a b c d : ℕ) → a ≡ b → c ≡ d → now + b ≤ was + d + other → now + a ≤ was + c + other
same_sums now was other a b c d e f h = omega (arith, e, f, h)

pub from_costs : (p lost : ℕ) (old new : Shape) → is_final old.control ≡ true → is_final new.control ≡ true → Costs p lost old new → LoanCosts p lost old new
from_costs p lost old new a b c = record {
  leaf = c.leaf;
  other = c.other;
  both = c.both;
  spends = c.spends;
  fewer = same_sums (others new) (others old) c.other (due_of p new) (rest_of p new) (due_of p old) (rest_of p old) (due_final p new b) (due_final p old a) c.fewer;
  sound = c.sound;
  fast = λ e. not_both new.control b e;
  few = λ e. not_both new.control b e;
  kept = λ e. not_final new.control b e;
}

-- A PIECE IS GIVEN.

-- what it leaves
pub record Left (p : ℕ) (old new : Shape) : Type 0 where
  pub fewer : due_of p new ≤ due_of p old
  pub fast : new.control ≡ Building → new.strategy ≡ FastFirst
  pub few : new.control ≡ Building → length new.joint.building ≤ part p new.joint.ended
  pub kept : is_background new.control ≡ true → Kept p new

-- pieces are awaited while both sides run, and in a background alone
pub by_back : {X : Type 0} (c : Control) → is_background c ≡ true → (c ≡ Building → X) → (c ≡ BackgroundAlone → X) → X
by_back Building b both alone = both refl
by_back ForegroundAlone b both alone = no_other b
by_back BackgroundAlone b both alone = alone refl
by_back FinalList b both alone = no_other b
by_back FinalTable b both alone = no_other b
by_back Done b both alone = no_other b

both_sum : (m n a b new old : ℕ) → new ≡ m + 48 + a → old ≡ n + 48 + b → m + a ≤ n + b → new ≤ old
both_sum m n a b new old e f h = omega (arith, e, f, h)

alone_sum : (m n new old : ℕ) → new ≡ m + 48 → old ≡ n + 48 → m ≤ n → new ≤ old
alone_sum m n new old e f h = omega (arith, e, f, h)

stop_sum : (m n b new old : ℕ) → new ≡ m + 48 → old ≡ n + 48 + b → m ≤ n → new ≤ old
stop_sum m n b new old e f h = omega (arith, e, f, h)

-- the same control stays
pub left_same : (p : ℕ) (old new : Shape) → is_background old.control ≡ true → new.control ≡ old.control → most p new ≤ most p old → (old.control ≡ Building → most p new + loans p new.joint new.borrowed ≤ most p old + loans p old.joint old.borrowed) → (new.control ≡ Building → new.strategy ≡ FastFirst) → (new.control ≡ Building → length new.joint.building ≤ part p new.joint.ended) → Kept p new → Left p old new
left_same p old new back same less total fast few kept = record {
  fewer = by_back old.control back
      (λ e. both_sum (most p new) (most p old) (loans p new.joint new.borrowed) (loans p old.joint old.borrowed) (due_of p new) (due_of p old) (due_building p new (same ∙ e)) (due_building p old e) (total e))
      (λ e. alone_sum (most p new) (most p old) (due_of p new) (due_of p old) (due_alone p new (same ∙ e)) (due_alone p old e) less);
  fast = fast;
  few = few;
  kept = λ b. kept;
}

not_alone : {X : Type 0} (c : Control) → c ≡ BackgroundAlone → c ≡ Building → X
not_alone c e f = absurd (let bad : BackgroundAlone ≡ Building = sym e ∙ f in cc)

-- the foreground is dropped
pub left_alone : (p : ℕ) (old new : Shape) → old.control ≡ Building → new.control ≡ BackgroundAlone → most p new ≤ most p old → Kept p new → Left p old new
left_alone p old new both alone less kept = record {
  fewer = stop_sum (most p new) (most p old) (loans p old.joint old.borrowed) (due_of p new) (due_of p old) (due_alone p new alone) (due_building p old both) less;
  fast = λ e. not_alone new.control alone e;
  few = λ e. not_alone new.control alone e;
  kept = λ b. kept;
}

-- the final stage begins, with a list where one is complete, else with the table
abbrev pub final_of : Bool → Control
final_of true = FinalList
final_of false = FinalTable

final_is : (b : Bool) → is_final (final_of b) ≡ true
final_is true = refl
final_is false = refl

table_sum : (p next m : ℕ) → p ≤ m → p - next ≤ m + 48
table_sum p next m h = omega (arith, h)

final_due : (list : Option (List ℕ)) (p n lent at next m : ℕ) → list_len list ≤ m + 48 → (is_some list ≡ false → p ≤ m) → due_by (final_of (is_some list)) p n lent (length (keys_left list at)) next ≤ m + 48
final_due None p n lent at next m few none = table_sum p next m (none refl)
final_due (Some keys) p n lent at next m few none = le_trans (keys_few (Some keys) at) few

back_least : (m b old : ℕ) → old ≡ m + 48 + b → m + 48 ≤ old
back_least m b old e = omega (arith, e)

alone_least : (m old : ℕ) → old ≡ m + 48 → m + 48 ≤ old
alone_least m old e = omega (arith, e)

due_least : (p : ℕ) (v : Shape) → is_background v.control ≡ true → most p v + 48 ≤ due_of p v
due_least p v back = by_back v.control back (λ e. back_least (most p v) (loans p v.joint v.borrowed) (due_of p v) (due_building p v e)) (λ e. alone_least (most p v) (due_of p v) (due_alone p v e))

pub left_final : (p : ℕ) (old new : Shape) → is_background old.control ≡ true → new.control ≡ final_of (is_some new.joint.list) → list_len new.joint.list ≤ most p old + 48 → (is_some new.joint.list ≡ false → p ≤ most p old) → Left p old new
left_final p old new back is few none =
    let final : is_final new.control ≡ true = ap is_final is ∙ final_is (is_some new.joint.list) in
    record {
      fewer = le_trans (subst (λ (c : Control). due_by c p (most p new) (loans p new.joint new.borrowed) (length (keys_left new.joint.list new.at)) new.last.next ≤ most p old + 48) (sym is) (final_due new.joint.list p (most p new) (loans p new.joint new.borrowed) new.at new.last.next (most p old) few none)) (due_least p old back);
      fast = λ e. not_both new.control final e;
      few = λ e. not_both new.control final e;
      kept = λ e. not_final new.control final e;
    }

-- THE CONTROL THAT FOLLOWS

by_fast : (s : Strategy) (c d : Control) (h : Happening) → is_background c ≡ true → (c ≡ Building → s ≡ FastFirst) → next_control FastFirst Building h ≡ d → next_control s BackgroundAlone h ≡ d → next_control s c h ≡ d
by_fast s Building d h back fast both alone = ap (λ (x : Strategy). next_control x Building h) (fast refl) ∙ both
by_fast s ForegroundAlone d h back fast both alone = no_other back
by_fast s BackgroundAlone d h back fast both alone = alone
by_fast s FinalList d h back fast both alone = no_other back
by_fast s FinalTable d h back fast both alone = no_other back
by_fast s Done d h back fast both alone = no_other back

scan_to : (s : Strategy) (c : Control) (more listed : Bool) → is_background c ≡ true → (c ≡ Building → s ≡ FastFirst) → more ≡ false → next_control s c (Ruled AbandonScan more listed) ≡ final_of listed
scan_to s c true listed back fast e = absurd (cc)
scan_to s c false true back fast e = by_fast s c FinalList (Ruled AbandonScan false true) back fast refl refl
scan_to s c false false back fast e = by_fast s c FinalTable (Ruled AbandonScan false false) back fast refl refl

back_to : (s : Strategy) (c : Control) (more listed : Bool) → is_background c ≡ true → (c ≡ Building → s ≡ FastFirst) → next_control s c (Ruled AbandonBackground more listed) ≡ final_of listed
back_to s c true true back fast = by_fast s c FinalList (Ruled AbandonBackground true true) back fast refl refl
back_to s c true false back fast = by_fast s c FinalTable (Ruled AbandonBackground true false) back fast refl refl
back_to s c false true back fast = by_fast s c FinalList (Ruled AbandonBackground false true) back fast refl refl
back_to s c false false back fast = by_fast s c FinalTable (Ruled AbandonBackground false false) back fast refl refl

over_to : (s : Strategy) (c : Control) → is_background c ≡ true → (c ≡ Building → s ≡ FastFirst) → next_control s c (ScanEnded false true) ≡ FinalList
over_to s c back fast = by_fast s c FinalList (ScanEnded false true) back fast refl refl

front_to : (s : Strategy) (c : Control) (more listed : Bool) → c ≡ Building → s ≡ FastFirst → next_control s c (Ruled AbandonForeground more listed) ≡ BackgroundAlone
front_to s c more listed both fast = ap (λ (x : Strategy). next_control x c (Ruled AbandonForeground more listed)) fast ∙ ap (λ (x : Control). next_control FastFirst x (Ruled AbandonForeground more listed)) both ∙ by more listed
  where
    by : (more listed : Bool) → next_control FastFirst Building (Ruled AbandonForeground more listed) ≡ BackgroundAlone
    by true true = refl
    by true false = refl
    by false true = refl
    by false false = refl

more_left : (j : Joint) → more_behind j ≡ true → j.ended + 1 < length j.plans
more_left j m = let test = first_so (nat_lt (j.ended + 1) (length j.plans)) _ m in grind (arith, nat_tests)

none_most : (list : Option (List ℕ)) (p g : ℕ) → is_some list ≡ false → p ≤ most_by list p g
none_most None p g e = at_most p
none_most (Some keys) p g e = absurd (cc)

-- a scan is dropped
dropped_left : (p : ℕ) (verdict : Verdict) (more next : Bool) (v : Shape) → is_background v.control ≡ true → (v.control ≡ Building → v.strategy ≡ FastFirst) → (next ≡ true → v.joint.ended + 1 < length v.joint.plans) → (next ≡ false → next_control v.strategy v.control (Ruled verdict more (is_some v.joint.list)) ≡ final_of (is_some v.joint.list)) → list_len v.joint.list ≤ most p v + 48 → Left p v (dropped verdict more next v)
dropped_left p verdict more true v back fast on over listed = left_same p v (going_on (dropping v)) back refl (at_most (most p v)) (λ e. more_by (most p v) (loans p (abandoned v.joint) (if is_some v.joint.list then v.borrowed else 0)) (loans p v.joint v.borrowed) (loans_dropped p v.joint v.borrowed (on refl))) fast (λ e. zero_least (part p (v.joint.ended + 1))) (record { built = zero_least v.guaranteed; listed = listed })
dropped_left p verdict more false v back fast on over listed = left_final p v (gone (Ruled verdict more (is_some v.joint.list)) (dropping v)) back (over refl) listed (none_most v.joint.list p v.guaranteed)

-- the foreground is, where there is one
stops : (v : Shape) → v.control ≡ Building → v.strategy ≡ FastFirst → can_stop v ≡ true
stops v both fast = ap (λ (c : Control). building c && (fast_first v.strategy || index_only v.strategy)) both ∙ ap (λ (s : Strategy). fast_first s || index_only s) fast

stands : (v : Shape) → v.control ≡ BackgroundAlone → can_stop v ≡ false
stands v alone = ap (λ (c : Control). building c && (fast_first v.strategy || index_only v.strategy)) alone

still_left : (p : ℕ) (v : Shape) → is_background v.control ≡ true → (v.control ≡ Building → v.strategy ≡ FastFirst) → (v.control ≡ Building → length v.joint.building ≤ part p v.joint.ended) → Kept p v → Left p v v
still_left p v back fast few kept = left_same p v v back refl (at_most (most p v)) (λ e. at_most (most p v + loans p v.joint v.borrowed)) fast few kept

stopped_left : (p : ℕ) (more : Bool) (v : Shape) → is_background v.control ≡ true → (v.control ≡ Building → v.strategy ≡ FastFirst) → Kept p v → Left p v (stopped more v)
stopped_left p more v back fast kept = by_back v.control back both alone
  where
    both : v.control ≡ Building → Left p v (stopped more v)
    both e = subst (λ (b : Bool). Left p v (if b then gone (Ruled AbandonForeground more (is_some v.joint.list)) (record v { trace = noted v.trace Stop }) else v)) (sym (stops v e (fast e))) (left_alone p v (gone (Ruled AbandonForeground more (is_some v.joint.list)) (record v { trace = noted v.trace Stop })) e (front_to v.strategy v.control more (is_some v.joint.list) e (fast e)) (at_most (most p v)) (record { built = kept.built; listed = kept.listed }))

    alone : v.control ≡ BackgroundAlone → Left p v (stopped more v)
    alone e = subst (λ (b : Bool). Left p v (if b then gone (Ruled AbandonForeground more (is_some v.joint.list)) (record v { trace = noted v.trace Stop }) else v)) (sym (stands v e)) (still_left p v back fast (λ f. not_alone v.control e f) kept)

ruled_left : (p : ℕ) (verdict : Verdict) (v : Shape) → is_background v.control ≡ true → (v.control ≡ Building → v.strategy ≡ FastFirst) → (verdict ≡ Continue → v.control ≡ Building → length v.joint.building ≤ part p v.joint.ended) → (goes_on verdict ≡ true → Kept p v) → list_len v.joint.list ≤ most p v + 48 → Left p v (ruled verdict v)
ruled_left p Continue v back fast few on listed = still_left p v back fast (few refl) (on refl)
ruled_left p AbandonScan v back fast few on listed = dropped_left p AbandonScan (more_behind v.joint) (more_behind v.joint) v back fast (λ m. more_left v.joint m) (λ m. scan_to v.strategy v.control (more_behind v.joint) (is_some v.joint.list) back fast m) listed
ruled_left p AbandonForeground v back fast few on listed = stopped_left p (more_behind v.joint) v back fast (on refl)
ruled_left p AbandonBackground v back fast few on listed = dropped_left p AbandonBackground (more_behind v.joint) false v back fast (λ m. no_other m) (λ m. back_to v.strategy v.control (more_behind v.joint) (is_some v.joint.list) back fast) listed

-- a scan is complete
guaranteed_most : (list : Option (List ℕ)) (p g : ℕ) → g ≤ p → g ≤ most_by list p g
guaranteed_most None p g h = h
guaranteed_most (Some keys) p g h = at_most g

min_more : (a b : ℕ) → a ≤ b + 48 → a ≤ min a b + 48
min_more a b h = omega (arith, h)

more_most : (keys g m : ℕ) → keys ≤ g + 48 → g ≤ m → keys ≤ m + 48
more_most keys g m k h = omega (arith, k, h)

over_left : (p : ℕ) (entries : List IndexEntry) (keys : List ℕ) (old : Shape) → is_background old.control ≡ true → (old.control ≡ Building → old.strategy ≡ FastFirst) → (old.control ≡ Building → length keys ≤ part p old.joint.ended + 48) → length keys ≤ old.guaranteed + 48 → old.guaranteed ≤ p → Left p old (scan_over old.joint.ended (record old { joint = completed old.joint entries keys }))
over_left p entries keys old back fast few listed_few within = by (under_way (completed old.joint entries keys)) refl
  where
    w : Shape
    w = record old { joint = completed old.joint entries keys }

    more : old.guaranteed ≤ most p old
    more = guaranteed_most old.joint.list p old.guaranteed within

    by : (b : Bool) → under_way (completed old.joint entries keys) ≡ b → Left p old (if b then going_on (listed old.joint.ended w) else gone (ScanEnded b true) (listed old.joint.ended w))
    by true way =
        let next : old.joint.ended + 1 < length old.joint.plans = way_within (completed old.joint entries keys) way in
        left_same p old (going_on (listed old.joint.ended w)) back refl (le_trans (min_right (length keys) old.guaranteed) more) (λ e. loans_completed p old.joint old.borrowed old.guaranteed (min (length keys) old.guaranteed) entries keys (few e) (min_left (length keys) old.guaranteed) (min_right (length keys) old.guaranteed) within next) fast (λ e. zero_least (part p (old.joint.ended + 1))) (record { built = zero_least (min (length keys) old.guaranteed); listed = min_more (length keys) old.guaranteed listed_few })
    by false way = left_final p old (gone (ScanEnded false true) (listed old.joint.ended w)) back (over_to old.strategy old.control back fast) (more_most (length keys) old.guaranteed (most p old) listed_few more) (λ e. absurd (let bad : true ≡ false = e in cc))

-- where the judge lets both sides go on, few keys are listed
lends_few : (p planned : ℕ) (would : ℕ → Facts → Ruling) (state : ℕ) (old : Shape) (entries : List IndexEntry) (cut : IndexEntry) → IsBounded would → Within p planned old → old.control ≡ Building → under_way old.joint ≡ true → Sound p (going old.joint entries cut) → asked_of would state old (going old.joint entries cut) ≡ Continue → length (going old.joint entries cut).building ≤ part p old.joint.ended
lends_few p planned would state old entries cut rule w both way sound on =
    let j = going old.joint entries cut in
    let facts = facts_of (account_of (record old { joint = j })) old.joint.ended in
    let lt = way_within old.joint way in
    let told = account_at j.plans j.counts old.joint.ended lt in
    let account = scan_account (plan_at j.plans old.joint.ended) (counts_at j.counts old.joint.ended) in
    let fewer : 8 * 2 ^ old.joint.ended * facts.kept < old.guaranteed = (rule state facts).1 on (ap is_building both) in
    let own : 8 * 2 ^ old.joint.ended * account.kept < old.guaranteed = subst (λ (a : ScanAccount). 8 * 2 ^ old.joint.ended * a.kept < old.guaranteed) told fewer in
    le_trans sound.built (part_within (kept_by j) old.guaranteed p old.joint.ended own w.less)

-- what holds of the table's pages holds of the guarantee
least_list : (list : Option (List ℕ)) (p g : ℕ) → list_len list ≤ most_by list p g + 48 → list_len list ≤ g + 48
least_list None p g h = zero_least (g + 48)
least_list (Some keys) p g h = h

sound_least : (p : ℕ) (v : Shape) → Sound p v.joint → Kept p v → Sound v.guaranteed v.joint
sound_least p v s k = record {
  fresh = s.fresh;
  scanned = s.scanned;
  capped = s.capped;
  built = s.built;
  few = k.built;
  list = least_list v.joint.list p v.guaranteed k.listed;
  short = s.short;
}

within_least : (p planned : ℕ) (v : Shape) → Within p planned v → Within v.guaranteed planned v
within_least p planned v w = record { behind = w.behind; plans = w.plans; room = w.room; less = at_most v.guaranteed }

pub given_left : (p planned : ℕ) (would : ℕ → Facts → Ruling) (state after : ℕ) (piece : Pieced) (old new : Shape) (j : Joint) → IsBounded would → Within p planned old → p ≤ greatest → Sound p old.joint → is_background old.control ≡ true → (old.control ≡ Building → old.strategy ≡ FastFirst) → (old.control ≡ Building → length old.joint.building ≤ part p old.joint.ended) → Kept p old → Awaits old.joint piece → Accepts old.joint j piece.entries (held_next old.joint.held) → Obeys would state after old.joint.ended (record old { joint = j }) new → Left p old new
given_left p planned would state after piece old new j rule w small s back fast few kept awaits accepts obeys = by (given_outcome would state after piece old new j awaits accepts obeys)
  where
    least : Sound old.guaranteed old.joint
    least = sound_least p old s kept

    by : Outcome would state piece.entries old new → Left p old new
    by (inl on) =
        let g = going old.joint piece.entries on.0 in
        let v = record old { joint = g } in
        let verdict = asked_of would state old g in
        let sound : goes_on verdict ≡ true → Sound p g = λ goes. goes_sound p planned would state old piece.entries on.0 rule w small s awaits.way goes in
        let own : goes_on verdict ≡ true → Sound old.guaranteed g = λ goes. goes_sound old.guaranteed planned would state old piece.entries on.0 rule (within_least p planned old w) (le_trans w.less small) least awaits.way goes in
        let left = ruled_left p verdict v back fast (λ c e. lends_few p planned would state old piece.entries on.0 rule w e awaits.way (sound (ap goes_on c)) c) (λ goes. record { built = (own goes).few; listed = kept.listed }) kept.listed in
        subst (λ (x : Shape). Left p old x) (sym on.1) (record { fewer = left.fewer; fast = left.fast; few = left.few; kept = left.kept })
    by (inr over) =
        let short = held_short old.joint.held piece.entries awaits.entries s.short in
        let keys = over.0 in
        let sum : (most : ℕ) → length old.joint.building ≤ most → length keys ≤ most + 48 = λ most built. list_sum (length keys) (length (old.joint.building ++ kept_of old.joint piece.entries)) (length old.joint.building) (length (kept_of old.joint piece.entries)) (length piece.entries) most (sym (length_permutation (old.joint.building ++ kept_of old.joint piece.entries) keys over.1)) (length-append old.joint.building (kept_of old.joint piece.entries)) built (kept_few old.joint piece.entries) short in
        subst (λ (x : Shape). Left p old x) (sym over.2) (over_left p piece.entries keys old back fast (λ e. sum (part p old.joint.ended) (few e)) (sum old.guaranteed kept.built) w.less)

pub still_spends : (p : ℕ) (v : Shape) → Spends p 0 v v
still_spends p v = record {
  stays = record { behind = λ b. b; plans = refl; counts = refl; less = at_most v.guaranteed; asked = refl; apart = λ b. b };
  fewer = still_sum v.trace.leaves (ahead p v.joint);
}

pub give_lends : (p planned : ℕ) (would : ℕ → Facts → Ruling) (query : Query) (old new : Shape) → p ≤ greatest → IsBounded would → Lending query p planned old → Gives would old new → LoanCosts p 0 old new
give_lends p planned would query old new small rule l gives = by gives.given gives.answers gives.obeys
  where
    by : (given : Given) → Answers old gives.piece given new → GivesOn would gives.state gives.after gives.piece given old new → LoanCosts p 0 old new
    by Accepted answers obeys =
        let sound = given_sound p planned would gives.state gives.after gives.piece old new obeys.0 rule l.within small l.sound answers.awaits obeys.1 obeys.2 in
        let left = given_left p planned would gives.state gives.after gives.piece old new obeys.0 rule l.within small l.sound answers.back l.fast l.few (l.kept answers.back) answers.awaits obeys.1 obeys.2 in
        record {
          leaf = 0;
          other = 0;
          both = refl;
          spends = given_spends p planned would gives.state gives.after gives.piece old new obeys.0 rule l.within answers.awaits obeys.1 obeys.2;
          fewer = sum_none (others new) (others old) (due_of p new) (due_of p old) (same_others old new gives.counts) left.fewer;
          sound = sound.0;
          fast = left.fast;
          few = left.few;
          kept = left.kept;
        }
    by (Stale asked now) answers obeys = subst (LoanCosts p 0 old) (sym obeys.0) (record {
      leaf = 0;
      other = 0;
      both = refl;
      spends = still_spends p old;
      fewer = still_sum (others old) (due_of p old);
      sound = l.sound;
      fast = l.fast;
      few = l.few;
      kept = l.kept;
    })
