-- The leaves that calls read: a piece that is taken, a foreground step, and those for which no memory is found.
use Rattle.std.proofs.Common.{◌≡◌, ◌⊎◌, ℕ, ◌+◌, ◌-◌, ◌*◌, ◌<◌, ◌≤◌, ◌==◌, List, length, min, Bool, true, false, not, ◌&&◌, Option, Some, None, is_some, inl, inr, refl, ap, sym, ◌∙◌, subst, arith}
use Rattle.std.specs.Prelude.{if◌then◌else◌}
use Rattle.rv_value.proofs.Tests.{no_other}
use Rattle.rv_value.specs.declared.record.Record.{Record}
use Rattle.rv_judge.specs.declared.counting.Counts.{Counts}
use Rattle.rv_judge.specs.declared.events.Control.{Control}
use Rattle.rv_judge.specs.declared.events.Control.TheVariants.{Building, ForegroundAlone, BackgroundAlone, FinalList, FinalTable, Done}
use Rattle.rv_judge.specs.declared.events.Event.TheVariants.{Full as FullEvent}
use Rattle.rv_judge.specs.declared.events.Happening.TheVariants.{FinalEnded, FrontEnded, Full}
use Rattle.rv_judge.specs.declared.events.Strategy.{Strategy}
use Rattle.rv_judge.specs.declared.events.Strategy.TheVariants.{Table, BackgroundOnly, FastFirst, Sorted, IndexOnly, Union}
use Rattle.rv_judge.specs.declared.judging.Facts.{Facts}
use Rattle.rv_judge.specs.Counting.{leaf_read, page_read, record_read}
use Rattle.rv_judge.specs.Tracing.{counted, noted}
use Rattle.rv_judge.specs.Verdicts.{Ruling}
use Rattle.rv_restrict.specs.declared.atom.Atom.{Atom}
use Rattle.rv_reader.specs.Shown.{Shown}
use Rattle.rv_scan.specs.Places.{PageReads}
use Rattle.rv_scan.specs.Reads.{OneAtMost}
use Rattle.rv_reader.specs.declared.step.Step.{Step}
use Rattle.rv_reader.specs.declared.step.Step.TheVariants.{Row, Working, End}
use Rattle.rv_jscan.specs.declared.jscan.Taken.{Taken}
use Rattle.rv_jscan.specs.declared.jscan.Taken.TheVariants.{Piece, Nothing}
use Rattle.rv_jscan.specs.Joint.{Joint, under_way}
use Rattle.rv_jscan.specs.Steps.{TakeLeaves, next_id, reads_leaf}
use Rattle.rv_final.specs.Stage.{FetchesKey}
use Rattle.rv_retrieval.specs.Accounts.{fresh_of}
use Rattle.rv_retrieval.specs.Given.{TakesLeaf, TakesLeafBy, TakesPiece, awaited}
use Rattle.rv_retrieval.specs.Shape.{Shape, is_background}
use Rattle.rv_retrieval.specs.Rulings.{gone}
use Rattle.rv_retrieval.specs.Stepping.{DoesAs, MayRead, OnePiece, ReadsAs, RemembersBy, StepsBackground, StepsBehind, ended_by, filled, is_awaiting, kind_of, piece_read, while_both}
use Rattle.skew_judges.specs.Guard.{IsBounded}
use Rattle.rv_bounded.specs.Calls.{Steps, StepsLost, Takes}
use Rattle.rv_bounded.proofs.Ahead.{ahead, counts_long, greatest, has_held, is_under_way, lost_ahead, read_ahead}
use Rattle.rv_bounded.proofs.Controls.{goes_apart, goes_behind, is_apart, is_behind}
use Rattle.rv_bounded.proofs.Spending.{Spends, Stays, Within, given_spends, stays_on, stays_still, within_on}
use Rattle.rv_bounded.proofs.Sums.{rise_one, same_one, min_left, sum_read, sum_none, sum_lost, none_more, same_less, rise_none}

-- Counts.

leaf_one : (c : Counts) → (leaf_read c).leaves ≤ c.leaves + 1
leaf_one c = min_left (c.leaves + 1) greatest

-- what a piece reads

piece_one : (v : Shape) (c : Counts) → (piece_read v c).leaves ≤ c.leaves + 1
piece_one v c = by (is_background v.control) (reads_leaf v.joint)
  where
    by : (b r : Bool) → (if b then (if r then leaf_read c else c) else c).leaves ≤ c.leaves + 1
    by true true = leaf_one c
    by true false = same_one c.leaves c.leaves refl
    by false r = same_one c.leaves c.leaves refl

piece_none : (v : Shape) (c : Counts) → reads_leaf v.joint ≡ false → piece_read v c ≡ c
piece_none v c none = ap (λ (r : Bool). if is_background v.control then (if r then leaf_read c else c) else c) none ∙ by (is_background v.control)
  where
    by : (b : Bool) → (if b then c else c) ≡ c
    by true = refl
    by false = refl

piece_idle : (v : Shape) (c : Counts) → is_background v.control ≡ false → piece_read v c ≡ c
piece_idle v c none = ap (λ (b : Bool). if b then (if reads_leaf v.joint then leaf_read c else c) else c) none

-- nothing is read where no piece is awaited
piece_still : (v : Shape) (c : Counts) → is_awaiting v ≡ false → piece_read v c ≡ c
piece_still v c none = by (is_background v.control) refl
  where
    by : (b : Bool) → is_background v.control ≡ b → piece_read v c ≡ c
    by true e = piece_none v c (ap (λ (w : Bool). w && not (is_some v.joint.held)) (sym (ap (λ (b : Bool). b && under_way v.joint) e) ∙ none))
    by false e = piece_idle v c e

-- What stays.

aside_stays : (old new : Shape) → new.strategy ≡ old.strategy → new.control ≡ old.control → length new.joint.plans ≡ length old.joint.plans → length new.joint.counts ≡ length old.joint.counts → new.guaranteed ≡ old.guaranteed → new.query ≡ old.query → Stays old new
aside_stays old new strategy control plans counts guaranteed asked = record {
  behind = λ b. ap (λ (s : Strategy). is_behind s new.control) strategy ∙ ap (is_behind old.strategy) control ∙ b;
  plans = plans;
  counts = counts;
  less = same guaranteed;
  asked = asked;
  apart = λ b. ap is_apart control ∙ b;
}
  where
    same : new.guaranteed ≡ old.guaranteed → new.guaranteed ≤ old.guaranteed
    same e = omega (arith, e)

leaf_plans : (b : Bool) (old new : Joint) → TakesLeafBy b old new → length new.plans ≡ length old.plans
leaf_plans true old new t = ap (λ (j : Joint). length j.plans) t.same
leaf_plans false old new e = ap (λ (j : Joint). length j.plans) e

leaf_counts : (b : Bool) (old new : Joint) → TakesLeafBy b old new → length new.counts ≡ length old.counts
leaf_counts true old new t = ap (λ (j : Joint). length j.counts) t.same ∙ counts_long old
leaf_counts false old new e = ap (λ (j : Joint). length j.counts) e

small_joint : (p planned : ℕ) (v : Shape) → Within p planned v → p + 2 * planned < greatest → p + 2 * length v.joint.plans < greatest
small_joint p planned v w small = subst (λ (n : ℕ). p + 2 * n < greatest) (sym w.plans) small

-- A PIECE IS TAKEN.

takes_stays : (old new : Shape) → new ≡ record old { joint = new.joint; trace = new.trace } → TakesLeaf old new.joint → Stays old new
takes_stays old new same leaves = aside_stays old new (ap (λ (x : Shape). x.strategy) same) (ap (λ (x : Shape). x.control) same) (leaf_plans (is_background old.control) old.joint new.joint leaves) (leaf_counts (is_background old.control) old.joint new.joint leaves) (ap (λ (x : Shape). x.guaranteed) same) (ap (λ (x : Shape). x.query) same)

-- a piece that was taken holds its leaf
takes_held : (taken : Taken) (old new : Shape) → new.control ≡ old.control → is_background old.control ≡ true → under_way new.joint ≡ true → TakesPiece new taken → is_some new.joint.held ≡ true
takes_held (Piece piece) old new control back way answers = has_held new.joint.held piece.entries answers.awaits.entries
takes_held Nothing old new control back way answers =
    let here : awaited new ≡ Some (next_id new.joint) = ap (λ (b : Bool). if b then (if under_way new.joint then Some (next_id new.joint) else None) else None) (ap is_background control ∙ back) ∙ ap (λ (b : Bool). if b then Some (next_id new.joint) else None) way in
    absurd (let bad : Some (next_id new.joint) ≡ None = sym here ∙ answers in cc)

pub take_spends : (p planned : ℕ) (taken : Taken) (shown : Shown) (old new : Shape) → p + 2 * planned < greatest → Within p planned old → Takes (Some taken) shown old new → Spends p 0 old new
take_spends p planned taken shown old new small w takes = record { stays = takes_stays old new takes.same takes.leaves; fewer = by (is_background old.control) refl }
  where
    by : (b : Bool) → is_background old.control ≡ b → new.trace.leaves + ahead p new.joint ≤ old.trace.leaves + ahead p old.joint + 0
    by true back = read (reads_leaf old.joint) refl
      where
        leaves : TakeLeaves old.joint new.joint
        leaves = subst (λ (b : Bool). TakesLeafBy b old.joint new.joint) back takes.leaves

        read : (r : Bool) → reads_leaf old.joint ≡ r → new.trace.leaves + ahead p new.joint ≤ old.trace.leaves + ahead p old.joint + 0
        read true r =
            let way : under_way new.joint ≡ true = ap under_way leaves.same ∙ is_under_way old.joint r in
            let held = takes_held taken old new (ap (λ (x : Shape). x.control) takes.same) back way takes.answers in
            sum_read new.trace.leaves old.trace.leaves (ahead p new.joint) (ahead p old.joint) (rise_one new.trace.leaves old.trace.leaves takes.before.leaves takes.behind.leaves greatest takes.counts.leaves (subst (λ (c : Counts). c.leaves ≤ takes.before.leaves + 1) (sym takes.reads) (piece_one old takes.before))) (read_ahead p old.joint new.joint leaves r held w.room (small_joint p planned old w small))
        read false r =
            sum_none new.trace.leaves old.trace.leaves (ahead p new.joint) (ahead p old.joint) (rise_none new.trace.leaves old.trace.leaves takes.before.leaves takes.behind.leaves greatest takes.counts.leaves (ap (λ (c : Counts). c.leaves) (takes.reads ∙ piece_none old takes.before r))) (same_less (ahead p new.joint) (ahead p old.joint) (ap (ahead p) (leaves.none r)))
    by false idle =
        let same : new.joint ≡ old.joint = subst (λ (b : Bool). TakesLeafBy b old.joint new.joint) idle takes.leaves in
        sum_none new.trace.leaves old.trace.leaves (ahead p new.joint) (ahead p old.joint) (rise_none new.trace.leaves old.trace.leaves takes.before.leaves takes.behind.leaves greatest takes.counts.leaves (ap (λ (c : Counts). c.leaves) (takes.reads ∙ piece_idle old takes.before idle))) (same_less (ahead p new.joint) (ahead p old.joint) (ap (ahead p) same))

-- a leaf may have been taken
pub leaf_lost : (p planned : ℕ) (old : Shape) (new : Joint) → p + 2 * planned < greatest → Within p planned old → TakesLeaf old new → ahead p new ≤ ahead p old.joint
leaf_lost p planned old new small w leaves = by (is_background old.control) leaves
  where
    by : (b : Bool) → TakesLeafBy b old.joint new → ahead p new ≤ ahead p old.joint
    by true t = lost_ahead p old.joint new t w.room (small_joint p planned old w small)
    by false e = same_less (ahead p new) (ahead p old.joint) (ap (ahead p) e)

pub take_lost : (p planned : ℕ) (shown : Shown) (old new : Shape) → p + 2 * planned < greatest → Within p planned old → Takes None shown old new → Spends p 1 old new
take_lost p planned shown old new small w takes = record {
  stays = takes_stays old new takes.same takes.leaves;
  fewer = sum_lost new.trace.leaves old.trace.leaves (ahead p new.joint) (ahead p old.joint) (rise_one new.trace.leaves old.trace.leaves takes.before.leaves takes.behind.leaves greatest takes.counts.leaves (subst (λ (c : Counts). c.leaves ≤ takes.before.leaves + 1) (sym takes.reads) (piece_one old takes.before))) (leaf_lost p planned old new.joint small w takes.leaves);
}

-- A FOREGROUND STEP FOR WHICH NO MEMORY IS FOUND.

pub one_record : (c d : Counts) → OneAtMost record_read c d → d.leaves ≡ c.leaves
one_record c d (inl same) = ap (λ (x : Counts). x.leaves) same
one_record c d (inr read) = ap (λ (x : Counts). x.leaves) read

pub one_page : (c d : Counts) → OneAtMost page_read c d → d.leaves ≡ c.leaves
one_page c d (inl same) = ap (λ (x : Counts). x.leaves) same
one_page c d (inr read) = ap (λ (x : Counts). x.leaves) read

-- while both sides run it is a record or a leaf
both_one : (strategy : Strategy) (fresh : Option ℕ) (v : Shape) (c d : Counts) → is_behind strategy Building ≡ true → MayRead (while_both strategy fresh) v c d → d.leaves ≤ c.leaves + 1
both_one Table fresh v c d b reads = subst (λ (x : Counts). x.leaves ≤ c.leaves + 1) (sym reads) (piece_one v c)
both_one BackgroundOnly fresh v c d b reads = subst (λ (x : Counts). x.leaves ≤ c.leaves + 1) (sym reads) (piece_one v c)
both_one Union fresh v c d b reads = subst (λ (x : Counts). x.leaves ≤ c.leaves + 1) (sym reads) (piece_one v c)
both_one FastFirst None v c d b reads = subst (λ (x : Counts). x.leaves ≤ c.leaves + 1) (sym reads) (piece_one v c)
both_one FastFirst (Some key) v c d b reads = same_one d.leaves c.leaves (ap (λ (x : Counts). x.leaves) reads)
both_one Sorted fresh v c d b reads = no_other b
both_one IndexOnly fresh v c d b reads = no_other b

may_one : (control : Control) (strategy : Strategy) (fresh : Option ℕ) (v : Shape) (c d : Counts) → is_behind strategy control ≡ true → MayRead (kind_of control strategy fresh) v c d → d.leaves ≤ c.leaves + 1
may_one Building strategy fresh v c d b reads = both_one strategy fresh v c d b reads
may_one ForegroundAlone strategy fresh v c d b reads = no_other b
may_one BackgroundAlone strategy fresh v c d b reads = subst (λ (x : Counts). x.leaves ≤ c.leaves + 1) (sym reads) (piece_one v c)
may_one FinalList strategy fresh v c d b reads = same_one d.leaves c.leaves (one_record c d reads)
may_one FinalTable strategy fresh v c d b reads = same_one d.leaves c.leaves (one_page c d reads)
may_one Done strategy fresh v c d b reads = same_one d.leaves c.leaves (ap (λ (x : Counts). x.leaves) reads)

pub step_lost : (p planned : ℕ) (shown : Shown) (old new : Shape) → p + 2 * planned < greatest → Within p planned old → StepsLost shown old new → Spends p 1 old new
step_lost p planned shown old new small w lost = record {
  stays = aside_stays old new (ap (λ (x : Shape). x.strategy) lost.only.same) (ap (λ (x : Shape). x.control) lost.only.same) (plans lost.only.leaves) (counts lost.only.leaves) (ap (λ (x : Shape). x.guaranteed) lost.only.same) (ap (λ (x : Shape). x.query) lost.only.same);
  fewer = sum_lost new.trace.leaves old.trace.leaves (ahead p new.joint) (ahead p old.joint) (rise_one new.trace.leaves old.trace.leaves lost.before.leaves lost.behind.leaves greatest lost.counts.leaves (may_one old.control old.strategy (fresh_of old) old lost.before lost.behind w.behind lost.may_read)) (fewer lost.only.leaves);
}
  where
    plans : ((new.joint ≡ old.joint) ⊎ TakesLeaf old new.joint) → length new.joint.plans ≡ length old.joint.plans
    plans (inl same) = ap (λ (j : Joint). length j.plans) same
    plans (inr leaves) = leaf_plans (is_background old.control) old.joint new.joint leaves

    counts : ((new.joint ≡ old.joint) ⊎ TakesLeaf old new.joint) → length new.joint.counts ≡ length old.joint.counts
    counts (inl same) = ap (λ (j : Joint). length j.counts) same
    counts (inr leaves) = leaf_counts (is_background old.control) old.joint new.joint leaves

    fewer : ((new.joint ≡ old.joint) ⊎ TakesLeaf old new.joint) → ahead p new.joint ≤ ahead p old.joint
    fewer (inl same) = same_less (ahead p new.joint) (ahead p old.joint) (ap (ahead p) same)
    fewer (inr leaves) = leaf_lost p planned old new.joint small w leaves

-- A FOREGROUND STEP.

-- what a step has done is counted behind it
counted_stays : (old stepped new : Shape) (c d : Counts) → new ≡ record stepped { trace = counted stepped.trace c d } → Stays old stepped → Stays old new
counted_stays old stepped new c d e s = stays_on old stepped new s (aside_stays stepped new (ap (λ (x : Shape). x.strategy) e) (ap (λ (x : Shape). x.control) e) (ap (λ (x : Shape). length x.joint.plans) e) (ap (λ (x : Shape). length x.joint.counts) e) (ap (λ (x : Shape). x.guaranteed) e) (ap (λ (x : Shape). x.query) e))

counted_leaves : (stepped new : Shape) (c d : Counts) → new ≡ record stepped { trace = counted stepped.trace c d } → new.trace.leaves ≡ min (stepped.trace.leaves + (d.leaves - c.leaves)) greatest
counted_leaves stepped new c d e = ap (λ (x : Shape). x.trace.leaves) e

-- a step that reads no leaf and leaves the scans
record Quiet (old stepped : Shape) : Type 0 where
  stays : Stays old stepped
  joint : stepped.joint ≡ old.joint
  leaves : stepped.trace.leaves ≡ old.trace.leaves

quiet_sum : (now stepped was left had : ℕ) → now ≤ stepped → stepped ≡ was → left ≡ had → now + left ≤ was + had + 0
quiet_sum now stepped was left had n s l = omega (arith, n, s, l)

quiet_spends : (p : ℕ) (old stepped new : Shape) (c d : Counts) → Quiet old stepped → d.leaves ≡ c.leaves → new ≡ record stepped { trace = counted stepped.trace c d } → Spends p 0 old new
quiet_spends p old stepped new c d quiet none e = record {
  stays = counted_stays old stepped new c d e quiet.stays;
  fewer = quiet_sum new.trace.leaves stepped.trace.leaves old.trace.leaves (ahead p new.joint) (ahead p old.joint) (rise_none new.trace.leaves stepped.trace.leaves c.leaves d.leaves greatest (counted_leaves stepped new c d e) none) quiet.leaves (ap (λ (x : Shape). ahead p x.joint) e ∙ ap (ahead p) quiet.joint);
}

still_quiet : (old stepped : Shape) → stepped ≡ old → Quiet old stepped
still_quiet old stepped e = record {
  stays = subst (Stays old) (sym e) (stays_still old);
  joint = ap (λ (x : Shape). x.joint) e;
  leaves = ap (λ (x : Shape). x.trace.leaves) e;
}

-- the final stage goes on, or ends
final_quiet : (old v stepped : Shape) (s : Step Record) → Stays old v → v.joint ≡ old.joint → v.trace.leaves ≡ old.trace.leaves → stepped ≡ ended_by FinalEnded s v → Quiet old stepped
final_quiet old v stepped s stays joint leaves e = subst (Quiet old) (sym e) (by s)
  where
    by : (s : Step Record) → Quiet old (ended_by FinalEnded s v)
    by (Row r) = record { stays = stays; joint = joint; leaves = leaves }
    by Working = record { stays = stays; joint = joint; leaves = leaves }
    by End = record {
      stays = record { behind = λ b. goes_behind v.strategy v.control FinalEnded (stays.behind b); plans = stays.plans; counts = stays.counts; less = stays.less; asked = stays.asked; apart = λ b. goes_apart v.strategy v.control FinalEnded (stays.apart b) };
      joint = joint;
      leaves = leaves;
    }

pub page_none : (s : Step Record) (c d : Counts) → PageReads s c d → d.leaves ≡ c.leaves
page_none (Row r) c d reads = ap (λ (x : Counts). x.leaves) reads
page_none Working c d reads = ap (λ (x : Counts). x.leaves) reads
page_none End c d reads = ap (λ (x : Counts). x.leaves) reads

-- a piece was taken and given
piece_sum : (now stepped was left taken had read : ℕ) → now ≤ stepped + read → stepped + left ≤ was + taken + 0 → taken + read ≤ had → now + left ≤ was + had + 0
piece_sum now stepped was left taken had read n s t = omega (arith, n, s, t)

none_less : (a b : ℕ) → a ≡ b → a + 0 ≤ b
none_less a b e = omega (arith, e)

piece_spends : (p planned : ℕ) (would : ℕ → Facts → Ruling) (state after passed : ℕ) (old stepped new : Shape) (c d : Counts) → p + 2 * planned < greatest → IsBounded would → Within p planned old → OnePiece would state after (record old { borrowed = passed }) stepped → d ≡ piece_read old c → new ≡ record stepped { trace = counted stepped.trace c d } → Spends p 0 old new
piece_spends p planned would state after passed old stepped new c d small rule w one reads e =
    record { stays = counted_stays old stepped new c d e (stays_on old mid stepped takes given.stays); fewer = read (reads_leaf old.joint) refl }
  where
    mid : Shape
    mid = record old { borrowed = passed; joint = one.taken }

    takes : Stays old mid
    takes = record { behind = λ b. b; plans = ap (λ (j : Joint). length j.plans) one.leaves.same; counts = ap (λ (j : Joint). length j.counts) one.leaves.same ∙ counts_long old.joint; less = same_less old.guaranteed old.guaranteed refl; asked = refl; apart = λ h. h }

    given : Spends p 0 mid stepped
    given = given_spends p planned would state after one.piece mid stepped one.obeys.0 rule (within_on p planned old mid takes w) one.awaits one.obeys.1 one.obeys.2

    joints : ahead p new.joint ≡ ahead p stepped.joint
    joints = ap (λ (x : Shape). ahead p x.joint) e

    fewer : stepped.trace.leaves + ahead p new.joint ≤ old.trace.leaves + ahead p one.taken + 0
    fewer = subst (λ (n : ℕ). stepped.trace.leaves + n ≤ old.trace.leaves + ahead p one.taken + 0) (sym joints) given.fewer

    read : (r : Bool) → reads_leaf old.joint ≡ r → new.trace.leaves + ahead p new.joint ≤ old.trace.leaves + ahead p old.joint + 0
    read true r = piece_sum new.trace.leaves stepped.trace.leaves old.trace.leaves (ahead p new.joint) (ahead p one.taken) (ahead p old.joint) 1 (rise_one new.trace.leaves stepped.trace.leaves c.leaves d.leaves greatest (counted_leaves stepped new c d e) (subst (λ (x : Counts). x.leaves ≤ c.leaves + 1) (sym reads) (piece_one old c))) fewer (read_ahead p old.joint one.taken one.leaves r (has_held one.taken.held one.piece.entries one.awaits.entries) w.room (small_joint p planned old w small))
    read false r = piece_sum new.trace.leaves stepped.trace.leaves old.trace.leaves (ahead p new.joint) (ahead p one.taken) (ahead p old.joint) 0 (none_more new.trace.leaves stepped.trace.leaves (rise_none new.trace.leaves stepped.trace.leaves c.leaves d.leaves greatest (counted_leaves stepped new c d e) (ap (λ (x : Counts). x.leaves) (reads ∙ piece_none old c r)))) fewer (none_less (ahead p one.taken) (ahead p old.joint) (ap (ahead p) (one.leaves.none r)))

back_spends : (p planned : ℕ) (would : ℕ → Facts → Ruling) (state after : ℕ) (old stepped new : Shape) (c d : Counts) → p + 2 * planned < greatest → IsBounded would → Within p planned old → StepsBackground would state after old stepped → d ≡ piece_read old c → new ≡ record stepped { trace = counted stepped.trace c d } → Spends p 0 old new
back_spends p planned would state after old stepped new c d small rule w steps reads e = by (is_awaiting old) refl steps.does
  where
    by : (b : Bool) → is_awaiting old ≡ b → StepsBehind b would state after (record old { borrowed = steps.passed }) stepped → Spends p 0 old new
    by true a one = piece_spends p planned would state after steps.passed old stepped new c d small rule w one reads e
    by false a still = quiet_spends p old stepped new c d quiet (ap (λ (x : Counts). x.leaves) (reads ∙ piece_still old c a)) e
      where
        quiet : Quiet old stepped
        quiet = subst (Quiet old) (sym still.0) (record { stays = record { behind = λ b. b; plans = refl; counts = refl; less = same_less old.guaranteed old.guaranteed refl; asked = refl; apart = λ h. h }; joint = refl; leaves = refl })

-- a fresh key is fetched, and its row remembered, with which the buffer may be full

filled_stays : (old v : Shape) → Stays old v → Stays old (filled v)
filled_stays old v s = by (length v.delivered == 1024)
  where
    by : (b : Bool) → Stays old (if b then gone Full (record v { trace = noted v.trace FullEvent }) else v)
    by true = record { behind = λ b. goes_behind v.strategy v.control Full (s.behind b); plans = s.plans; counts = s.counts; less = s.less; asked = s.asked; apart = λ b. goes_apart v.strategy v.control Full (s.apart b) }
    by false = s

filled_joint : (v : Shape) → (filled v).joint ≡ v.joint
filled_joint v = by (length v.delivered == 1024)
  where
    by : (b : Bool) → (if b then gone Full (record v { trace = noted v.trace FullEvent }) else v).joint ≡ v.joint
    by true = refl
    by false = refl

filled_leaves : (v : Shape) → (filled v).trace.leaves ≡ v.trace.leaves
filled_leaves v = by (length v.delivered == 1024)
  where
    by : (b : Bool) → (if b then gone Full (record v { trace = noted v.trace FullEvent }) else v).trace.leaves ≡ v.trace.leaves
    by true = refl
    by false = refl

borrow_quiet : (s : Step Record) (old v stepped : Shape) → Stays old v → v.joint ≡ old.joint → v.trace.leaves ≡ old.trace.leaves → RemembersBy s v stepped → Quiet old stepped
borrow_quiet (Row r) old v stepped stays joint leaves remembers =
    let w = record v { delivered = stepped.delivered } in
    let still : Stays old w = record { behind = stays.behind; plans = stays.plans; counts = stays.counts; less = stays.less; asked = stays.asked; apart = stays.apart } in
    subst (Quiet old) (sym remembers.same) (record { stays = filled_stays old w still; joint = filled_joint w ∙ joint; leaves = filled_leaves w ∙ leaves })
borrow_quiet Working old v stepped stays joint leaves remembers = subst (Quiet old) (sym remembers) (record { stays = stays; joint = joint; leaves = leaves })
borrow_quiet End old v stepped stays joint leaves remembers = subst (Quiet old) (sym remembers) (record {
  stays = record { behind = λ b. goes_behind v.strategy v.control FrontEnded (stays.behind b); plans = stays.plans; counts = stays.counts; less = stays.less; asked = stays.asked; apart = λ b. goes_apart v.strategy v.control FrontEnded (stays.apart b) };
  joint = joint;
  leaves = leaves;
})

both_spends : (p planned : ℕ) (would : ℕ → Facts → Ruling) (state after : ℕ) (shown : Shown) (c d : Counts) (s : Step Record) (strategy : Strategy) (fresh : Option ℕ) (old stepped new : Shape) → p + 2 * planned < greatest → IsBounded would → Within p planned old → is_behind strategy Building ≡ true → DoesAs (while_both strategy fresh) would state after shown c d s old stepped → ReadsAs (while_both strategy fresh) old s c d → new ≡ record stepped { trace = counted stepped.trace c d } → Spends p 0 old new
both_spends p planned would state after shown c d s Table fresh old stepped new small rule w b does reads e = back_spends p planned would state after old stepped new c d small rule w does.1 reads e
both_spends p planned would state after shown c d s BackgroundOnly fresh old stepped new small rule w b does reads e = back_spends p planned would state after old stepped new c d small rule w does.1 reads e
both_spends p planned would state after shown c d s Union fresh old stepped new small rule w b does reads e = back_spends p planned would state after old stepped new c d small rule w does.1 reads e
both_spends p planned would state after shown c d s FastFirst None old stepped new small rule w b does reads e = back_spends p planned would state after old stepped new c d small rule w does.1 reads e
both_spends p planned would state after shown c d s FastFirst (Some key) old stepped new small rule w b does reads e = quiet_spends p old stepped new c d (borrow_quiet s old (record old { borrowed = stepped.borrowed }) stepped (record { behind = λ h. h; plans = refl; counts = refl; less = same_less old.guaranteed old.guaranteed refl; asked = refl; apart = λ h. h }) refl refl does.1.left) (ap (λ (x : Counts). x.leaves) reads) e
both_spends p planned would state after shown c d s Sorted fresh old stepped new small rule w b does reads e = no_other b
both_spends p planned would state after shown c d s IndexOnly fresh old stepped new small rule w b does reads e = no_other b

does_spends : (p planned : ℕ) (would : ℕ → Facts → Ruling) (state after : ℕ) (shown : Shown) (c d : Counts) (s : Step Record) (control : Control) (old stepped new : Shape) → p + 2 * planned < greatest → IsBounded would → Within p planned old → is_behind old.strategy control ≡ true → DoesAs (kind_of control old.strategy (fresh_of old)) would state after shown c d s old stepped → ReadsAs (kind_of control old.strategy (fresh_of old)) old s c d → new ≡ record stepped { trace = counted stepped.trace c d } → Spends p 0 old new
does_spends p planned would state after shown c d s Building old stepped new small rule w b does reads e = both_spends p planned would state after shown c d s old.strategy (fresh_of old) old stepped new small rule w b does reads e
does_spends p planned would state after shown c d s ForegroundAlone old stepped new small rule w b does reads e = no_other b
does_spends p planned would state after shown c d s BackgroundAlone old stepped new small rule w b does reads e = back_spends p planned would state after old stepped new c d small rule w does.1 reads e
does_spends p planned would state after shown c d s FinalList old stepped new small rule w b does reads e = quiet_spends p old stepped new c d (final_quiet old (record old { at = stepped.at }) stepped s (record { behind = λ h. h; plans = refl; counts = refl; less = same_less old.guaranteed old.guaranteed refl; asked = refl; apart = λ h. h }) refl refl does.2) (one_record c d reads) e
does_spends p planned would state after shown c d s FinalTable old stepped new small rule w b does reads e = quiet_spends p old stepped new c d (final_quiet old (record old { last = stepped.last }) stepped s (record { behind = λ h. h; plans = refl; counts = refl; less = same_less old.guaranteed old.guaranteed refl; asked = refl; apart = λ h. h }) refl refl does.1) (page_none s c d reads) e
does_spends p planned would state after shown c d s Done old stepped new small rule w b does reads e = quiet_spends p old stepped new c d (still_quiet old stepped does.2) (ap (λ (x : Counts). x.leaves) reads) e

pub step_spends : (p planned : ℕ) (would : ℕ → Facts → Ruling) (shown : Shown) (old new : Shape) → p + 2 * planned < greatest → IsBounded would → Within p planned old → Steps would shown old new → Spends p 0 old new
step_spends p planned would shown old new small rule w steps =
    let does = steps.does in
    does_spends p planned would steps.state steps.after shown steps.before steps.behind steps.fg old.control old does.stepped new small rule w w.behind does.does does.reads does.counts

pub key_none : (key : Option ℕ) (only : List (List Atom)) (rows : List Record) (c d : Counts) (s : Step Record) → FetchesKey key only rows c d s → d.leaves ≡ c.leaves
key_none None only rows c d s f = ap (λ (x : Counts). x.leaves) f.1
key_none (Some key) only rows c d s f = ap (λ (x : Counts). x.leaves) f.0
