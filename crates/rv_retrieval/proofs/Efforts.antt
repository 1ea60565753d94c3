-- The effort where a verdict is obeyed, a scan ends and a piece is given.
use Rattle.std.proofs.Common.{◌≡◌, ℕ, ◌+◌, ◌<◌, ◌≤◌, ◌++◌, Bool, true, false, refl, ap, sym, ◌∙◌, arith, subst, Option, Some, None, is_some, Result, Ok, Err, IfOk, OnErr, nat_eq, le_trans}
use Rattle.std.specs.Prelude.{if◌then◌else◌}
use Rattle.std.proofs.lemmas.Bool.Decides.{nat_tests}
use Rattle.rv_value.proofs.Tests.{no_way, same_number}
use Rattle.rv_value.specs.declared.record.IndexEntry.{IndexEntry}
use Rattle.rv_judge.specs.declared.events.Event.TheVariants.{Stop}
use Rattle.rv_judge.specs.declared.events.Happening.{Happening}
use Rattle.rv_judge.specs.declared.events.Happening.TheVariants.{ScanEnded, Ruled}
use Rattle.rv_judge.specs.declared.judging.Facts.{Facts}
use Rattle.rv_judge.specs.declared.judging.Verdict.{Verdict}
use Rattle.rv_judge.specs.Verdicts.{Ruling}
use Rattle.rv_judge.specs.declared.judging.Verdict.TheVariants.{Continue, AbandonScan, AbandonForeground, AbandonBackground}
use Rattle.rv_judge.specs.Account.{facts_of}
use Rattle.rv_judge.specs.Course.{next_control}
use Rattle.rv_reader.specs.Leaves.{run_after}
use Rattle.rv_reader.specs.Shown.{Shown}
use Rattle.rv_jscan.specs.declared.jscan.Given.{Given}
use Rattle.rv_jscan.specs.declared.jscan.Given.TheVariants.{Accepted, Stale}
use Rattle.rv_jscan.specs.Joint.{Joint, JointFits, leaves_ahead, present, to_sieve, under_way}
use Rattle.rv_jscan.specs.Pieces.{Pieced}
use Rattle.rv_jscan.specs.Steps.{Accepts, Awaits, abandoned, held_next}
use Rattle.rv_jscan.proofs.Fits.{by_held}
use Rattle.rv_jscan.proofs.Leaves.{accepts_nearer}
use Rattle.rv_retrieval.specs.Accounts.{account_of}
use Rattle.rv_final.specs.LaneWork.{GiveSpends}
use Rattle.rv_retrieval.specs.Effort.{Awaiting, back_work, effort, front_work, keys_work, table_work}
use Rattle.rv_retrieval.specs.Given.{Answers, more_behind}
use Rattle.rv_retrieval.specs.Rulings.{GivesOn, Obeyed, Obeys, dropped, dropping, going_on, gone, listed, ruled, scan_over, stopped}
use Rattle.rv_retrieval.specs.Shape.{RetrievalFits, Shape, is_background}
use Rattle.rv_retrieval.specs.Telling.{can_stop}
use Rattle.rv_judge.specs.Tracing.{noted}
use Rattle.rv_final.proofs.Givings.{put_if, spends_no_more}
use Rattle.rv_retrieval.proofs.BackWork.{abandoned_less, accepted_less, completed_less}
use Rattle.rv_retrieval.proofs.Courses.{HasFront, back_none, building_back, ended_none, goes_lower, keys_back, lower_back, lower_building, may_lead, scan_none, sum_less, sum_lower, sum_near}

-- The control changes.

gone_less : (h : Happening) (v : Shape) (shown : Shown) → effort (gone h v) shown ≤ effort v shown
gone_less h v shown = sum_lower v.control (next_control v.strategy v.control h) (back_work v.joint v.borrowed shown) (front_work v shown) (table_work v shown) (keys_work v) (goes_lower v.strategy v.control h) (keys_back v shown)

at_most : (n : ℕ) → n ≤ n
at_most n = omega arith

dropping_less : (v : Shape) (shown : Shown) → under_way v.joint ≡ true → effort (dropping v) shown ≤ effort v shown
dropping_less v shown way = sum_less v.control (back_work (abandoned v.joint) (if is_some v.joint.list then v.borrowed else 0) shown) (back_work v.joint v.borrowed shown) (front_work v shown) (front_work v shown) (table_work v shown) (table_work v shown) (keys_work v) (keys_work v) (abandoned_less v.joint shown v.borrowed way) (at_most _) (at_most _) (at_most _)

dropped_less : (verdict : Verdict) (more next : Bool) (v : Shape) (shown : Shown) → under_way v.joint ≡ true → effort (dropped verdict more next v) shown ≤ effort v shown
dropped_less verdict more true v shown way = dropping_less v shown way
dropped_less verdict more false v shown way = le_trans (gone_less (Ruled verdict more (is_some v.joint.list)) (dropping v) shown) (dropping_less v shown way)

stopped_less : (more : Bool) (v : Shape) (shown : Shown) → effort (stopped more v) shown ≤ effort v shown
stopped_less more v shown = by (can_stop v)
  where
    by : (b : Bool) → effort (if b then gone (Ruled AbandonForeground more (is_some v.joint.list)) (record v { trace = noted v.trace Stop }) else v) shown ≤ effort v shown
    by true = gone_less (Ruled AbandonForeground more (is_some v.joint.list)) (record v { trace = noted v.trace Stop }) shown
    by false = at_most _

ruled_less : (verdict : Verdict) (v : Shape) (shown : Shown) → under_way v.joint ≡ true → effort (ruled verdict v) shown ≤ effort v shown
ruled_less Continue v shown way = at_most _
ruled_less AbandonScan v shown way = dropped_less AbandonScan (more_behind v.joint) (more_behind v.joint) v shown way
ruled_less AbandonForeground v shown way = stopped_less (more_behind v.joint) v shown
ruled_less AbandonBackground v shown way = dropped_less AbandonBackground (more_behind v.joint) false v shown way

-- where a scan completed borrowing begins again
pub scan_over_less : (scan : ℕ) (v : Shape) (shown : Shown) → effort (scan_over scan v) shown ≤ effort (record v { borrowed = 0 }) shown
scan_over_less scan v shown = by (under_way v.joint)
  where
    by : (b : Bool) → effort (if b then going_on (listed scan v) else gone (ScanEnded b (is_some v.joint.list)) (listed scan v)) shown ≤ effort (record v { borrowed = 0 }) shown
    by true = at_most _
    by false = gone_less (ScanEnded false (is_some v.joint.list)) (listed scan v) shown

-- A piece is given.

obeyed_less : (same way : Bool) (would : ℕ → Facts → Ruling) (state after before : ℕ) (v new : Shape) (shown : Shown) (limit : ℕ) → Obeyed same way would state after before v new → under_way v.joint ≡ way → effort v shown < limit → (same ≡ false → effort (record v { borrowed = 0 }) shown < limit) → effort new shown < limit
obeyed_less true true would state after before v new shown limit o way near again =
    let verdict = (would state (facts_of (account_of v) v.joint.ended)).verdict in
    let less : effort (ruled verdict v) shown ≤ effort v shown = ruled_less verdict v shown way in
    let is : effort new shown ≡ effort (ruled verdict v) shown = ap (λ (x : Shape). effort x shown) o.0 in
    omega arith
obeyed_less true false would state after before v new shown limit o way near again = let is = ap (λ (x : Shape). effort x shown) o.0 in omega arith
obeyed_less false way would state after before v new shown limit o w near again =
    let less = scan_over_less before v shown in
    let is = ap (λ (x : Shape). effort x shown) o.0 in
    let first = again refl in
    omega arith

pub given_less : (would : ℕ → Facts → Ruling) (state after : ℕ) (piece : Pieced) (old new : Shape) (j : Joint) (shown : Shown) → is_background old.control ≡ true → Awaits old.joint piece → Accepts old.joint j piece.entries (held_next old.joint.held) → Obeys would state after old.joint.ended (record old { joint = j }) new → JointFits old.joint shown → effort new shown < effort old shown
given_less would state after piece old new j shown back w a o f =
    let mid = record old { joint = j } in
    let near = sum_near old.control (back_work j old.borrowed shown) (back_work old.joint old.borrowed shown) (front_work old shown) (table_work old shown) (keys_work mid) (keys_work old) back (accepted_less old.joint j piece shown old.borrowed w a f) in
    obeyed_less (nat_eq j.ended old.joint.ended) (under_way j) would state after old.joint.ended mid new shown (effort old shown) o refl near (again (held_next old.joint.held) a (by_held old.joint shown piece.entries old.joint.held w.entries f.drawn) (accepts_nearer old.joint j piece shown w a f))
  where
    again : (next : Option IndexEntry) → Accepts old.joint j piece.entries next → to_sieve old.joint shown ≡ piece.entries ++ run_after (shown.entries (present old.joint).index old.joint.snap) (present old.joint).range next → leaves_ahead j shown < leaves_ahead old.joint shown → nat_eq j.ended old.joint.ended ≡ false → effort (record old { joint = j; borrowed = 0 }) shown < effort old shown
    again (Some cut) a parts near other = no_way (sym (same_number old.joint.ended) ∙ sym (ap (λ (x : Joint). nat_eq x.ended old.joint.ended) a) ∙ other)
    again None a parts near other =
        let less = completed_less old.joint shown piece.entries a.0 old.borrowed 0 w.way parts a.1 (subst (λ (x : Joint). leaves_ahead x shown < leaves_ahead old.joint shown) a.3 near) in
        let here : back_work j 0 shown < back_work old.joint old.borrowed shown = subst (λ (x : Joint). back_work x 0 shown < back_work old.joint old.borrowed shown) (sym a.3) less in
        sum_near old.control (back_work j 0 shown) (back_work old.joint old.borrowed shown) (front_work old shown) (table_work old shown) (keys_work (record old { joint = j })) (keys_work old) back here

-- whatever a give answers
pub give_spends : (would : ℕ → Facts → Ruling) (state after : ℕ) (piece : Pieced) (given : Given) (old new : Shape) (shown : Shown) → Answers old piece given new → GivesOn would state after piece given old new → RetrievalFits old shown → GiveSpends given (effort old shown) (effort new shown)
give_spends would state after piece Accepted old new shown a g f = given_less would state after piece old new g.0 shown a.back a.awaits g.1 g.2 f.joint
give_spends would state after piece (Stale asked now) old new shown a g f = ap (λ (x : Shape). effort x shown) g.0

pub give_if : {E : Type 0} (r : Result Given E) (would : ℕ → Facts → Ruling) (state after : ℕ) (piece : Pieced) (old new : Shape) (shown : Shown) → IfOk r (λ g. Answers old piece g new) → IfOk r (λ g. GivesOn would state after piece g old new) → RetrievalFits old shown → IfOk r (λ g. GiveSpends g (effort old shown) (effort new shown))
give_if (Ok g) would state after piece old new shown a o f = give_spends would state after piece g old new shown a o f
give_if (Err e) would state after piece old new shown a o f = tt

pub give_less : {E : Type 0} (r : Result Given E) (would : ℕ → Facts → Ruling) (state after : ℕ) (piece : Pieced) (old new : Shape) (shown : Shown) → IfOk r (λ g. Answers old piece g new) → IfOk r (λ g. GivesOn would state after piece g old new) → OnErr r (new ≡ old) → RetrievalFits old shown → effort new shown ≤ effort old shown
give_less r would state after piece old new shown a o e f = spends_no_more r (effort old shown) (effort new shown) (give_if r would state after piece old new shown a o f) (put_if r (λ (x : Shape). effort x shown) new old (effort old shown) refl e)

-- Pieces are awaited where a scan is under way.

-- the control may have changed, the scans did not
pub awaits_from : (v new : Shape) → new.joint ≡ v.joint → new.strategy ≡ v.strategy → may_lead v.control new.control ≡ true → Awaiting v → Awaiting new
awaits_from v new ej es l a = record {
  way = λ b. ap under_way ej ∙ a.way (lower_back v.control new.control l b);
  both = λ b. subst (λ s. HasFront s v.control) (sym es) a.both (lower_building v.control new.control l b);
}

gone_awaits : (h : Happening) (v : Shape) → is_background (next_control v.strategy v.control h) ≡ false → Awaiting (gone h v)
gone_awaits h v none = record {
  way = λ b. no_way (sym b ∙ none);
  both = λ b. no_way (sym (building_back (next_control v.strategy v.control h) b) ∙ none);
}

pub ruled_awaits : (verdict : Verdict) (v : Shape) → is_background v.control ≡ true → under_way v.joint ≡ true → Awaiting v → Awaiting (ruled verdict v)
ruled_awaits Continue v back way a = a
ruled_awaits AbandonScan v back way a = by (more_behind v.joint) refl
  where
    by : (b : Bool) → more_behind v.joint ≡ b → Awaiting (dropped AbandonScan b b v)
    by true e = record { way = λ h. e; both = a.both }
    by false e = gone_awaits (Ruled AbandonScan false (is_some v.joint.list)) (dropping v) (scan_none v.strategy v.control (is_some v.joint.list) a.both back)
ruled_awaits AbandonForeground v back way a = by (can_stop v)
  where
    by : (b : Bool) → Awaiting (if b then gone (Ruled AbandonForeground (more_behind v.joint) (is_some v.joint.list)) (record v { trace = noted v.trace Stop }) else v)
    by true = awaits_from v (gone (Ruled AbandonForeground (more_behind v.joint) (is_some v.joint.list)) (record v { trace = noted v.trace Stop })) refl refl (goes_lower v.strategy v.control (Ruled AbandonForeground (more_behind v.joint) (is_some v.joint.list))) a
    by false = a
ruled_awaits AbandonBackground v back way a = gone_awaits (Ruled AbandonBackground (more_behind v.joint) (is_some v.joint.list)) (dropping v) (back_none v.strategy v.control (more_behind v.joint) (is_some v.joint.list) a.both back)

pub over_awaits : (scan : ℕ) (v : Shape) → is_background v.control ≡ true → HasFront v.strategy v.control → Awaiting (scan_over scan v)
over_awaits scan v back front = by (under_way v.joint) refl
  where
    by : (b : Bool) → under_way v.joint ≡ b → Awaiting (if b then going_on (listed scan v) else gone (ScanEnded b (is_some v.joint.list)) (listed scan v))
    by true e = record { way = λ h. e; both = front }
    by false e = gone_awaits (ScanEnded false (is_some v.joint.list)) (listed scan v) (ended_none v.strategy v.control (is_some v.joint.list) front back)

given_awaits : (would : ℕ → Facts → Ruling) (state after : ℕ) (piece : Pieced) (old new : Shape) (j : Joint) → is_background old.control ≡ true → Awaits old.joint piece → Accepts old.joint j piece.entries (held_next old.joint.held) → Obeys would state after old.joint.ended (record old { joint = j }) new → Awaiting old → Awaiting new
given_awaits would state after piece old new j back w acc o a = by (held_next old.joint.held) acc
  where
    on : (same way : Bool) → Obeyed same way would state after old.joint.ended (record old { joint = j }) new → same ≡ true → way ≡ true → under_way j ≡ true → Awaiting new
    on true true o s y u = subst Awaiting (sym o.0) (ruled_awaits _ (record old { joint = j }) back u (record { way = λ b. u; both = a.both }))
    on true false o s y u = no_way (sym y)
    on false way o s y u = no_way (sym s)

    over : (same way : Bool) → Obeyed same way would state after old.joint.ended (record old { joint = j }) new → same ≡ false → Awaiting new
    over true way o s = no_way s
    over false way o s = subst Awaiting (sym o.0) (over_awaits old.joint.ended (record old { joint = j }) back a.both)

    other_number : (n : ℕ) → nat_eq (n + 1) n ≡ false
    other_number n = grind (arith, nat_tests)

    by : (next : Option IndexEntry) → Accepts old.joint j piece.entries next → Awaiting new
    by (Some cut) acc =
        let way : under_way j ≡ true = ap under_way acc ∙ w.way in
        on (nat_eq j.ended old.joint.ended) (under_way j) o (ap (λ (x : Joint). nat_eq x.ended old.joint.ended) acc ∙ same_number old.joint.ended) way way
    by None acc = over (nat_eq j.ended old.joint.ended) (under_way j) o (ap (λ (x : Joint). nat_eq x.ended old.joint.ended) acc.3 ∙ other_number old.joint.ended)

give_keeps : (would : ℕ → Facts → Ruling) (state after : ℕ) (piece : Pieced) (given : Given) (old new : Shape) → Answers old piece given new → GivesOn would state after piece given old new → Awaiting old → Awaiting new
give_keeps would state after piece Accepted old new a g w = given_awaits would state after piece old new g.0 a.back a.awaits g.1 g.2 w
give_keeps would state after piece (Stale asked now) old new a g w = subst Awaiting (sym g.0) w

pub give_awaits : {E : Type 0} (r : Result Given E) (would : ℕ → Facts → Ruling) (state after : ℕ) (piece : Pieced) (old new : Shape) → IfOk r (λ g. Answers old piece g new) → IfOk r (λ g. GivesOn would state after piece g old new) → OnErr r (new ≡ old) → Awaiting old → Awaiting new
give_awaits (Ok g) would state after piece old new a o e w = give_keeps would state after piece g old new a o w
give_awaits (Err x) would state after piece old new a o e w = subst Awaiting (sym e) w
