-- What a piece that is given spends of the leaves ahead, and what it leaves.
use Rattle.std.proofs.Common.{◌≡◌, ◌⊎◌, ℕ, ◌+◌, ◌≤◌, List, ◌++◌, length, length-set, Bool, true, false, Option, Some, None, is_some, nat_eq, inl, inr, refl, ap, sym, ◌∙◌, subst, arith, le_trans, IsPermutation}
use Rattle.std.specs.Prelude.{if◌then◌else◌}
use Rattle.std.proofs.lemmas.Bool.Decides.{nat_tests}
use Rattle.rv_value.proofs.Tests.{same_number}
use Rattle.rv_value.specs.declared.record.IndexEntry.{IndexEntry}
use Rattle.rv_judge.specs.declared.events.Event.TheVariants.{Stop}
use Rattle.rv_judge.specs.declared.events.Happening.TheVariants.{ScanEnded, Ruled}
use Rattle.rv_judge.specs.declared.judging.Facts.{Facts}
use Rattle.rv_judge.specs.declared.judging.Verdict.{Verdict}
use Rattle.rv_judge.specs.declared.judging.Verdict.TheVariants.{Continue, AbandonScan, AbandonForeground, AbandonBackground}
use Rattle.rv_judge.specs.Account.{ScanAccount, facts_of}
use Rattle.rv_judge.specs.Verdicts.{Ruling}
use Rattle.rv_judge.specs.Tracing.{noted}
use Rattle.rv_jscan.specs.Joint.{Joint, under_way}
use Rattle.rv_jscan.specs.Pieces.{Pieced}
use Rattle.rv_jscan.specs.Steps.{Accepts, Awaits, abandoned, completed, going, held_next, kept_of}
use Rattle.rv_jscan.proofs.Fits.{way_within}
use Rattle.rv_retrieval.specs.Accounts.{account_of}
use Rattle.rv_retrieval.specs.Given.{more_behind}
use Rattle.rv_retrieval.specs.Rulings.{IsRuled, Obeyed, Obeys, dropped, going_on, gone, listed, ruled, scan_over, stopped}
use Rattle.rv_retrieval.specs.Shape.{Shape}
use Rattle.rv_retrieval.specs.Telling.{can_stop}
use Rattle.rv_retrieval.proofs.Accounting.{account_at}
use Rattle.skew_judges.specs.Guard.{IsBounded, Keeps, goes_on, share}
use Rattle.rv_bounded.proofs.Shares.{share_less}
use Rattle.rv_bounded.proofs.Ahead.{ahead, going_spent, next_ahead, spent_by, stay_ahead, way_counted}
use Rattle.rv_bounded.proofs.Controls.{goes_apart, goes_behind, is_apart, is_behind}
use Rattle.rv_bounded.proofs.Sums.{at_most, more_by, min_right, none_more, share_more}

-- WHAT HOLDS FROM OPENING ON: no foreground scans an index, the planned scans are so many and each has its counts, and no
-- more is guaranteed than the table's pages
pub record Within (p planned : ℕ) (v : Shape) : Type 0 where
  pub behind : is_behind v.strategy v.control ≡ true
  pub plans : length v.joint.plans ≡ planned
  pub room : length v.joint.plans ≤ length v.joint.counts
  pub less : v.guaranteed ≤ p

-- what every call keeps of it
pub record Stays (old new : Shape) : Type 0 where
  pub behind : is_behind old.strategy old.control ≡ true → is_behind new.strategy new.control ≡ true
  pub plans : length new.joint.plans ≡ length old.joint.plans
  pub counts : length new.joint.counts ≡ length old.joint.counts
  pub less : new.guaranteed ≤ old.guaranteed
  pub asked : new.query ≡ old.query
  pub apart : is_apart old.control ≡ true → is_apart new.control ≡ true

pub stays_still : (v : Shape) → Stays v v
stays_still v = record { behind = λ b. b; plans = refl; counts = refl; less = at_most v.guaranteed; asked = refl; apart = λ b. b }

pub stays_on : (a b c : Shape) → Stays a b → Stays b c → Stays a c
stays_on a b c s t = record {
  behind = λ h. t.behind (s.behind h);
  plans = t.plans ∙ s.plans;
  counts = t.counts ∙ s.counts;
  less = le_trans t.less s.less;
  asked = t.asked ∙ s.asked;
  apart = λ h. t.apart (s.apart h);
}

rooms : (a b c d : ℕ) → a ≡ b → c ≡ d → b ≤ d → a ≤ c
rooms a b c d e f h = omega (arith, e, f, h)

pub within_on : (p planned : ℕ) (old new : Shape) → Stays old new → Within p planned old → Within p planned new
within_on p planned old new s w = record {
  behind = s.behind w.behind;
  plans = s.plans ∙ w.plans;
  room = rooms (length new.joint.plans) (length old.joint.plans) (length new.joint.counts) (length old.joint.counts) s.plans s.counts w.room;
  less = le_trans s.less w.less;
}

-- The leaves that were read, with those ahead, come to no more than before, but for so many.
pub record Spends (p lost : ℕ) (old new : Shape) : Type 0 where
  pub stays : Stays old new
  pub fewer : new.trace.leaves + ahead p new.joint ≤ old.trace.leaves + ahead p old.joint + lost

-- Verdicts.

dropped_stays : (verdict : Verdict) (more next : Bool) (v : Shape) → Stays v (dropped verdict more next v)
dropped_stays verdict more true v = record { behind = λ b. b; plans = refl; counts = refl; less = at_most v.guaranteed; asked = refl; apart = λ b. b }
dropped_stays verdict more false v = record { behind = λ b. goes_behind v.strategy v.control (Ruled verdict more (is_some v.joint.list)) b; plans = refl; counts = refl; less = at_most v.guaranteed; asked = refl; apart = λ b. goes_apart v.strategy v.control (Ruled verdict more (is_some v.joint.list)) b }

stopped_stays : (more : Bool) (v : Shape) → Stays v (stopped more v)
stopped_stays more v = by (can_stop v)
  where
    by : (b : Bool) → Stays v (if b then gone (Ruled AbandonForeground more (is_some v.joint.list)) (record v { trace = noted v.trace Stop }) else v)
    by true = record { behind = λ b. goes_behind v.strategy v.control (Ruled AbandonForeground more (is_some v.joint.list)) b; plans = refl; counts = refl; less = at_most v.guaranteed; asked = refl; apart = λ b. goes_apart v.strategy v.control (Ruled AbandonForeground more (is_some v.joint.list)) b }
    by false = stays_still v

ruled_stays : (verdict : Verdict) (v : Shape) → Stays v (ruled verdict v)
ruled_stays Continue v = stays_still v
ruled_stays AbandonScan v = dropped_stays AbandonScan (more_behind v.joint) (more_behind v.joint) v
ruled_stays AbandonForeground v = stopped_stays (more_behind v.joint) v
ruled_stays AbandonBackground v = dropped_stays AbandonBackground (more_behind v.joint) false v

dropped_fewer : (p q : ℕ) (verdict : Verdict) (more next : Bool) (v : Shape) → ahead p (abandoned v.joint) ≤ q → (dropped verdict more next v).trace.leaves + ahead p (dropped verdict more next v).joint ≤ v.trace.leaves + q
dropped_fewer p q verdict more true v h = more_by v.trace.leaves (ahead p (abandoned v.joint)) q h
dropped_fewer p q verdict more false v h = more_by v.trace.leaves (ahead p (abandoned v.joint)) q h

stopped_fewer : (p q : ℕ) (more : Bool) (v : Shape) → ahead p v.joint ≤ q → (stopped more v).trace.leaves + ahead p (stopped more v).joint ≤ v.trace.leaves + q
stopped_fewer p q more v h = by (can_stop v)
  where
    by : (b : Bool) → (if b then gone (Ruled AbandonForeground more (is_some v.joint.list)) (record v { trace = noted v.trace Stop }) else v).trace.leaves + ahead p (if b then gone (Ruled AbandonForeground more (is_some v.joint.list)) (record v { trace = noted v.trace Stop }) else v).joint ≤ v.trace.leaves + q
    by true = more_by v.trace.leaves (ahead p v.joint) q h
    by false = more_by v.trace.leaves (ahead p v.joint) q h

-- where the scan goes on its leaves ahead stand by the rule, where it is dropped by its end
ruled_fewer : (p q : ℕ) (verdict : Verdict) (v : Shape) → (goes_on verdict ≡ true → ahead p v.joint ≤ q) → ahead p (abandoned v.joint) ≤ q → (ruled verdict v).trace.leaves + ahead p (ruled verdict v).joint ≤ v.trace.leaves + q
ruled_fewer p q Continue v on over = more_by v.trace.leaves (ahead p v.joint) q (on refl)
ruled_fewer p q AbandonScan v on over = dropped_fewer p q AbandonScan (more_behind v.joint) (more_behind v.joint) v over
ruled_fewer p q AbandonForeground v on over = stopped_fewer p q (more_behind v.joint) v (on refl)
ruled_fewer p q AbandonBackground v on over = dropped_fewer p q AbandonBackground (more_behind v.joint) false v over

-- The end of a scan.

over_stays : (scan : ℕ) (v : Shape) → Stays v (scan_over scan v)
over_stays scan v = by (under_way v.joint)
  where
    by : (b : Bool) → Stays v (if b then going_on (listed scan v) else gone (ScanEnded b (is_some v.joint.list)) (listed scan v))
    by true = record { behind = λ b. b; plans = refl; counts = refl; less = min_right _ v.guaranteed; asked = refl; apart = λ b. b }
    by false = record { behind = λ b. goes_behind v.strategy v.control (ScanEnded false (is_some v.joint.list)) b; plans = refl; counts = refl; less = min_right _ v.guaranteed; asked = refl; apart = λ b. goes_apart v.strategy v.control (ScanEnded false (is_some v.joint.list)) b }

over_fewer : (p q scan : ℕ) (v : Shape) → ahead p v.joint ≤ q → (scan_over scan v).trace.leaves + ahead p (scan_over scan v).joint ≤ v.trace.leaves + q
over_fewer p q scan v h = by (under_way v.joint)
  where
    by : (b : Bool) → (if b then going_on (listed scan v) else gone (ScanEnded b (is_some v.joint.list)) (listed scan v)).trace.leaves + ahead p (if b then going_on (listed scan v) else gone (ScanEnded b (is_some v.joint.list)) (listed scan v)).joint ≤ v.trace.leaves + q
    by true = more_by v.trace.leaves (ahead p v.joint) q h
    by false = more_by v.trace.leaves (ahead p v.joint) q h

-- A PIECE IS GIVEN.

goes_ahead : (p planned : ℕ) (would : ℕ → Facts → Ruling) (state : ℕ) (old : Shape) (entries : List IndexEntry) (cut : IndexEntry) → IsBounded would → Within p planned old → under_way old.joint ≡ true → goes_on (would state (facts_of (account_of (record old { joint = going old.joint entries cut })) old.joint.ended)).verdict ≡ true → ahead p (going old.joint entries cut) ≤ ahead p old.joint
goes_ahead p planned would state old entries cut rule w way on =
    let j = going old.joint entries cut in
    let keeps : Keeps (facts_of (account_of (record old { joint = j })) old.joint.ended) = (rule state (facts_of (account_of (record old { joint = j })) old.joint.ended)).0 on in
    let lt = way_within old.joint way in
    let same = going_spent old.joint entries cut (way_counted old.joint way w.room) in
    let told = ap (λ (a : ScanAccount). a.leaves) (account_at j.plans j.counts old.joint.ended lt) ∙ same in
    let sunk = subst (λ (n : ℕ). n ≤ 1 + share old.guaranteed old.joint.ended) told keeps.sunk in
    stay_ahead p old.joint j refl refl same (share_more (spent_by old.joint) (share old.guaranteed old.joint.ended) (share p old.joint.ended) sunk (share_less old.guaranteed p old.joint.ended w.less))

set_stays : (old : Shape) (j : Joint) → j.plans ≡ old.joint.plans → length j.counts ≡ length old.joint.counts → Stays old (record old { joint = j })
set_stays old j plans counts = record { behind = λ b. b; plans = ap length plans; counts = counts; less = at_most old.guaranteed; asked = refl; apart = λ b. b }

going_spends : (p planned : ℕ) (would : ℕ → Facts → Ruling) (state : ℕ) (old : Shape) (entries : List IndexEntry) (cut : IndexEntry) (verdict : Verdict) → verdict ≡ (would state (facts_of (account_of (record old { joint = going old.joint entries cut })) old.joint.ended)).verdict → IsBounded would → Within p planned old → under_way old.joint ≡ true → Spends p 0 old (ruled verdict (record old { joint = going old.joint entries cut }))
going_spends p planned would state old entries cut verdict is rule w way =
    let j = going old.joint entries cut in
    let v = record old { joint = j } in
    let on : goes_on verdict ≡ true → ahead p j ≤ ahead p old.joint = λ g. goes_ahead p planned would state old entries cut rule w way (sym (ap goes_on is) ∙ g) in
    let over = next_ahead p old.joint (abandoned j) (way_within old.joint way) refl refl in
    let stays = stays_on old v (ruled verdict v) (set_stays old j refl (length-set old.joint.counts old.joint.ended _)) (ruled_stays verdict v) in
    record {
      stays = stays;
      fewer = none_more _ _ (ruled_fewer p (ahead p old.joint) verdict v on over);
    }

completed_spends : (p planned : ℕ) (old : Shape) (entries : List IndexEntry) (keys : List ℕ) → Within p planned old → under_way old.joint ≡ true → Spends p 0 old (scan_over old.joint.ended (record old { joint = completed old.joint entries keys }))
completed_spends p planned old entries keys w way =
    let j = completed old.joint entries keys in
    let v = record old { joint = j } in
    let stays = stays_on old v (scan_over old.joint.ended v) (set_stays old j refl (length-set old.joint.counts old.joint.ended _)) (over_stays old.joint.ended v) in
    record {
      stays = stays;
      fewer = none_more _ _ (over_fewer p (ahead p old.joint) old.joint.ended v (next_ahead p old.joint j (way_within old.joint way) refl refl));
    }

other_number : (n : ℕ) → nat_eq (n + 1) n ≡ false
other_number n = grind (arith, nat_tests)

-- WHAT BECOMES OF A PIECE THAT IS GIVEN: its scan goes on, and the judge's verdict upon that is obeyed, or it is complete
abbrev pub asked_of : (ℕ → Facts → Ruling) → ℕ → Shape → Joint → Verdict
asked_of would state old j = (would state (facts_of (account_of (record old { joint = j })) old.joint.ended)).verdict

abbrev pub Outcome : (ℕ → Facts → Ruling) → ℕ → List IndexEntry → Shape → Shape → Type 0
Outcome would state entries old new =
    ((cut : IndexEntry) × (new ≡ ruled (asked_of would state old (going old.joint entries cut)) (record old { joint = going old.joint entries cut })))
    ⊎ ((keys : List ℕ) × IsPermutation (old.joint.building ++ kept_of old.joint entries) keys × (new ≡ scan_over old.joint.ended (record old { joint = completed old.joint entries keys })))

pub given_outcome : (would : ℕ → Facts → Ruling) (state after : ℕ) (piece : Pieced) (old new : Shape) (j : Joint) → Awaits old.joint piece → Accepts old.joint j piece.entries (held_next old.joint.held) → Obeys would state after old.joint.ended (record old { joint = j }) new → Outcome would state piece.entries old new
given_outcome would state after piece old new j awaits accepts obeys = by (held_next old.joint.held) accepts
  where
    by : (next : Option IndexEntry) → Accepts old.joint j piece.entries next → Outcome would state piece.entries old new
    by (Some cut) acc =
        let first : Obeyed (nat_eq old.joint.ended old.joint.ended) (under_way old.joint) would state after old.joint.ended (record old { joint = going old.joint piece.entries cut }) new = subst (λ (x : Joint). Obeys would state after old.joint.ended (record old { joint = x }) new) acc obeys in
        let same : Obeyed true (under_way old.joint) would state after old.joint.ended (record old { joint = going old.joint piece.entries cut }) new = subst (λ (b : Bool). Obeyed b (under_way old.joint) would state after old.joint.ended (record old { joint = going old.joint piece.entries cut }) new) (same_number old.joint.ended) first in
        let asked : IsRuled (would state (facts_of (account_of (record old { joint = going old.joint piece.entries cut })) old.joint.ended)) after (record old { joint = going old.joint piece.entries cut }) new = subst (λ (b : Bool). Obeyed true b would state after old.joint.ended (record old { joint = going old.joint piece.entries cut }) new) awaits.way same in
        inl (cut, asked.0)
    by None acc =
        let v = record old { joint = completed old.joint piece.entries acc.0 } in
        let first : Obeyed (nat_eq (old.joint.ended + 1) old.joint.ended) (under_way v.joint) would state after old.joint.ended v new = subst (λ (x : Joint). Obeys would state after old.joint.ended (record old { joint = x }) new) acc.3 obeys in
        let over : (new ≡ scan_over old.joint.ended v) × (after ≡ state) = subst (λ (b : Bool). Obeyed b (under_way v.joint) would state after old.joint.ended v new) (other_number old.joint.ended) first in
        inr (acc.0, acc.1, over.0)

pub given_spends : (p planned : ℕ) (would : ℕ → Facts → Ruling) (state after : ℕ) (piece : Pieced) (old new : Shape) (j : Joint) → IsBounded would → Within p planned old → Awaits old.joint piece → Accepts old.joint j piece.entries (held_next old.joint.held) → Obeys would state after old.joint.ended (record old { joint = j }) new → Spends p 0 old new
given_spends p planned would state after piece old new j rule w awaits accepts obeys = by (given_outcome would state after piece old new j awaits accepts obeys)
  where
    by : Outcome would state piece.entries old new → Spends p 0 old new
    by (inl on) = subst (λ (x : Shape). Spends p 0 old x) (sym on.1) (going_spends p planned would state old piece.entries on.0 (asked_of would state old (going old.joint piece.entries on.0)) refl rule w awaits.way)
    by (inr over) = subst (λ (x : Shape). Spends p 0 old x) (sym over.2) (completed_spends p planned old piece.entries over.0 w awaits.way)
