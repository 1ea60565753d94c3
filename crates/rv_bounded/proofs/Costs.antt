-- What calls cost of the final stage, and what they leave: few keys, and a final stage that costs little.
use Rattle.std.proofs.Common.{◌≡◌, ℕ, ◌+◌, ◌-◌, ◌≤◌, List, length, Bool, true, false, is_some, inl, inr, refl, ap, sym, ◌∙◌, subst, arith, le_trans}
use Rattle.std.specs.Prelude.{if◌then◌else◌}
use Rattle.rv_value.proofs.Tests.{no_other}
use Rattle.rv_value.specs.declared.record.IndexEntry.{IndexEntry}
use Rattle.rv_judge.specs.declared.events.Control.{Control}
use Rattle.rv_judge.specs.declared.events.Control.TheVariants.{Building, ForegroundAlone, BackgroundAlone, FinalList, FinalTable, Done}
use Rattle.rv_judge.specs.declared.events.Event.TheVariants.{Stop}
use Rattle.rv_judge.specs.declared.events.Happening.TheVariants.{Ruled, ScanEnded}
use Rattle.rv_judge.specs.declared.judging.Facts.{Facts}
use Rattle.rv_judge.specs.declared.judging.Verdict.{Verdict}
use Rattle.rv_judge.specs.declared.judging.Verdict.TheVariants.{Continue, AbandonScan, AbandonForeground, AbandonBackground}
use Rattle.rv_judge.specs.Account.{ScanAccount, facts_at, facts_of}
use Rattle.rv_judge.specs.Tracing.{SameCounts, noted}
use Rattle.rv_judge.specs.Verdicts.{Ruling}
use Rattle.rv_jscan.specs.declared.jscan.Given.{Given}
use Rattle.rv_jscan.specs.declared.jscan.Given.TheVariants.{Accepted, Stale}
use Rattle.rv_jscan.specs.Joint.{Joint, counts_at, plan_at, under_way}
use Rattle.rv_jscan.specs.Pieces.{Pieced}
use Rattle.rv_jscan.specs.Steps.{Accepts, Awaits, abandoned, completed, going, held_next}
use Rattle.rv_jscan.proofs.Fits.{way_within}
use Rattle.rv_final.specs.Stage.{keys_left}
use Rattle.rv_choice.specs.declared.query.Query.{Query}
use Rattle.rv_retrieval.specs.Accounts.{account_of, scan_account}
use Rattle.rv_retrieval.specs.Given.{Answers, more_behind}
use Rattle.rv_retrieval.specs.Rulings.{GivesOn, Obeys, dropped, going_on, gone, listed, ruled, scan_over, stopped}
use Rattle.rv_retrieval.specs.Shape.{Shape, is_background}
use Rattle.rv_retrieval.specs.Telling.{can_stop}
use Rattle.rv_retrieval.proofs.Accounting.{account_at}
use Rattle.rv_retrieval.proofs.Courses.{keys_few}
use Rattle.skew_judges.specs.Guard.{IsBounded, Keeps, goes_on}
use Rattle.rv_bounded.specs.Calls.{Gives}
use Rattle.rv_bounded.proofs.Ahead.{ahead, greatest, way_counted}
use Rattle.rv_bounded.proofs.Controls.{is_apart}
use Rattle.rv_bounded.proofs.Sound.{Sound, abandoned_sound, completed_sound, going_capped, going_fresh, going_scanned, going_sound, held_short, keeps_fewer, kept_by}
use Rattle.rv_bounded.proofs.Spending.{Outcome, Spends, Within, asked_of, given_outcome, given_spends, within_on}
use Rattle.rv_bounded.proofs.Sums.{less_more, at_most, still_sum}

-- THE READS OF THE FINAL STAGE that a control may still come to: as many as the table has pages, and 48 more, while pieces
-- are awaited; the keys left of the list; the pages left of the table
abbrev pub rest_by : Control → ℕ → ℕ → ℕ → ℕ
rest_by Building p keys next = 0
rest_by ForegroundAlone p keys next = 0
rest_by BackgroundAlone p keys next = p + 48
rest_by FinalList p keys next = keys
rest_by FinalTable p keys next = p - next
rest_by Done p keys next = 0

abbrev pub rest_of : ℕ → Shape → ℕ
rest_of p v = rest_by v.control p (length (keys_left v.joint.list v.at)) v.last.next

-- the pages and the records that were read
abbrev pub others : Shape → ℕ
others v = v.trace.pages + v.trace.fetches

-- what holds from opening on
pub record Whole (query : Query) (p planned : ℕ) (v : Shape) : Type 0 where
  pub within : Within p planned v
  pub asked : v.query ≡ query
  pub apart : is_apart v.control ≡ true
  pub sound : Sound p v.joint

-- what a call costs, a leaf or another read at most where no memory is found
pub record Costs (p lost : ℕ) (old new : Shape) : Type 0 where
  pub leaf : ℕ
  pub other : ℕ
  pub both : leaf + other ≡ lost
  pub spends : Spends p leaf old new
  pub fewer : others new + rest_of p new ≤ others old + rest_of p old + other
  pub sound : Sound p new.joint

pub whole_on : (query : Query) (p planned lost : ℕ) (old new : Shape) → Costs p lost old new → Whole query p planned old → Whole query p planned new
whole_on query p planned lost old new c w = record {
  within = within_on p planned old new c.spends.stays w.within;
  asked = c.spends.stays.asked ∙ w.asked;
  apart = c.spends.stays.apart w.apart;
  sound = c.sound;
}

rest_most : (c : Control) (p keys next : ℕ) → keys ≤ p + 48 → rest_by c p keys next ≤ p + 48
rest_most Building p keys next h = omega arith
rest_most ForegroundAlone p keys next h = omega arith
rest_most BackgroundAlone p keys next h = omega arith
rest_most FinalList p keys next h = h
rest_most FinalTable p keys next h = omega arith
rest_most Done p keys next h = omega arith

pub rest_keys : (c : Control) (p keys more next : ℕ) → keys ≤ more → rest_by c p keys next ≤ rest_by c p more next
rest_keys Building p keys more next h = omega arith
rest_keys ForegroundAlone p keys more next h = omega arith
rest_keys BackgroundAlone p keys more next h = omega arith
rest_keys FinalList p keys more next h = h
rest_keys FinalTable p keys more next h = omega arith
rest_keys Done p keys more next h = omega arith

pub rest_few : (p : ℕ) (v : Shape) → Sound p v.joint → rest_of p v ≤ p + 48
rest_few p v s = rest_most v.control p (length (keys_left v.joint.list v.at)) v.last.next (le_trans (keys_few v.joint.list v.at) s.list)

pub rest_back : (p : ℕ) (v : Shape) → v.control ≡ BackgroundAlone → rest_of p v ≡ p + 48
rest_back p v e = ap (λ (c : Control). rest_by c p (length (keys_left v.joint.list v.at)) v.last.next) e

pub back_sum : (now left was had most : ℕ) → now ≤ was → left ≤ most → had ≡ most → now + left ≤ was + had + 0
back_sum now left was had most n l h = omega (arith, n, l, h)

pub only_back : (c : Control) → is_background c ≡ true → is_apart c ≡ true → c ≡ BackgroundAlone
only_back Building b h = no_other h
only_back ForegroundAlone b h = no_other b
only_back BackgroundAlone b h = refl
only_back FinalList b h = no_other b
only_back FinalTable b h = no_other b
only_back Done b h = no_other b

-- A PIECE IS GIVEN.

dropped_counts : (verdict : Verdict) (more next : Bool) (v : Shape) → SameCounts v.trace (dropped verdict more next v).trace
dropped_counts verdict more true v = record { pages = refl; leaves = refl; fetches = refl }
dropped_counts verdict more false v = record { pages = refl; leaves = refl; fetches = refl }

stopped_counts : (more : Bool) (v : Shape) → SameCounts v.trace (stopped more v).trace
stopped_counts more v = by (can_stop v)
  where
    by : (b : Bool) → SameCounts v.trace (if b then gone (Ruled AbandonForeground more (is_some v.joint.list)) (record v { trace = noted v.trace Stop }) else v).trace
    by true = record { pages = refl; leaves = refl; fetches = refl }
    by false = record { pages = refl; leaves = refl; fetches = refl }

ruled_counts : (verdict : Verdict) (v : Shape) → SameCounts v.trace (ruled verdict v).trace
ruled_counts Continue v = record { pages = refl; leaves = refl; fetches = refl }
ruled_counts AbandonScan v = dropped_counts AbandonScan (more_behind v.joint) (more_behind v.joint) v
ruled_counts AbandonForeground v = stopped_counts (more_behind v.joint) v
ruled_counts AbandonBackground v = dropped_counts AbandonBackground (more_behind v.joint) false v

over_counts : (scan : ℕ) (v : Shape) → SameCounts v.trace (scan_over scan v).trace
over_counts scan v = by (under_way v.joint)
  where
    by : (b : Bool) → SameCounts v.trace (if b then going_on (listed scan v) else gone (ScanEnded b (is_some v.joint.list)) (listed scan v)).trace
    by true = record { pages = refl; leaves = refl; fetches = refl }
    by false = record { pages = refl; leaves = refl; fetches = refl }

dropped_sound : (p : ℕ) (verdict : Verdict) (more next : Bool) (v : Shape) → Sound p (abandoned v.joint) → Sound p (dropped verdict more next v).joint
dropped_sound p verdict more true v s = s
dropped_sound p verdict more false v s = s

stopped_sound : (p : ℕ) (more : Bool) (v : Shape) → Sound p v.joint → Sound p (stopped more v).joint
stopped_sound p more v s = by (can_stop v)
  where
    by : (b : Bool) → Sound p (if b then gone (Ruled AbandonForeground more (is_some v.joint.list)) (record v { trace = noted v.trace Stop }) else v).joint
    by true = s
    by false = s

ruled_sound : (p : ℕ) (verdict : Verdict) (v : Shape) → (goes_on verdict ≡ true → Sound p v.joint) → Sound p (abandoned v.joint) → Sound p (ruled verdict v).joint
ruled_sound p Continue v on over = on refl
ruled_sound p AbandonScan v on over = dropped_sound p AbandonScan (more_behind v.joint) (more_behind v.joint) v over
ruled_sound p AbandonForeground v on over = stopped_sound p (more_behind v.joint) v (on refl)
ruled_sound p AbandonBackground v on over = dropped_sound p AbandonBackground (more_behind v.joint) false v over

over_sound : (p scan : ℕ) (v : Shape) → Sound p v.joint → Sound p (scan_over scan v).joint
over_sound p scan v s = by (under_way v.joint)
  where
    by : (b : Bool) → Sound p (if b then going_on (listed scan v) else gone (ScanEnded b (is_some v.joint.list)) (listed scan v)).joint
    by true = s
    by false = s

pub outcome_counts : (would : ℕ → Facts → Ruling) (state : ℕ) (entries : List IndexEntry) (old new : Shape) → Outcome would state entries old new → SameCounts old.trace new.trace
outcome_counts would state entries old new (inl on) = subst (λ (x : Shape). SameCounts old.trace x.trace) (sym on.1) (ruled_counts (asked_of would state old (going old.joint entries on.0)) (record old { joint = going old.joint entries on.0 }))
outcome_counts would state entries old new (inr over) = subst (λ (x : Shape). SameCounts old.trace x.trace) (sym over.2) (over_counts old.joint.ended (record old { joint = completed old.joint entries over.0 }))

-- where the judge lets a scan go on it has kept fewer keys than the table has pages
pub goes_sound : (p planned : ℕ) (would : ℕ → Facts → Ruling) (state : ℕ) (old : Shape) (entries : List IndexEntry) (cut : IndexEntry) → IsBounded would → Within p planned old → p ≤ greatest → Sound p old.joint → under_way old.joint ≡ true → goes_on (asked_of would state old (going old.joint entries cut)) ≡ true → Sound p (going old.joint entries cut)
goes_sound p planned would state old entries cut rule w small s way on =
    let j = going old.joint entries cut in
    let facts = facts_of (account_of (record old { joint = j })) old.joint.ended in
    let keeps : Keeps facts = (rule state facts).0 on in
    let lt = way_within old.joint way in
    let told = account_at j.plans j.counts old.joint.ended lt in
    let account = scan_account (plan_at j.plans old.joint.ended) (counts_at j.counts old.joint.ended) in
    let own : Keeps (facts_at old.control account old.joint.ended old.guaranteed (length old.delivered)) = subst (λ (a : ScanAccount). Keeps (facts_at old.control a old.joint.ended old.guaranteed (length old.delivered))) told keeps in
    let counted = way_counted old.joint way w.room in
    let fewer = keeps_fewer old.control account old.joint.ended old.guaranteed (length old.delivered) own (going_scanned p old.joint entries cut counted s) (going_capped old.joint entries cut counted) in
    going_sound p old.joint entries cut counted small (less_more (kept_by j) old.guaranteed p fewer w.less) s

pub given_sound : (p planned : ℕ) (would : ℕ → Facts → Ruling) (state after : ℕ) (piece : Pieced) (old new : Shape) (j : Joint) → IsBounded would → Within p planned old → p ≤ greatest → Sound p old.joint → Awaits old.joint piece → Accepts old.joint j piece.entries (held_next old.joint.held) → Obeys would state after old.joint.ended (record old { joint = j }) new → Sound p new.joint × SameCounts old.trace new.trace
given_sound p planned would state after piece old new j rule w small s awaits accepts obeys = by (given_outcome would state after piece old new j awaits accepts obeys)
  where
    by : Outcome would state piece.entries old new → Sound p new.joint × SameCounts old.trace new.trace
    by (inl on) =
        let g = going old.joint piece.entries on.0 in
        let v = record old { joint = g } in
        let verdict = asked_of would state old g in
        let dropped = abandoned_sound p g (going_fresh p old.joint piece.entries on.0 s) s.list in
        subst (λ (x : Shape). Sound p x.joint × SameCounts old.trace x.trace) (sym on.1) (ruled_sound p verdict v (λ goes. goes_sound p planned would state old piece.entries on.0 rule w small s awaits.way goes) dropped, ruled_counts verdict v)
    by (inr over) =
        let v = record old { joint = completed old.joint piece.entries over.0 } in
        subst (λ (x : Shape). Sound p x.joint × SameCounts old.trace x.trace) (sym over.2) (over_sound p old.joint.ended v (completed_sound p old.joint piece.entries over.0 (held_short old.joint.held piece.entries awaits.entries s.short) over.1 s), over_counts old.joint.ended v)

same_sum : (a b c d : ℕ) → a ≡ c → b ≡ d → a + b ≤ c + d
same_sum a b c d e f = omega (arith, e, f)

pub same_others : (old new : Shape) → SameCounts old.trace new.trace → others new ≤ others old
same_others old new s = same_sum new.trace.pages new.trace.fetches old.trace.pages old.trace.fetches s.pages s.fetches

pub give_costs : (p planned : ℕ) (would : ℕ → Facts → Ruling) (query : Query) (old new : Shape) → p ≤ greatest → IsBounded would → Whole query p planned old → Gives would old new → Costs p 0 old new
give_costs p planned would query old new small rule w gives = by gives.given gives.answers gives.obeys
  where
    by : (given : Given) → Answers old gives.piece given new → GivesOn would gives.state gives.after gives.piece given old new → Costs p 0 old new
    by Accepted answers obeys =
        let sound = given_sound p planned would gives.state gives.after gives.piece old new obeys.0 rule w.within small w.sound answers.awaits obeys.1 obeys.2 in
        record {
          leaf = 0;
          other = 0;
          both = refl;
          spends = given_spends p planned would gives.state gives.after gives.piece old new obeys.0 rule w.within answers.awaits obeys.1 obeys.2;
          fewer = back_sum (others new) (rest_of p new) (others old) (rest_of p old) (p + 48) (same_others old new gives.counts) (rest_few p new sound.0) (rest_back p old (only_back old.control answers.back w.apart));
          sound = sound.0;
        }
    by (Stale asked now) answers obeys = subst (Costs p 0 old) (sym obeys.0) (record {
      leaf = 0;
      other = 0;
      both = refl;
      spends = record {
        stays = record { behind = λ b. b; plans = refl; counts = refl; less = at_most old.guaranteed; asked = refl; apart = λ b. b };
        fewer = still_sum old.trace.leaves (ahead p old.joint);
      };
      fewer = still_sum (others old) (rest_of p old);
      sound = w.sound;
    })
