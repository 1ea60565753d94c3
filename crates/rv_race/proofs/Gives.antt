-- What a give leaves: an accepted piece, and then the end of its scan, or the verdict on it.
use Rattle.std.proofs.Common.{◌≡◌, ℕ, List, length, Bool, true, false, refl, ap, sym, ◌∙◌, subst, Option, Some, None, is_some, IfSome, IsPermutation, Result, Ok, Err, IfOk, OnErr, inl, inr}
use Rattle.std.specs.Cmp.{first_so}
use Rattle.rv_value.proofs.Tests.{no_way}
use Rattle.rv_value.specs.declared.record.IndexEntry.{IndexEntry}
use Rattle.rv_judge.specs.declared.events.Control.{Control}
use Rattle.rv_judge.specs.declared.events.Happening.{Happening}
use Rattle.rv_judge.specs.declared.events.Happening.TheVariants.{ScanEnded, Ruled}
use Rattle.rv_judge.specs.declared.events.Event.TheVariants.{Drop}
use Rattle.rv_judge.specs.declared.judging.Facts.{Facts}
use Rattle.rv_judge.specs.declared.judging.Verdict.{Verdict}
use Rattle.rv_judge.specs.declared.judging.Verdict.TheVariants.{Continue, AbandonScan, AbandonForeground, AbandonBackground}
use Rattle.rv_judge.specs.declared.events.Strategy.TheVariants.{BackgroundOnly}
use Rattle.rv_judge.specs.Course.{next_control}
use Rattle.rv_judge.specs.Tracing.{SameCounts, noted}
use Rattle.rv_judge.specs.Verdicts.{Ruling}
use Rattle.rv_reader.specs.Shown.{Shown}
use Rattle.rv_jscan.specs.declared.jscan.Given.{Given}
use Rattle.rv_jscan.specs.declared.jscan.Given.TheVariants.{Accepted, Stale}
use Rattle.rv_jscan.specs.Pieces.{Pieced, may}
use Rattle.rv_jscan.specs.Steps.{held_next}
use Rattle.rv_race.specs.declared.running.Runner.{Runner}
use Rattle.rv_race.specs.declared.running.Running.{Running}
use Rattle.rv_race.specs.Given.{Answers, Awaits, turn_lane, turn_scan}
use Rattle.rv_race.specs.Raced.{Keeps, RaceFits, Raced, SameRace, owed}
use Rattle.rv_final.specs.Shell.{scanning}
use Rattle.rv_race.specs.Rulings.{GivesOn, HasNextTurn, Obeys, accepted, dropped, ended, going_on, index_at, listed, more, narrowed_by, over, passed_on, ruled, stopped, told_over}
use Rattle.rv_race.specs.Ways.{advanced, lower, turned, turned_to}
use Rattle.rv_final.proofs.Givings.{given_holds}
use Rattle.rv_race.proofs.Fits.{advanced_running, begun_fits, covered_may, narrowed_fits, narrowed_unheld, passed_all, passed_fits, turned_running}
use Rattle.rv_race.proofs.Switches.{Leads, Stays, dropped_leads, ended_leads, gone_stays, moved_fits, moved_rest, over_as, stopped_leads, with_parts}
use Rattle.rv_race.proofs.Ways.{advanced_turn}

-- THE FIT AND THE REST

pub stays_on : (r mid new : Raced) (shown : Shown) → Stays r shown mid → Stays mid shown new → Stays r shown new
stays_on r mid new shown a b = (b.0, b.1 ∙ a.1)

moved_stays : (r new : Raced) (shown : Shown) → new ≡ with_parts r new → scanning r.control ≡ true → RaceFits r shown → RaceFits new shown → Stays r shown new
moved_stays r new shown e back f g = (g, moved_rest r new shown e back)

-- a piece that is not the last of its scan
pub accepted_fits : (r : Raced) (piece : Pieced) (cut : IndexEntry) (shown : Shown) → Awaits r piece → held_next (turn_lane r).held ≡ Some cut → RaceFits r shown → RaceFits (accepted piece false r) shown
accepted_fits r piece cut shown a next f =
    let turn = passed_fits r.plans (owed r shown) shown r.snap r.running.turn (may r.list) piece cut f.running.turn a.own.part a.own.entries next (covered_may r.list (owed r shown) f.covers) in
    moved_fits r (accepted piece false r) shown refl a.under_way f (record { turn = turn; other = f.running.other; unheld = f.running.unheld }) f.covers

-- the last one: its list is complete
pub listed_fits : (r : Raced) (piece : Pieced) (keys : List ℕ) (shown : Shown) → Awaits r piece → held_next (turn_lane r).held ≡ None → IsPermutation (turn_lane (accepted piece true r)).building keys → RaceFits r shown → RaceFits (listed keys (accepted piece true r)) shown
listed_fits r piece keys shown a next perm f =
    let covers = passed_all r.plans (owed r shown) shown r.snap r.running.turn (may r.list) piece keys f.running.turn a.own.part a.own.entries next (covered_may r.list (owed r shown) f.covers) perm in
    moved_fits r (listed keys (accepted piece true r)) shown refl a.under_way f (record {
      turn = begun_fits r.plans (owed r shown) shown r.snap r.running.turn.scan f.plans f.running.turn.there;
      other = narrowed_fits r.plans (owed r shown) shown r.snap keys r.running.other covers f.running.other;
      unheld = narrowed_unheld keys r.running.other f.running.unheld;
    }) covers

going_on_stays : (r : Raced) (shown : Shown) → scanning r.control ≡ true → RaceFits r shown → more r ≡ true → Stays r shown (going_on r)
going_on_stays r shown back f m = moved_stays r (going_on r) shown refl back f (moved_fits r (going_on r) shown refl back f (advanced_running r.plans (owed r shown) shown r.snap (is_some r.list) r.running f.plans f.running (first_so _ _ m)) f.covers)

pub ended_stays : (r : Raced) (shown : Shown) → scanning r.control ≡ true → is_some r.list ≡ true → RaceFits r shown → Stays r shown (ended r)
ended_stays r shown back some f = over_as (Stays r shown) (λ b. ScanEnded b true) r (going_on_stays r shown back f) (λ m. gone_stays (ScanEnded false true) r shown back (ended_leads r back some) f)

told_stays : (r : Raced) (index : ℕ) (shown : Shown) → scanning r.control ≡ true → RaceFits r shown → Stays r shown (told_over (Drop index) r)
told_stays r index shown back f = moved_stays r (told_over (Drop index) r) shown refl back f (moved_fits r (told_over (Drop index) r) shown refl back f f.running f.covers)

pub dropped_stays : (r : Raced) (shown : Shown) → scanning r.control ≡ true → RaceFits r shown → Stays r shown (dropped r)
dropped_stays r shown back f =
    let t = told_over (Drop (index_at r (turn_scan r))) r in
    let told = told_stays r (index_at r (turn_scan r)) shown back f in
    stays_on r t (dropped r) shown told (over_as (Stays t shown) (λ b. Ruled AbandonScan b (is_some r.list)) t (going_on_stays t shown back told.0) (λ m. gone_stays (Ruled AbandonScan false (is_some r.list)) t shown back (dropped_leads t back) told.0))

pub stopped_stays : (r : Raced) (shown : Shown) → scanning r.control ≡ true → RaceFits r shown → Stays r shown (stopped r)
stopped_stays r shown back f =
    let t = record r { trace = noted r.trace (Drop (index_at r (lower r.running))) } in
    let told : Stays r shown t = moved_stays r t shown refl back f (moved_fits r t shown refl back f f.running f.covers) in
    stays_on r t (stopped r) shown told (gone_stays (Ruled AbandonBackground (more r) (is_some r.list)) t shown back (stopped_leads t (more r) back) told.0)

pub passed_stays : (r : Raced) (shown : Shown) → scanning r.control ≡ true → (turn_lane r).held ≡ None → RaceFits r shown → Stays r shown (passed_on r)
passed_stays r shown back none f = moved_stays r (passed_on r) shown refl back f (moved_fits r (passed_on r) shown refl back f (turned_running r.plans (owed r shown) shown r.snap r.running f.running none) f.covers)

pub ruled_stays : (verdict : Verdict) (r : Raced) (shown : Shown) → scanning r.control ≡ true → (turn_lane r).held ≡ None → RaceFits r shown → Stays r shown (ruled verdict r)
ruled_stays Continue r shown back none f = passed_stays r shown back none f
ruled_stays AbandonScan r shown back none f = dropped_stays r shown back f
ruled_stays AbandonForeground r shown back none f = passed_stays r shown back none f
ruled_stays AbandonBackground r shown back none f = stopped_stays r shown back f

obeyed_stays : (would : ℕ → Facts → Ruling) (state after : ℕ) (piece : Pieced) (old new : Raced) (shown : Shown) (next : Option IndexEntry) → Awaits old piece → held_next (turn_lane old).held ≡ next → Obeys would state after piece next old new → RaceFits old shown → Stays old shown new
obeyed_stays would state after piece old new shown (Some cut) a e o f =
    let mid = accepted piece false old in
    let fits = accepted_fits old piece cut shown a e f in
    let went = moved_stays old mid shown refl a.under_way f fits in
    subst (Stays old shown) (sym o.0) (stays_on old mid _ shown went (ruled_stays _ mid shown a.under_way refl fits))
obeyed_stays would state after piece old new shown None a e o f =
    let mid = listed o.0.keys (accepted piece true old) in
    let fits = listed_fits old piece o.0.keys shown a e o.0.built f in
    let went = moved_stays old mid shown refl a.under_way f fits in
    subst (Stays old shown) (sym o.0.ends) (stays_on old mid (ended mid) shown went (ended_stays mid shown a.under_way refl fits))

pub gives_stay : {E : Type 0} (r : Result Given E) (would : ℕ → Facts → Ruling) (state after : ℕ) (piece : Pieced) (old new : Raced) (shown : Shown) → IfOk r (λ g. Answers old piece g new) → IfOk r (λ g. GivesOn would state after piece g old new) → OnErr r (new ≡ old) → RaceFits old shown → Stays old shown new
gives_stay r would state after piece old new shown a o e f = given_holds r (λ g. Answers old piece g new) (λ g. GivesOn would state after piece g old new) (Stays old shown) old new (λ a o. obeyed_stays would state after piece old new shown (held_next (turn_lane old).held) a refl o f) (λ asked now o. o.0) a o e (f, refl)

pub gives_keep : {E : Type 0} (r : Result Given E) (would : ℕ → Facts → Ruling) (state after : ℕ) (piece : Pieced) (old new : Raced) → IfOk r (λ g. Answers old piece g new) → IfOk r (λ g. GivesOn would state after piece g old new) → OnErr r (new ≡ old) → Keeps old new
gives_keep r would state after piece old new a o e = record {
  fits = λ shown f. (gives_stay r would state after piece old new shown a o e f).0;
  rest = λ shown f. (gives_stay r would state after piece old new shown a o e f).1;
}

-- WHAT STAYS: what is asked, the planned scans, the names of the pieces, and what the trace counts

-- what does not depend on the scans under way
pub record Kin (old new : Raced) : Type 0 where
  pub same : SameRace old new
  pub counts : SameCounts old.trace new.trace

kin : (r : Raced) → Kin r r
kin r = record { same = record { table = refl; snap = refl; cursor = refl; opening = refl; only = refl; plans = refl }; counts = record { pages = refl; leaves = refl; fetches = refl } }

over_kin : (happening : Bool → Happening) (old r : Raced) → Kin old r → Kin old (over (more r) (happening (more r)) r)
over_kin happening old r k = over_as (Kin old) happening r
    (λ m. record { same = record { table = k.same.table; snap = k.same.snap; cursor = k.same.cursor; opening = k.same.opening; only = k.same.only; plans = k.same.plans }; counts = record { pages = k.counts.pages; leaves = k.counts.leaves; fetches = k.counts.fetches } })
    (λ m. record { same = record { table = k.same.table; snap = k.same.snap; cursor = k.same.cursor; opening = k.same.opening; only = k.same.only; plans = k.same.plans }; counts = record { pages = k.counts.pages; leaves = k.counts.leaves; fetches = k.counts.fetches } })

ruled_kin : (verdict : Verdict) (piece : Pieced) (old : Raced) → Kin old (ruled verdict (accepted piece false old))
ruled_kin Continue piece old = record { same = record { table = refl; snap = refl; cursor = refl; opening = refl; only = refl; plans = refl }; counts = record { pages = refl; leaves = refl; fetches = refl } }
ruled_kin AbandonForeground piece old = record { same = record { table = refl; snap = refl; cursor = refl; opening = refl; only = refl; plans = refl }; counts = record { pages = refl; leaves = refl; fetches = refl } }
ruled_kin AbandonScan piece old =
    let r = accepted piece false old in
    over_kin (λ b. Ruled AbandonScan b (is_some r.list)) old (told_over (Drop (index_at r (turn_scan r))) r) (record { same = record { table = refl; snap = refl; cursor = refl; opening = refl; only = refl; plans = refl }; counts = record { pages = refl; leaves = refl; fetches = refl } })
ruled_kin AbandonBackground piece old = record { same = record { table = refl; snap = refl; cursor = refl; opening = refl; only = refl; plans = refl }; counts = record { pages = refl; leaves = refl; fetches = refl } }

ended_kin : (keys : List ℕ) (piece : Pieced) (old : Raced) → Kin old (ended (listed keys (accepted piece true old)))
ended_kin keys piece old = over_kin (λ b. ScanEnded b true) old (listed keys (accepted piece true old)) (record { same = record { table = refl; snap = refl; cursor = refl; opening = refl; only = refl; plans = refl }; counts = record { pages = refl; leaves = refl; fetches = refl } })

obeyed_kin : (would : ℕ → Facts → Ruling) (state after : ℕ) (piece : Pieced) (old new : Raced) (next : Option IndexEntry) → Obeys would state after piece next old new → Kin old new
obeyed_kin would state after piece old new (Some cut) o = subst (Kin old) (sym o.0) (ruled_kin _ piece old)
obeyed_kin would state after piece old new None o = subst (Kin old) (sym o.0.ends) (ended_kin o.0.keys piece old)

pub gives_kin : {E : Type 0} (r : Result Given E) (would : ℕ → Facts → Ruling) (state after : ℕ) (piece : Pieced) (old new : Raced) → IfOk r (λ g. GivesOn would state after piece g old new) → OnErr r (new ≡ old) → Kin old new
gives_kin r would state after piece old new o e = given_holds r (λ g. GivesOn would state after piece g old new) (λ g. GivesOn would state after piece g old new) (Kin old) old new (λ a o. obeyed_kin would state after piece old new (held_next (turn_lane old).held) o) (λ asked now o. o.0) o o e (kin old)

-- WHOSE TURN IT IS

abbrev pub Turns : Option Runner → Raced → Type 0
Turns other new = scanning new.control ≡ true → IfSome other (λ o. new.running.turn.scan ≡ o.scan)

turned_turn : (w : Running) → IfSome w.other (λ o. (turned w).turn.scan ≡ o.scan)
turned_turn w = by w.other
  where
    by : (o : Option Runner) → IfSome o (λ x. (turned_to o w).turn.scan ≡ x.scan)
    by None = tt
    by (Some other) = refl

leads_off : (r : Raced) (c : Control) → Leads r c → scanning c ≡ true → true ≡ false
leads_off r c (inl l) back = sym back ∙ ap scanning l.0
leads_off r c (inr e) back = sym back ∙ ap scanning e

over_turns : (happening : Bool → Happening) (r : Raced) → Leads r (next_control BackgroundOnly r.control (happening false)) → Turns r.running.other (over (more r) (happening (more r)) r)
over_turns happening r leads = over_as (Turns r.running.other) happening r (λ m back. on r.running.other refl) (λ m back. no_way (leads_off r (next_control BackgroundOnly r.control (happening false)) leads back))
  where
    on : (o : Option Runner) → r.running.other ≡ o → IfSome o (λ x. (advanced (is_some r.list) (length r.plans) r.running).turn.scan ≡ x.scan)
    on None e = tt
    on (Some other) e = ap (λ (t : Runner). t.scan) (advanced_turn (is_some r.list) (length r.plans) r.running other e)

ruled_turns : (verdict : Verdict) (r : Raced) → scanning r.control ≡ true → Turns r.running.other (ruled verdict r)
ruled_turns Continue r back = λ after. turned_turn r.running
ruled_turns AbandonForeground r back = λ after. turned_turn r.running
ruled_turns AbandonScan r back =
    let t = told_over (Drop (index_at r (turn_scan r))) r in
    over_turns (λ b. Ruled AbandonScan b (is_some r.list)) t (dropped_leads t back)
ruled_turns AbandonBackground r back = λ after. no_way (leads_off r (next_control BackgroundOnly r.control (Ruled AbandonBackground (more r) (is_some r.list))) (stopped_leads r (more r) back) after)

narrowed_scan : (keys : List ℕ) (n : ℕ) (o : Option Runner) → IfSome (narrowed_by keys o) (λ x. n ≡ x.scan) → IfSome o (λ x. n ≡ x.scan)
narrowed_scan keys n None e = tt
narrowed_scan keys n (Some other) e = e

ended_turns : (keys : List ℕ) (piece : Pieced) (old : Raced) → scanning old.control ≡ true → Turns old.running.other (ended (listed keys (accepted piece true old)))
ended_turns keys piece old back after =
    let r = listed keys (accepted piece true old) in
    narrowed_scan keys (ended r).running.turn.scan old.running.other (over_turns (λ b. ScanEnded b true) r (ended_leads r back refl) after)

obeyed_turns : (would : ℕ → Facts → Ruling) (state after : ℕ) (piece : Pieced) (old new : Raced) (next : Option IndexEntry) → scanning old.control ≡ true → Obeys would state after piece next old new → Turns old.running.other new
obeyed_turns would state after piece old new (Some cut) back o = subst (Turns old.running.other) (sym o.0) (ruled_turns _ (accepted piece false old) back)
obeyed_turns would state after piece old new None back o = subst (Turns old.running.other) (sym o.0.ends) (ended_turns o.0.keys piece old back)

given_turns : (would : ℕ → Facts → Ruling) (state after : ℕ) (piece : Pieced) (g : Given) (old new : Raced) → Answers old piece g new → GivesOn would state after piece g old new → HasNextTurn g old new
given_turns would state after piece Accepted old new a o = obeyed_turns would state after piece old new (held_next (turn_lane old).held) a.under_way o
given_turns would state after piece (Stale asked now) old new a o = o.0

pub gives_turns : {E : Type 0} (r : Result Given E) (would : ℕ → Facts → Ruling) (state after : ℕ) (piece : Pieced) (old new : Raced) → IfOk r (λ g. Answers old piece g new) → IfOk r (λ g. GivesOn would state after piece g old new) → IfOk r (λ g. HasNextTurn g old new)
gives_turns (Ok g) would state after piece old new a o = given_turns would state after piece g old new a o
gives_turns (Err x) would state after piece old new a o = tt
