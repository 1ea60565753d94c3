-- What a give leaves: an accepted piece, and then the end of its member, or the verdict on it.
use Rattle.std.proofs.Common.{◌≡◌, ℕ, Bool, true, false, ◌||◌, List, refl, sym, ◌∙◌, subst, Option, Some, None, Result, IfOk, OnErr}
use Rattle.std.specs.Prelude.{if◌then◌else◌}
use Rattle.rv_value.specs.declared.record.IndexEntry.{IndexEntry}
use Rattle.rv_keylist.specs.Keys.{has_key}
use Rattle.rv_judge.specs.declared.judging.Facts.{Facts}
use Rattle.rv_judge.specs.declared.judging.Verdict.{Verdict}
use Rattle.rv_judge.specs.declared.judging.Verdict.TheVariants.{Continue, AbandonScan, AbandonForeground, AbandonBackground}
use Rattle.rv_judge.specs.declared.events.Event.TheVariants.{Scan}
use Rattle.rv_judge.specs.Tracing.{SameCounts}
use Rattle.rv_judge.specs.Verdicts.{Ruling}
use Rattle.rv_reader.specs.Shown.{Shown}
use Rattle.rv_jscan.specs.declared.jscan.Given.{Given}
use Rattle.rv_jscan.specs.Pieces.{Pieced}
use Rattle.rv_jscan.specs.Steps.{held_next}
use Rattle.rv_union.specs.Given.{Answers, Awaits}
use Rattle.rv_union.specs.Rulings.{GivesOn, Obeys, accepted, index_of, joined, lacks, next_member, over, ruled, told, told_scan, was_begun}
use Rattle.rv_union.specs.Unioned.{Keeps, SameUnion, UnionFits, Unioned, owed, present, rest}
use Rattle.rv_final.specs.Shell.{scanning}
use Rattle.rv_final.proofs.Givings.{given_holds}
use Rattle.rv_union.proofs.Fits.{Gathers, begun_lane, last_gathers, passed_found, passed_lane, passed_met}
use Rattle.rv_union.proofs.Switches.{Stays, dropped_stays, moved_stays, over_as, over_stays, stays_on, told_parts}

-- THE FIT AND THE REST

-- a piece that is not the last of its member
accepted_stays : (u : Unioned) (piece : Pieced) (cut : IndexEntry) (shown : Shown) → Awaits u piece → held_next u.lane.held ≡ Some cut → UnionFits u shown → Stays u shown (accepted piece false u)
accepted_stays u piece cut shown a next f = moved_stays u (accepted piece false u) shown refl a.under_way f (record {
  there = f.there;
  lane = passed_lane (present u) shown u.snap u.lane (lacks u.keys) piece cut f.lane a.own.entries next;
  finds = λ n o. passed_found u piece cut shown n a.own.part a.own.entries f.lane.drawn next (f.finds a.under_way n o);
  listed = f.listed;
  building = passed_met u piece shown a f;
})

-- the keys of all members up to the present one are one list
joined_stays : (u : Unioned) (piece : Pieced) (keys : List ℕ) (shown : Shown) → Awaits u piece → UnionFits u shown → Gathers u keys shown → Stays u shown (joined keys (accepted piece true u))
joined_stays u piece keys shown a f g = moved_stays u (joined keys (accepted piece true u)) shown refl a.under_way f (record {
  there = f.there;
  lane = begun_lane u.plans (owed u shown) shown u.snap u.member f.members f.there;
  finds = λ n o. behind (has_key n keys) _ _ (g.each n o);
  listed = g.met;
  building = record { met = λ n h. absurd (cc) };
})
  where
    behind : (a b c : Bool) → (a || c) ≡ true → (a || (b || c)) ≡ true
    behind true b c h = refl
    behind false true c h = refl
    behind false false c h = h

ruled_stays : (verdict : Verdict) (u : Unioned) (shown : Shown) → scanning u.control ≡ true → UnionFits u shown → Stays u shown (ruled verdict u)
ruled_stays Continue u shown back f = (f, refl)
ruled_stays AbandonForeground u shown back f = (f, refl)
ruled_stays AbandonScan u shown back f = dropped_stays u AbandonScan shown refl back f
ruled_stays AbandonBackground u shown back f = dropped_stays u AbandonBackground shown refl back f

obeyed_stays : (would : ℕ → Facts → Ruling) (state after : ℕ) (piece : Pieced) (old new : Unioned) (shown : Shown) (next : Option IndexEntry) → Awaits old piece → held_next old.lane.held ≡ next → Obeys would state after piece next old new → UnionFits old shown → Stays old shown new
obeyed_stays would state after piece old new shown (Some cut) a e o f =
    let mid = accepted piece false old in
    let went = accepted_stays old piece cut shown a e f in
    subst (Stays old shown) (sym o.0) (stays_on old mid _ shown went (ruled_stays _ mid shown a.under_way went.0))
obeyed_stays would state after piece old new shown None a e o f =
    let gathers = last_gathers old piece o.0.keys shown a e o.0.built f in
    let mid = joined o.0.keys (accepted piece true old) in
    let went = joined_stays old piece o.0.keys shown a f gathers in
    subst (Stays old shown) (sym o.0.ends) (stays_on old mid (over mid) shown went (over_stays mid shown a.under_way refl went.0 (record { each = gathers.each; met = gathers.met })))

pub gives_stay : {E : Type 0} (r : Result Given E) (would : ℕ → Facts → Ruling) (state after : ℕ) (piece : Pieced) (old new : Unioned) (shown : Shown) → IfOk r (λ g. Answers old piece g new) → IfOk r (λ g. GivesOn would state after piece g old new) → OnErr r (new ≡ old) → UnionFits old shown → Stays old shown new
gives_stay r would state after piece old new shown a o e f = given_holds r (λ g. Answers old piece g new) (λ g. GivesOn would state after piece g old new) (Stays old shown) old new (λ a o. obeyed_stays would state after piece old new shown (held_next old.lane.held) a refl o f) (λ asked now o. o.0) a o e (f, refl)

pub gives_keep : {E : Type 0} (r : Result Given E) (would : ℕ → Facts → Ruling) (state after : ℕ) (piece : Pieced) (old new : Unioned) → IfOk r (λ g. Answers old piece g new) → IfOk r (λ g. GivesOn would state after piece g old new) → OnErr r (new ≡ old) → Keeps old new
gives_keep r would state after piece old new a o e = record {
  fits = λ shown f. (gives_stay r would state after piece old new shown a o e f).0;
  rest = λ shown f. (gives_stay r would state after piece old new shown a o e f).1;
}

-- WHAT STAYS: what is asked, the members, the names of the pieces, and what the trace counts

pub record Kin (old new : Unioned) : Type 0 where
  pub same : SameUnion old new
  pub counts : SameCounts old.trace new.trace

kin : (u : Unioned) → Kin u u
kin u = record { same = record { table = refl; snap = refl; cursor = refl; opening = refl; only = refl; plans = refl }; counts = record { pages = refl; leaves = refl; fetches = refl } }

-- one more event, or none
told_kin : (u : Unioned) → SameCounts u.trace (told_scan u).trace
told_kin u = elim (was_begun (index_of u) u.trace.events.items) as (λ b. SameCounts u.trace (if b then u else told (Scan (index_of u)) u).trace) [
  | true ↦ record { pages = refl; leaves = refl; fetches = refl }
  | false ↦ record { pages = refl; leaves = refl; fetches = refl }
]

over_kin : (old u : Unioned) → Kin old u → Kin old (over u)
over_kin old u k = over_as (Kin old) u
    (λ l. let c = told_kin (next_member u) in subst (Kin old) (sym (told_parts (next_member u))) (record { same = record { table = k.same.table; snap = k.same.snap; cursor = k.same.cursor; opening = k.same.opening; only = k.same.only; plans = k.same.plans }; counts = record { pages = c.pages ∙ k.counts.pages; leaves = c.leaves ∙ k.counts.leaves; fetches = c.fetches ∙ k.counts.fetches } }))
    (λ l. record { same = record { table = k.same.table; snap = k.same.snap; cursor = k.same.cursor; opening = k.same.opening; only = k.same.only; plans = k.same.plans }; counts = record { pages = k.counts.pages; leaves = k.counts.leaves; fetches = k.counts.fetches } })

ruled_kin : (verdict : Verdict) (piece : Pieced) (old : Unioned) → Kin old (ruled verdict (accepted piece false old))
ruled_kin Continue piece old = record { same = record { table = refl; snap = refl; cursor = refl; opening = refl; only = refl; plans = refl }; counts = record { pages = refl; leaves = refl; fetches = refl } }
ruled_kin AbandonForeground piece old = record { same = record { table = refl; snap = refl; cursor = refl; opening = refl; only = refl; plans = refl }; counts = record { pages = refl; leaves = refl; fetches = refl } }
ruled_kin AbandonScan piece old = record { same = record { table = refl; snap = refl; cursor = refl; opening = refl; only = refl; plans = refl }; counts = record { pages = refl; leaves = refl; fetches = refl } }
ruled_kin AbandonBackground piece old = record { same = record { table = refl; snap = refl; cursor = refl; opening = refl; only = refl; plans = refl }; counts = record { pages = refl; leaves = refl; fetches = refl } }

obeyed_kin : (would : ℕ → Facts → Ruling) (state after : ℕ) (piece : Pieced) (old new : Unioned) (next : Option IndexEntry) → Obeys would state after piece next old new → Kin old new
obeyed_kin would state after piece old new (Some cut) o = subst (Kin old) (sym o.0) (ruled_kin _ piece old)
obeyed_kin would state after piece old new None o = subst (Kin old) (sym o.0.ends) (over_kin old (joined o.0.keys (accepted piece true old)) (record { same = record { table = refl; snap = refl; cursor = refl; opening = refl; only = refl; plans = refl }; counts = record { pages = refl; leaves = refl; fetches = refl } }))

pub gives_kin : {E : Type 0} (r : Result Given E) (would : ℕ → Facts → Ruling) (state after : ℕ) (piece : Pieced) (old new : Unioned) → IfOk r (λ g. GivesOn would state after piece g old new) → OnErr r (new ≡ old) → Kin old new
gives_kin r would state after piece old new o e = given_holds r (λ g. GivesOn would state after piece g old new) (λ g. GivesOn would state after piece g old new) (Kin old) old new (λ a o. obeyed_kin would state after piece old new (held_next old.lane.held) o) (λ asked now o. o.0) o o e (kin old)
