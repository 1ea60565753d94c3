-- The keys of a union's complete list, and what is read for them.
use Rattle.std.proofs.Common.{◌≡◌, ℕ, ◌+◌, ◌≤◌, List, length, drop, Bool, true, false, Option, Some, None, refl, ap, sym, ◌∙◌, subst, arith, length-drop}
use Rattle.std.specs.Prelude.{if◌then◌else◌}
use Rattle.std.specs.List.Sorted.{IsStrictlyIncreasing}
use Rattle.std.proofs.lemmas.Cmp.{nat_eq_equiv}
use Rattle.std.proofs.lemmas.Map.Made.{length-le_from_is_member}
use Rattle.rv_value.specs.declared.record.IndexEntry.{IndexEntry}
use Rattle.rv_keylist.specs.Keys.{has_key}
use Rattle.rv_keylist.proofs.Onces.{Once-ascending}
use Rattle.rv_judge.specs.declared.events.Control.{Control}
use Rattle.rv_judge.specs.declared.events.Control.TheVariants.{FinalList, FinalTable}
use Rattle.rv_judge.specs.declared.events.Event.TheVariants.{Scan}
use Rattle.rv_judge.specs.declared.judging.Facts.{Facts}
use Rattle.rv_judge.specs.declared.judging.Verdict.{Verdict}
use Rattle.rv_judge.specs.declared.judging.Verdict.TheVariants.{Continue, AbandonScan, AbandonForeground, AbandonBackground}
use Rattle.rv_judge.specs.Counting.{reads}
use Rattle.rv_judge.specs.Verdicts.{Ruling}
use Rattle.rv_reader.specs.Shown.{Shown}
use Rattle.rv_jscan.specs.Pieces.{Pieced}
use Rattle.rv_jscan.specs.Steps.{held_next}
use Rattle.rv_jscan.specs.declared.jscan.Given.TheVariants.{Accepted}
use Rattle.rv_final.specs.LaneWork.{effort_by}
use Rattle.rv_union.specs.Effort.{keys_work, scanning_work, table_work}
use Rattle.rv_union.specs.Given.{Awaits}
use Rattle.rv_union.specs.Rulings.{GivesOn, Obeys, accepted, dropped, going_on, has_next, index_of, joined, listed, next_member, over, ruled as ruled_by, told, was_begun}
use Rattle.rv_union.specs.Unioned.{AreMet, UnionFits, Unioned}
use Rattle.rv_final.specs.Shell.{scanning}
use Rattle.rv_union.proofs.Switches.{dropped_leads}
use Rattle.rv_access.specs.declared.access.Access.{Access}
use Rattle.rv_access.specs.declared.access.Access.TheVariants.{Competing, Racing, Uniting}
use Rattle.rv_access.specs.Accesses.{effort}
use Rattle.rv_join.specs.Alone.{IsAlone, plan_effort}
use Rattle.rv_join.specs.Plans.{plan_trace}
use Rattle.rv_join.specs.Work.{held_rows}
use Rattle.rv_cursor.specs.Fetches.{lost_in}
use Rattle.rv_cursor.specs.Moves.{Move, MovesByAll, Ruled}
use Rattle.rv_bounded.specs.Bounds.{reads_told}
use Rattle.rv_sums.specs.Sums.{HasMet, IsListing, given_in, taken_in}
use Rattle.rv_sums.proofs.Spending.{moves_spend}

-- The keys of the list.

few_keys : (keys rows : List ℕ) → IsStrictlyIncreasing keys → ((n : ℕ) → has_key n keys ≡ true → has_key n rows ≡ true) → length keys ≤ length rows
few_keys keys rows ascend among = length-le_from_is_member nat_eq_equiv keys rows (Once-ascending keys ascend) among

few_left : (keys : List ℕ) (at n : ℕ) → length keys ≤ n → length (drop at keys) ≤ n
few_left keys at n few = omega (arith, length-drop at keys, few)

no_table : (c : Control) → c ≡ FinalTable → c ≡ FinalList → ⊥
no_table c table list = let bad : FinalTable ≡ FinalList = sym table ∙ list in cc

no_scan : (c : Control) → scanning c ≡ true → c ≡ FinalList → ⊥
no_scan c under_way list = let bad : false ≡ true = sym (ap scanning list) ∙ under_way in cc

-- no verdict completes the list
ruled_on : (v : Verdict) (u : Unioned) → scanning u.control ≡ true → (ruled_by v u).control ≡ FinalList → ⊥
ruled_on Continue u under_way list = no_scan u.control under_way list
ruled_on AbandonScan u under_way list = no_table (dropped AbandonScan u).control (dropped_leads u AbandonScan refl under_way) list
ruled_on AbandonForeground u under_way list = no_scan u.control under_way list
ruled_on AbandonBackground u under_way list = no_table (dropped AbandonBackground u).control (dropped_leads u AbandonBackground refl under_way) list

-- a member that ends leaves the keys that were put together
told_keys : (b : Bool) (u : Unioned) → (if b then u else told (Scan (index_of u)) u).keys ≡ u.keys
told_keys true u = refl
told_keys false u = refl

over_by : (b : Bool) (u : Unioned) → (if b then going_on u else listed u).keys ≡ u.keys
over_by true u = told_keys (was_begun (index_of (next_member u)) (next_member u).trace.events.items) (next_member u)
over_by false u = refl

over_keys : (u : Unioned) → (over u).keys ≡ u.keys
over_keys u = over_by (has_next u) u

pub obeys_few : (held : Option IndexEntry) (would : ℕ → Facts → Ruling) (state after : ℕ) (shown : Shown) (rows : List ℕ) (piece : Pieced) (old new : Unioned) → scanning old.control ≡ true → Obeys would state after piece held old new → new.control ≡ FinalList → AreMet new.keys new.plans shown new.snap → HasMet rows new shown → keys_work new ≤ length rows
obeys_few (Some cut) would state after shown rows piece old new under_way obeys list met all = absurd (ruled_on _ (accepted piece false old) under_way (sym (ap (λ (u : Unioned). u.control) obeys.0) ∙ list))
obeys_few None would state after shown rows piece old new under_way obeys list met all =
    let keys = obeys.0.keys in
    let same : new.keys ≡ keys = ap (λ (u : Unioned). u.keys) obeys.0.ends ∙ over_keys (joined keys (accepted piece true old)) in
    few_left new.keys new.at (length rows) (few_keys new.keys rows (subst IsStrictlyIncreasing (sym same) obeys.0.ascend) (λ n has. all.met n (met.met n has)))

pub list_few : (would : ℕ → Facts → Ruling) (state after : ℕ) (shown : Shown) (rows : List ℕ) (piece : Pieced) (old new : Unioned) → Awaits old piece → GivesOn would state after piece Accepted old new → new.control ≡ FinalList → UnionFits new shown → HasMet rows new shown → keys_work new ≤ length rows
list_few would state after shown rows piece old new awaits gives list fits all = obeys_few (held_next old.lane.held) would state after shown rows piece old new awaits.under_way gives list fits.listed all

-- What is read for them.

listing_effort : (a : Access) (shown : Shown) (keys : ℕ) → IsListing a keys → effort a shown ≡ keys
listing_effort (Competing v) shown keys list = absurd list
listing_effort (Racing r) shown keys list = absurd list
listing_effort (Uniting u) shown keys list = ap (λ (c : Control). effort_by c (scanning_work u.value.union shown) (keys_work u.value.union) (table_work u.value.union shown)) list.0 ∙ list.1

without_effort : (now left given was effort held keys lost taken : ℕ) → now + left + given ≤ was + (effort + held) + lost + taken → effort ≡ keys → now + given ≤ was + keys + held + lost + taken
without_effort now left given was effort held keys lost taken sum is = omega (arith, sum, is)

pub list_reads : (moves : List Move) (would : ℕ → Facts → Ruling) (shown : Shown) (old new : Ruled) (keys : ℕ) → MovesByAll moves would shown old new → IsAlone old.plan → IsListing old.plan.stack.at.here keys → reads_told (plan_trace new.plan) + given_in moves ≤ reads_told (plan_trace old.plan) + keys + held_rows old.plan.stack.at.row + lost_in moves + taken_in moves
list_reads moves would shown old new keys made one list =
    without_effort (reads new.plan.reads) (plan_effort shown new.plan) (given_in moves) (reads old.plan.reads) (effort old.plan.stack.at.here shown) (held_rows old.plan.stack.at.row) keys (lost_in moves) (taken_in moves)
    (moves_spend moves would shown old new made one) (listing_effort old.plan.stack.at.here shown keys list)
