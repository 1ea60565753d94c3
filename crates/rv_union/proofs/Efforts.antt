-- The effort of a union falls with each leaf read, each piece accepted and each member that ends.
use Rattle.std.proofs.Common.{◌≡◌, ℕ, ◌+◌, ◌<◌, ◌≤◌, List, ◌++◌, length, drop, true, false, refl, ap, sym, ◌∙◌, arith, subst, Option, Some, None, Result, Ok, Err, IfOk, OnErr}
use Rattle.std.proofs.lemmas.List.{drop_more, length-append}
use Rattle.std.proofs.lemmas.List.Sorted.{length_permutation}
use Rattle.rv_value.specs.declared.record.IndexEntry.{IndexEntry}
use Rattle.rv_judge.specs.declared.counting.Counts.{Counts}
use Rattle.rv_judge.specs.declared.events.Control.{Control}
use Rattle.rv_judge.specs.declared.events.Control.TheVariants.{BackgroundAlone, FinalList, FinalTable}
use Rattle.rv_judge.specs.declared.events.Trace.{Trace}
use Rattle.rv_judge.specs.declared.judging.Facts.{Facts}
use Rattle.rv_judge.specs.declared.judging.Verdict.{Verdict}
use Rattle.rv_judge.specs.declared.judging.Verdict.TheVariants.{Continue, AbandonScan, AbandonForeground, AbandonBackground}
use Rattle.rv_judge.specs.Counting.{reads}
use Rattle.rv_judge.specs.Verdicts.{Ruling}
use Rattle.rv_reader.specs.declared.reader.Chunk.{Chunk}
use Rattle.rv_reader.specs.Shown.{Shown}
use Rattle.rv_jscan.specs.declared.jscan.Given.{Given}
use Rattle.rv_jscan.specs.declared.jscan.Given.TheVariants.{Accepted, Stale}
use Rattle.rv_jscan.specs.declared.jscan.ScanPlan.{ScanPlan}
use Rattle.rv_jscan.specs.declared.jscan.Taken.{Taken}
use Rattle.rv_jscan.specs.Joint.{no_plan, plan_at}
use Rattle.rv_jscan.specs.Lanes.{Laned, no_lane}
use Rattle.rv_jscan.specs.Pieces.{Pieced}
use Rattle.rv_jscan.specs.Steps.{held_next}
use Rattle.rv_final.specs.Stage.{Unbegun, keys_left}
use Rattle.rv_final.specs.Work.{Tries}
use Rattle.rv_final.specs.LaneWork.{GiveSpends, effort_by, lane_work, planned_work, to_read}
use Rattle.rv_union.specs.Effort.{effort, keys_work, scanning_work, table_work}
use Rattle.rv_union.specs.Given.{Answers, Awaits, TakesLeaf, TakesPiece, count_read, holding, piece_read, reads_leaf}
use Rattle.rv_union.specs.Rulings.{GivesOn, Obeys, accepted, dropped, facts_of, going_on, joined, kept_of, lacks, listed, next_member, over, ruled}
use Rattle.rv_union.specs.Unioned.{UnionFits, Unioned, present}
use Rattle.rv_final.specs.Shell.{scanning}
use Rattle.rv_final.proofs.LaneWork.{passed_work}
use Rattle.rv_final.proofs.Givings.{spends_no_more, put_if}
use Rattle.rv_final.proofs.Takings.{built_few, leaf_tries, taken_spends}
use Rattle.rv_final.proofs.Shells.{only_scanning}
use Rattle.rv_union.proofs.Switches.{dropped_leads, drops, listed_leads, over_as, told_parts}
use Rattle.rv_union.proofs.Takes.{took_parts}

-- THE MEMBERS

-- those behind a place, one by one
planned_one : (plans : List ScanPlan) (shown : Shown) (snap k : ℕ) → k < length plans → planned_work (drop k plans) shown snap ≡ lane_work (plan_at plans k) shown snap no_lane + planned_work (drop (k + 1) plans) shown snap
planned_one plans shown snap k l = ap (λ (ps : List ScanPlan). planned_work ps shown snap) (drop_more plans k no_plan l)

-- WHERE A MEMBER ENDS OR A JUDGE RULES

pub effort_at : (u : Unioned) (shown : Shown) (c : Control) → u.control ≡ c → effort u shown ≡ effort_by c (scanning_work u shown) (keys_work u) (table_work u shown)
effort_at u shown c e = ap (λ (x : Control). effort_by x (scanning_work u shown) (keys_work u) (table_work u shown)) e

effort_scanning : (u : Unioned) (shown : Shown) → scanning u.control ≡ true → effort u shown ≡ scanning_work u shown
effort_scanning u shown back = effort_at u shown BackgroundAlone (only_scanning u.control back)

-- what is left without the present member
abbrev pub left_work : Unioned → Shown → ℕ
left_work u shown = planned_work (drop (u.member + 1) u.plans) shown u.snap + length u.keys + table_work u shown

going_work : (u : Unioned) (shown : Shown) → scanning u.control ≡ true → u.lane ≡ no_lane → u.member + 1 < length u.plans → effort (going_on u) shown ≤ left_work u shown + 1
going_work u shown back none l = subst (λ (x : Unioned). effort x shown ≤ left_work u shown + 1) (sym (told_parts (next_member u))) (next none)
  where
    at : Unioned
    at = record (next_member u) { trace = (going_on u).trace }

    next : u.lane ≡ no_lane → effort at shown ≤ left_work u shown + 1
    next e =
        let is = effort_scanning at shown back in
        let one = planned_one u.plans shown u.snap (u.member + 1) l in
        let lane = ap (lane_work (plan_at u.plans (u.member + 1)) shown u.snap) e in
        let read = ap (λ (x : Laned). to_read x.held) e in
        omega arith

listed_work : (u : Unioned) (shown : Shown) → scanning u.control ≡ true → Unbegun u.at u.last → effort (listed u) shown ≤ length u.keys
listed_work u shown back unbegun =
    let is = effort_at (listed u) shown FinalList (listed_leads u back) in
    let all = ap (λ (i : ℕ). length (keys_left (Some u.keys) i)) unbegun.keys in
    omega arith

over_work : (u : Unioned) (shown : Shown) → scanning u.control ≡ true → u.lane ≡ no_lane → Unbegun u.at u.last → effort (over u) shown ≤ left_work u shown + 1
over_work u shown back none unbegun = over_as (λ x. effort x shown ≤ left_work u shown + 1) u (going_work u shown back none) (λ l. let less = listed_work u shown back unbegun in omega arith)

dropped_work : (u : Unioned) (v : Verdict) (shown : Shown) → drops v ≡ true → scanning u.control ≡ true → effort (dropped v u) shown ≤ scanning_work u shown
dropped_work u v shown d back = let is = effort_at (dropped v u) shown FinalTable (dropped_leads u v d back) in omega arith

-- a verdict raises nothing
ruled_work : (verdict : Verdict) (u : Unioned) (shown : Shown) → scanning u.control ≡ true → effort (ruled verdict u) shown ≤ scanning_work u shown
ruled_work Continue u shown back = let is = effort_scanning u shown back in omega arith
ruled_work AbandonForeground u shown back = let is = effort_scanning u shown back in omega arith
ruled_work AbandonScan u shown back = dropped_work u AbandonScan shown refl back
ruled_work AbandonBackground u shown back = dropped_work u AbandonBackground shown refl back

-- WHAT A GIVE SPENDS

accepted_work : (u : Unioned) (piece : Pieced) (cut : IndexEntry) (shown : Shown) → Awaits u piece → held_next u.lane.held ≡ Some cut → UnionFits u shown → scanning_work (accepted piece false u) shown < scanning_work u shown
accepted_work u piece cut shown a next f =
    let less = passed_work (present u) shown u.snap u.lane (lacks u.keys) piece cut a.own.entries f.lane.drawn next in
    omega arith

obeyed_work : (would : ℕ → Facts → Ruling) (state after : ℕ) (piece : Pieced) (old new : Unioned) (shown : Shown) (next : Option IndexEntry) → Awaits old piece → held_next old.lane.held ≡ next → Obeys would state after piece next old new → UnionFits old shown → effort new shown < effort old shown
obeyed_work would state after piece old new shown (Some cut) a e o f =
    let mid = accepted piece false old in
    let was = effort_scanning old shown a.under_way in
    let less = accepted_work old piece cut shown a e f in
    let rules = ap (λ (x : Unioned). effort x shown) o.0 in
    let ruling = ruled_work (would state (facts_of mid)).verdict mid shown a.under_way in
    omega arith
obeyed_work would state after piece old new shown None a e o f =
    let mid = joined o.0.keys (accepted piece true old) in
    let was = effort_scanning old shown a.under_way in
    let ends = ap (λ (x : Unioned). effort x shown) o.0.ends in
    let less = over_work mid shown a.under_way refl (f.shell.unbegun a.under_way) in
    let list = built_few (present old) shown old.snap old.lane (lacks old.keys) piece a.own.entries f.lane.drawn e in
    let same = length_permutation (old.keys ++ (old.lane.building ++ kept_of old piece)) o.0.keys o.0.built in
    let sum = length-append old.keys (old.lane.building ++ kept_of old piece) in
    omega arith

pub gives_work : {E : Type 0} (r : Result Given E) (would : ℕ → Facts → Ruling) (state after : ℕ) (piece : Pieced) (old new : Unioned) (shown : Shown) → IfOk r (λ g. Answers old piece g new) → IfOk r (λ g. GivesOn would state after piece g old new) → UnionFits old shown → IfOk r (λ g. GiveSpends g (effort old shown) (effort new shown))
gives_work (Ok Accepted) would state after piece old new shown a o f = obeyed_work would state after piece old new shown (held_next old.lane.held) a refl o f
gives_work (Ok (Stale asked now)) would state after piece old new shown a o f = ap (λ (x : Unioned). effort x shown) o.0
gives_work (Err x) would state after piece old new shown a o f = tt

pub gives_less : {E : Type 0} (r : Result Given E) (would : ℕ → Facts → Ruling) (state after : ℕ) (piece : Pieced) (old new : Unioned) (shown : Shown) → IfOk r (λ g. Answers old piece g new) → IfOk r (λ g. GivesOn would state after piece g old new) → OnErr r (new ≡ old) → UnionFits old shown → effort new shown ≤ effort old shown
gives_less r would state after piece old new shown a o e f = spends_no_more r (effort old shown) (effort new shown) (gives_work r would state after piece old new shown a o f) (put_if r (λ (x : Unioned). effort x shown) new old (effort old shown) refl e)

-- an accepted piece, where the awaited one is given
pub piece_falls : (would : ℕ → Facts → Ruling) (state after : ℕ) (piece : Pieced) (old new : Unioned) (shown : Shown) → Awaits old piece → GivesOn would state after piece Accepted old new → UnionFits old shown → effort new shown < effort old shown
piece_falls would state after piece old new shown a o f = obeyed_work would state after piece old new shown (held_next old.lane.held) a refl o f

-- WHAT A TAKE SPENDS

held_effort : (old : Unioned) (h : Option Chunk) (t : Trace) (shown : Shown) → scanning old.control ≡ true → effort (record (holding h old) { count = count_read old; trace = t }) shown + to_read old.lane.held ≡ effort old shown + to_read h
held_effort old h t shown back =
    let new = record (holding h old) { count = count_read old; trace = t } in
    let is = effort_scanning new shown back in
    let was = effort_scanning old shown back in
    omega arith

-- it falls by the leaf that has no longer to be read
took_effort : (old new : Unioned) (shown : Shown) → TakesLeaf old new → scanning old.control ≡ true → effort new shown + to_read old.lane.held ≡ effort old shown + to_read new.lane.held
took_effort old new shown t back = ap (λ (x : Unioned). effort x shown + to_read old.lane.held) t.same ∙ held_effort old new.lane.held new.trace shown back

unread_effort : (old new : Unioned) (shown : Shown) → TakesLeaf old new → reads_leaf old ≡ false → effort new shown ≡ effort old shown
unread_effort old new shown t r = ap (λ (x : Unioned). effort x shown) (took_parts old new t ∙ ap (λ (l : Laned). record old { count = new.count; lane = l; trace = new.trace }) (t.none r))

pub leaf_spends : (old new : Unioned) (shown : Shown) (before after : Counts) → TakesLeaf old new → after ≡ piece_read old before → Tries before after (effort old shown) (effort new shown)
leaf_spends old new shown before after t e = leaf_tries (scanning old.control) old.lane.held new.lane.held before after (effort old shown) (effort new shown) (took_effort old new shown t) (unread_effort old new shown t) e

-- a take that answers lowers the effort by its read
pub take_spends : {E : Type 0} (r : Result Taken E) (old mid new : Unioned) (shown : Shown) (before after : Counts) → TakesLeaf old new → effort mid shown ≡ effort new shown → IfOk r (TakesPiece new) → after ≡ piece_read old before → IfOk r (λ taken. reads after + effort mid shown ≤ reads before + effort old shown)
take_spends r old mid new shown before after t m k e =
    let control : new.control ≡ old.control = ap (λ (x : Unioned). x.control) (took_parts old new t) in
    taken_spends r (TakesPiece new) (scanning old.control) old.lane.held new.lane.held before after (effort old shown) (effort mid shown) (effort new shown) (λ piece k. k.own.entries) (λ off. sym (ap scanning control) ∙ off) (took_effort old new shown t) (unread_effort old new shown t) m k e
