-- The leaves that a union may still read fall with each leaf read, and no piece and no verdict raises them.
use Rattle.std.proofs.Common.{◌≡◌, ℕ, ◌+◌, ◌<◌, ◌≤◌, List, [], ◌∷◌, length, drop, Bool, true, false, refl, ap, sym, ◌∙◌, arith, subst, Option, Some, None, IfSome, Result, Ok, Err, IfOk, OnErr, inl, inr}
use Rattle.std.specs.Prelude.{if◌then◌else◌}
use Rattle.std.proofs.lemmas.List.{drop_more}
use Rattle.rv_value.specs.declared.duplicate.NoMemory.{NoMemory}
use Rattle.rv_value.specs.declared.range.Range.{Range}
use Rattle.rv_value.specs.declared.record.IndexEntry.{IndexEntry}
use Rattle.rv_judge.specs.declared.counting.Counts.{Counts}
use Rattle.rv_judge.specs.declared.events.Control.{Control}
use Rattle.rv_judge.specs.declared.events.Control.TheVariants.{Building, ForegroundAlone, BackgroundAlone, FinalList, FinalTable, Done}
use Rattle.rv_judge.specs.declared.events.Trace.{Trace}
use Rattle.rv_judge.specs.declared.judging.Facts.{Facts}
use Rattle.rv_judge.specs.declared.judging.Verdict.{Verdict}
use Rattle.rv_judge.specs.declared.judging.Verdict.TheVariants.{Continue, AbandonScan, AbandonForeground, AbandonBackground}
use Rattle.rv_judge.specs.Counting.{leaf_read, one_more, page_read, record_read}
use Rattle.rv_judge.specs.Verdicts.{Ruling}
use Rattle.rv_reader.specs.declared.reader.Chunk.{Chunk}
use Rattle.rv_reader.specs.Entries.{AreLong}
use Rattle.rv_reader.specs.Leaves.{leaves_behind, leaves_for}
use Rattle.rv_reader.specs.Shown.{Shown}
use Rattle.rv_reader.proofs.Chunks.{leaves_nearer}
use Rattle.rv_scan.specs.Reads.{OneAtMost}
use Rattle.rv_reader.specs.declared.step.Step.{Step}
use Rattle.rv_value.specs.declared.record.Record.{Record}
use Rattle.rv_jscan.specs.declared.jscan.Given.{Given}
use Rattle.rv_jscan.specs.declared.jscan.Given.TheVariants.{Accepted, Stale}
use Rattle.rv_jscan.specs.declared.jscan.ScanPlan.{ScanPlan}
use Rattle.rv_jscan.specs.declared.jscan.Taken.{Taken}
use Rattle.rv_jscan.specs.declared.jscan.Taken.TheVariants.{Piece, Nothing}
use Rattle.rv_jscan.specs.Joint.{no_plan, plan_at}
use Rattle.rv_jscan.specs.Lanes.{IsLeafAt, Laned, no_lane}
use Rattle.rv_jscan.specs.Pieces.{Pieced}
use Rattle.rv_jscan.specs.Steps.{HasEntries, held_next}
use Rattle.rv_union.specs.Given.{Answers, Awaits, TakesLeaf, TakesPiece, count_read, holding, piece_read, reads_leaf}
use Rattle.rv_union.specs.Leaves.{LeavesFall, held_leaves, lane_leaves, leaves_by, leaves_left, planned_leaves, scanning_leaves}
use Rattle.rv_union.specs.Rulings.{GivesOn, Obeys, accepted, dropped, facts_of, going_on, joined, listed, next_member, over, ruled}
use Rattle.rv_union.specs.Unioned.{UnionFits, Unioned, present, shell_of}
use Rattle.rv_final.specs.Shell.{FinalReads, IsFinal, scanning}
use Rattle.rv_final.proofs.LaneWork.{none_held}
use Rattle.rv_final.proofs.Shells.{only_scanning, stays_over}
use Rattle.rv_union.proofs.Finals.{Finishes}
use Rattle.rv_union.proofs.Switches.{dropped_leads, drops, listed_leads, over_as, told_parts}
use Rattle.rv_union.proofs.Takes.{took_parts}

left_at : (u : Unioned) (shown : Shown) (c : Control) → u.control ≡ c → leaves_left u shown ≡ leaves_by c (scanning_leaves u shown)
left_at u shown c e = ap (λ (x : Control). leaves_by x (scanning_leaves u shown)) e

left_scanning : (u : Unioned) (shown : Shown) → scanning u.control ≡ true → leaves_left u shown ≡ scanning_leaves u shown
left_scanning u shown back = left_at u shown BackgroundAlone (only_scanning u.control back)

few_left : (c : Control) (n : ℕ) → leaves_by c n ≤ n
few_left Building n = omega arith
few_left ForegroundAlone n = omega arith
few_left BackgroundAlone n = omega arith
few_left FinalList n = omega arith
few_left FinalTable n = omega arith
few_left Done n = omega arith

-- AT THE OPENING

pub opened_leaves : (plans : List ScanPlan) (shown : Shown) (snap : ℕ) → 1 ≤ length plans → lane_leaves (plan_at plans 0) shown snap no_lane + planned_leaves (drop 1 plans) shown snap ≡ planned_leaves plans shown snap
opened_leaves [] shown snap some = absurd (omega arith)
opened_leaves (plan ∷ plans) shown snap some = refl

-- WHAT A TAKE READS

-- a leaf that is held is one less to be read
held_fewer : (plan : ScanPlan) (shown : Shown) (snap : ℕ) (place : Option IndexEntry) (h : Option Chunk) (entries : List IndexEntry) → HasEntries h entries → AreLong plan.range (shown.cuts plan.index snap) → IfSome h (IsLeafAt plan shown snap place) → held_leaves (shown.cuts plan.index snap) plan.range place h + 1 ≤ leaves_for (shown.cuts plan.index snap) plan.range place
held_fewer plan shown snap place None entries has long d = absurd has
held_fewer plan shown snap place (Some chunk) entries has long d = leaves_nearer (shown.entries plan.index snap) (shown.cuts plan.index snap) plan.range place chunk long d

one_few : (n : ℕ) → one_more n ≤ n + 1
one_few n = omega arith

pub took_leaves : (taken : Taken) (old new : Unioned) (shown : Shown) (before after : Counts) → TakesLeaf old new → UnionFits new shown → TakesPiece new taken → after ≡ piece_read old before → LeavesFall before after (leaves_left old shown) (leaves_left new shown)
took_leaves taken old new shown before after t f k e = by (reads_leaf old) refl
  where
    control : new.control ≡ old.control
    control = ap (λ (x : Unioned). x.control) (took_parts old new t)

    fewer : (taken : Taken) → TakesPiece new taken → scanning old.control ≡ true → held_leaves (shown.cuts (present old).index old.snap) (present old).range old.lane.place new.lane.held + 1 ≤ leaves_for (shown.cuts (present old).index old.snap) (present old).range old.lane.place
    fewer (Piece piece) k back =
        let fits = subst (λ (x : Unioned). UnionFits x shown) t.same f in
        held_fewer (present old) shown old.snap old.lane.place new.lane.held piece.entries k.own.entries (fits.members.each old.member fits.there).suits.cuts fits.lane.drawn
    fewer Nothing k back = absurd (let bad : true ≡ false = sym back ∙ sym (ap scanning control) ∙ k in cc)

    by : (b : Bool) → reads_leaf old ≡ b → LeavesFall before after (leaves_left old shown) (leaves_left new shown)
    by true r =
        let counted : after ≡ leaf_read before = e ∙ ap (λ (b : Bool). if b then leaf_read before else before) r in
        let said : after.leaves ≡ one_more before.leaves = ap (λ (c : Counts). c.leaves) counted in
        let once = one_few before.leaves in
        let none = none_held old.lane.held (scanning old.control) r in
        let was = left_scanning old shown none.1 in
        let place = ap (held_leaves (shown.cuts (present old).index old.snap) (present old).range old.lane.place) none.0 in
        let is = ap (λ (x : Unioned). leaves_left x shown) t.same in
        let at = left_scanning (record (holding new.lane.held old) { count = count_read old; trace = new.trace }) shown none.1 in
        let less = fewer taken k none.1 in
        omega arith
    by false r =
        let counted : after ≡ before = e ∙ ap (λ (b : Bool). if b then leaf_read before else before) r in
        let said = ap (λ (c : Counts). c.leaves) counted in
        let same = ap (λ (x : Unioned). leaves_left x shown) (took_parts old new t ∙ ap (λ (w : Laned). record old { count = new.count; lane = w; trace = new.trace }) (t.none r)) in
        omega arith

pub takes_leaves : {E : Type 0} (r : Result Taken E) (old mid new : Unioned) (shown : Shown) (before after : Counts) → TakesLeaf old new → UnionFits new shown → leaves_left mid shown ≡ leaves_left new shown → IfOk r (TakesPiece new) → after ≡ piece_read old before → IfOk r (λ taken. LeavesFall before after (leaves_left old shown) (leaves_left mid shown))
takes_leaves (Err x) old mid new shown before after t f m k e = tt
takes_leaves (Ok taken) old mid new shown before after t f m k e = let less = took_leaves taken old new shown before after t f k e in omega arith

-- WHAT A GIVE LEAVES

-- behind a piece stand the leaves behind the one that was held
passed_leaves : (cuts : List IndexEntry) (range : Range) (place : Option IndexEntry) (h : Option Chunk) (entries : List IndexEntry) (cut : IndexEntry) → HasEntries h entries → held_next h ≡ Some cut → leaves_for cuts range (held_next h) ≡ held_leaves cuts range place h
passed_leaves cuts range place None entries cut has next = absurd has
passed_leaves cuts range place (Some chunk) entries cut has next = ap (leaves_for cuts range) next ∙ sym (ap (leaves_behind cuts range) next)

accepted_leaves : (u : Unioned) (piece : Pieced) (cut : IndexEntry) (shown : Shown) → Awaits u piece → held_next u.lane.held ≡ Some cut → scanning_leaves (accepted piece false u) shown ≡ scanning_leaves u shown
accepted_leaves u piece cut shown a next = ap (λ (n : ℕ). n + planned_leaves (drop (u.member + 1) u.plans) shown u.snap) (passed_leaves (shown.cuts (present u).index u.snap) (present u).range u.lane.place u.lane.held piece.entries cut a.own.entries next)

planned_one : (plans : List ScanPlan) (shown : Shown) (snap k : ℕ) → k < length plans → planned_leaves (drop k plans) shown snap ≡ leaves_for (shown.cuts (plan_at plans k).index snap) (plan_at plans k).range None + planned_leaves (drop (k + 1) plans) shown snap
planned_one plans shown snap k l = ap (λ (ps : List ScanPlan). planned_leaves ps shown snap) (drop_more plans k no_plan l)

going_leaves : (u : Unioned) (shown : Shown) → scanning u.control ≡ true → u.lane ≡ no_lane → u.member + 1 < length u.plans → leaves_left (going_on u) shown ≤ planned_leaves (drop (u.member + 1) u.plans) shown u.snap
going_leaves u shown back none l = subst (λ (x : Unioned). leaves_left x shown ≤ planned_leaves (drop (u.member + 1) u.plans) shown u.snap) (sym (told_parts (next_member u))) next
  where
    at : Unioned
    at = record (next_member u) { trace = (going_on u).trace }

    next : leaves_left at shown ≤ planned_leaves (drop (u.member + 1) u.plans) shown u.snap
    next =
        let is = left_scanning at shown back in
        let one = planned_one u.plans shown u.snap (u.member + 1) l in
        let lane = ap (lane_leaves (plan_at u.plans (u.member + 1)) shown u.snap) none in
        omega arith

over_leaves : (u : Unioned) (shown : Shown) → scanning u.control ≡ true → u.lane ≡ no_lane → leaves_left (over u) shown ≤ planned_leaves (drop (u.member + 1) u.plans) shown u.snap
over_leaves u shown back none = over_as (λ x. leaves_left x shown ≤ planned_leaves (drop (u.member + 1) u.plans) shown u.snap) u (going_leaves u shown back none) (λ l. let is = left_at (listed u) shown FinalList (listed_leads u back) in omega arith)

dropped_leaves : (u : Unioned) (v : Verdict) (shown : Shown) (n : ℕ) → drops v ≡ true → scanning u.control ≡ true → leaves_left (dropped v u) shown ≤ n
dropped_leaves u v shown n d back = let is = left_at (dropped v u) shown FinalTable (dropped_leads u v d back) in omega arith

ruled_leaves : (verdict : Verdict) (u : Unioned) (shown : Shown) → scanning u.control ≡ true → leaves_left (ruled verdict u) shown ≤ scanning_leaves u shown
ruled_leaves Continue u shown back = few_left u.control (scanning_leaves u shown)
ruled_leaves AbandonForeground u shown back = few_left u.control (scanning_leaves u shown)
ruled_leaves AbandonScan u shown back = dropped_leaves u AbandonScan shown (scanning_leaves u shown) refl back
ruled_leaves AbandonBackground u shown back = dropped_leaves u AbandonBackground shown (scanning_leaves u shown) refl back

obeyed_leaves : (would : ℕ → Facts → Ruling) (state after : ℕ) (piece : Pieced) (old new : Unioned) (shown : Shown) (next : Option IndexEntry) → Awaits old piece → held_next old.lane.held ≡ next → Obeys would state after piece next old new → leaves_left new shown ≤ leaves_left old shown
obeyed_leaves would state after piece old new shown (Some cut) a e o =
    let mid = accepted piece false old in
    let was = left_scanning old shown a.under_way in
    let same = accepted_leaves old piece cut shown a e in
    let rules = ap (λ (x : Unioned). leaves_left x shown) o.0 in
    let ruling = ruled_leaves (would state (facts_of mid)).verdict mid shown a.under_way in
    omega arith
obeyed_leaves would state after piece old new shown None a e o =
    let mid = joined o.0.keys (accepted piece true old) in
    let was = left_scanning old shown a.under_way in
    let ends = ap (λ (x : Unioned). leaves_left x shown) o.0.ends in
    let less = over_leaves mid shown a.under_way refl in
    omega arith

pub given_leaves : (would : ℕ → Facts → Ruling) (state after : ℕ) (piece : Pieced) (g : Given) (old new : Unioned) (shown : Shown) → Answers old piece g new → GivesOn would state after piece g old new → leaves_left new shown ≤ leaves_left old shown
given_leaves would state after piece Accepted old new shown a o = obeyed_leaves would state after piece old new shown (held_next old.lane.held) a refl o
given_leaves would state after piece (Stale asked now) old new shown a o = let same = ap (λ (x : Unioned). leaves_left x shown) o.0 in omega arith

pub gives_leaves : {E : Type 0} (r : Result Given E) (would : ℕ → Facts → Ruling) (state after : ℕ) (piece : Pieced) (old new : Unioned) (shown : Shown) → IfOk r (λ g. Answers old piece g new) → IfOk r (λ g. GivesOn would state after piece g old new) → OnErr r (new ≡ old) → leaves_left new shown ≤ leaves_left old shown
gives_leaves (Ok g) would state after piece old new shown a o e = given_leaves would state after piece g old new shown a o
gives_leaves (Err x) would state after piece old new shown a o e = let same = ap (λ (y : Unioned). leaves_left y shown) e in omega arith

-- WHAT A STEP READS

-- a piece is taken and given
pub piece_leaves : (before after : Counts) (old mid new : ℕ) → LeavesFall before after old mid → new ≤ mid → LeavesFall before after old new
piece_leaves before after old mid new falls less = omega arith

pub none_left : (u : Unioned) (shown : Shown) (c : Control) → u.control ≡ c → scanning c ≡ false → leaves_left u shown ≡ 0
none_left u shown c e off = left_at u shown c e ∙ none c off
  where
    none : (c : Control) → scanning c ≡ false → leaves_by c (scanning_leaves u shown) ≡ 0
    none Building off = refl
    none ForegroundAlone off = refl
    none BackgroundAlone off = absurd (cc)
    none FinalList off = refl
    none FinalTable off = refl
    none Done off = refl

-- once members are no longer scanned no leaf is read
pub stage_leaves : (one : Counts → Counts) (before after : Counts) (old new : ℕ) → ((c : Counts) → (one c).leaves ≡ c.leaves) → OneAtMost one before after → new ≡ 0 → LeavesFall before after old new
stage_leaves one before after old new keeps (inl e) none = let same = ap (λ (c : Counts). c.leaves) e in omega arith
stage_leaves one before after old new keeps (inr e) none = let same = ap (λ (c : Counts). c.leaves) e ∙ keeps before in omega arith

pub final_leaves : (r : Result (Step Record) NoMemory) (shown : Shown) (c d : Counts) (old new : Unioned) → IsFinal old.control → Finishes shown c d r old new → IfOk r (λ s. LeavesFall c d (leaves_left old shown) (leaves_left new shown))
final_leaves (Err x) shown c d old new at f = tt
final_leaves (Ok s) shown c d old new at f = by at
  where
    none : leaves_left new shown ≡ 0
    none = none_left new shown new.control refl (stays_over (shell_of old) (shell_of new) at f.moves)

    by : IsFinal old.control → LeavesFall c d (leaves_left old shown) (leaves_left new shown)
    by (inl e) = stage_leaves record_read c d _ _ (λ x. refl) (subst (λ (x : Control). FinalReads x c d) e f.may_read) none
    by (inr e) = stage_leaves page_read c d _ _ (λ x. refl) (subst (λ (x : Control). FinalReads x c d) e f.may_read) none

-- the trace's counts do not matter
pub leaves_if : {E : Type 0} (r : Result (Step Record) E) (before after : Counts) (old : ℕ) (mid new : Unioned) (t : Trace) (shown : Shown) → new ≡ record mid { trace = t } → IfOk r (λ s. LeavesFall before after old (leaves_left mid shown)) → IfOk r (λ s. LeavesFall before after old (leaves_left new shown))
leaves_if (Ok s) before after old mid new t shown e falls = subst (λ (x : Unioned). LeavesFall before after old (leaves_left x shown)) (sym e) falls
leaves_if (Err x) before after old mid new t shown e falls = tt
