-- The reads of a plan over one FROM item whose members are put together, from its opening on.
use Rattle.std.proofs.Common.{◌≡◌, ℕ, ◌+◌, ◌*◌, ◌≤◌, List, [], ◌∷◌, length, Bool, true, false, not, ◌&&◌, Option, Some, None, is_some, Box, inl, inr, refl, ap, sym, ◌∙◌, subst}
use Rattle.std.specs.Prelude.{if◌then◌else◌}
use Rattle.std.specs.declared.alloc.Global.{Global}
use Rattle.rv_judge.specs.declared.counting.Counts.{Counts}
use Rattle.rv_judge.specs.declared.judging.Facts.{Facts}
use Rattle.rv_judge.specs.Tracing.{CountsRise}
use Rattle.rv_judge.specs.Verdicts.{Ruling}
use Rattle.rv_reader.specs.declared.reader.Chunk.{Chunk}
use Rattle.rv_reader.specs.Shown.{Shown}
use Rattle.rv_jscan.specs.declared.piece.PieceId.{PieceId}
use Rattle.rv_jscan.specs.declared.jscan.Given.TheVariants.{Accepted}
use Rattle.rv_jscan.specs.declared.jscan.Taken.{Taken}
use Rattle.rv_jscan.specs.declared.jscan.Taken.TheVariants.{Piece, Nothing}
use Rattle.rv_jscan.specs.Pieces.{Pieced}
use Rattle.rv_jscan.specs.Steps.{HasEntries}
use Rattle.rv_choice.specs.declared.query.Query.{Query}
use Rattle.rv_choice.specs.Choice.{candidates_of}
use Rattle.rv_union.specs.Given.{TakesPiece, awaited as union_awaited, next_id, piece_read as union_read}
use Rattle.rv_union.specs.Unioned.{UnionFits, Unioned, present}
use Rattle.rv_final.specs.Shell.{scanning}
use Rattle.rv_union.specs.Opened.{Opened as UnionOpened}
use Rattle.rv_access.specs.declared.access.Access.{Access}
use Rattle.rv_access.specs.declared.access.Access.TheVariants.{Competing, Racing, Uniting}
use Rattle.rv_access.specs.declared.uniting.UnitedQuery.{UnitedQuery}
use Rattle.rv_access.specs.Accesses.{AccessFits, UnitedFits, query_of, trace_of}
use Rattle.rv_access.specs.Given.{UnitedLeaf}
use Rattle.rv_access.specs.Opened.{Opened, OpenedBy, races, unites}
use Rattle.rv_access.proofs.Unites.{members_some}
use Rattle.rv_join.specs.Alone.{IsAlone}
use Rattle.rv_join.specs.Plans.{PlanFits, Planned, plan_trace}
use Rattle.skew_judges.specs.Guard.{IsBounded}
use Rattle.rv_bounded.specs.Bounds.{reads_told}
use Rattle.rv_bounded.specs.Calls.{Call, lost_by, lost_of}
use Rattle.rv_bounded.specs.Calls.Call.{Step, StepLost, Take, TakeLost, Give}
use Rattle.rv_bounded.specs.OtherPlans.{UnitedPlansAreBounded, united_pages}
use Rattle.rv_bounded.specs.Plans.{PlanBegins, lost_leaf}
use Rattle.rv_bounded.specs.UnionReads.{UnionAllOver, UnionOver}
use Rattle.rv_bounded.specs.Unions.{UnionDoesAll, UnionDoesCall}
use Rattle.rv_bounded.proofs.OnePlan.{DoesHere, Kept, KeepsOn, all_kept, less_lost, more_lost, told_here}
use Rattle.rv_bounded.proofs.UnionCosts.{unions_bounded}
use Rattle.rv_bounded.proofs.Sums.{zero_least, there_sum}

-- A CALL OF THE PLAN IS ONE OF ITS UNION, over a table of so many pages

record Called (shown : Shown) (lost : ℕ) (u : UnitedQuery) (b : Access) : Type 0 where
  pub box : Box UnitedQuery Global
  pub is : b ≡ Uniting box
  pub same : box.value.query ≡ u.query
  pub call : Call
  pub would : ℕ → Facts → Ruling
  pub bounded : IsBounded would
  pub does : UnionDoesCall call would u.union box.value.union
  pub over : UnionOver call would (united_pages shown u) u.union box.value.union does
  pub within : lost_of call ≤ lost

-- a piece is taken, and its leaf held or not
held_piece : (u : Unioned) (chunk : Chunk) → u.lane.held ≡ Some chunk → (taken : Taken) × TakesPiece u taken
held_piece u chunk held = by (scanning u.control) refl
  where
    piece : Pieced
    piece = record { id = next_id u; part = (present u).part; entries = chunk.entries }

    by : (b : Bool) → scanning u.control ≡ b → (taken : Taken) × TakesPiece u taken
    by true on = (Piece piece, record { under_way = on; own = record { named = refl; part = refl; entries = subst (λ (h : Option Chunk). HasEntries h chunk.entries) (sym held) refl } })
    by false off = (Nothing, off)

none_awaited : (u : Unioned) → union_awaited u ≡ None → scanning u.control ≡ false
none_awaited u none = by (scanning u.control) refl
  where
    by : (b : Bool) → scanning u.control ≡ b → scanning u.control ≡ false
    by true on = absurd (let some = rw on at none in cc)
    by false off = off

taken_call : (lost : ℕ) (would : ℕ → Facts → Ruling) (shown : Shown) (c d : Counts) (u : UnitedQuery) (s : Box UnitedQuery Global) → IsBounded would → UnitedLeaf u s.value → d ≡ union_read u.union c → UnionFits s.value.union shown → CountsRise u.union.trace s.value.union.trace c d → lost_leaf (Uniting s) ≤ lost → Called shown lost u (Uniting s)
taken_call lost would shown c d u s rule leaf reads fits rise within = by (union_awaited s.value.union) s.value.union.lane.held refl refl within
  where
    same : s.value.query ≡ u.query
    same = ap (λ (q : UnitedQuery). q.query) leaf.same

    found : ((taken : Taken) × TakesPiece s.value.union taken) → Called shown lost u (Uniting s)
    found (taken, answers) = record { box = s; is = refl; same = same; call = Take; would = would; bounded = rule; does = (taken, record { before = c; behind = d; leaves = leaf.leaves; reads = reads; answers = answers; counts = rise }); over = (shown, fits); within = zero_least lost }

    by : (o : Option PieceId) (h : Option Chunk) → union_awaited s.value.union ≡ o → s.value.union.lane.held ≡ h → (if is_some o && not (is_some h) then 1 else 0) ≤ lost → Called shown lost u (Uniting s)
    by None h awaits held within = found (Nothing, none_awaited s.value.union awaits)
    by (Some id) (Some chunk) awaits held within = found (held_piece s.value.union chunk held)
    by (Some id) None awaits held within = record { box = s; is = refl; same = same; call = TakeLost; would = would; bounded = rule; does = record { before = c; behind = d; leaves = leaf.leaves; reads = reads; answers = tt; counts = rise }; over = (shown, fits); within = within }

-- it is over the table that is asked
over_pages : (shown : Shown) (u : UnitedQuery) → UnitedFits u shown → shown.pages u.union.table u.union.snap ≡ united_pages shown u
over_pages shown u fits = ap (λ (t : ℕ). shown.pages t u.union.snap) fits.over.table ∙ ap (λ (n : ℕ). shown.pages u.query.table n) fits.over.snap

call_of : (lost : ℕ) (would : ℕ → Facts → Ruling) (shown : Shown) (u : Box UnitedQuery Global) (b : Access) → IsBounded would → UnitedFits u.value shown → AccessFits b shown → DoesHere would shown lost (Uniting u) b → Called shown lost u.value b
call_of lost would shown u (Uniting s) rule was fits (inl (Some fg, steps, within)) =
    let does = steps.calls.does in
    record { box = s; is = refl; same = ap (λ (q : UnitedQuery). q.query) does.same; call = Step; would = would; bounded = rule; does = record { shown = shown; state = steps.state; after = steps.after; before = steps.before; behind = steps.behind; scanned = fg; does = does.steps; counts = steps.counts }; over = over_pages shown u.value was; within = within }
call_of lost would shown u (Uniting s) rule was fits (inl (None, steps, within)) =
    let only = (steps.calls.wants refl).2 in
    record { box = s; is = refl; same = ap (λ (q : UnitedQuery). q.query) only.same; call = StepLost; would = would; bounded = rule; does = record { before = steps.before; behind = steps.behind; only = only.only; may_read = steps.calls.may_read; counts = steps.counts }; over = (shown, fits.union); within = within }
call_of lost would shown u (Uniting s) rule was fits (inr (inl (takes, within))) = taken_call lost would shown takes.before takes.behind u.value s rule takes.leaf takes.reads fits.union takes.counts within
call_of lost would shown u (Uniting s) rule was fits (inr (inr gives)) = record { box = s; is = refl; same = ap (λ (q : UnitedQuery). q.query) gives.obeys.same; call = Give; would = would; bounded = rule; does = record { state = gives.state; after = gives.after; piece = gives.piece; given = Accepted; answers = gives.awaits; obeys = gives.obeys.gives; counts = gives.counts }; over = tt; within = zero_least lost }
call_of lost would shown u (Competing v) rule was fits (inl (Some fg, steps, within)) = absurd steps.calls.does
call_of lost would shown u (Competing v) rule was fits (inl (None, steps, within)) = absurd ((steps.calls.wants refl).2)
call_of lost would shown u (Competing v) rule was fits (inr (inl (takes, within))) = absurd takes.leaf
call_of lost would shown u (Competing v) rule was fits (inr (inr gives)) = absurd gives.obeys
call_of lost would shown u (Racing r) rule was fits (inl (Some fg, steps, within)) = absurd steps.calls.does
call_of lost would shown u (Racing r) rule was fits (inl (None, steps, within)) = absurd ((steps.calls.wants refl).2)
call_of lost would shown u (Racing r) rule was fits (inr (inl (takes, within))) = absurd takes.leaf
call_of lost would shown u (Racing r) rule was fits (inr (inr gives)) = absurd gives.obeys

-- by so many calls, which lose at most so many
record Reached (shown : Shown) (u : UnitedQuery) (lost : ℕ) (b : Access) : Type 0 where
  pub box : Box UnitedQuery Global
  pub is : b ≡ Uniting box
  pub same : box.value.query ≡ u.query
  pub calls : List Call
  pub made : UnionDoesAll calls u.union box.value.union
  pub over : UnionAllOver calls (united_pages shown u) u.union box.value.union made
  pub within : lost_by calls ≤ lost

reached_on : (shown : Shown) (u : UnitedQuery) → KeepsOn (Reached shown u) shown
reached_on shown u m k n would a b rule was fits (inl same) sum reached = record { box = reached.box; is = same ∙ reached.is; same = reached.same; calls = reached.calls; made = reached.made; over = reached.over; within = less_lost (lost_by reached.calls) m k n reached.within sum }
reached_on shown u m k n would a b rule was fits (inr does) sum reached =
    let more = call_of k would shown reached.box b rule (subst (λ (x : Access). AccessFits x shown) reached.is was) fits (subst (λ (x : Access). DoesHere would shown k x b) reached.is does) in
    record {
      box = more.box;
      is = more.is;
      same = more.same ∙ reached.same;
      calls = more.call ∷ reached.calls;
      made = (reached.box.value.union, reached.made, record { would = more.would; bounded = more.bounded; does = more.does });
      over = (reached.over, subst (λ (q : Query). UnionOver more.call more.would (shown.pages q.table q.snap) reached.box.value.union more.box.value.union more.does) reached.same more.over);
      within = more_lost (lost_by reached.calls) (lost_of more.call) m k n reached.within more.within sum;
    }

-- THE LAW

-- what `open` tells of the one union
record Begun (shown : Shown) (cursor : ℕ) (u : UnitedQuery) : Type 0 where
  pub opened : UnionOpened u.query.table u.query.snap u.query.only u.union.plans cursor 1 (united_pages shown u) u.union
  pub some : 1 ≤ length u.union.plans

begun : (race : Bool) (shown : Shown) (cursor : ℕ) (u : Box UnitedQuery Global) → Opened race u.value.query shown cursor 1 (Uniting u) → Begun shown cursor u.value
begun race shown cursor u o = by (race && races o.choice (candidates_of u.value.query shown)) (unites u.value.query shown o.choice) o.opened
  where
    by : (a b : Bool) → OpenedBy a b u.value.query shown cursor 1 o.choice (Uniting u) → Begun shown cursor u.value
    by true b never = absurd never
    by false true united = record { opened = united.opened; some = members_some u.value.query shown u.value.union.plans united.members }
    by false false never = absurd never

begins_union : (shown : Shown) (opened : Planned) (u : Box UnitedQuery Global) → PlanBegins shown opened (Uniting u) → Begun shown opened.asked.cursor u.value
begins_union shown opened u begins = begun opened.asked.race shown opened.asked.cursor u (subst (λ (a : Access). Opened opened.asked.race (query_of a) shown opened.asked.cursor 1 a) begins.here begins.leads.opened)

told_as : (shown : Shown) (p : Planned) (u : Box UnitedQuery Global) → PlanFits shown p → IsAlone p → p.stack.at.here ≡ Uniting u → reads_told (plan_trace p) ≡ reads_told u.value.union.trace
told_as shown p u fits one here = told_here shown p fits one ∙ ap (λ (a : Access). reads_told (trace_of a)) here

pub united_plans_bounded : UnitedPlansAreBounded
united_plans_bounded shown calls lost opened now u begins few less made =
    let there : Kept (Reached shown u.value) shown lost now = all_kept (Reached shown u.value) shown calls lost opened now (reached_on shown u.value) (record { fits = begins.fits; one = begins.one }) (λ n. record { box = u; is = begins.here; same = refl; calls = []; made = refl; over = tt; within = zero_least n }) made in
    let at = there.holds in
    let first = begins_union shown opened u begins in
    let law = unions_bounded u.value.query.table u.value.query.snap u.value.query.only u.value.union.plans opened.asked.cursor 1 (united_pages shown u.value) at.calls u.value.union at.box.value.union first.some few less first.opened at.made at.over in
    there_sum (reads_told (plan_trace now)) (reads_told at.box.value.union.trace) (2 * united_pages shown u.value + 50 * length u.value.union.plans) (lost_by at.calls) lost (told_as shown now at.box there.stands.fits there.stands.one at.is) law at.within
