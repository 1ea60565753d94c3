-- The reads of a plan over one FROM item whose indexes race, from its opening on.
use Rattle.std.proofs.Common.{◌≡◌, ℕ, ◌+◌, ◌*◌, ◌≤◌, List, [], ◌∷◌, length, Bool, true, false, not, ◌&&◌, Option, Some, None, is_some, Box, inl, inr, refl, ap, sym, ◌∙◌, subst}
use Rattle.std.specs.Prelude.{if◌then◌else◌}
use Rattle.std.specs.declared.alloc.Global.{Global}
use Rattle.rv_judge.specs.declared.counting.Counts.{Counts}
use Rattle.rv_judge.specs.declared.judging.Facts.{Facts}
use Rattle.rv_judge.specs.Tracing.{CountsRise}
use Rattle.rv_judge.specs.Verdicts.{Ruling}
use Rattle.rv_reader.specs.declared.reader.Chunk.{Chunk}
use Rattle.rv_reader.specs.Shown.{Shown}
use Rattle.rv_jscan.specs.declared.piece.PieceId.{PieceId}
use Rattle.rv_jscan.specs.declared.jscan.Given.TheVariants.{Accepted}
use Rattle.rv_jscan.specs.declared.jscan.Taken.{Taken}
use Rattle.rv_jscan.specs.declared.jscan.Taken.TheVariants.{Piece, Nothing}
use Rattle.rv_jscan.specs.Pieces.{Pieced}
use Rattle.rv_jscan.specs.Steps.{HasEntries}
use Rattle.rv_choice.specs.declared.query.Query.{Query}
use Rattle.rv_choice.specs.declared.choosing.Candidate.{Candidate}
use Rattle.rv_choice.specs.Choice.{candidates_of}
use Rattle.rv_choice.specs.Asked.{CanAsk}
use Rattle.rv_retrieval.proofs.Chosen.{few_scans}
use Rattle.rv_race.specs.Given.{TakesPiece, awaited as race_awaited, next_id, piece_read as race_read, turn_lane, turn_plan}
use Rattle.rv_race.specs.Raced.{RaceFits, Raced}
use Rattle.rv_final.specs.Shell.{scanning}
use Rattle.rv_race.specs.Opened.{Opened as RaceOpened}
use Rattle.rv_access.specs.declared.access.Access.{Access}
use Rattle.rv_access.specs.declared.access.Access.TheVariants.{Competing, Racing, Uniting}
use Rattle.rv_access.specs.declared.racing.RacedQuery.{RacedQuery}
use Rattle.rv_access.specs.Accesses.{AccessFits, RacedFits, query_of, trace_of}
use Rattle.rv_access.specs.Given.{RacedLeaf}
use Rattle.rv_access.specs.Opened.{IsRaced, Opened, OpenedBy, races, unites}
use Rattle.rv_access.proofs.Chosen.{two_scans}
use Rattle.rv_join.specs.Alone.{IsAlone}
use Rattle.rv_join.specs.Asking.{Asks}
use Rattle.rv_join.specs.Plans.{PlanFits, Planned, plan_trace}
use Rattle.rv_join.proofs.Binding.{can_ask}
use Rattle.skew_judges.specs.Guard.{IsBounded}
use Rattle.rv_bounded.specs.Bounds.{reads_told}
use Rattle.rv_bounded.specs.Calls.{Call, lost_by, lost_of}
use Rattle.rv_bounded.specs.Calls.Call.{Step, StepLost, Take, TakeLost, Give}
use Rattle.rv_bounded.specs.OtherPlans.{RacedPlansAreBounded, raced_pages}
use Rattle.rv_bounded.specs.Plans.{PlanBegins, lost_leaf}
use Rattle.rv_bounded.specs.RaceReads.{RaceAllOver, RaceOver}
use Rattle.rv_bounded.specs.Races.{RaceDoesAll, RaceDoesCall}
use Rattle.rv_bounded.proofs.OnePlan.{DoesHere, Kept, KeepsOn, all_kept, less_lost, more_lost, told_here}
use Rattle.rv_bounded.proofs.RaceCosts.{races_bounded}
use Rattle.rv_bounded.proofs.Sums.{zero_least, there_sum}

-- A CALL OF THE PLAN IS ONE OF ITS RACE, over a table of so many pages

record Called (shown : Shown) (lost : ℕ) (r : RacedQuery) (b : Access) : Type 0 where
  pub box : Box RacedQuery Global
  pub is : b ≡ Racing box
  pub same : box.value.query ≡ r.query
  pub call : Call
  pub would : ℕ → Facts → Ruling
  pub bounded : IsBounded would
  pub does : RaceDoesCall call would r.race box.value.race
  pub over : RaceOver call would (raced_pages shown r) r.race box.value.race does
  pub within : lost_of call ≤ lost

-- a piece is taken, and its leaf held or not
held_piece : (r : Raced) (chunk : Chunk) → (turn_lane r).held ≡ Some chunk → (taken : Taken) × TakesPiece r taken
held_piece r chunk held = by (scanning r.control) refl
  where
    piece : Pieced
    piece = record { id = next_id r; part = (turn_plan r).part; entries = chunk.entries }

    by : (b : Bool) → scanning r.control ≡ b → (taken : Taken) × TakesPiece r taken
    by true on = (Piece piece, record { under_way = on; own = record { named = refl; part = refl; entries = subst (λ (h : Option Chunk). HasEntries h chunk.entries) (sym held) refl } })
    by false off = (Nothing, off)

none_awaited : (r : Raced) → race_awaited r ≡ None → scanning r.control ≡ false
none_awaited r none = by (scanning r.control) refl
  where
    by : (b : Bool) → scanning r.control ≡ b → scanning r.control ≡ false
    by true on = absurd (let some = rw on at none in cc)
    by false off = off

taken_call : (lost : ℕ) (would : ℕ → Facts → Ruling) (shown : Shown) (c d : Counts) (r : RacedQuery) (s : Box RacedQuery Global) → IsBounded would → RacedLeaf r s.value → d ≡ race_read r.race c → RaceFits s.value.race shown → CountsRise r.race.trace s.value.race.trace c d → lost_leaf (Racing s) ≤ lost → Called shown lost r (Racing s)
taken_call lost would shown c d r s rule leaf reads fits rise within = by (race_awaited s.value.race) (turn_lane s.value.race).held refl refl within
  where
    same : s.value.query ≡ r.query
    same = ap (λ (q : RacedQuery). q.query) leaf.same

    found : ((taken : Taken) × TakesPiece s.value.race taken) → Called shown lost r (Racing s)
    found (taken, answers) = record { box = s; is = refl; same = same; call = Take; would = would; bounded = rule; does = (taken, record { before = c; behind = d; leaves = leaf.leaves; reads = reads; answers = answers; counts = rise }); over = (shown, fits); within = zero_least lost }

    by : (o : Option PieceId) (h : Option Chunk) → race_awaited s.value.race ≡ o → (turn_lane s.value.race).held ≡ h → (if is_some o && not (is_some h) then 1 else 0) ≤ lost → Called shown lost r (Racing s)
    by None h awaits held within = found (Nothing, none_awaited s.value.race awaits)
    by (Some id) (Some chunk) awaits held within = found (held_piece s.value.race chunk held)
    by (Some id) None awaits held within = record { box = s; is = refl; same = same; call = TakeLost; would = would; bounded = rule; does = record { before = c; behind = d; leaves = leaf.leaves; reads = reads; answers = tt; counts = rise }; over = (shown, fits); within = within }

-- it is over the table that is asked
over_pages : (shown : Shown) (r : RacedQuery) → RacedFits r shown → shown.pages r.race.table r.race.snap ≡ raced_pages shown r
over_pages shown r fits = ap (λ (t : ℕ). shown.pages t r.race.snap) fits.over.table ∙ ap (λ (n : ℕ). shown.pages r.query.table n) fits.over.snap

call_of : (lost : ℕ) (would : ℕ → Facts → Ruling) (shown : Shown) (r : Box RacedQuery Global) (b : Access) → IsBounded would → RacedFits r.value shown → AccessFits b shown → DoesHere would shown lost (Racing r) b → Called shown lost r.value b
call_of lost would shown r (Racing s) rule was fits (inl (Some fg, steps, within)) =
    let does = steps.calls.does in
    record { box = s; is = refl; same = ap (λ (q : RacedQuery). q.query) does.same; call = Step; would = would; bounded = rule; does = record { shown = shown; state = steps.state; after = steps.after; before = steps.before; behind = steps.behind; scanned = fg; does = does.steps; counts = steps.counts }; over = over_pages shown r.value was; within = within }
call_of lost would shown r (Racing s) rule was fits (inl (None, steps, within)) =
    let only = (steps.calls.wants refl).2 in
    record { box = s; is = refl; same = ap (λ (q : RacedQuery). q.query) only.same; call = StepLost; would = would; bounded = rule; does = record { before = steps.before; behind = steps.behind; only = only.only; may_read = steps.calls.may_read; counts = steps.counts }; over = (shown, fits.race); within = within }
call_of lost would shown r (Racing s) rule was fits (inr (inl (takes, within))) = taken_call lost would shown takes.before takes.behind r.value s rule takes.leaf takes.reads fits.race takes.counts within
call_of lost would shown r (Racing s) rule was fits (inr (inr gives)) = record { box = s; is = refl; same = ap (λ (q : RacedQuery). q.query) gives.obeys.same; call = Give; would = would; bounded = rule; does = record { state = gives.state; after = gives.after; piece = gives.piece; given = Accepted; answers = gives.awaits; obeys = gives.obeys.gives; counts = gives.counts }; over = tt; within = zero_least lost }
call_of lost would shown r (Competing v) rule was fits (inl (Some fg, steps, within)) = absurd steps.calls.does
call_of lost would shown r (Competing v) rule was fits (inl (None, steps, within)) = absurd ((steps.calls.wants refl).2)
call_of lost would shown r (Competing v) rule was fits (inr (inl (takes, within))) = absurd takes.leaf
call_of lost would shown r (Competing v) rule was fits (inr (inr gives)) = absurd gives.obeys
call_of lost would shown r (Uniting u) rule was fits (inl (Some fg, steps, within)) = absurd steps.calls.does
call_of lost would shown r (Uniting u) rule was fits (inl (None, steps, within)) = absurd ((steps.calls.wants refl).2)
call_of lost would shown r (Uniting u) rule was fits (inr (inl (takes, within))) = absurd takes.leaf
call_of lost would shown r (Uniting u) rule was fits (inr (inr gives)) = absurd gives.obeys

-- by so many calls, which lose at most so many
record Reached (shown : Shown) (r : RacedQuery) (lost : ℕ) (b : Access) : Type 0 where
  pub box : Box RacedQuery Global
  pub is : b ≡ Racing box
  pub same : box.value.query ≡ r.query
  pub calls : List Call
  pub made : RaceDoesAll calls r.race box.value.race
  pub over : RaceAllOver calls (raced_pages shown r) r.race box.value.race made
  pub within : lost_by calls ≤ lost

reached_on : (shown : Shown) (r : RacedQuery) → KeepsOn (Reached shown r) shown
reached_on shown r m k n would a b rule was fits (inl same) sum reached = record { box = reached.box; is = same ∙ reached.is; same = reached.same; calls = reached.calls; made = reached.made; over = reached.over; within = less_lost (lost_by reached.calls) m k n reached.within sum }
reached_on shown r m k n would a b rule was fits (inr does) sum reached =
    let more = call_of k would shown reached.box b rule (subst (λ (x : Access). AccessFits x shown) reached.is was) fits (subst (λ (x : Access). DoesHere would shown k x b) reached.is does) in
    record {
      box = more.box;
      is = more.is;
      same = more.same ∙ reached.same;
      calls = more.call ∷ reached.calls;
      made = (reached.box.value.race, reached.made, record { would = more.would; bounded = more.bounded; does = more.does });
      over = (reached.over, subst (λ (q : Query). RaceOver more.call more.would (shown.pages q.table q.snap) reached.box.value.race more.box.value.race more.does) reached.same more.over);
      within = more_lost (lost_by reached.calls) (lost_of more.call) m k n reached.within more.within sum;
    }

-- THE LAW

-- what `open` tells of the one race
record Begun (shown : Shown) (cursor : ℕ) (r : RacedQuery) : Type 0 where
  pub opened : RaceOpened r.query.table r.query.snap r.query.only r.race.plans cursor 1 (raced_pages shown r) r.race
  pub two : 2 ≤ length r.race.plans
  pub few : length r.race.plans ≤ 8

begun : (race : Bool) (shown : Shown) (cursor : ℕ) (r : Box RacedQuery Global) → CanAsk r.value.query shown → Opened race r.value.query shown cursor 1 (Racing r) → Begun shown cursor r.value
begun race shown cursor r can o = by race (races o.choice cs) (unites r.value.query shown o.choice) refl o.opened
  where
    cs : List Candidate
    cs = candidates_of r.value.query shown

    of : IsRaced r.value.query shown cursor 1 o.choice r.value → races o.choice cs ≡ true → Begun shown cursor r.value
    of raced yes_races = record {
      opened = raced.opened;
      two = two_scans o.choice cs r.value.query.only r.value.race.plans yes_races raced.scans;
      few = few_scans r.value.query shown o.choice.background r.value.race.plans cs refl can raced.scans;
    }

    by : (a b c : Bool) → races o.choice cs ≡ b → OpenedBy (a && b) c r.value.query shown cursor 1 o.choice (Racing r) → Begun shown cursor r.value
    by true true c test raced = of raced test
    by true false true test never = absurd never
    by true false false test never = absurd never
    by false b true test never = absurd never
    by false b false test never = absurd never

begins_race : (shown : Shown) (opened : Planned) (r : Box RacedQuery Global) → PlanBegins shown opened (Racing r) → Begun shown opened.asked.cursor r.value
begins_race shown opened r begins = begun opened.asked.race shown opened.asked.cursor r can own
  where
    own : Opened opened.asked.race r.value.query shown opened.asked.cursor 1 (Racing r)
    own = subst (λ (a : Access). Opened opened.asked.race (query_of a) shown opened.asked.cursor 1 a) begins.here begins.leads.opened

    asks : Asks opened.asked [] r.value.query
    asks = subst (λ (a : Access). Asks opened.asked [] (query_of a)) begins.here begins.leads.asks

    can : CanAsk r.value.query shown
    can = can_ask opened.asked shown [] r.value.query begins.fits.holds.can begins.fits.holds.can.some asks

told_as : (shown : Shown) (p : Planned) (r : Box RacedQuery Global) → PlanFits shown p → IsAlone p → p.stack.at.here ≡ Racing r → reads_told (plan_trace p) ≡ reads_told r.value.race.trace
told_as shown p r fits one here = told_here shown p fits one ∙ ap (λ (a : Access). reads_told (trace_of a)) here

pub raced_plans_bounded : RacedPlansAreBounded
raced_plans_bounded shown calls lost opened now r begins few made =
    let there : Kept (Reached shown r.value) shown lost now = all_kept (Reached shown r.value) shown calls lost opened now (reached_on shown r.value) (record { fits = begins.fits; one = begins.one }) (λ n. record { box = r; is = begins.here; same = refl; calls = []; made = refl; over = tt; within = zero_least n }) made in
    let at = there.holds in
    let first = begins_race shown opened r begins in
    let law = races_bounded r.value.query.table r.value.query.snap r.value.query.only r.value.race.plans opened.asked.cursor 1 (raced_pages shown r.value) at.calls r.value.race at.box.value.race first.two first.few few first.opened at.made at.over in
    there_sum (reads_told (plan_trace now)) (reads_told at.box.value.race.trace) (2 * raced_pages shown r.value + 2 * length r.value.race.plans + 48) (lost_by at.calls) lost (told_as shown now at.box there.stands.fits there.stands.one at.is) law at.within
