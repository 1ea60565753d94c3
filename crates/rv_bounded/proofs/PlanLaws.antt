-- The reads of a plan over one FROM item, from its opening on.
use Rattle.std.proofs.Common.{◌≡◌, ℕ, ◌+◌, ◌*◌, ◌/◌, ◌≤◌, List, [], ◌∷◌, length, Bool, true, false, not, ◌&&◌, Option, Some, None, is_some, Box, inl, inr, refl, ap, sym, ◌∙◌, subst, arith}
use Rattle.std.specs.Prelude.{if◌then◌else◌}
use Rattle.std.specs.declared.alloc.Global.{Global}
use Rattle.rv_judge.specs.declared.counting.Counts.{Counts}
use Rattle.rv_judge.specs.declared.events.Strategy.{Strategy}
use Rattle.rv_judge.specs.declared.events.Strategy.TheVariants.{BackgroundOnly, FastFirst}
use Rattle.rv_judge.specs.declared.judging.Facts.{Facts}
use Rattle.rv_judge.specs.Tracing.{CountsRise}
use Rattle.rv_judge.specs.Verdicts.{Ruling}
use Rattle.rv_reader.specs.declared.reader.Chunk.{Chunk}
use Rattle.rv_reader.specs.Shown.{Shown}
use Rattle.rv_jscan.specs.declared.piece.PieceId.{PieceId}
use Rattle.rv_jscan.specs.declared.jscan.Given.TheVariants.{Accepted}
use Rattle.rv_jscan.specs.declared.jscan.Taken.{Taken}
use Rattle.rv_jscan.specs.declared.jscan.Taken.TheVariants.{Piece, Nothing}
use Rattle.rv_jscan.specs.Joint.{Joint, present, under_way}
use Rattle.rv_jscan.specs.Pieces.{Pieced}
use Rattle.rv_jscan.specs.Steps.{HasEntries, awaited_id, next_id}
use Rattle.rv_jscan.proofs.Fits.{way_within}
use Rattle.rv_choice.specs.declared.query.Query.{Query}
use Rattle.rv_choice.specs.Choice.{candidates_of}
use Rattle.rv_retrieval.specs.Effort.{Awaiting}
use Rattle.rv_retrieval.specs.Given.{TakesPiece, awaited as retrieval_awaited}
use Rattle.rv_retrieval.specs.Opened.{Opened as RetrievalOpened, is_one}
use Rattle.rv_retrieval.specs.Shape.{RetrievalFits, Shape, is_background}
use Rattle.rv_retrieval.specs.Short.{has_short}
use Rattle.rv_retrieval.specs.Stepping.{piece_read as retrieval_read}
use Rattle.rv_retrieval.proofs.Shorts.{none_short}
use Rattle.rv_access.specs.declared.access.Access.{Access}
use Rattle.rv_access.specs.declared.access.Access.TheVariants.{Competing, Racing, Uniting}
use Rattle.rv_access.specs.Accesses.{AccessFits, Awaiting as AccessAwaiting, query_of, trace_of}
use Rattle.rv_access.specs.Given.{RetrievalLeaf}
use Rattle.rv_access.specs.Opened.{Opened, OpenedBy, races, unites}
use Rattle.rv_join.specs.Alone.{IsAlone}
use Rattle.rv_join.specs.Plans.{PlanFits, Planned, plan_trace}
use Rattle.skew_judges.specs.Guard.{IsBounded}
use Rattle.rv_bounded.specs.Bounds.{reads_told, spare}
use Rattle.rv_bounded.specs.Calls.{Call, DoesAll, DoesCall, lost_by, lost_of}
use Rattle.rv_bounded.specs.Calls.Call.{Step, StepLost, Take, TakeLost, Give}
use Rattle.rv_bounded.specs.Plans.{FastPlansAreBounded, PlanCall, PlanOpens, PlanSpendsAll, PlansAreBounded, lost_leaf}
use Rattle.rv_bounded.proofs.Ahead.{ahead, greatest}
use Rattle.rv_bounded.proofs.Costs.{rest_back, rest_of}
use Rattle.rv_bounded.proofs.Fast.{due_of}
use Rattle.rv_bounded.proofs.FastLaws.{all_lend, opened_both, opened_due, opened_lending, some_plans}
use Rattle.rv_bounded.proofs.OnePlan.{DoesHere, Kept, KeepsOn, all_kept, less_lost, more_lost, told_here}
use Rattle.rv_bounded.proofs.WholeLaws.{Alone, all_cost, opened_ahead, opened_back, opened_whole, small_all}
use Rattle.rv_bounded.proofs.Sums.{zero_least}

-- THE CALLS OF A PLAN ARE CALLS OF ITS RETRIEVAL

-- by so many calls, which lose at most so many
record Reached (shown : Shown) (v : Shape) (lost : ℕ) (b : Access) : Type 0 where
  pub box : Box Shape Global
  pub is : b ≡ Competing box
  pub calls : List Call
  pub made : DoesAll calls shown v box.value
  pub within : lost_by calls ≤ lost

-- one call more
record Called (shown : Shown) (lost : ℕ) (v : Shape) (b : Access) : Type 0 where
  pub box : Box Shape Global
  pub is : b ≡ Competing box
  pub call : Call
  pub would : ℕ → Facts → Ruling
  pub bounded : IsBounded would
  pub does : DoesCall call would shown v box.value
  pub within : lost_of call ≤ lost

-- a piece is taken, and its leaf held or not
held_piece : (w : Shape) (chunk : Chunk) → w.joint.held ≡ Some chunk → (taken : Taken) × TakesPiece w taken
held_piece w chunk held = by (is_background w.control) (under_way w.joint) refl refl
  where
    piece : Pieced
    piece = record { id = next_id w.joint; part = (present w.joint).part; entries = chunk.entries }

    by : (b u : Bool) → is_background w.control ≡ b → under_way w.joint ≡ u → (taken : Taken) × TakesPiece w taken
    by true true back way = (Piece piece, record { back = back; awaits = record { way = way; id = refl; part = refl; entries = subst (λ (h : Option Chunk). HasEntries h chunk.entries) (sym held) refl } })
    by true false back way = (Nothing, ap (λ (b : Bool). if b then awaited_id w.joint else None) back ∙ ap (λ (u : Bool). if u then Some (next_id w.joint) else None) way)
    by false u back way = (Nothing, ap (λ (b : Bool). if b then awaited_id w.joint else None) back)

taken_call : (lost : ℕ) (would : ℕ → Facts → Ruling) (shown : Shown) (c d : Counts) (v : Shape) (w : Box Shape Global) → IsBounded would → RetrievalLeaf v w.value → d ≡ retrieval_read v c → RetrievalFits w.value shown → CountsRise v.trace w.value.trace c d → lost_leaf (Competing w) ≤ lost → Called shown lost v (Competing w)
taken_call lost would shown c d v w rule leaf reads fits rise within = by (retrieval_awaited w.value) w.value.joint.held refl refl within
  where
    found : ((taken : Taken) × TakesPiece w.value taken) → Called shown lost v (Competing w)
    found (taken, answers) = record { box = w; is = refl; call = Take; would = would; bounded = rule; does = (taken, record { before = c; behind = d; same = leaf.same; leaves = leaf.leaves; reads = reads; answers = answers; fits = fits; counts = rise }); within = zero_least lost }

    by : (o : Option PieceId) (h : Option Chunk) → retrieval_awaited w.value ≡ o → w.value.joint.held ≡ h → (if is_some o && not (is_some h) then 1 else 0) ≤ lost → Called shown lost v (Competing w)
    by None h awaits held within = found (Nothing, awaits)
    by (Some id) (Some chunk) awaits held within = found (held_piece w.value chunk held)
    by (Some id) None awaits held within = record { box = w; is = refl; call = TakeLost; would = would; bounded = rule; does = record { before = c; behind = d; same = leaf.same; leaves = leaf.leaves; reads = reads; answers = tt; fits = fits; counts = rise }; within = within }

call_of : (lost : ℕ) (would : ℕ → Facts → Ruling) (shown : Shown) (v : Box Shape Global) (b : Access) → IsBounded would → AccessFits b shown → DoesHere would shown lost (Competing v) b → Called shown lost v.value b
call_of lost would shown v (Competing w) rule fits (inl (Some fg, steps, within)) = record { box = w; is = refl; call = Step; would = would; bounded = rule; does = record { state = steps.state; after = steps.after; before = steps.before; behind = steps.behind; fg = fg; does = steps.calls.does }; within = within }
call_of lost would shown v (Competing w) rule fits (inl (None, steps, within)) = record { box = w; is = refl; call = StepLost; would = would; bounded = rule; does = record { before = steps.before; behind = steps.behind; only = (steps.calls.wants refl).2; may_read = steps.calls.may_read; fits = fits; counts = steps.counts }; within = within }
call_of lost would shown v (Competing w) rule fits (inr (inl (takes, within))) = taken_call lost would shown takes.before takes.behind v.value w rule takes.leaf takes.reads fits takes.counts within
call_of lost would shown v (Competing w) rule fits (inr (inr gives)) = record { box = w; is = refl; call = Give; would = would; bounded = rule; does = record { state = gives.state; after = gives.after; piece = gives.piece; given = Accepted; answers = gives.awaits; obeys = gives.obeys; counts = gives.counts }; within = zero_least lost }
call_of lost would shown v (Racing r) rule fits (inl (Some fg, steps, within)) = absurd steps.calls.does
call_of lost would shown v (Racing r) rule fits (inl (None, steps, within)) = absurd ((steps.calls.wants refl).2)
call_of lost would shown v (Racing r) rule fits (inr (inl (takes, within))) = absurd takes.leaf
call_of lost would shown v (Racing r) rule fits (inr (inr gives)) = absurd gives.obeys
call_of lost would shown v (Uniting u) rule fits (inl (Some fg, steps, within)) = absurd steps.calls.does
call_of lost would shown v (Uniting u) rule fits (inl (None, steps, within)) = absurd ((steps.calls.wants refl).2)
call_of lost would shown v (Uniting u) rule fits (inr (inl (takes, within))) = absurd takes.leaf
call_of lost would shown v (Uniting u) rule fits (inr (inr gives)) = absurd gives.obeys

reached_on : (shown : Shown) (v : Shape) → KeepsOn (Reached shown v) shown
reached_on shown v m k n would a b rule was fits (inl same) sum reached = record { box = reached.box; is = same ∙ reached.is; calls = reached.calls; made = reached.made; within = less_lost (lost_by reached.calls) m k n reached.within sum }
reached_on shown v m k n would a b rule was fits (inr does) sum reached =
    let more = call_of k would shown reached.box b rule fits (subst (λ (x : Access). DoesHere would shown k x b) reached.is does) in
    record {
      box = more.box;
      is = more.is;
      calls = more.call ∷ reached.calls;
      made = (reached.box.value, reached.made, record { would = more.would; bounded = more.bounded; does = more.does });
      within = more_lost (lost_by reached.calls) (lost_of more.call) m k n reached.within more.within sum;
    }

-- THE LAWS

-- a plan begins with a retrieval that was opened
competes : (race : Bool) (query : Query) (shown : Shown) (cursor opening : ℕ) (v : Box Shape Global) → Opened race query shown cursor opening (Competing v) → RetrievalOpened query shown cursor opening v.value
competes race query shown cursor opening v o = by (race && races o.choice (candidates_of query shown)) (unites query shown o.choice) o.opened
  where
    by : (a b : Bool) → OpenedBy a b query shown cursor opening o.choice (Competing v) → RetrievalOpened query shown cursor opening v.value
    by true b never = absurd never
    by false true never = absurd never
    by false false opened = opened

few_plans : (query : Query) (shown : Shown) (cursor opening : ℕ) (v : Shape) → RetrievalOpened query shown cursor opening v → RetrievalFits v shown → has_short query shown ≡ false → length v.joint.plans ≤ 8
few_plans query shown cursor opening v opened fits long = subst (λ (n : ℕ). length v.joint.plans ≤ n) eight fits.joint.room
  where
    one : is_one opened.choice.background ≡ false
    one = none_short query shown opened.choice query.order (candidates_of query shown) refl opened.chosen long

    eight : length v.joint.counts ≡ 8
    eight = ap (λ (j : Joint). length j.counts) (opened.started one).joint

fits_here : (shown : Shown) (p : Planned) (a : Access) → PlanFits shown p → p.stack.at.here ≡ a → AccessFits a shown
fits_here shown p a fits here = subst (λ (x : Access). AccessFits x shown) here fits.holds.stack.at.here

-- what `open` tells of the one retrieval
opens_alone : {s : Strategy} (shown : Shown) (opened : Planned) (v : Box Shape Global) → PlanOpens shown opened v → v.value.strategy ≡ s → Alone s v.value.query shown v.value
opens_alone shown opened v opens alone =
    let query = v.value.query in
    let own : Opened opened.asked.race (query_of (Competing v)) shown opened.asked.cursor 1 (Competing v) = subst (λ (a : Access). Opened opened.asked.race (query_of a) shown opened.asked.cursor 1 a) opens.begins.here opens.begins.leads.opened in
    let begun : RetrievalOpened query shown opened.asked.cursor 1 v.value = competes opened.asked.race query shown opened.asked.cursor 1 v own in
    record { cursor = opened.asked.cursor; opening = 1; opened = begun; alone = alone; long = opens.long; room = few_plans query shown opened.asked.cursor 1 v.value begun (fits_here shown opened (Competing v) opens.begins.fits opens.begins.here) opens.long }

-- where a plan stands behind such calls
went : (shown : Shown) (calls : List PlanCall) (lost : ℕ) (opened now : Planned) (v : Box Shape Global) → PlanOpens shown opened v → PlanSpendsAll calls shown lost opened now → Kept (Reached shown v.value) shown lost now
went shown calls lost opened now v opens made =
    all_kept (Reached shown v.value) shown calls lost opened now (reached_on shown v.value) (record { fits = opens.begins.fits; one = opens.begins.one }) (λ n. record { box = v; is = opens.begins.here; calls = []; made = refl; within = zero_least n }) made

told_as : (shown : Shown) (p : Planned) (v : Box Shape Global) → PlanFits shown p → IsAlone p → p.stack.at.here ≡ Competing v → reads_told (plan_trace p) ≡ reads_told v.value.trace
told_as shown p v fits one here = told_here shown p fits one ∙ ap (λ (a : Access). reads_told (trace_of a)) here

there_sum : (now was a b more lost : ℕ) → now ≡ a → was ≡ b → a ≤ b + more + lost → now ≤ was + more + lost
there_sum now was a b more lost n w h = omega (arith, n, w, h)

back_sum : (pages leaves fetches ahead_now rest_now pages_was leaves_was fetches_was ahead_was rest_was p planned leaf other all lost : ℕ) → leaves + ahead_now ≤ leaves_was + ahead_was + leaf → pages + fetches + rest_now ≤ pages_was + fetches_was + rest_was + other → leaf + other ≡ all → all ≤ lost → ahead_was ≤ p + 2 * planned → rest_was ≡ p + 48 → pages + leaves + fetches ≤ pages_was + leaves_was + fetches_was + (2 * p + 2 * planned + 48) + lost
back_sum pages leaves fetches ahead_now rest_now pages_was leaves_was fetches_was ahead_was rest_was p planned leaf other all lost l o b h a r = omega (arith, l, o, b, h, a, r)

fast_sum : (pages leaves fetches ahead_now due_now pages_was leaves_was fetches_was ahead_was due_was p planned more leaf other all lost : ℕ) → leaves + ahead_now ≤ leaves_was + ahead_was + leaf → pages + fetches + due_now ≤ pages_was + fetches_was + due_was + other → leaf + other ≡ all → all ≤ lost → ahead_was ≤ p + 2 * planned → due_was ≤ p + more + 48 * planned → pages + leaves + fetches ≤ pages_was + leaves_was + fetches_was + (2 * p + more + 50 * planned) + lost
fast_sum pages leaves fetches ahead_now due_now pages_was leaves_was fetches_was ahead_was due_was p planned more leaf other all lost l o b h a d = omega (arith, l, o, b, h, a, d)

pub plans_bounded : PlansAreBounded
plans_bounded shown calls lost opened now v opens alone few made =
    let query = v.value.query in
    let p = shown.pages query.table query.snap in
    let planned = length v.value.joint.plans in
    let own : Alone BackgroundOnly query shown v.value = opens_alone shown opened v opens alone in
    let there = went shown calls lost opened now v opens made in
    let w = there.holds.box.value in
    let cost = all_cost p planned query shown there.holds.calls v.value w (small_all p planned greatest few own.room refl) refl (opened_whole query shown v.value own) there.holds.made in
    there_sum (reads_told (plan_trace now)) (reads_told (plan_trace opened)) (reads_told w.trace) (reads_told v.value.trace) (2 * p + 2 * planned + 48) lost (told_as shown now there.holds.box there.stands.fits there.stands.one there.holds.is) (told_as shown opened v opens.begins.fits opens.begins.one opens.begins.here) (back_sum w.trace.pages w.trace.leaves w.trace.fetches (ahead p w.joint) (rest_of p w) v.value.trace.pages v.value.trace.leaves v.value.trace.fetches (ahead p v.value.joint) (rest_of p v.value) p planned cost.leaf cost.other (lost_by there.holds.calls) lost cost.leaves cost.fewer cost.both there.holds.within (opened_ahead query shown v.value p own) (rest_back p v.value (opened_back query shown v.value own)))

pub fast_plans_bounded : FastPlansAreBounded
fast_plans_bounded shown calls lost opened now v opens fast few made =
    let query = v.value.query in
    let p = shown.pages query.table query.snap in
    let planned = length v.value.joint.plans in
    let own : Alone FastFirst query shown v.value = opens_alone shown opened v opens fast in
    let there = went shown calls lost opened now v opens made in
    let w = there.holds.box.value in
    let both = opened_both query shown v.value own in
    let awaiting : Awaiting v.value = subst AccessAwaiting opens.begins.here opens.begins.fits.holds.stack.at.awaiting in
    let some = some_plans v.value.joint.ended planned (way_within v.value.joint (awaiting.way (ap is_background both))) in
    let cost = all_lend p planned query shown there.holds.calls v.value w (small_all p planned greatest few own.room refl) refl (opened_lending query shown v.value own) there.holds.made in
    there_sum (reads_told (plan_trace now)) (reads_told (plan_trace opened)) (reads_told w.trace) (reads_told v.value.trace) (2 * p + (2 * (p / 8) + spare p) + 50 * planned) lost (told_as shown now there.holds.box there.stands.fits there.stands.one there.holds.is) (told_as shown opened v opens.begins.fits opens.begins.one opens.begins.here) (fast_sum w.trace.pages w.trace.leaves w.trace.fetches (ahead p w.joint) (due_of p w) v.value.trace.pages v.value.trace.leaves v.value.trace.fetches (ahead p v.value.joint) (due_of p v.value) p planned (2 * (p / 8) + spare p) cost.leaf cost.other (lost_by there.holds.calls) lost cost.leaves cost.fewer cost.both there.holds.within (opened_ahead query shown v.value p own) (opened_due query shown v.value p own some))
