-- A background step takes the awaited leaf up where it stands: it comes to what a take, a sieve and a give of its piece do.
use Rattle.std.proofs.Common.{◌≡◌, ◌∙◌, ℕ, ◌<◌, ◌≤◌, Bool, true, false, refl, ap, sym, subst, arith, Result, Ok, Err, IfOk, OnErr, Option, List, length, le_trans, lt_of_lt_of_le}
use Rattle.std.proofs.lemmas.Bool.{and_from, cases_Bool}
use Rattle.rv_judge.specs.declared.counting.Counts.{Counts}
use Rattle.rv_judge.specs.declared.judging.Facts.{Facts}
use Rattle.rv_judge.specs.Counting.{reads}
use Rattle.rv_judge.specs.Tracing.{SameCounts}
use Rattle.rv_judge.specs.Verdicts.{Ruling}
use Rattle.rv_reader.specs.Shown.{Shown}
use Rattle.rv_final.specs.Work.{Tries}
use Rattle.rv_jscan.specs.declared.jscan.Given.{Given}
use Rattle.rv_jscan.specs.declared.jscan.Given.TheVariants.{Accepted}
use Rattle.rv_jscan.specs.Joint.{Joint, JointFits, under_way}
use Rattle.rv_jscan.specs.Steps.{TakeLeaves, Works, steps_read}
use Rattle.rv_retrieval.specs.Effort.{Awaiting, back_work, effort, front_work, keys_work, table_work}
use Rattle.rv_retrieval.specs.Given.{Answers, AwaitsPiece, TakesLeaf, TakesLeafBy}
use Rattle.rv_retrieval.specs.Opened.{SameScans}
use Rattle.rv_retrieval.specs.Rulings.{GivesOn, Obeys}
use Rattle.rv_retrieval.specs.Shape.{RetrievalFits, Shape, is_background, rest}
use Rattle.rv_retrieval.specs.Stepping.{Steady, StepsBackground, StepsBehind, is_awaiting, piece_read}
use Rattle.rv_retrieval.proofs.BackWork.{leaf_spends}
use Rattle.rv_retrieval.proofs.Courses.{sum_less}
use Rattle.rv_retrieval.proofs.Efforts.{give_awaits, give_spends}
use Rattle.rv_retrieval.proofs.Openings.{tries_to}
use Rattle.rv_retrieval.proofs.Stepped.{as_it_is, one_piece, taken_short}
use Rattle.rv_retrieval.proofs.Switching.{SamePlans, joint_fits, joint_rest}
use Rattle.rv_retrieval.proofs.Waiting.{steady_by}
use Rattle.rv_retrieval.proofs.Worked.{worked_scans}

same_number : (n : ℕ) → n ≤ n
same_number n = omega arith

-- The leaf is taken, where a background runs.

pub takes_leaf : (v w : Shape) → is_background v.control ≡ true → TakeLeaves v.joint w.joint → TakesLeaf v w.joint
takes_leaf v w back t = subst (λ (b : Bool). TakesLeafBy b v.joint w.joint) (sym back) t

took_plans : (old new : Joint) → TakeLeaves old new → SamePlans old new
took_plans old new t = record { plans = ap (λ (j : Joint). j.plans) t.same; snap = ap (λ (j : Joint). j.snap) t.same }

took_awaits : (v : Shape) (j : Joint) → TakeLeaves v.joint j → Awaiting v → Awaiting (record v { joint = j })
took_awaits v j t a = record { way = λ b. ap under_way t.same ∙ a.way b; both = a.both }

took_tries : (v : Shape) (j : Joint) (shown : Shown) (before after : Counts) → TakeLeaves v.joint j → after ≡ steps_read v.joint before → Tries before after (effort v shown) (effort (record v { joint = j }) shown)
took_tries v j shown before after t r =
    let spends = leaf_spends v.joint j shown v.borrowed before after t r in
    let keys = ap (λ (x : Joint). keys_work (record v { joint = x })) t.same in
    let fewer : keys_work (record v { joint = j }) ≤ keys_work v = omega arith in
    record {
      once = spends.0;
      less = sum_less v.control (back_work j v.borrowed shown) (back_work v.joint v.borrowed shown) (front_work v shown) (front_work v shown) (table_work v shown) (table_work v shown) (keys_work (record v { joint = j })) (keys_work v) spends.1 (same_number (front_work v shown)) (same_number (table_work v shown)) fewer;
    }

-- What stands of the joint scan alone, whatever is answered.

pub stepped_fits : {E : Type 0} (r : Result Bool E) (v w : Shape) (shown : Shown) → is_background v.control ≡ true → w ≡ record v { joint = w.joint } → (IfOk r (λ more. more ≡ true → Works shown v.joint w.joint)) → IfOk r (λ more. more ≡ false → (under_way v.joint ≡ false) × (w.joint ≡ v.joint)) → OnErr r (TakeLeaves v.joint w.joint) → JointFits w.joint shown → RetrievalFits v shown → RetrievalFits w shown
stepped_fits r v w shown back e works none err joint f =
    let scans = worked_scans r shown v.joint w.joint works none err in
    subst (λ (x : Shape). RetrievalFits x shown) (sym e) (joint_fits v w.joint shown back (record { plans = scans.plans; snap = scans.snap }) joint f)

pub stepped_rest : (v w : Shape) (shown : Shown) → is_background v.control ≡ true → w ≡ record v { joint = w.joint } → rest w shown ≡ rest v shown
stepped_rest v w shown back e = ap (λ (x : Shape). rest x shown) e ∙ joint_rest v w.joint shown back

-- where there is no memory the leaf may have been taken
pub left_steady : (v w : Shape) → w ≡ record v { joint = w.joint } → TakeLeaves v.joint w.joint → Steady v w
left_steady v w e t =
    subst (Steady v) (sym e) (steady_by v (record v { joint = w.joint }) (record { pages = refl; leaves = refl; fetches = refl }) refl (took_awaits v w.joint t) refl)

pub left_tries : (v w : Shape) (shown : Shown) (before after : Counts) → w ≡ record v { joint = w.joint } → TakeLeaves v.joint w.joint → after ≡ steps_read v.joint before → Tries before after (effort v shown) (effort w shown)
left_tries v w shown before after e t r =
    subst (λ (x : Shape). Tries before after (effort v shown) (effort x shown)) (sym e) (took_tries v w.joint shown before after t r)

-- The piece is given.

-- between its take and its give
abbrev pub taken : (v : Shape) {w : Joint} {shown : Shown} → Works shown v.joint w → Shape
taken v k = record v { joint = k.taken }

taken_awaits : (v : Shape) (w : Joint) (shown : Shown) (k : Works shown v.joint w) → is_background v.control ≡ true → AwaitsPiece (taken v k) k.piece
taken_awaits v w shown k back = record { back = back; awaits = k.gives.0 }

taken_fits : (v : Shape) (w : Joint) (shown : Shown) (k : Works shown v.joint w) → is_background v.control ≡ true → RetrievalFits v shown → RetrievalFits (taken v k) shown
taken_fits v w shown k back f = joint_fits v k.taken shown back (took_plans v.joint k.taken k.leaves) k.fits f

pub gives_on : (would : ℕ → Facts → Ruling) (state after : ℕ) (v w new : Shape) (shown : Shown) → w ≡ record v { joint = w.joint } → (k : Works shown v.joint w.joint) → Obeys would state after v.joint.ended w new → GivesOn would state after k.piece Accepted (taken v k) new
gives_on would state after v w new shown e k o =
    let ended : v.joint.ended ≡ k.taken.ended = sym (ap (λ (j : Joint). j.ended) k.leaves.same) in
    let here = subst (λ (x : Shape). Obeys would state after v.joint.ended x new) e o in
    (w.joint, k.gives.1, subst (λ (n : ℕ). Obeys would state after n (record v { joint = w.joint }) new) ended here)

pub worked_does : (would : ℕ → Facts → Ruling) (state after : ℕ) (v w new : Shape) (shown : Shown) → is_background v.control ≡ true → w ≡ record v { joint = w.joint } → Works shown v.joint w.joint → Obeys would state after v.joint.ended w new → StepsBackground would state after v new
worked_does would state after v w new shown back e k o =
    let mid = taken v k in
    let awaits = taken_awaits v w.joint shown k back in
    let short = taken_short k.taken.held k.taken shown k.piece.entries k.gives.0.entries k.fits.drawn in
    as_it_is would state after v new (one_piece would state after v mid new k.piece k.piece Accepted refl (takes_leaf v mid back k.leaves) awaits refl short awaits (gives_on would state after v w new shown e k o))

pub worked_near : (would : ℕ → Facts → Ruling) (state after : ℕ) (v w new : Shape) (shown : Shown) (before counts : Counts) → is_background v.control ≡ true → w ≡ record v { joint = w.joint } → (k : Works shown v.joint w.joint) → Obeys would state after v.joint.ended w new → counts ≡ steps_read v.joint before → RetrievalFits v shown → (effort new shown < effort v shown) × Tries before counts (effort v shown) (effort new shown)
worked_near would state after v w new shown before counts back e k o r f =
    let mid = taken v k in
    let tried = took_tries v k.taken shown before counts k.leaves r in
    let gave : effort new shown < effort mid shown = give_spends would state after k.piece Accepted mid new shown (taken_awaits v w.joint shown k back) (gives_on would state after v w new shown e k o) (taken_fits v w.joint shown k back f) in
    let down : effort mid shown ≤ effort v shown = tried.less in
    (omega arith, tries_to before counts (effort v shown) (effort mid shown) (effort new shown) tried (omega arith))

pub worked_steady : (would : ℕ → Facts → Ruling) (state after : ℕ) (v w new : Shape) (shown : Shown) → is_background v.control ≡ true → w ≡ record v { joint = w.joint } → (k : Works shown v.joint w.joint) → Obeys would state after v.joint.ended w new → SameCounts w.trace new.trace → new.query ≡ w.query → new.front ≡ w.front → Steady v new
worked_steady would state after v w new shown back e k o counts query front =
    let mid = taken v k in
    let answer : Result Given Bool = Ok Accepted in
    steady_by v new
    (subst (λ (x : Shape). SameCounts x.trace new.trace) e counts)
    (query ∙ ap (λ (x : Shape). x.query) e)
    (λ a. give_awaits answer would state after k.piece mid new (taken_awaits v w.joint shown k back) (gives_on would state after v w new shown e k o) tt (took_awaits v k.taken k.leaves a))
    (front ∙ ap (λ (x : Shape). x.front) e)

-- Nothing is awaited.

pub idle_does : (would : ℕ → Facts → Ruling) (state : ℕ) (v w : Shape) → w ≡ v → is_awaiting v ≡ false → StepsBackground would state state v w
idle_does would state v w e none = as_it_is would state state v w (subst (λ (b : Bool). StepsBehind b would state state v w) (sym none) (e, refl))

pub idle_steady : (v w : Shape) → w ≡ v → Steady v w
idle_steady v w e = subst (Steady v) (sym e) (steady_by v v (record { pages = refl; leaves = refl; fetches = refl }) refl (λ a. a) refl)

pub idle_tries : (v w : Shape) (shown : Shown) (before after : Counts) → w ≡ v → under_way v.joint ≡ false → after ≡ steps_read v.joint before → Tries before after (effort v shown) (effort w shown)
idle_tries v w shown before after e none r =
    let unread : steps_read v.joint before ≡ before = rw none refl in
    let same = ap reads (r ∙ unread) in
    let effort_same = ap (λ (x : Shape). effort x shown) e in
    record { once = omega arith; less = omega arith }

-- where a background runs, the awaited leaf is what is read
pub back_reads : (v : Shape) (before after : Counts) → is_background v.control ≡ true → after ≡ steps_read v.joint before → after ≡ piece_read v before
back_reads v before after back r = rw back r
