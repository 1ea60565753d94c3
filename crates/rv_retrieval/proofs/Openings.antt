-- What the scan of a single index at opening spends, and what a background step spends.
use Rattle.std.proofs.Common.{◌≡◌, ℕ, ◌+◌, ◌<◌, ◌≤◌, Bool, true, ap, sym, ◌∙◌, arith, subst, Some, None}
use Rattle.std.specs.Prelude.{if◌then◌else◌}
use Rattle.rv_judge.specs.declared.counting.Counts.{Counts}
use Rattle.rv_judge.specs.declared.events.Control.{Control}
use Rattle.rv_judge.specs.declared.events.Control.TheVariants.{Building, ForegroundAlone, BackgroundAlone, FinalList, FinalTable, Done}
use Rattle.rv_judge.specs.declared.judging.Facts.{Facts}
use Rattle.rv_judge.specs.Verdicts.{Ruling}
use Rattle.rv_judge.specs.Counting.{reads}
use Rattle.rv_reader.specs.Shown.{Shown}
use Rattle.rv_jscan.specs.declared.jscan.Given.{Given}
use Rattle.rv_jscan.specs.declared.jscan.Given.TheVariants.{Accepted, Stale}
use Rattle.rv_jscan.specs.declared.jscan.Taken.{Taken}
use Rattle.rv_jscan.specs.declared.jscan.Taken.TheVariants.{Piece, Nothing}
use Rattle.rv_jscan.specs.Joint.{Joint, JointFits, under_way}
use Rattle.rv_jscan.specs.Pieces.{Pieced}
use Rattle.rv_jscan.specs.Steps.{Gives, next_id}
use Rattle.rv_retrieval.specs.Effort.{Awaiting, back_work, effort, front_work, keys_work, sum_of, table_work}
use Rattle.rv_final.specs.Work.{Tries}
use Rattle.rv_retrieval.specs.Given.{Answers, AwaitsPiece, TakesPiece}
use Rattle.rv_retrieval.specs.Rulings.{GivesOn, scan_over}
use Rattle.rv_retrieval.specs.Shape.{RetrievalFits, Shape, is_background}
use Rattle.rv_retrieval.proofs.BackWork.{accepted_less}
use Rattle.rv_retrieval.proofs.Courses.{sum_back}
use Rattle.rv_retrieval.proofs.Efforts.{give_spends, scan_over_less}

-- The sum where the background's work and the reads change.

sum_spends : (c : Control) (r q a b f t k l : ℕ) → is_background c ≡ true → r + a ≤ q + b → r + sum_of c a f t k ≤ q + sum_of c b f t l
sum_spends Building r q a b f t k l h n = omega arith
sum_spends BackgroundAlone r q a b f t k l h n = omega arith
sum_spends ForegroundAlone r q a b f t k l h n = absurd (cc)
sum_spends FinalList r q a b f t k l h n = absurd (cc)
sum_spends FinalTable r q a b f t k l h n = absurd (cc)
sum_spends Done r q a b f t k l h n = absurd (cc)

-- A piece that was taken is given.

pub tries_to : (before after : Counts) (old mid new : ℕ) → Tries before after old mid → new ≤ mid → Tries before after old new
tries_to before after old mid new t l = let less = t.less in record { once = t.once; less = omega arith }

pub gave_less : (would : ℕ → Facts → Ruling) (state after : ℕ) (piece sieved : Pieced) (g : Given) (mid new : Shape) (shown : Shown) → TakesPiece mid (Piece piece) → sieved ≡ piece → Answers mid sieved g new → GivesOn would state after sieved g mid new → RetrievalFits mid shown → effort new shown < effort mid shown
gave_less would state after piece sieved Accepted mid new shown p e a o f = give_spends would state after sieved Accepted mid new shown a o f
gave_less would state after piece sieved (Stale asked now) mid new shown p e a o f = absurd (a.0 (subst (AwaitsPiece mid) (sym e) p))

-- nothing is taken only where no piece is awaited
pub nothing_awaited : (v : Shape) {X : Type 0} → is_background v.control ≡ true → Awaiting v → TakesPiece v Nothing → X
nothing_awaited v back a n = absurd (let bad : Some (next_id v.joint) ≡ None = sym (both (is_background v.control) (under_way v.joint) back (a.way back)) ∙ n in cc)
  where
    both : (b w : Bool) → b ≡ true → w ≡ true → (if b then (if w then Some (next_id v.joint) else None) else None) ≡ Some (next_id v.joint)
    both b w h i = ap (λ (x : Bool). if x then (if w then Some (next_id v.joint) else None) else None) h ∙ ap (λ (x : Bool). if x then Some (next_id v.joint) else None) i

-- The scan at opening.

pub gives_less : (old new : Joint) (piece : Pieced) (g : Given) (shown : Shown) (borrowed : ℕ) → Gives old piece g new → JointFits old shown → back_work new borrowed shown ≤ back_work old borrowed shown
gives_less old new piece Accepted shown borrowed g f = let less = accepted_less old new piece shown borrowed g.0 g.1 f in omega arith
gives_less old new piece (Stale asked now) shown borrowed g f = let same = ap (λ (j : Joint). back_work j borrowed shown) g.3 in omega arith

-- what the scan and its end leave
over_less : (v mid new : Shape) (shown : Shown) → mid ≡ record v { joint = mid.joint } → new ≡ scan_over 0 mid → effort new shown ≤ sum_of v.control (back_work mid.joint 0 shown) (front_work v shown) (table_work v shown) (keys_work (record v { joint = mid.joint }))
over_less v mid new shown e o =
    let is = ap (λ (x : Shape). effort x shown) o in
    let less = scan_over_less 0 mid shown in
    let same = ap (λ (x : Shape). effort (record x { borrowed = 0 }) shown) e in
    omega arith

unborrowed : (v : Shape) (shown : Shown) → v.borrowed ≡ 0 → effort v shown ≡ sum_of v.control (back_work v.joint 0 shown) (front_work v shown) (table_work v shown) (keys_work v)
unborrowed v shown z = ap (λ (b : ℕ). sum_of v.control (back_work v.joint b shown) (front_work v shown) (table_work v shown) (keys_work v)) z

pub at_once_spends : (v mid new : Shape) (shown : Shown) (before after : Counts) → is_background v.control ≡ true → v.borrowed ≡ 0 → mid ≡ record v { joint = mid.joint } → new ≡ scan_over 0 mid → reads after + back_work mid.joint 0 shown ≤ reads before + back_work v.joint 0 shown → reads after + effort new shown ≤ reads before + effort v shown
at_once_spends v mid new shown before after back z e o spent =
    let less = over_less v mid new shown e o in
    let was = unborrowed v shown z in
    let sum = sum_spends v.control (reads after) (reads before) (back_work mid.joint 0 shown) (back_work v.joint 0 shown) (front_work v shown) (table_work v shown) (keys_work (record v { joint = mid.joint })) (keys_work v) back spent in
    omega arith

pub at_once_less : (v mid new : Shape) (shown : Shown) → is_background v.control ≡ true → v.borrowed ≡ 0 → mid ≡ record v { joint = mid.joint } → new ≡ scan_over 0 mid → back_work mid.joint 0 shown ≤ back_work v.joint 0 shown → effort new shown ≤ effort v shown
at_once_less v mid new shown back z e o spent =
    let less = over_less v mid new shown e o in
    let was = unborrowed v shown z in
    let sum = sum_back v.control (back_work mid.joint 0 shown) (back_work v.joint 0 shown) (front_work v shown) (table_work v shown) (keys_work (record v { joint = mid.joint })) (keys_work v) back spent in
    omega arith

back_in : (c : Control) (b f t k : ℕ) → is_background c ≡ true → b ≤ sum_of c b f t k
back_in Building b f t k h = omega arith
back_in BackgroundAlone b f t k h = omega arith
back_in ForegroundAlone b f t k h = absurd (cc)
back_in FinalList b f t k h = absurd (cc)
back_in FinalTable b f t k h = absurd (cc)
back_in Done b f t k h = absurd (cc)

pub at_once_tried : (v : Shape) (shown : Shown) (before after : Counts) → is_background v.control ≡ true → v.borrowed ≡ 0 → reads after ≤ reads before + back_work v.joint 0 shown + 1 → reads after ≤ reads before + effort v shown + 1
at_once_tried v shown before after back z spent =
    let was = unborrowed v shown z in
    let part = back_in v.control (back_work v.joint 0 shown) (front_work v shown) (table_work v shown) (keys_work v) back in
    omega arith
