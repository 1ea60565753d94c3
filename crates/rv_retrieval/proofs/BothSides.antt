-- What a step of an index-only foreground spends while both sides run.
use Rattle.std.proofs.Common.{◌≡◌, ℕ, ◌+◌, ◌<◌, ◌≤◌, List, true, ◌&&◌, refl, ap, sym, ◌∙◌, arith, subst}
use Rattle.rv_judge.specs.declared.counting.Counts.{Counts}
use Rattle.rv_judge.specs.declared.events.Control.{Control}
use Rattle.rv_judge.specs.declared.events.Control.TheVariants.{Building, ForegroundAlone, BackgroundAlone, FinalList, FinalTable, Done}
use Rattle.rv_judge.specs.declared.events.Strategy.{Strategy}
use Rattle.rv_judge.specs.declared.events.Trace.{Trace}
use Rattle.rv_reader.specs.Shown.{Shown}
use Rattle.rv_retrieval.specs.Effort.{back_work, effort, front_work, keys_work, sum_of, table_work}
use Rattle.rv_final.specs.Work.{Tries}
use Rattle.rv_retrieval.specs.Shape.{Shape, is_building, is_index_only}
use Rattle.rv_retrieval.proofs.Courses.{keys_back, sum_lower}

building_of : (c : Control) (s : Strategy) → (is_building c && is_index_only s) ≡ true → c ≡ Building
building_of Building s h = refl
building_of ForegroundAlone s h = cc
building_of BackgroundAlone s h = cc
building_of FinalList s h = cc
building_of FinalTable s h = cc
building_of Done s h = cc

whole : (c : Control) (b f t k : ℕ) → c ≡ Building → sum_of c b f t k ≡ b + f + t
whole c b f t k e = subst (λ (x : Control). sum_of x b f t k ≡ b + f + t) (sym e) refl

-- after a step of the foreground's scan, and whatever it led to
under : (v mid new : Shape) (shown : Shown) (d : List ℕ) (c : Control) (t : Trace) → mid ≡ record v { front = mid.front } → new ≡ record mid { delivered = d; control = c; trace = t } → effort new shown ≤ back_work v.joint v.borrowed shown + front_work mid shown + table_work v shown
under v mid new shown d c t e n =
    let all : new ≡ record v { front = mid.front; delivered = d; control = c; trace = t } = n ∙ ap (λ (m : Shape). record m { delivered = d; control = c; trace = t }) e in
    let front : front_work (record v { front = mid.front }) shown ≡ front_work mid shown = sym (ap (λ (x : Shape). front_work x shown) e) in
    let back = back_work v.joint v.borrowed shown in
    let table = table_work v shown in
    let bound : sum_of c back (front_work mid shown) table (keys_work v) ≤ back + front_work mid shown + table = sum_lower Building c back (front_work mid shown) table (keys_work v) refl (keys_back v shown) in
    subst (λ (x : Shape). effort x shown ≤ back + front_work mid shown + table) (sym all) (subst (λ (n : ℕ). sum_of c back n table (keys_work v) ≤ back + front_work mid shown + table) (sym front) bound)

pub both_tries : (v mid new : Shape) (shown : Shown) (before after : Counts) (d : List ℕ) (c : Control) (t : Trace) → (is_building v.control && is_index_only v.strategy) ≡ true → mid ≡ record v { front = mid.front } → new ≡ record mid { delivered = d; control = c; trace = t } → Tries before after (front_work v shown) (front_work mid shown) → Tries before after (effort v shown) (effort new shown)
both_tries v mid new shown before after d c t both e n tries =
    let is = whole v.control (back_work v.joint v.borrowed shown) (front_work v shown) (table_work v shown) (keys_work v) (building_of v.control v.strategy both) in
    let low = under v mid new shown d c t e n in
    record { once = tries.once; less = omega (arith, is, low, tries.less) }

pub both_falls : (v mid new : Shape) (shown : Shown) (d : List ℕ) (c : Control) (t : Trace) → (is_building v.control && is_index_only v.strategy) ≡ true → mid ≡ record v { front = mid.front } → new ≡ record mid { delivered = d; control = c; trace = t } → front_work mid shown < front_work v shown → effort new shown < effort v shown
both_falls v mid new shown d c t both e n less =
    let is = whole v.control (back_work v.joint v.borrowed shown) (front_work v shown) (table_work v shown) (keys_work v) (building_of v.control v.strategy both) in
    let low = under v mid new shown d c t e n in
    omega (arith, is, low, less)
