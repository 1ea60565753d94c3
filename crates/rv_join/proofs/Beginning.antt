-- A plan that was just opened.
use Rattle.std.proofs.Common.{◌≡◌, ℕ, ◌+◌, ◌<◌, ◌≤◌, List, [], length, Bool, true, false, None, refl, arith, ◌==◌, ◌||◌, if◌then◌else◌}
use Rattle.rv_judge.specs.declared.counting.Counts.{Counts}
use Rattle.rv_catalog.specs.declared.def.Select.{Select}
use Rattle.rv_catalog.specs.declared.def.IndexDef.{IndexDef}
use Rattle.rv_model.specs.declared.state.Offer.{Offer}
use Rattle.rv_reader.specs.Shown.{Shown}
use Rattle.rv_access.specs.declared.access.Access.{Access}
use Rattle.rv_join.specs.declared.places.Asked.{Asked}
use Rattle.rv_join.specs.declared.gather.Stage.{Stage}
use Rattle.rv_join.specs.declared.gather.Stage.TheVariants.{AsFound, Gathering, Giving}
use Rattle.rv_join.specs.Asking.{AreWide, CanPlan, CanRun, IsAsked, OpensItem, by_index, lives_of}
use Rattle.rv_join.specs.Levels.{Stacked, bag}
use Rattle.rv_join.specs.Work.{level_work, row_cost}
use Rattle.rv_join.specs.Moves.{Starts}
use Rattle.rv_join.specs.Order.{Lead}
use Rattle.rv_join.specs.Plans.{HoldsGood, Planned, plan_rest, rest_at, stage_of}
use Rattle.rv_join.proofs.Opening.{opened_fits, opened_is}
use Rattle.rv_join.proofs.Working.{fresh_work}
use Rattle.rv_join.proofs.Running.{by_first, can_run}

lead_none : (others : List Offer) → Lead [] others
lead_none others d e c i = let inside = c.1 in absurd (omega (arith, inside))

wide_none : (a : Asked) → AreWide a []
wide_none a c le u = absurd (omega (arith, le))

first_le : (n m : ℕ) → n < m → 0 + n ≤ m
first_le n m h = omega (arith, h)

-- the retrieval of the first item alone
pub starts : (a : Asked) (shown : Shown) (v : Access) (n : ℕ) → CanRun a shown → OpensItem a shown [] v → Starts a shown (record { above = []; at = record { outer = []; row = None; here = v }; openings = n })
starts a shown v n can opens = let some = can.some in record {
  fits = record { above = record {}; at = opened_fits a shown [] v (omega (arith, some)) (wide_none a) opens; deep = refl };
  top = refl;
  work = first_le (level_work a shown (record { outer = []; row = None; here = v })) (row_cost (lives_of a.only) shown a.snap a.items) (fresh_work a shown [] v (omega (arith, some)) opens);
  bag = opened_is a shown [] v (omega (arith, some)) opens;
  led = λ by. lead_none _;
}

stage_cases : (P : Stage → Type 0) (b : Bool) → P AsFound → P Gathering → P (if b then AsFound else Gathering)
stage_cases P true x y = x
stage_cases P false x y = y

-- all that comes is in the loops
pub begins_with : (a : Asked) (shown : Shown) (s : Select) (indexes : List IndexDef) (p : Planned) → p.asked ≡ a → p.gathered ≡ [] → p.stage ≡ stage_of s indexes → plan_rest shown p ≡ bag a shown p.stack
begins_with a shown s indexes p asked gathered stage = rw (asked, gathered, stage) (stage_cases (λ (g : Stage). rest_at g [] (bag a shown p.stack) ≡ bag a shown p.stack) ((length s.order == 0) || by_index s indexes) refl refl)

not_giving : {X : Type 0} (s : Select) (indexes : List IndexDef) → stage_of s indexes ≡ Giving → X
not_giving {X} s indexes = stage_cases (λ (g : Stage). g ≡ Giving → X) ((length s.order == 0) || by_index s indexes) (λ h. absurd (cc)) (λ h. absurd (cc))

pub begins_good : (s : Select) (indexes : List IndexDef) (shown : Shown) (snap cursor : ℕ) (a : Asked) (stack : Stacked) (reads : Counts) → CanPlan s indexes shown snap → IsAsked s indexes snap cursor a → Starts a shown stack → HoldsGood shown (record { asked = a; stack = stack; gathered = []; stage = stage_of s indexes; reads = reads })
begins_good s indexes shown snap cursor a stack reads can asked starts = record {
  can = can_run s indexes shown snap cursor a can asked;
  stack = starts.fits;
  ordered = λ e. by_first s indexes snap cursor a can.some asked e;
  led = λ e. starts.led (by_first s indexes snap cursor a can.some asked e);
  sorted = λ e. not_giving s indexes e;
}
