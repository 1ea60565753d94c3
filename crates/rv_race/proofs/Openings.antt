-- A race before its first step.
use Rattle.std.proofs.Common.{◌≡◌, ℕ, ◌+◌, ◌*◌, ◌<◌, ◌≤◌, List, [], ◌∷◌, length, refl, ap, sym, ◌∙◌, arith, subst}
use Rattle.std.proofs.lemmas.List.{length-map}
use Rattle.rv_final.proofs.Owed.{all_qualifying}
use Rattle.rv_value.proofs.Lists.{filter_length}
use Rattle.rv_restrict.specs.declared.atom.Atom.{Atom}
use Rattle.rv_judge.specs.Runs.{EachOnce}
use Rattle.rv_reader.specs.Entries.{is_in}
use Rattle.rv_reader.specs.Shown.{Shown}
use Rattle.rv_reader.specs.Tables.{IsTable}
use Rattle.rv_reader.proofs.Rows.{rows_within}
use Rattle.rv_jscan.specs.declared.jscan.ScanPlan.{ScanPlan}
use Rattle.rv_final.specs.Rest.{qualifies_at, qualifying}
use Rattle.rv_final.specs.LaneWork.{planned_work}
use Rattle.rv_race.specs.Effort.{cuts_and_entries, effort, life_of, running_work}
use Rattle.rv_race.specs.Opened.{CanRace, Opened, opened}
use Rattle.rv_race.specs.Raced.{RaceFits, Raced, rest}
use Rattle.rv_jscan.specs.Planned.{indexes_of}
use Rattle.rv_race.specs.Runs.{Tells, TellsRacing, left_of}
use Rattle.rv_race.specs.Ways.{first_two}
use Rattle.rv_race.proofs.Fits.{begun_fits}

pub opened_fits : (table snap : ℕ) (only : List (List Atom)) (scans : List ScanPlan) (cursor opening pages : ℕ) (r : Raced) (shown : Shown) → Opened table snap only scans cursor opening pages r → CanRace table snap only scans shown → 2 ≤ length scans → RaceFits r shown
opened_fits table snap only scans cursor opening pages r shown o can two =
    let owed = qualifies_at only (shown.rows table snap) in
    let fits : RaceFits (opened table snap only scans cursor opening pages r.at r.last) shown = record {
      shell = record { ascend = can.ascend; read = can.read; columns = can.columns; last = record { of_table = o.last_table; at_snap = o.last_snap; drawn = o.drawn (shown.rows table snap) }; unbegun = λ h. o.unbegun; stands = refl };
      plans = can.plans;
      running = record {
        turn = begun_fits scans owed shown snap 0 can.plans (omega arith);
        other = begun_fits scans owed shown snap 1 can.plans (omega arith);
        unheld = refl;
      };
      covers = tt;
      listed = λ h. absurd (cc);
    } in
    subst (λ (x : Raced). RaceFits x shown) (sym o.is) fits

pub opened_rest : (table snap : ℕ) (only : List (List Atom)) (scans : List ScanPlan) (cursor opening pages : ℕ) (r : Raced) (shown : Shown) → Opened table snap only scans cursor opening pages r → rest r shown ≡ qualifying only (shown.rows table snap)
opened_rest table snap only scans cursor opening pages r shown o = ap (λ (x : Raced). rest x shown) o.is ∙ all_qualifying only (shown.rows table snap)

-- the scans that are left are the planned ones
all_left : (scans : List ScanPlan) → 2 ≤ length scans → left_of scans first_two ≡ indexes_of scans
all_left [] two = absurd (omega arith)
all_left (a ∷ []) two = absurd (omega arith)
all_left (a ∷ b ∷ scans) two = refl

pub opened_tells : (table snap : ℕ) (only : List (List Atom)) (scans : List ScanPlan) (cursor opening pages : ℕ) (r : Raced) (shown : Shown) → Opened table snap only scans cursor opening pages r → CanRace table snap only scans shown → 2 ≤ length scans → length scans ≤ 8 → Tells r
opened_tells table snap only scans cursor opening pages r shown o can two few =
    let same = all_left scans two in
    let long = ap length same in
    let mapped = length-map scans (λ (p : ScanPlan). p.index) in
    let none : 0 < length scans = omega arith in
    let one : 1 < length scans = omega arith in
    let low : 0 < 2 = omega arith in
    let high : 1 < 2 = omega arith in
    let tells : TellsRacing (opened table snap only scans cursor opening pages r.at r.last) = record {
      ends = [];
      told = refl;
      keys = refl;
      listed = refl;
      once = subst EachOnce (sym same) can.once;
      known = refl;
      room = omega arith;
      placed = record { turn_planned = none; turn_begun = low; other_planned = one; other_begun = high; next_planned = two };
    } in
    subst Tells (sym o.is) record { named = refl; tells = tells }

-- THE EFFORT

planned_cost : (plans : List ScanPlan) (shown : Shown) (snap : ℕ) → planned_work plans shown snap ≤ 2 * cuts_and_entries plans shown snap + 2 * length plans
planned_cost [] shown snap = omega arith
planned_cost (p ∷ plans) shown snap =
    let few = filter_length (is_in p.range) (shown.entries p.index snap) in
    let more = planned_cost plans shown snap in
    omega arith

first_work : (plans : List ScanPlan) (shown : Shown) (snap : ℕ) → 2 ≤ length plans → running_work plans shown snap first_two ≡ planned_work plans shown snap
first_work [] shown snap two = absurd (omega arith)
first_work (a ∷ []) shown snap two = absurd (omega arith)
first_work (a ∷ b ∷ plans) shown snap two = omega arith

pub opened_life : (table snap : ℕ) (only : List (List Atom)) (scans : List ScanPlan) (cursor opening : ℕ) (r : Raced) (shown : Shown) → Opened table snap only scans cursor opening (shown.pages table snap) r → IsTable (shown.rows table snap) (shown.pages table snap) → 2 ≤ length scans → length scans ≤ 8 → effort r shown < life_of table snap scans shown
opened_life table snap only scans cursor opening r shown o table_there two few =
    let first = opened table snap only scans cursor opening (shown.pages table snap) r.at r.last in
    let is = ap (λ (x : Raced). effort x shown) o.is in
    let rows = rows_within (shown.rows table snap) (32 * shown.pages table snap) table_there.ascend table_there.within in
    let whole = o.whole (shown.rows table snap) (shown.pages table snap) in
    let scan = first_work scans shown snap two in
    let cost = planned_cost scans shown snap in
    omega arith
