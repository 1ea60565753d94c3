-- A union before its first step.
use Rattle.std.proofs.Common.{◌≡◌, ℕ, ◌+◌, ◌*◌, ◌<◌, ◌≤◌, List, [], ◌∷◌, length, drop, Bool, true, false, ◌||◌, refl, ap, sym, ◌∙◌, arith, subst, nat_eq}
use Rattle.std.proofs.lemmas.Bool.{and_from}
use Rattle.rv_jscan.proofs.Planned.{index_known}
use Rattle.rv_final.proofs.Owed.{all_qualifying}
use Rattle.rv_value.proofs.Lists.{filter_length}
use Rattle.rv_value.proofs.Tests.{same_number}
use Rattle.rv_restrict.specs.declared.atom.Atom.{Atom}
use Rattle.rv_judge.specs.Runs.{has_index}
use Rattle.rv_judge.specs.Runs.UnionTail.{Scanning}
use Rattle.rv_reader.specs.Entries.{is_in}
use Rattle.rv_reader.specs.Shown.{Shown}
use Rattle.rv_reader.specs.Tables.{IsTable}
use Rattle.rv_reader.proofs.Rows.{rows_within}
use Rattle.rv_jscan.specs.declared.jscan.ScanPlan.{ScanPlan}
use Rattle.rv_jscan.specs.Joint.{plan_at}
use Rattle.rv_jscan.specs.Lanes.{no_lane}
use Rattle.rv_final.specs.Rest.{qualifies_at, qualifying}
use Rattle.rv_final.specs.LaneWork.{lane_work, planned_work}
use Rattle.rv_union.specs.Effort.{effort, life_of, member_life, members_life}
use Rattle.rv_union.specs.Opened.{CanUnite, Opened, opened}
use Rattle.rv_jscan.specs.Planned.{indexes_of}
use Rattle.rv_union.specs.Runs.{Tells}
use Rattle.rv_union.specs.Unioned.{UnionFits, Unioned, rest}
use Rattle.rv_union.proofs.Fits.{begun_lane, next_met}

pub opened_fits : (table snap : ℕ) (only : List (List Atom)) (members : List ScanPlan) (cursor opening pages : ℕ) (u : Unioned) (shown : Shown) → Opened table snap only members cursor opening pages u → CanUnite table snap only members shown → 1 ≤ length members → UnionFits u shown
opened_fits table snap only members cursor opening pages u shown o can some =
    let owed = qualifies_at only (shown.rows table snap) in
    let there : 0 < length members = omega arith in
    let fits : UnionFits (opened table snap only members cursor opening pages u.at u.last) shown = record {
      shell = record { ascend = can.ascend; read = can.read; columns = can.columns; last = record { of_table = o.last_table; at_snap = o.last_snap; drawn = o.drawn (shown.rows table snap) }; unbegun = λ h. o.unbegun; stands = refl };
      members = can.members;
      there = there;
      lane = begun_lane members owed shown snap 0 can.members there;
      finds = λ h n is. sym (next_met members 0 shown snap n there) ∙ can.members.met n is;
      covers = λ h. absurd (cc);
      listed = record { met = λ n h. absurd (cc) };
      building = record { met = λ n h. absurd (cc) };
    } in
    subst (λ (x : Unioned). UnionFits x shown) (sym o.is) fits

pub opened_rest : (table snap : ℕ) (only : List (List Atom)) (members : List ScanPlan) (cursor opening pages : ℕ) (u : Unioned) (shown : Shown) → Opened table snap only members cursor opening pages u → rest u shown ≡ qualifying only (shown.rows table snap)
opened_rest table snap only members cursor opening pages u shown o = ap (λ (x : Unioned). rest x shown) o.is ∙ all_qualifying only (shown.rows table snap)

or_first : (a : Bool) → a ≡ true → (a || false) ≡ true
or_first a h = grind arith

pub opened_tells : (table snap : ℕ) (only : List (List Atom)) (members : List ScanPlan) (cursor opening pages : ℕ) (u : Unioned) (shown : Shown) → Opened table snap only members cursor opening pages u → CanUnite table snap only members shown → 1 ≤ length members → Tells u
opened_tells table snap only members cursor opening pages u shown o can some =
    let index = (plan_at members 0).index in
    let tells : Tells (opened table snap only members cursor opening pages u.at u.last) = record {
      named = refl;
      begun = index ∷ [];
      tail = Scanning;
      told = refl;
      at = refl;
      present = or_first (nat_eq index index) (same_number index);
      among = refl;
      once = (refl, tt);
      known = and_from (has_index index (indexes_of members)) true (index_known members 0 (omega arith)) refl;
      few = can.few;
    } in
    subst Tells (sym o.is) tells

-- THE EFFORT

-- a member's work is below its life
member_cost : (pages : ℕ) (plan : ScanPlan) (shown : Shown) (snap : ℕ) → lane_work plan shown snap no_lane + 256 * pages + 62 ≤ member_life pages plan shown snap
member_cost pages plan shown snap =
    let few = filter_length (is_in plan.range) (shown.entries plan.index snap) in
    omega arith

members_cost : (pages : ℕ) (plans : List ScanPlan) (shown : Shown) (snap : ℕ) → planned_work plans shown snap ≤ members_life pages plans shown snap
members_cost pages [] shown snap = omega arith
members_cost pages (plan ∷ plans) shown snap =
    let one = member_cost pages plan shown snap in
    let more = members_cost pages plans shown snap in
    omega arith

some_cost : (pages : ℕ) (plans : List ScanPlan) (shown : Shown) (snap : ℕ) → 1 ≤ length plans → lane_work (plan_at plans 0) shown snap no_lane + planned_work (drop 1 plans) shown snap + 256 * pages + 62 ≤ members_life pages plans shown snap
some_cost pages [] shown snap some = absurd (omega arith)
some_cost pages (plan ∷ plans) shown snap some =
    let one = member_cost pages plan shown snap in
    let more = members_cost pages plans shown snap in
    omega arith

pub opened_life : (table snap : ℕ) (only : List (List Atom)) (members : List ScanPlan) (cursor opening : ℕ) (u : Unioned) (shown : Shown) → Opened table snap only members cursor opening (shown.pages table snap) u → IsTable (shown.rows table snap) (shown.pages table snap) → 1 ≤ length members → effort u shown < life_of table snap members shown
opened_life table snap only members cursor opening u shown o table_there some =
    let is = ap (λ (x : Unioned). effort x shown) o.is in
    let rows = rows_within (shown.rows table snap) (32 * shown.pages table snap) table_there.ascend table_there.within in
    let whole = o.whole (shown.rows table snap) (shown.pages table snap) in
    let cost = some_cost (shown.pages table snap) members shown snap some in
    omega arith
