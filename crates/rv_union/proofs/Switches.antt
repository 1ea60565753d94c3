-- A change of the member, of the keys or of the control leaves the fit and the rest.
use Rattle.std.proofs.Common.{◌≡◌, ℕ, ◌+◌, ◌<◌, ◌≤◌, length, drop, Bool, true, false, ◌||◌, refl, ap, sym, ◌∙◌, arith, subst, Some}
use Rattle.std.specs.Prelude.{if◌then◌else◌}
use Rattle.std.proofs.lemmas.Bool.{ltb-true, ltb-false}
use Rattle.rv_value.proofs.Tests.{no_way}
use Rattle.rv_keylist.specs.Keys.{has_key}
use Rattle.rv_judge.specs.declared.events.Control.{Control}
use Rattle.rv_judge.specs.declared.events.Control.TheVariants.{BackgroundAlone, FinalList, FinalTable}
use Rattle.rv_judge.specs.declared.events.Event.TheVariants.{Scan}
use Rattle.rv_judge.specs.declared.events.Happening.TheVariants.{ScanEnded, Ruled}
use Rattle.rv_judge.specs.declared.events.Strategy.TheVariants.{Union}
use Rattle.rv_judge.specs.declared.events.Trace.{Trace}
use Rattle.rv_judge.specs.declared.judging.Verdict.{Verdict}
use Rattle.rv_judge.specs.declared.judging.Verdict.TheVariants.{Continue, AbandonScan, AbandonForeground, AbandonBackground}
use Rattle.rv_judge.specs.Course.{next_control}
use Rattle.rv_reader.specs.Shown.{Shown}
use Rattle.rv_scan.specs.Places.{Place}
use Rattle.rv_jscan.specs.Joint.{plan_at}
use Rattle.rv_jscan.specs.Lanes.{LaneFits, Laned, no_lane}
use Rattle.rv_final.specs.Rest.{rest_by}
use Rattle.rv_final.specs.Stage.{LastFits, Unbegun}
use Rattle.rv_final.proofs.Endings.{list_whole, table_whole}
use Rattle.rv_union.specs.Rulings.{dropped, forgotten, going_on, has_next, index_of, listed, next_member, over, told, told_scan, was_begun}
use Rattle.rv_union.specs.Unioned.{AreMet, Covers, UnionFits, Unioned, builds, found, meets_any, owed, rest, rows_of}
use Rattle.rv_final.specs.Shell.{left_by, scanning, unfronted}
use Rattle.rv_final.proofs.Shells.{only_scanning}
use Rattle.rv_union.proofs.Fits.{Gathers, begun_lane, next_met, none_met}

-- each row that qualifies is owed while members are scanned
pub rest_scanning : (u : Unioned) (shown : Shown) → scanning u.control ≡ true → rest u shown ≡ rest_by (λ n. true) u.only (rows_of u shown)
rest_scanning u shown h = ap (λ (c : Control). rest_by (left_by c (Some u.keys) u.at u.last (rows_of u shown)) u.only (rows_of u shown)) (only_scanning u.control h)

-- the fit, where the control, the final stage's parts and the trace are other ones
pub aside_fits : (u : Unioned) (c : Control) (at : ℕ) (last : Place) (t : Trace) (shown : Shown) → LastFits u.table u.snap last shown → (scanning c ≡ true → Unbegun at last) → (scanning c ≡ true → (n : ℕ) → owed u shown n ≡ true → found u shown n ≡ true) → (c ≡ FinalList → Covers (owed u shown) u.keys) → unfronted c ≡ true → UnionFits u shown → UnionFits (record u { control = c; at = at; last = last; trace = t }) shown
aside_fits u c at last t shown l unbegun finds covers stands f = record {
  shell = record { ascend = f.shell.ascend; read = f.shell.read; columns = f.shell.columns; last = l; unbegun = unbegun; stands = stands };
  members = f.members;
  there = f.there;
  lane = f.lane;
  finds = finds;
  covers = covers;
  listed = f.listed;
  building = f.building;
}

-- WHILE MEMBERS ARE SCANNED

-- what changes while the control stays
abbrev pub with_parts : Unioned → Unioned → Unioned
with_parts u new = record u { member = new.member; lane = new.lane; count = new.count; number = new.number; keys = new.keys; trace = new.trace }

-- what fits of the parts that change
pub record PartsFit (u new : Unioned) (shown : Shown) : Type 0 where
  pub there : new.member < length u.plans
  pub lane : LaneFits (plan_at u.plans new.member) shown u.snap new.lane
  pub finds : (n : ℕ) → owed u shown n ≡ true → (has_key n new.keys || (builds (plan_at u.plans new.member) shown u.snap new.lane n || meets_any (drop (new.member + 1) u.plans) shown u.snap n)) ≡ true
  pub listed : AreMet new.keys u.plans shown u.snap
  pub building : AreMet new.lane.building u.plans shown u.snap

pub moved_fits : (u new : Unioned) (shown : Shown) → new ≡ with_parts u new → scanning u.control ≡ true → UnionFits u shown → PartsFit u new shown → UnionFits new shown
moved_fits u new shown e back f p =
    let fits : UnionFits (with_parts u new) shown = record {
      shell = record { ascend = f.shell.ascend; read = f.shell.read; columns = f.shell.columns; last = f.shell.last; unbegun = f.shell.unbegun; stands = f.shell.stands };
      members = f.members;
      there = p.there;
      lane = p.lane;
      finds = λ h. p.finds;
      covers = λ h. absurd (let bad : true ≡ false = sym back ∙ ap scanning h in cc);
      listed = p.listed;
      building = p.building;
    } in
    subst (λ (x : Unioned). UnionFits x shown) (sym e) fits

pub moved_rest : (u new : Unioned) (shown : Shown) → new ≡ with_parts u new → scanning u.control ≡ true → rest new shown ≡ rest u shown
moved_rest u new shown e back = ap (λ (x : Unioned). rest x shown) e ∙ rest_scanning (with_parts u new) shown back ∙ sym (rest_scanning u shown back)

-- the fit and the rest of another union over the same reader
abbrev pub Stays : Unioned → Shown → Unioned → Type 0
Stays u shown new = UnionFits new shown × (rest new shown ≡ rest u shown)

pub moved_stays : (u new : Unioned) (shown : Shown) → new ≡ with_parts u new → scanning u.control ≡ true → UnionFits u shown → PartsFit u new shown → Stays u shown new
moved_stays u new shown e back f p = (moved_fits u new shown e back f p, moved_rest u new shown e back)

pub stays_on : (u mid new : Unioned) (shown : Shown) → Stays u shown mid → Stays mid shown new → Stays u shown new
stays_on u mid new shown a b = (b.0, b.1 ∙ a.1)

-- the parts stay
pub same_parts : (u : Unioned) (shown : Shown) → scanning u.control ≡ true → UnionFits u shown → PartsFit u u shown
same_parts u shown back f = record { there = f.there; lane = f.lane; finds = f.finds back; listed = f.listed; building = f.building }

-- THE LIST, OR THE TABLE

to_list : (u : Unioned) (t : Trace) (shown : Shown) → scanning u.control ≡ true → Covers (owed u shown) u.keys → UnionFits u shown → Stays u shown (record u { control = FinalList; trace = t })
to_list u t shown back c f = (
  aside_fits u FinalList u.at u.last t shown f.shell.last (λ h. no_way (sym h)) (λ h. no_way (sym h)) (λ h. c) refl f,
  list_whole u.only (rows_of u shown) (Some u.keys) u.at u.last (f.shell.unbegun back) (λ n q. c n q) ∙ sym (rest_scanning u shown back),
)

to_table : (u : Unioned) (t : Trace) (shown : Shown) → scanning u.control ≡ true → UnionFits u shown → Stays u shown (record (forgotten u) { control = FinalTable; trace = t })
to_table u t shown back f = (
  record {
    shell = record { ascend = f.shell.ascend; read = f.shell.read; columns = f.shell.columns; last = f.shell.last; unbegun = λ h. absurd (cc); stands = refl };
    members = f.members;
    there = f.there;
    lane = begun_lane u.plans (owed u shown) shown u.snap u.member f.members f.there;
    finds = λ h. absurd (cc);
    covers = λ h. absurd (cc);
    listed = record { met = λ n h. absurd (cc) };
    building = record { met = λ n h. absurd (cc) };
  },
  table_whole u.only (rows_of u shown) u.at u.last (f.shell.unbegun back) ∙ sym (rest_scanning u shown back),
)

-- where happenings lead

pub listed_leads : (u : Unioned) → scanning u.control ≡ true → next_control Union u.control (ScanEnded false true) ≡ FinalList
listed_leads u back = ap (λ (c : Control). next_control Union c (ScanEnded false true)) (only_scanning u.control back)

-- the verdicts that drop a union
abbrev pub drops : Verdict → Bool
drops Continue = false
drops AbandonScan = true
drops AbandonForeground = false
drops AbandonBackground = true

dropped_at : (v : Verdict) → drops v ≡ true → next_control Union BackgroundAlone (Ruled v false false) ≡ FinalTable
dropped_at Continue d = absurd (cc)
dropped_at AbandonScan d = refl
dropped_at AbandonForeground d = absurd (cc)
dropped_at AbandonBackground d = refl

pub dropped_leads : (u : Unioned) (v : Verdict) → drops v ≡ true → scanning u.control ≡ true → next_control Union u.control (Ruled v false false) ≡ FinalTable
dropped_leads u v d back = ap (λ (c : Control). next_control Union c (Ruled v false false)) (only_scanning u.control back) ∙ dropped_at v d

pub dropped_stays : (u : Unioned) (v : Verdict) (shown : Shown) → drops v ≡ true → scanning u.control ≡ true → UnionFits u shown → Stays u shown (dropped v u)
dropped_stays u v shown d back f = subst (λ (c : Control). Stays u shown (record (forgotten u) { control = c; trace = (dropped v u).trace })) (sym (dropped_leads u v d back)) (to_table u (dropped v u).trace shown back f)

-- A MEMBER IS OVER

-- the trace alone tells the scan
pub told_parts : (u : Unioned) → told_scan u ≡ record u { trace = (told_scan u).trace }
told_parts u = elim (was_begun (index_of u) u.trace.events.items) as (λ b. (if b then u else told (Scan (index_of u)) u) ≡ record u { trace = (if b then u else told (Scan (index_of u)) u).trace }) [
  | true ↦ refl
  | false ↦ refl
]

-- what holds where the next member begins, and where the list is fetched, holds where a member is over
pub over_as : (P : Unioned → Type 0) (u : Unioned) → (u.member + 1 < length u.plans → P (going_on u)) → (length u.plans ≤ u.member + 1 → P (listed u)) → P (over u)
over_as P u on off = elim (has_next u) as (λ b. has_next u ≡ b → P (if b then going_on u else listed u)) [
  | true ↦ λ e. on (ltb-true (u.member + 1) (length u.plans) e)
  | false ↦ λ e. off (ltb-false (u.member + 1) (length u.plans) e)
] refl

going_on_stays : (u : Unioned) (shown : Shown) → scanning u.control ≡ true → u.lane ≡ no_lane → UnionFits u shown → Gathers u u.keys shown → u.member + 1 < length u.plans → Stays u shown (going_on u)
going_on_stays u shown back none f g l =
    let next = record (next_member u) { trace = (going_on u).trace } in
    let k = u.member + 1 in
    subst (Stays u shown) (sym (told_parts (next_member u))) (moved_stays u next shown refl back f (record {
      there = l;
      lane = subst (LaneFits (plan_at u.plans k) shown u.snap) (sym none) (begun_lane u.plans (owed u shown) shown u.snap k f.members l);
      finds = λ n o. subst (λ (lane : Laned). (has_key n u.keys || (builds (plan_at u.plans k) shown u.snap lane n || meets_any (drop (k + 1) u.plans) shown u.snap n)) ≡ true) (sym none) (ap (λ (b : Bool). has_key n u.keys || b) (sym (next_met u.plans k shown u.snap n l)) ∙ g.each n o);
      listed = g.met;
      building = f.building;
    }))

listed_stays : (u : Unioned) (shown : Shown) → scanning u.control ≡ true → UnionFits u shown → Gathers u u.keys shown → length u.plans ≤ u.member + 1 → Stays u shown (listed u)
listed_stays u shown back f g l =
    let whole : length u.plans ≡ u.member + 1 = let there = f.there in omega arith in
    let covers : Covers (owed u shown) u.keys = λ n o. only_key (has_key n u.keys) (meets_any (drop (u.member + 1) u.plans) shown u.snap n) (none_met u.plans (u.member + 1) shown u.snap n whole) (g.each n o) in
    subst (λ (c : Control). Stays u shown (record u { control = c; trace = (listed u).trace })) (sym (listed_leads u back)) (to_list u (listed u).trace shown back covers f)
  where
    only_key : (a b : Bool) → b ≡ false → (a || b) ≡ true → a ≡ true
    only_key a b off h = grind arith

pub over_stays : (u : Unioned) (shown : Shown) → scanning u.control ≡ true → u.lane ≡ no_lane → UnionFits u shown → Gathers u u.keys shown → Stays u shown (over u)
over_stays u shown back none f g = over_as (Stays u shown) u (going_on_stays u shown back none f g) (listed_stays u shown back f g)
