-- What a union holds stays drawn from the entries that a reader shows.
use Rattle.std.proofs.Common.{◌≡◌, ℕ, ◌+◌, ◌<◌, List, [], ◌∷◌, ◌++◌, length, drop, filter, Bool, true, false, not, cond, ◌&&◌, ◌||◌, refl, ap, sym, ◌∙◌, arith, subst, Option, Some, None, IfSome, IsPermutation, nat_eq, zero, suc}
use Rattle.std.proofs.lemmas.List.{drop_more}
use Rattle.std.specs.List.{list_any}
use Rattle.std.proofs.lemmas.List.Elements.{filter-append}
use Rattle.std.proofs.lemmas.List.Sorted.{list_any-IsPermutation}
use Rattle.std.specs.Cmp.{first_so}
use Rattle.std.proofs.Math.Bool.{or-false, or_assoc}
use Rattle.std.proofs.lemmas.Bool.{or_left, or_right}
use Rattle.rv_value.proofs.Tests.{either}
use Rattle.rv_value.specs.declared.record.IndexEntry.{IndexEntry}
use Rattle.rv_keylist.specs.Keys.{has_key}
use Rattle.rv_restrict.specs.Parts.{Parted, passes}
use Rattle.rv_reader.specs.Entries.{comes_before, is_in}
use Rattle.rv_reader.specs.Leaves.{run_after, run_from}
use Rattle.rv_reader.specs.Shown.{Shown}
use Rattle.rv_keylist.proofs.Onces.{key_append}
use Rattle.rv_jscan.specs.declared.jscan.ScanPlan.{ScanPlan}
use Rattle.rv_jscan.specs.Entries.{Apart, Disjoint, has_entry}
use Rattle.rv_jscan.specs.Joint.{meets, no_plan, passing, plan_at}
use Rattle.rv_jscan.specs.Lanes.{IsLeafAt, LaneFits, Laned, no_lane, passed}
use Rattle.rv_jscan.specs.Pieces.{Pieced, kept_by}
use Rattle.rv_jscan.specs.Steps.{HasEntries, held_next}
use Rattle.rv_jscan.proofs.Kept.{found_or_ahead, fresh_after, kept_has}
use Rattle.rv_jscan.proofs.Parts.{Apart-run, has_append}
use Rattle.rv_union.specs.Given.{Awaits}
use Rattle.rv_union.specs.Rulings.{kept_of, lacks}
use Rattle.rv_final.specs.LaneWork.{ahead}
use Rattle.rv_union.specs.Unioned.{AreMet, MembersFit, UnionFits, Unioned, builds, found, meets_any, owed, present}
use Rattle.rv_final.proofs.LaneWork.{ahead_split}

-- A member that begins.

pub begun_lane : (plans : List ScanPlan) (owed : ℕ → Bool) (shown : Shown) (snap i : ℕ) → MembersFit plans owed shown snap → i < length plans → LaneFits (plan_at plans i) shown snap no_lane
begun_lane plans owed shown snap i m l = record { apart = m.apart i l; fresh = λ n. refl; drawn = tt }

-- it has all that meets it ahead
begun_builds : (plan : ScanPlan) (shown : Shown) (snap n : ℕ) → builds plan shown snap no_lane n ≡ meets plan shown snap n
begun_builds plan shown snap n = refl

-- A piece is accepted.

-- what stands in the list with what is kept of the leaf, or behind the leaf
builds_on : (plan : ScanPlan) (shown : Shown) (snap : ℕ) (l : Laned) (piece : Pieced) (admits : ℕ → Bool) (after : List IndexEntry) (n : ℕ) → piece.part ≡ plan.part → ahead plan shown snap l ≡ piece.entries ++ after → admits n ≡ true → builds plan shown snap l n ≡ true → (has_key n (l.building ++ kept_by admits piece.part piece.entries) || has_entry n (passing plan.part after)) ≡ true
builds_on plan shown snap l piece admits after n part parts admitted b =
    let split : (has_key n l.building || has_entry n (passing plan.part (piece.entries ++ after))) ≡ true = subst (λ (es : List IndexEntry). (has_key n l.building || has_entry n (passing plan.part es)) ≡ true) parts b in
    subst (λ (p : Parted). (has_key n (l.building ++ kept_by admits p piece.entries) || has_entry n (passing plan.part after)) ≡ true) (sym part) (found_or_ahead l.building admits plan.part n piece.entries after split admitted)

-- where the member goes on
pub passed_lane : (plan : ScanPlan) (shown : Shown) (snap : ℕ) (l : Laned) (admits : ℕ → Bool) (piece : Pieced) (cut : IndexEntry) → LaneFits plan shown snap l → HasEntries l.held piece.entries → held_next l.held ≡ Some cut → LaneFits plan shown snap (passed admits piece l)
passed_lane plan shown snap l admits piece cut f has next =
    let all = shown.entries plan.index snap in
    let after = run_from all plan.range (Some cut) in
    let built = l.building ++ kept_by admits piece.part piece.entries in
    let parts : ahead plan shown snap l ≡ piece.entries ++ after = ahead_split plan shown snap l.place l.held piece.entries has f.drawn ∙ ap (λ (o : Option IndexEntry). piece.entries ++ run_after all plan.range o) next in
    let fits : LaneFits plan shown snap (record { place = Some cut; held = None; building = built }) = record {
      apart = f.apart;
      fresh = fresh_after l.building admits piece.part piece.entries after (subst Apart parts (Apart-run all plan.range l.place f.apart)) (subst (Disjoint l.building) parts f.fresh);
      drawn = tt;
    } in
    subst (λ (place : Option IndexEntry). LaneFits plan shown snap (record { place = place; held = None; building = built })) (sym next) fits

-- a row that was put together, is built or ahead, or met later; it is so with what was kept, if the list that the row is not
-- in admits it
pub still_found : (key before now later : Bool) → (key || (before || later)) ≡ true → (not key ≡ true → before ≡ true → now ≡ true) → (key || (now || later)) ≡ true
still_found true before now later h on = refl
still_found false true now later h on = or_left now later (on refl refl)
still_found false false now later h on = or_right now later h

pub passed_found : (u : Unioned) (piece : Pieced) (cut : IndexEntry) (shown : Shown) (n : ℕ) → piece.part ≡ (present u).part → HasEntries u.lane.held piece.entries → IfSome u.lane.held (IsLeafAt (present u) shown u.snap u.lane.place) → held_next u.lane.held ≡ Some cut → found u shown n ≡ true → (has_key n u.keys || (builds (present u) shown u.snap (passed (lacks u.keys) piece u.lane) n || meets_any (drop (u.member + 1) u.plans) shown u.snap n)) ≡ true
passed_found u piece cut shown n part has drawn next f =
    let plan = present u in
    let all = shown.entries plan.index u.snap in
    let after = run_from all plan.range (Some cut) in
    let l = u.lane in
    let built = l.building ++ kept_by (lacks u.keys) piece.part piece.entries in
    let later = meets_any (drop (u.member + 1) u.plans) shown u.snap n in
    let parts : ahead plan shown u.snap l ≡ piece.entries ++ after = ahead_split plan shown u.snap l.place l.held piece.entries has drawn ∙ ap (λ (o : Option IndexEntry). piece.entries ++ run_after all plan.range o) next in
    let now : (has_key n u.keys || ((has_key n built || has_entry n (passing plan.part after)) || later)) ≡ true = still_found (has_key n u.keys) (builds plan shown u.snap l n) (has_key n built || has_entry n (passing plan.part after)) later f (λ admitted b. builds_on plan shown u.snap l piece (lacks u.keys) after n part parts admitted b) in
    subst (λ (place : Option IndexEntry). (has_key n u.keys || ((has_key n built || has_entry n (passing plan.part (run_from all plan.range place))) || later)) ≡ true) (sym next) now

-- WHAT WAS BUILT IS OF ROWS THAT MEET THE MEMBER

-- entries that are left are entries

any_filter : (f q : IndexEntry → Bool) (xs : List IndexEntry) → list_any f (filter q xs) ≡ list_any (λ (e : IndexEntry). q e && f e) xs
any_filter f q [] = refl
any_filter f q (e ∷ xs) = elim (q e) as (λ b. list_any f (cond b (e ∷ filter q xs) (filter q xs)) ≡ ((b && f e) || list_any (λ (x : IndexEntry). q x && f x) xs)) [
  | true ↦ ap (λ (b : Bool). f e || b) (any_filter f q xs)
  | false ↦ any_filter f q xs
]

any_more : (p f : IndexEntry → Bool) (xs : List IndexEntry) → list_any (λ (e : IndexEntry). p e && f e) xs ≡ true → list_any f xs ≡ true
any_more p f [] h = h
any_more p f (e ∷ xs) h = step (p e) (f e) (list_any (λ (x : IndexEntry). p x && f x) xs) (list_any f xs) h (any_more p f xs)
  where
    step : (a b c d : Bool) → ((a && b) || c) ≡ true → (c ≡ true → d ≡ true) → (b || d) ≡ true
    step true true c d h f = refl
    step true false c d h f = f h
    step false true c d h f = refl
    step false false c d h f = f h

left_entry : (n : ℕ) (p q r : IndexEntry → Bool) (xs : List IndexEntry) → has_entry n (filter q (filter r (filter p xs))) ≡ true → has_entry n (filter q (filter r xs)) ≡ true
left_entry n p q r xs h =
    let is : IndexEntry → Bool = λ e. nat_eq n e.row.0 in
    let passing_is : IndexEntry → Bool = λ e. q e && is e in
    let all : list_any (λ (e : IndexEntry). p e && (r e && passing_is e)) xs ≡ true = sym (any_filter (λ e. r e && passing_is e) p xs) ∙ sym (any_filter passing_is r (filter p xs)) ∙ sym (any_filter is q (filter r (filter p xs))) ∙ h in
    any_filter is q (filter r xs) ∙ any_filter passing_is r xs ∙ any_more p (λ e. r e && passing_is e) xs all

-- what is ahead of a scan is of its run
ahead_met : (plan : ScanPlan) (shown : Shown) (snap : ℕ) (place : Option IndexEntry) (n : ℕ) → has_entry n (passing plan.part (run_from (shown.entries plan.index snap) plan.range place)) ≡ true → meets plan shown snap n ≡ true
ahead_met plan shown snap None n h = h
ahead_met plan shown snap (Some start) n h = left_entry n (λ (e : IndexEntry). not (comes_before e start)) (λ (e : IndexEntry). passes plan.part e.key) (is_in plan.range) (shown.entries plan.index snap) h

in_front : (part : Parted) (n : ℕ) (xs ys : List IndexEntry) → has_entry n (passing part xs) ≡ true → has_entry n (passing part (xs ++ ys)) ≡ true
in_front part n xs ys h = ap (has_entry n) (filter-append (λ (e : IndexEntry). passes part e.key) xs ys) ∙ has_append n (passing part xs) (passing part ys) ∙ or_left (has_entry n (passing part xs)) (has_entry n (passing part ys)) h

any_at : (plans : List ScanPlan) (i : ℕ) (shown : Shown) (snap n : ℕ) → i < length plans → meets (plan_at plans i) shown snap n ≡ true → meets_any plans shown snap n ≡ true
any_at [] i shown snap n l h = absurd (omega arith)
any_at (p ∷ plans) zero shown snap n l h = or_left (meets p shown snap n) (meets_any plans shown snap n) h
any_at (p ∷ plans) (suc i) shown snap n l h = or_right (meets p shown snap n) (meets_any plans shown snap n) (any_at plans i shown snap n (omega arith) h)

-- of the leaf that the present member holds
pub passed_met : (u : Unioned) (piece : Pieced) (shown : Shown) → Awaits u piece → UnionFits u shown → AreMet (u.lane.building ++ kept_of u piece) u.plans shown u.snap
passed_met u piece shown a f = record { met = λ n h. either (has_key n u.lane.building) (has_key n (kept_of u piece)) (sym (key_append n u.lane.building (kept_of u piece)) ∙ h) (λ b. f.building.met n b) (λ k. met n k) }
  where
    met : (n : ℕ) → has_key n (kept_of u piece) ≡ true → meets_any u.plans shown u.snap n ≡ true
    met n k =
        let plan = present u in
        let entered : has_entry n (passing piece.part piece.entries) ≡ true = first_so (has_entry n (passing piece.part piece.entries)) (lacks u.keys n) (sym (kept_has (lacks u.keys) piece.part n piece.entries) ∙ k) in
        let after = run_after (shown.entries plan.index u.snap) plan.range (held_next u.lane.held) in
        let parts = ahead_split plan shown u.snap u.lane.place u.lane.held piece.entries a.own.entries f.lane.drawn in
        let own : has_entry n (passing plan.part piece.entries) ≡ true = subst (λ (p : Parted). has_entry n (passing p piece.entries) ≡ true) a.own.part entered in
        let there : has_entry n (passing plan.part (ahead plan shown u.snap u.lane)) ≡ true = subst (λ (es : List IndexEntry). has_entry n (passing plan.part es) ≡ true) (sym parts) (in_front plan.part n piece.entries after own) in
        any_at u.plans u.member shown u.snap n f.there (ahead_met plan shown u.snap u.lane.place n there)

-- A MEMBER COMPLETED

-- what is known of the keys of all members up to the present one
pub record Gathers (u : Unioned) (keys : List ℕ) (shown : Shown) : Type 0 where
  pub each : (n : ℕ) → owed u shown n ≡ true → (has_key n keys || meets_any (drop (u.member + 1) u.plans) shown u.snap n) ≡ true
  pub met : AreMet keys u.plans shown u.snap

pub last_gathers : (u : Unioned) (piece : Pieced) (keys : List ℕ) (shown : Shown) → Awaits u piece → held_next u.lane.held ≡ None → IsPermutation (u.keys ++ (u.lane.building ++ kept_of u piece)) keys → UnionFits u shown → Gathers u keys shown
last_gathers u piece keys shown a next perm f = record {
  each = λ n o. ap (λ (b : Bool). b || later n) (is_key n) ∙ or_assoc (has_key n u.keys) (has_key n built) (later n) ∙ all n (f.finds a.under_way n o);
  met = record { met = λ n h. either (has_key n u.keys) (has_key n built) (sym (is_key n) ∙ h) (λ b. f.listed.met n b) (λ b. (passed_met u piece shown a f).met n b) };
}
  where
    built : List ℕ
    built = u.lane.building ++ kept_of u piece

    later : ℕ → Bool
    later n = meets_any (drop (u.member + 1) u.plans) shown u.snap n

    is_key : (n : ℕ) → has_key n keys ≡ (has_key n u.keys || has_key n built)
    is_key n = sym (list_any-IsPermutation (nat_eq n) (u.keys ++ built) keys perm) ∙ key_append n u.keys built

    parts : ahead (present u) shown u.snap u.lane ≡ piece.entries ++ []
    parts = ahead_split (present u) shown u.snap u.lane.place u.lane.held piece.entries a.own.entries f.lane.drawn ∙ ap (λ (o : Option IndexEntry). piece.entries ++ run_after (shown.entries (present u).index u.snap) (present u).range o) next

    all : (n : ℕ) → found u shown n ≡ true → (has_key n u.keys || (has_key n built || later n)) ≡ true
    all n h = still_found (has_key n u.keys) (builds (present u) shown u.snap u.lane n) (has_key n built) (later n) h (λ admitted b. sym (or-false (has_key n built)) ∙ builds_on (present u) shown u.snap u.lane piece (lacks u.keys) [] n a.own.part parts admitted b)

-- the next member has its part of what is met later
pub next_met : (plans : List ScanPlan) (k : ℕ) (shown : Shown) (snap n : ℕ) → k < length plans → meets_any (drop k plans) shown snap n ≡ (builds (plan_at plans k) shown snap no_lane n || meets_any (drop (k + 1) plans) shown snap n)
next_met plans k shown snap n l = ap (λ (ps : List ScanPlan). meets_any ps shown snap n) (drop_more plans k no_plan l)

-- behind the last member none is met
pub none_met : (plans : List ScanPlan) (k : ℕ) (shown : Shown) (snap n : ℕ) → length plans ≡ k → meets_any (drop k plans) shown snap n ≡ false
none_met [] zero shown snap n e = refl
none_met [] (suc k) shown snap n e = absurd (omega arith)
none_met (p ∷ plans) zero shown snap n e = absurd (omega arith)
none_met (p ∷ plans) (suc k) shown snap n e = none_met plans k shown snap n (omega arith)
