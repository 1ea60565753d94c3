-- What the scans under way hold stays drawn from the entries that a reader shows.
use Rattle.std.proofs.Common.{◌≡◌, ℕ, ◌<◌, List, [], ◌++◌, length, Bool, true, ◌||◌, refl, ap, sym, ◌∙◌, subst, Option, Some, None, IfSome, IsPermutation, nat_eq}
use Rattle.std.proofs.lemmas.List.Sorted.{list_any-IsPermutation}
use Rattle.std.proofs.Math.Bool.{or-false}
use Rattle.rv_value.specs.declared.record.IndexEntry.{IndexEntry}
use Rattle.rv_value.proofs.Tests.{some_at}
use Rattle.rv_keylist.specs.Keys.{has_key}
use Rattle.rv_keylist.specs.Marks.{may_key}
use Rattle.rv_keylist.proofs.Bits.{may_key-never_denies}
use Rattle.rv_keylist.proofs.Narrow.{it_stays}
use Rattle.rv_restrict.specs.Parts.{Parted}
use Rattle.rv_reader.specs.Leaves.{run_after, run_from}
use Rattle.rv_reader.specs.Shown.{Shown}
use Rattle.rv_jscan.specs.declared.jscan.ScanPlan.{ScanPlan}
use Rattle.rv_jscan.specs.Entries.{Apart, Disjoint, has_entry}
use Rattle.rv_jscan.specs.Joint.{passing, plan_at}
use Rattle.rv_jscan.specs.Lanes.{Laned, passed}
use Rattle.rv_jscan.specs.Pieces.{Pieced, kept_by, may}
use Rattle.rv_jscan.specs.Steps.{HasEntries, held_next}
use Rattle.rv_jscan.proofs.Kept.{found_or_ahead, fresh_after, narrowed_fresh}
use Rattle.rv_jscan.proofs.Parts.{Apart-run}
use Rattle.rv_race.specs.declared.running.Runner.{Runner}
use Rattle.rv_race.specs.declared.running.Running.{Running}
use Rattle.rv_final.specs.LaneWork.{ahead}
use Rattle.rv_final.proofs.LaneWork.{ahead_split}
use Rattle.rv_race.specs.Raced.{Covers, PlansFit, RunnerFits, RunningFits}
use Rattle.rv_race.specs.Rulings.{narrowed_by}
use Rattle.rv_race.specs.Ways.{advanced, begun, followed, has_next, turned, turned_to}
use Rattle.rv_race.proofs.Ways.{advanced_as, followed_as}

-- A scan that begins.

pub begun_fits : (plans : List ScanPlan) (owed : ℕ → Bool) (shown : Shown) (snap i : ℕ) → PlansFit plans owed shown snap → i < length plans → RunnerFits plans owed shown snap (begun i)
begun_fits plans owed shown snap i p l = record {
  there = l;
  lane = record { apart = p.apart i l; fresh = λ n. refl; drawn = tt };
  builds = λ n o. p.entered i l n o;
}

-- A piece is accepted.

-- a list that covers what is owed denies none of it
pub covered_may : (list : Option (List ℕ)) (owed : ℕ → Bool) → IfSome list (Covers owed) → (n : ℕ) → owed n ≡ true → may list n ≡ true
covered_may None owed c n o = refl
covered_may (Some keys) owed c n o = may_key-never_denies n keys (c n o)

-- what stands in the list with what is kept of the leaf, or behind the leaf
builds_on : (plan : ScanPlan) (shown : Shown) (snap : ℕ) (l : Laned) (piece : Pieced) (admits : ℕ → Bool) (after : List IndexEntry) (n : ℕ) → piece.part ≡ plan.part → ahead plan shown snap l ≡ piece.entries ++ after → admits n ≡ true → (has_key n l.building || has_entry n (passing plan.part (ahead plan shown snap l))) ≡ true → (has_key n (l.building ++ kept_by admits piece.part piece.entries) || has_entry n (passing plan.part after)) ≡ true
builds_on plan shown snap l piece admits after n part parts admitted b =
    let split : (has_key n l.building || has_entry n (passing plan.part (piece.entries ++ after))) ≡ true = subst (λ (es : List IndexEntry). (has_key n l.building || has_entry n (passing plan.part es)) ≡ true) parts b in
    subst (λ (p : Parted). (has_key n (l.building ++ kept_by admits p piece.entries) || has_entry n (passing plan.part after)) ≡ true) (sym part) (found_or_ahead l.building admits plan.part n piece.entries after split admitted)

-- one that is not the last of its scan
pub passed_fits : (plans : List ScanPlan) (owed : ℕ → Bool) (shown : Shown) (snap : ℕ) (run : Runner) (admits : ℕ → Bool) (piece : Pieced) (cut : IndexEntry) → RunnerFits plans owed shown snap run → piece.part ≡ (plan_at plans run.scan).part → HasEntries run.lane.held piece.entries → held_next run.lane.held ≡ Some cut → ((n : ℕ) → owed n ≡ true → admits n ≡ true) → RunnerFits plans owed shown snap (record run { lane = passed admits piece run.lane })
passed_fits plans owed shown snap run admits piece cut f part has next admitted =
    let plan = plan_at plans run.scan in
    let all = shown.entries plan.index snap in
    let after = run_from all plan.range (Some cut) in
    let built = run.lane.building ++ kept_by admits piece.part piece.entries in
    let parts : ahead plan shown snap run.lane ≡ piece.entries ++ after = ahead_split plan shown snap run.lane.place run.lane.held piece.entries has f.lane.drawn ∙ ap (λ (o : Option IndexEntry). piece.entries ++ run_after all plan.range o) next in
    let fits : RunnerFits plans owed shown snap (record run { lane = record { place = Some cut; held = None; building = built } }) = record {
      there = f.there;
      lane = record {
        apart = f.lane.apart;
        fresh = fresh_after run.lane.building admits piece.part piece.entries after (subst Apart parts (Apart-run all plan.range run.lane.place f.lane.apart)) (subst (Disjoint run.lane.building) parts f.lane.fresh);
        drawn = tt;
      };
      builds = λ n o. builds_on plan shown snap run.lane piece admits after n part parts (admitted n o) (f.builds n o);
    } in
    subst (λ (place : Option IndexEntry). RunnerFits plans owed shown snap (record run { lane = record { place = place; held = None; building = built } })) (sym next) fits

-- the last of its scan: the list has each row that is owed
pub passed_all : (plans : List ScanPlan) (owed : ℕ → Bool) (shown : Shown) (snap : ℕ) (run : Runner) (admits : ℕ → Bool) (piece : Pieced) (keys : List ℕ) → RunnerFits plans owed shown snap run → piece.part ≡ (plan_at plans run.scan).part → HasEntries run.lane.held piece.entries → held_next run.lane.held ≡ None → ((n : ℕ) → owed n ≡ true → admits n ≡ true) → IsPermutation (run.lane.building ++ kept_by admits piece.part piece.entries) keys → Covers owed keys
passed_all plans owed shown snap run admits piece keys f part has next admitted perm n o =
    let plan = plan_at plans run.scan in
    let all = shown.entries plan.index snap in
    let built = run.lane.building ++ kept_by admits piece.part piece.entries in
    let parts : ahead plan shown snap run.lane ≡ piece.entries ++ [] = ahead_split plan shown snap run.lane.place run.lane.held piece.entries has f.lane.drawn ∙ ap (λ (c : Option IndexEntry). piece.entries ++ run_after all plan.range c) next in
    let b = builds_on plan shown snap run.lane piece admits [] n part parts (admitted n o) (f.builds n o) in
    sym (list_any-IsPermutation (nat_eq n) built keys perm) ∙ sym (or-false (has_key n built)) ∙ b

-- A list that covers what is owed narrows what another scan has.

pub narrowed_fits : (plans : List ScanPlan) (owed : ℕ → Bool) (shown : Shown) (snap : ℕ) (keys : List ℕ) (o : Option Runner) → Covers owed keys → IfSome o (RunnerFits plans owed shown snap) → IfSome (narrowed_by keys o) (RunnerFits plans owed shown snap)
narrowed_fits plans owed shown snap keys None c f = tt
narrowed_fits plans owed shown snap keys (Some run) c f = record {
  there = f.there;
  lane = record {
    apart = f.lane.apart;
    fresh = narrowed_fresh (λ k. may_key k keys) run.lane.building (ahead (plan_at plans run.scan) shown snap run.lane) f.lane.fresh;
    drawn = f.lane.drawn;
  };
  builds = λ n o. ap (λ (b : Bool). b || has_entry n (passing (plan_at plans run.scan).part (ahead (plan_at plans run.scan) shown snap run.lane))) (it_stays (λ k. may_key k keys) n run.lane.building (may_key-never_denies n keys (c n o))) ∙ f.builds n o;
}

pub narrowed_unheld : (keys : List ℕ) (o : Option Runner) → IfSome o (λ r. r.lane.held ≡ None) → IfSome (narrowed_by keys o) (λ r. r.lane.held ≡ None)
narrowed_unheld keys None u = tt
narrowed_unheld keys (Some run) u = u

-- The scans under way.

pub turned_running : (plans : List ScanPlan) (owed : ℕ → Bool) (shown : Shown) (snap : ℕ) (w : Running) → RunningFits plans owed shown snap w → w.turn.lane.held ≡ None → RunningFits plans owed shown snap (turned w)
turned_running plans owed shown snap w f none = by w.other f.other f.unheld
  where
    by : (o : Option Runner) → IfSome o (RunnerFits plans owed shown snap) → IfSome o (λ r. r.lane.held ≡ None) → RunningFits plans owed shown snap (turned_to o w)
    by None g u = f
    by (Some other) g u = record { turn = g; other = f.turn; unheld = none }

pub advanced_running : (plans : List ScanPlan) (owed : ℕ → Bool) (shown : Shown) (snap : ℕ) (listed : Bool) (w : Running) → PlansFit plans owed shown snap → RunningFits plans owed shown snap w → has_next (length plans) w ≡ true → RunningFits plans owed shown snap (advanced listed (length plans) w)
advanced_running plans owed shown snap listed w p f h = advanced_as (RunningFits plans owed shown snap) listed (length plans) w alone (λ l. record { turn = alone.turn; other = begun_fits plans owed shown snap (followed w).next p l; unheld = refl })
  where
    alone : RunningFits plans owed shown snap (followed w)
    alone = followed_as (RunningFits plans owed shown snap) (length plans) w h
        (λ other e. record { turn = some_at (RunnerFits plans owed shown snap) w.other other e f.other; other = tt; unheld = tt })
        (λ e l. record { turn = begun_fits plans owed shown snap w.next p l; other = tt; unheld = tt })
