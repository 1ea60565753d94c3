-- What the calls on the scan of the turn do to the race.
use Rattle.std.proofs.Common.{◌≡◌, ◌↔◌, ℕ, ◌-◌, ◌<◌, ◌++◌, List, length, length-append, Bool, true, false, not, ◌&&◌, refl, ap, sym, ◌∙◌, arith, subst, Option, Some, None, is_some, IsSome, IfSome, IsPermutation, IsTrue, min, slice_set}
use Rattle.std.specs.List.Sorted.{IsStrictlyIncreasing}
use Rattle.std.specs.Cmp.{first_so}
use Rattle.rv_value.specs.declared.record.IndexEntry.{IndexEntry}
use Rattle.rv_judge.specs.declared.judging.Facts.{Facts}
use Rattle.rv_judge.specs.Counting.{one_more}
use Rattle.rv_judge.specs.Verdicts.{Ruling}
use Rattle.rv_keylist.specs.Listed.{Listed}
use Rattle.rv_jscan.specs.declared.piece.PieceId.{PieceId}
use Rattle.rv_jscan.specs.declared.jscan.ScanPlan.{ScanPlan}
use Rattle.rv_jscan.specs.Joint.{counts_at, is_empty_list}
use Rattle.rv_jscan.specs.Lanes.{IsOwn, Laned, passed}
use Rattle.rv_jscan.specs.Pieces.{Pieced, may}
use Rattle.rv_jscan.specs.Steps.{piece_counted}
use Rattle.rv_race.specs.declared.running.Runner.{Runner}
use Rattle.rv_race.specs.declared.running.Running.{Running}
use Rattle.rv_race.specs.Given.{Awaits, next_id, turn_lane, turn_plan, turn_scan, with_lane}
use Rattle.rv_race.specs.Raced.{IsRace, Raced}
use Rattle.rv_final.specs.Shell.{scanning}
use Rattle.rv_race.specs.Rulings.{Completes, IsRuled, Obeys, accepted, completed, ended, facts_of, kept_of, listed, lowered, narrowed, recounted, told_list}
use Rattle.rv_race.specs.Ways.{advanced, has_next, lower, lower_of}
use Rattle.rv_race.proofs.Ways.{advanced_within}

-- The positions.

pub lower_within : (r : Raced) (n : ℕ) → n ≡ lower r.running → r.running.turn.scan < length r.plans → n < length r.plans
lower_within r n e l = subst (λ (k : ℕ). k < length r.plans) (sym e) (by r.running.other)
  where
    smaller : (a b m : ℕ) → a < m → min a b < m
    smaller a b m h = omega arith

    by : (o : Option Runner) → lower_of r.running.turn o < length r.plans
    by None = l
    by (Some other) = smaller r.running.turn.scan other.scan (length r.plans) l

pub advanced_race : (plans : List ScanPlan) (list : Option Listed) (keys : Option (List ℕ)) (listed : Bool) (w new : Running) (planned : ℕ) → IsRace plans w list → (has_next (length plans) w && not (is_empty_list keys)) ≡ true → planned ≡ length plans → new ≡ advanced listed planned w → IsRace plans new list
advanced_race plans list keys listed w new planned i h p e = subst (λ (x : Running). IsRace plans x list) (sym (e ∙ ap (λ (n : ℕ). advanced listed n w) p)) (advanced_within plans list listed w i (first_so _ _ h))

-- The lane.

pub lane_kept : (r : Raced) (l : Laned) → l ≡ turn_lane r → with_lane l r ≡ r
lane_kept r l e = ap (λ (x : Laned). with_lane x r) e

pub lane_held : (r : Raced) (l : Laned) → l ≡ record (turn_lane r) { held = l.held } → with_lane l r ≡ with_lane (record (turn_lane r) { held = l.held }) r
lane_held r l e = ap (λ (x : Laned). with_lane x r) e

-- The awaited piece.

pub own_awaits : (r : Raced) (piece : Pieced) (b : Bool) (id : PieceId) → scanning r.control ≡ true → id ≡ next_id r → (IsTrue b ↔ IsOwn (turn_plan r) id (turn_lane r) piece) → (IsTrue b ↔ Awaits r piece)
own_awaits r piece b id back is own = (forth, hither)
  where
    forth : IsTrue b → Awaits r piece
    forth t = let o = own.0 t in record { under_way = back; own = record { named = o.named ∙ is; part = o.part; entries = o.entries } }

    hither : Awaits r piece → IsTrue b
    hither a = own.1 (record { named = a.own.named ∙ sym is; part = a.own.part; entries = a.own.entries })

-- what is counted of a piece
pub piece_counts : (old mid new : Raced) (piece : Pieced) (last : Bool) (before built count : ℕ) → mid ≡ with_lane (passed (may old.list) piece (turn_lane old)) old → before ≡ length (turn_lane old).building → built ≡ length (turn_lane mid).building → count ≡ length piece.entries → new ≡ record mid { counts = slice_set mid.counts (turn_scan mid) (piece_counted (counts_at mid.counts (turn_scan mid)) count (built - before) last); number = one_more mid.number } → new ≡ accepted piece last old
piece_counts old mid new piece last before built count m b u e n =
    let l = passed (may old.list) piece (turn_lane old) in
    let kept : built - before ≡ length (kept_of old piece) = let long : length (turn_lane mid).building ≡ length ((turn_lane old).building ++ kept_of old piece) = ap (λ (x : Raced). length (turn_lane x).building) m in let sum = length-append (turn_lane old).building (kept_of old piece) in omega arith in
    n
    ∙ ap (λ (x : Raced). record x { counts = slice_set x.counts (turn_scan x) (piece_counted (counts_at x.counts (turn_scan x)) count (built - before) last); number = one_more x.number }) m
    ∙ ap (λ (k : ℕ). record (with_lane l old) { counts = slice_set old.counts (turn_scan old) (piece_counted (counts_at old.counts (turn_scan old)) count k last); number = one_more old.number }) kept
    ∙ ap (λ (k : ℕ). record (with_lane l old) { counts = slice_set old.counts (turn_scan old) (piece_counted (counts_at old.counts (turn_scan old)) k (length (kept_of old piece)) last); number = one_more old.number }) e

-- The scan of the turn completed.
pub completes_by : (old c n r l t new : Raced) → IsSome c.list → IfSome c.list (λ keys. IsPermutation (turn_lane old).building keys × IsStrictlyIncreasing keys × (c ≡ completed keys old)) → n ≡ narrowed c → r ≡ recounted n → l ≡ lowered r → t ≡ told_list l → new ≡ ended t → Completes old new
completes_by old c n r l t new some made en er el et e = by c.list some made
  where
    by : (list : Option (List ℕ)) → IsSome list → IfSome list (λ keys. IsPermutation (turn_lane old).building keys × IsStrictlyIncreasing keys × (c ≡ completed keys old)) → Completes old new
    by None some made = absurd (cc)
    by (Some keys) some made = record {
      keys = keys;
      built = made.0;
      ascend = made.1;
      ends = e ∙ ap ended (et ∙ ap told_list (el ∙ ap lowered (er ∙ ap recounted (en ∙ ap narrowed made.2))));
    }

-- What becomes of the scan of an accepted piece.

pub obeys_by : (would : ℕ → Facts → Ruling) (state after : ℕ) (piece : Pieced) (old mid new : Raced) (last : Bool) (next : Option IndexEntry) → is_some next ≡ not last → mid ≡ accepted piece last old → (last ≡ true → Completes mid new × (after ≡ state)) → (last ≡ false → IsRuled (would state (facts_of mid)) after mid new) → Obeys would state after piece next old new
obeys_by would state after piece old mid new true None n m over rules = let done = over refl in (subst (λ (x : Raced). Completes x new) m done.0, done.1)
obeys_by would state after piece old mid new false (Some cut) n m over rules = subst (λ (x : Raced). IsRuled (would state (facts_of x)) after x new) m (rules refl)
obeys_by would state after piece old mid new true (Some cut) n m over rules = absurd (cc)
obeys_by would state after piece old mid new false None n m over rules = absurd (cc)
