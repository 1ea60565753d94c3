-- Under judges that are bounded the scans of a race list fewer keys than are guaranteed, and a complete list has at most 48 more.
use Rattle.std.proofs.Common.{◌≡◌, ℕ, ◌+◌, ◌<◌, ◌≤◌, List, ◌++◌, length, slice_set, min, Bool, true, false, not, ◌&&◌, Option, Some, None, IfSome, nat_lt, IsPermutation, refl, ap, sym, ◌∙◌, subst, arith, if◌then◌else◌}
use Rattle.std.proofs.lemmas.List.{get_or-set_other, get_or-set_same, length-append}
use Rattle.std.proofs.lemmas.List.Sorted.{length_permutation}
use Rattle.rv_value.proofs.Lists.{filter_length}
use Rattle.rv_keylist.specs.Marks.{may_key}
use Rattle.rv_reader.specs.declared.reader.Chunk.{Chunk}
use Rattle.rv_jscan.specs.declared.jscan.ScanCounts.{ScanCounts}
use Rattle.rv_jscan.specs.Joint.{counts_at, no_counts}
use Rattle.rv_jscan.specs.Lanes.{narrowed_lane}
use Rattle.rv_jscan.specs.Pieces.{Pieced, may}
use Rattle.rv_jscan.specs.Steps.{eight, leaf_counted, piece_counted}
use Rattle.rv_final.proofs.LaneWork.{kept_few}
use Rattle.rv_race.specs.declared.running.Runner.{Runner}
use Rattle.rv_race.specs.declared.running.Running.{Running}
use Rattle.rv_race.specs.Given.{turn_lane, turn_scan}
use Rattle.rv_race.specs.Raced.{Raced}
use Rattle.rv_race.specs.Rulings.{accepted, kept_of, narrowed_by, recounted_by}
use Rattle.rv_race.specs.Ways.{advanced, begun, first_two, followed, followed_by, joined, turned, turned_to}
use Rattle.rv_bounded.proofs.Ahead.{greatest}
use Rattle.rv_bounded.proofs.RaceAhead.{Runs}
use Rattle.rv_bounded.proofs.Sound.{IsShort, built_sum, eight_none, kept_sum, none_kept}
use Rattle.rv_bounded.proofs.Sums.{at_most, le_on, risen_most, list_sum}

-- the keys that a scan has kept, and the entries that it has scanned
abbrev pub kept_at : List ScanCounts → ℕ → ℕ
kept_at counts scan = (counts_at counts scan).kept

abbrev pub scanned_at : List ScanCounts → ℕ → ℕ
scanned_at counts scan = (counts_at counts scan).scanned

pub record RunnerSound (p : ℕ) (counts : List ScanCounts) (run : Runner) : Type 0 where
  pub scanned : kept_at counts run.scan ≤ scanned_at counts run.scan
  pub capped : kept_at counts run.scan ≤ greatest
  pub built : length run.lane.building ≤ kept_at counts run.scan
  pub few : length run.lane.building ≤ p
  pub short : IfSome run.lane.held IsShort

-- the scan that has not the turn, and those that have not begun
pub record RestSound (p : ℕ) (counts : List ScanCounts) (w : Running) : Type 0 where
  pub fresh : (i : ℕ) → w.next ≤ i → counts_at counts i ≡ no_counts
  pub other : IfSome w.other (RunnerSound p counts)

pub record RunsSound (p : ℕ) (counts : List ScanCounts) (w : Running) : Type 0 where
  pub turn : RunnerSound p counts w.turn
  pub rest : RestSound p counts w

-- A SCAN BEGINS.

begun_sound : (p : ℕ) (counts : List ScanCounts) (scan : ℕ) → counts_at counts scan ≡ no_counts → RunnerSound p counts (begun scan)
begun_sound p counts scan none =
    let kept : kept_at counts scan ≡ 0 = ap (λ (c : ScanCounts). c.kept) none in
    record {
      scanned = none_kept (kept_at counts scan) (scanned_at counts scan) kept;
      capped = none_kept (kept_at counts scan) greatest kept;
      built = least (kept_at counts scan);
      few = least p;
      short = tt;
    }
  where
    least : (n : ℕ) → 0 ≤ n
    least n = omega arith

pub first_sound : (p : ℕ) → RunsSound p (eight no_counts) first_two
first_sound p = record {
  turn = begun_sound p (eight no_counts) 0 (eight_none 0);
  rest = record { fresh = λ i from. eight_none i; other = begun_sound p (eight no_counts) 1 (eight_none 1) };
}

-- THE OTHER SCAN HAS THE TURN, or another one goes on.

turned_by : (p : ℕ) (counts : List ScanCounts) (w : Running) (o : Option Runner) → w.other ≡ o → RunsSound p counts w → RunsSound p counts (turned_to o w)
turned_by p counts w None e s = s
turned_by p counts w (Some o) e s = record {
  turn = subst (λ (x : Option Runner). IfSome x (RunnerSound p counts)) e s.rest.other;
  rest = record { fresh = s.rest.fresh; other = s.turn };
}

pub turned_sound : (p : ℕ) (counts : List ScanCounts) (w : Running) → RunsSound p counts w → RunsSound p counts (turned w)
turned_sound p counts w s = turned_by p counts w w.other refl s

from_next : (next i : ℕ) → next + 1 ≤ i → next ≤ i
from_next next i h = omega (arith, h)

followed_to : (p : ℕ) (counts : List ScanCounts) (w : Running) (o : Option Runner) → w.other ≡ o → RestSound p counts w → RunsSound p counts (followed_by o w)
followed_to p counts w None e s = record {
  turn = begun_sound p counts w.next (s.fresh w.next (at_most w.next));
  rest = record { fresh = λ i from. s.fresh i (from_next w.next i from); other = tt };
}
followed_to p counts w (Some o) e s = record {
  turn = subst (λ (x : Option Runner). IfSome x (RunnerSound p counts)) e s.other;
  rest = record { fresh = s.fresh; other = tt };
}

joined_sound : (p : ℕ) (counts : List ScanCounts) (w : Running) → RunsSound p counts w → RunsSound p counts (joined w)
joined_sound p counts w s = record {
  turn = s.turn;
  rest = record { fresh = λ i from. s.rest.fresh i (from_next w.next i from); other = begun_sound p counts w.next (s.rest.fresh w.next (at_most w.next)) };
}

pub advanced_sound : (p planned : ℕ) (counts : List ScanCounts) (listed : Bool) (w : Running) → RestSound p counts w → RunsSound p counts (advanced listed planned w)
advanced_sound p planned counts listed w s = by (not listed && nat_lt (followed w).next planned)
  where
    first : RunsSound p counts (followed w)
    first = followed_to p counts w w.other refl s

    by : (b : Bool) → RunsSound p counts (if b then joined (followed w) else followed w)
    by true = joined_sound p counts (followed w) first
    by false = first

-- THE COUNTS OF ONE SCAN CHANGE

other_counts : (counts : List ScanCounts) (scan i : ℕ) (c : ScanCounts) → ¬ (i ≡ scan) → counts_at (slice_set counts scan c) i ≡ counts_at counts i
other_counts counts scan i c apart = get_or-set_other counts scan i c no_counts apart

above_apart : (scan next i : ℕ) → scan < next → next ≤ i → ¬ (i ≡ scan)
above_apart scan next i lt from e = absurd (omega (arith, lt, from, e))

runner_as : (p : ℕ) (counts more : List ScanCounts) (run : Runner) → counts_at more run.scan ≡ counts_at counts run.scan → RunnerSound p counts run → RunnerSound p more run
runner_as p counts more run same s = record {
  scanned = subst (λ (c : ScanCounts). c.kept ≤ c.scanned) (sym same) s.scanned;
  capped = subst (λ (c : ScanCounts). c.kept ≤ greatest) (sym same) s.capped;
  built = subst (λ (c : ScanCounts). length run.lane.building ≤ c.kept) (sym same) s.built;
  few = s.few;
  short = s.short;
}

-- of another scan they stay
other_as : (p : ℕ) (counts : List ScanCounts) (scan : ℕ) (c : ScanCounts) (o : Option Runner) → IfSome o (λ x. ¬ (x.scan ≡ scan)) → IfSome o (RunnerSound p counts) → IfSome o (RunnerSound p (slice_set counts scan c))
other_as p counts scan c None apart s = tt
other_as p counts scan c (Some o) apart s = runner_as p counts (slice_set counts scan c) o (other_counts counts scan o.scan c apart) s

-- of the scan whose turn it is: the others and those not begun stay
pub rest_as : (p planned : ℕ) (counts : List ScanCounts) (w : Running) (c : ScanCounts) → Runs planned w → RestSound p counts w → RestSound p (slice_set counts w.turn.scan c) w
rest_as p planned counts w c runs s = record {
  fresh = λ i from. other_counts counts w.turn.scan i c (above_apart w.turn.scan w.next i runs.turn from) ∙ s.fresh i from;
  other = other_as p counts w.turn.scan c w.other runs.apart s.other;
}

-- A LEAF IS READ of the scan whose turn it is, which may hold it.

abbrev pub held_by : Option Chunk → Runner → Runner
held_by held run = record run { lane = record run.lane { held = held } }

pub leaf_sound : (p planned : ℕ) (counts : List ScanCounts) (w : Running) (held : Option Chunk) → Runs planned w → w.turn.scan < length counts → IfSome held IsShort → RunsSound p counts w → RunsSound p (slice_set counts w.turn.scan (leaf_counted (counts_at counts w.turn.scan))) (record w { turn = held_by held w.turn })
leaf_sound p planned counts w held runs lt short s =
    let c = leaf_counted (counts_at counts w.turn.scan) in
    let told : counts_at (slice_set counts w.turn.scan c) w.turn.scan ≡ c = get_or-set_same counts w.turn.scan c no_counts lt in
    let rest = rest_as p planned counts w c runs s.rest in
    record {
      turn = record {
        scanned = subst (λ (k : ScanCounts). k.kept ≤ k.scanned) (sym told) s.turn.scanned;
        capped = subst (λ (k : ScanCounts). k.kept ≤ greatest) (sym told) s.turn.capped;
        built = subst (λ (k : ScanCounts). length w.turn.lane.building ≤ k.kept) (sym told) s.turn.built;
        few = s.turn.few;
        short = short;
      };
      rest = record { fresh = rest.fresh; other = rest.other };
    }

-- none is read
pub held_sound : (p : ℕ) (counts : List ScanCounts) (w : Running) (held : Option Chunk) → IfSome held IsShort → RunsSound p counts w → RunsSound p counts (record w { turn = held_by held w.turn })
held_sound p counts w held short s = record {
  turn = record { scanned = s.turn.scanned; capped = s.turn.capped; built = s.turn.built; few = s.turn.few; short = short };
  rest = record { fresh = s.rest.fresh; other = s.rest.other };
}

-- A PIECE IS ACCEPTED.

abbrev piece_counts : Pieced → Bool → Raced → ScanCounts
piece_counts piece last r = piece_counted (counts_at r.counts (turn_scan r)) (length piece.entries) (length (kept_of r piece)) last

turn_told : (piece : Pieced) (last : Bool) (r : Raced) → turn_scan r < length r.counts → counts_at (accepted piece last r).counts (turn_scan r) ≡ piece_counts piece last r
turn_told piece last r lt = get_or-set_same r.counts (turn_scan r) (piece_counts piece last r) no_counts lt

turn_kept : (piece : Pieced) (r : Raced) → turn_scan r < length r.counts → kept_at (accepted piece false r).counts (turn_scan r) ≡ min (kept_at r.counts (turn_scan r) + length (kept_of r piece)) greatest
turn_kept piece r lt = ap (λ (c : ScanCounts). c.kept) (turn_told piece false r lt)

pub turn_scanned : (p : ℕ) (piece : Pieced) (r : Raced) → turn_scan r < length r.counts → RunnerSound p r.counts r.running.turn → kept_at (accepted piece false r).counts (turn_scan r) ≤ scanned_at (accepted piece false r).counts (turn_scan r)
turn_scanned p piece r lt s =
    kept_sum (kept_at (accepted piece false r).counts (turn_scan r)) (kept_at r.counts (turn_scan r)) (length (kept_of r piece)) (scanned_at (accepted piece false r).counts (turn_scan r)) (scanned_at r.counts (turn_scan r)) (length piece.entries) greatest (turn_kept piece r lt) (ap (λ (c : ScanCounts). c.scanned) (turn_told piece false r lt)) s.scanned (kept_few (may r.list) piece)

pub turn_capped : (piece : Pieced) (r : Raced) → turn_scan r < length r.counts → kept_at (accepted piece false r).counts (turn_scan r) ≤ greatest
turn_capped piece r lt = risen_most (kept_at (accepted piece false r).counts (turn_scan r)) (kept_at r.counts (turn_scan r) + length (kept_of r piece)) greatest (turn_kept piece r lt)

-- its scan goes on with fewer keys than the table has pages
pub goes_sound : (p planned : ℕ) (piece : Pieced) (r : Raced) → Runs planned r.running → turn_scan r < length r.counts → p ≤ greatest → kept_at (accepted piece false r).counts (turn_scan r) < p → RunsSound p r.counts r.running → RunsSound p (accepted piece false r).counts (accepted piece false r).running
goes_sound p planned piece r runs lt small fewer s =
    let sums = built_sum (kept_at (accepted piece false r).counts (turn_scan r)) (kept_at r.counts (turn_scan r)) (length (kept_of r piece)) (length (turn_lane r).building) (length ((turn_lane r).building ++ kept_of r piece)) p greatest (turn_kept piece r lt) s.turn.built (length-append (turn_lane r).building (kept_of r piece)) fewer small in
    let rest = rest_as p planned r.counts r.running (piece_counts piece false r) runs s.rest in
    record {
      turn = record {
        scanned = turn_scanned p piece r lt s.turn;
        capped = turn_capped piece r lt;
        built = sums.0;
        few = sums.1;
        short = tt;
      };
      rest = record { fresh = rest.fresh; other = rest.other };
    }

-- whatever becomes of its scan, the others stay
pub accepted_rest_sound : (p planned : ℕ) (piece : Pieced) (last : Bool) (r : Raced) → Runs planned r.running → RestSound p r.counts r.running → RestSound p (accepted piece last r).counts (accepted piece last r).running
accepted_rest_sound p planned piece last r runs s =
    let rest = rest_as p planned r.counts r.running (piece_counts piece last r) runs s in
    record { fresh = rest.fresh; other = rest.other }

-- its scan is complete

pub list_sound : (p : ℕ) (piece : Pieced) (r : Raced) (keys : List ℕ) → length piece.entries ≤ 48 → IsPermutation (turn_lane (accepted piece true r)).building keys → length (turn_lane r).building ≤ p → length keys ≤ p + 48
list_sound p piece r keys short perm few =
    list_sum (length keys) (length ((turn_lane r).building ++ kept_of r piece)) (length (turn_lane r).building) (length (kept_of r piece)) (length piece.entries) p (sym (length_permutation ((turn_lane r).building ++ kept_of r piece) keys perm)) (length-append (turn_lane r).building (kept_of r piece)) few (kept_few (may r.list) piece) short

-- and of the other one fewer keys count

narrowed_other : (p : ℕ) (keys : List ℕ) (counts : List ScanCounts) (o : Option Runner) → IfSome o (λ x. x.scan < length counts) → IfSome o (RunnerSound p counts) → IfSome (narrowed_by keys o) (RunnerSound p (recounted_by (narrowed_by keys o) counts))
narrowed_other p keys counts None lt s = tt
narrowed_other p keys counts (Some x) lt s =
    let building = (narrowed_lane keys x.lane).building in
    let c = record (counts_at counts x.scan) { kept = length building } in
    let told : counts_at (slice_set counts x.scan c) x.scan ≡ c = get_or-set_same counts x.scan c no_counts lt in
    let less : length building ≤ length x.lane.building = filter_length (λ k. may_key k keys) x.lane.building in
    let kept : length building ≤ kept_at counts x.scan = le_on (length building) (length x.lane.building) (kept_at counts x.scan) less s.built in
    record {
      scanned = subst (λ (k : ScanCounts). k.kept ≤ k.scanned) (sym told) (le_on (length building) (kept_at counts x.scan) (scanned_at counts x.scan) kept s.scanned);
      capped = subst (λ (k : ScanCounts). k.kept ≤ greatest) (sym told) (le_on (length building) (kept_at counts x.scan) greatest kept s.capped);
      built = subst (λ (k : ScanCounts). length building ≤ k.kept) (sym told) (at_most (length building));
      few = le_on (length building) (length x.lane.building) p less s.few;
      short = s.short;
    }

narrowed_fresh : (keys : List ℕ) (counts : List ScanCounts) (next : ℕ) (o : Option Runner) → IfSome o (λ x. x.scan < next) → ((i : ℕ) → next ≤ i → counts_at counts i ≡ no_counts) → (i : ℕ) → next ≤ i → counts_at (recounted_by (narrowed_by keys o) counts) i ≡ no_counts
narrowed_fresh keys counts next None lt fresh i from = fresh i from
narrowed_fresh keys counts next (Some x) lt fresh i from = other_counts counts x.scan i (record (counts_at counts x.scan) { kept = length (narrowed_lane keys x.lane).building }) (above_apart x.scan next i lt from) ∙ fresh i from

pub narrowed_sound : (p : ℕ) (keys : List ℕ) (counts : List ScanCounts) (w v : Running) → v.next ≡ w.next → v.other ≡ narrowed_by keys w.other → IfSome w.other (λ x. x.scan < w.next) → IfSome w.other (λ x. x.scan < length counts) → RestSound p counts w → RestSound p (recounted_by v.other counts) v
narrowed_sound p keys counts w v next other below lt s = record {
  fresh = λ i from. ap (λ (o : Option Runner). counts_at (recounted_by o counts) i) other ∙ narrowed_fresh keys counts w.next w.other below s.fresh i (subst (λ (n : ℕ). n ≤ i) next from);
  other = subst (λ (o : Option Runner). IfSome o (RunnerSound p (recounted_by o counts))) (sym other) (narrowed_other p keys counts w.other lt s.other);
}
