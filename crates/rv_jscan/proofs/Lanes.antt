-- The present scan of a joint scan as a lane, and what a lane's calls do to the joint scan.
use Rattle.std.proofs.Common.{◌≡◌, ◌↔◌, ℕ, ◌+◌, ◌-◌, ◌++◌, List, [], length, length-append, Bool, true, false, not, ◌&&◌, refl, ap, sym, ◌∙◌, arith, subst, Option, Some, None, is_some, IsSome, IfSome, IsPermutation, IsTrue, slice_set, Result, Ok, Err, IfOk, OnErr}
use Rattle.std.specs.Prelude.{if◌then◌else◌}
use Rattle.std.specs.List.Sorted.{IsStrictlyIncreasing}
use Rattle.rv_value.specs.declared.record.IndexEntry.{IndexEntry}
use Rattle.rv_judge.specs.declared.counting.Counts.{Counts}
use Rattle.rv_judge.specs.Counting.{leaf_read, one_more}
use Rattle.rv_reader.specs.declared.reader.Chunk.{Chunk}
use Rattle.rv_reader.specs.Shown.{Shown}
use Rattle.rv_jscan.specs.declared.piece.PieceId.{PieceId}
use Rattle.rv_jscan.specs.declared.jscan.ScanPlan.{ScanPlan}
use Rattle.rv_jscan.specs.Entries.{Apart, Disjoint}
use Rattle.rv_jscan.specs.Pieces.{Pieced}
use Rattle.rv_jscan.specs.Joint.{CanMake, CanTake, Joint, JointFits, counts_at, present, under_way}
use Rattle.rv_jscan.specs.Lanes.{HasKeys, IsLeafAt, IsOwn, LaneFits, Laned, lane_of, leaf_once}
use Rattle.rv_jscan.specs.Steps.{Accepts, Awaits, TakeLeaves, counts_after, counts_read, kept_of, leaf_counted, next_id, one_leaf, piece_counted, reads_leaf, steps_read}
use Rattle.rv_jscan.proofs.Fits.{counted_fits, way_within}
use Rattle.rv_jscan.proofs.Parts.{chunk_apart, chunk_fresh, chunk_keys}

-- A leaf that was read.

pub leaf_keys : (plan : ScanPlan) (shown : Shown) (snap : ℕ) (place : Option IndexEntry) (chunk : Chunk) → CanMake plan shown snap → IsLeafAt plan shown snap place chunk → HasKeys plan chunk
leaf_keys plan shown snap place chunk can leaf = chunk_keys (length plan.part.columns) (shown.entries plan.index snap) (shown.cuts plan.index snap) plan.range place chunk leaf can.keys

pub leaf_apart : (plan : ScanPlan) (shown : Shown) (snap : ℕ) (l : Laned) (chunk : Chunk) → LaneFits plan shown snap l → IsLeafAt plan shown snap l.place chunk → Apart chunk.entries
leaf_apart plan shown snap l chunk f leaf = chunk_apart (shown.entries plan.index snap) (shown.cuts plan.index snap) plan.range l.place chunk leaf f.apart

-- no row of the list being built is in the leaf
pub leaf_fresh : (plan : ScanPlan) (shown : Shown) (snap : ℕ) (l : Laned) (chunk : Chunk) → LaneFits plan shown snap l → IsLeafAt plan shown snap l.place chunk → Disjoint l.building chunk.entries
leaf_fresh plan shown snap l chunk f leaf = chunk_fresh (shown.entries plan.index snap) (shown.cuts plan.index snap) plan.range l.place chunk l.building leaf f.fresh

pub held_fits : (plan : ScanPlan) (shown : Shown) (snap : ℕ) (l new : Laned) (chunk : Chunk) → new ≡ record l { held = Some chunk } → IsLeafAt plan shown snap l.place chunk → LaneFits plan shown snap l → LaneFits plan shown snap new
held_fits plan shown snap l new chunk n leaf f =
    let holds : LaneFits plan shown snap (record l { held = Some chunk }) = record { apart = f.apart; fresh = f.fresh; drawn = leaf } in
    subst (LaneFits plan shown snap) (sym n) holds

-- the leaf that is held was drawn too
pub held_keys : (plan : ScanPlan) (shown : Shown) (snap : ℕ) (l : Laned) → CanMake plan shown snap → LaneFits plan shown snap l → IfSome l.held (HasKeys plan)
held_keys plan shown snap l can f = by l.held f.drawn
  where
    by : (held : Option Chunk) → IfSome held (IsLeafAt plan shown snap l.place) → IfSome held (HasKeys plan)
    by None d = tt
    by (Some chunk) d = leaf_keys plan shown snap l.place chunk can d

-- The lane of a joint scan.

pub lane_can : (j : Joint) (shown : Shown) → under_way j ≡ true → CanTake j shown → CanMake (present j) shown j.snap
lane_can j shown way can = can.each j.ended (way_within j way)

pub lane_fits : (j : Joint) (shown : Shown) → under_way j ≡ true → JointFits j shown → LaneFits (present j) shown j.snap (lane_of j)
lane_fits j shown way f = record { apart = f.apart j.ended (way_within j way); fresh = f.fresh; drawn = f.drawn }

pub own_awaits : (j : Joint) (piece : Pieced) (r : Bool) (id : PieceId) → under_way j ≡ true → id ≡ next_id j → (IsTrue r ↔ IsOwn (present j) id (lane_of j) piece) → (IsTrue r ↔ Awaits j piece)
own_awaits j piece r id way is own = (forth, back)
  where
    forth : IsTrue r → Awaits j piece
    forth t = let o = own.0 t in record { way = way; id = o.named ∙ is; part = o.part; entries = o.entries }

    back : Awaits j piece → IsTrue r
    back a = own.1 (record { named = a.id ∙ sym is; part = a.part; entries = a.entries })

-- What a lane's call leaves of the joint scan.

abbrev pub with_lane : Joint → Laned → Joint
with_lane j l = record j { place = l.place; held = l.held; building = l.building }

pub lane_kept : (j : Joint) (l : Laned) → l ≡ lane_of j → with_lane j l ≡ j
lane_kept j l e = ap (with_lane j) e

pub lane_held : (j : Joint) (l : Laned) → l ≡ record (lane_of j) { held = l.held } → with_lane j l ≡ record j { held = l.held }
lane_held j l e = ap (with_lane j) e

pub lane_err : {T E : Type 0} (r : Result T E) (j : Joint) (l : Laned) → OnErr r (l ≡ lane_of j) → OnErr r (with_lane j l ≡ j)
lane_err (Ok x) j l e = tt
lane_err (Err x) j l e = lane_kept j l e

-- A take: the leaf that is still to be read is counted, and then the lane takes.

-- what is counted of a leaf leaves the fit
pub read_fits : (j mid : Joint) (shown : Shown) → mid ≡ record j { counts = counts_read j } → JointFits j shown → JointFits mid shown
read_fits j mid shown m f = subst (λ (x : Joint). JointFits x shown) (sym m) (by (reads_leaf j))
  where
    by : (b : Bool) → JointFits (record j { counts = (if b then one_leaf j else j.counts) }) shown
    by true = counted_fits j shown (leaf_counted (counts_at j.counts j.ended)) f
    by false = f

pub read_can : (j mid : Joint) (shown : Shown) → under_way j ≡ true → mid ≡ record j { counts = counts_read j } → CanTake j shown → CanMake (present mid) shown mid.snap
read_can j mid shown way m can = subst (λ (x : Joint). CanMake (present x) shown x.snap) (sym m) (lane_can j shown way can)

pub read_lane : (j mid : Joint) (shown : Shown) → under_way j ≡ true → mid ≡ record j { counts = counts_read j } → JointFits j shown → LaneFits (present mid) shown mid.snap (lane_of mid)
read_lane j mid shown way m f = subst (λ (x : Joint). LaneFits (present x) shown x.snap (lane_of x)) (sym m) (lane_fits j shown way f)

pub took_leaves : (j mid new : Joint) → under_way j ≡ true → mid ≡ record j { counts = counts_read j } → new ≡ record mid { held = new.held } → (is_some mid.held ≡ true → new ≡ mid) → TakeLeaves j new
took_leaves j mid new way m n h = record {
  same = n ∙ ap (λ (x : Joint). record x { held = new.held }) m;
  none = λ unread.
      let held = held_if (under_way j) (is_some j.held) way unread in
      h (ap (λ (x : Joint). is_some x.held) m ∙ held) ∙ m ∙ ap (λ (b : Bool). record j { counts = (if b then one_leaf j else j.counts) }) unread;
}
  where
    held_if : (w h : Bool) → w ≡ true → (w && not h) ≡ false → h ≡ true
    held_if w h way unread = grind arith

pub took_reads : (j mid : Joint) (c d : Counts) → under_way j ≡ true → mid ≡ record j { counts = counts_read j } → d ≡ leaf_once (lane_of mid) c → d ≡ steps_read j c
took_reads j mid c d way m r = r ∙ ap (λ (x : Joint). leaf_once (lane_of x) c) m ∙ once (under_way j) (is_some j.held) way
  where
    once : (w h : Bool) → w ≡ true → (if h then c else leaf_read c) ≡ (if (w && not h) then leaf_read c else c)
    once true true way = refl
    once true false way = refl
    once false h way = absurd (cc)

pub took_if : {E : Type 0} (r : Result Pieced E) (j mid new : Joint) (id : PieceId) → under_way j ≡ true → mid ≡ record j { counts = counts_read j } → id ≡ next_id mid → new ≡ record mid { held = new.held } → IfOk r (IsOwn (present mid) id (lane_of new)) → IfOk r (λ p. Awaits new p)
took_if (Ok p) j mid new id way m is n own =
    let awaits : Awaits (record mid { held = new.held }) p = record { way = ap under_way m ∙ way; id = own.named ∙ is; part = own.part; entries = own.entries } in
    subst (λ (x : Joint). Awaits x p) (sym n) awaits
took_if (Err e) j mid new id way m is n own = tt

pub took_err : {E : Type 0} (r : Result Pieced E) (j mid new : Joint) → mid ≡ record j { counts = counts_read j } → OnErr r (new ≡ mid) → OnErr r (new ≡ record j { counts = counts_read j })
took_err (Ok p) j mid new m e = tt
took_err (Err x) j mid new m e = e ∙ m

pub took_fits : (j mid new : Joint) (shown : Shown) → mid ≡ record j { counts = counts_read j } → new ≡ record mid { held = new.held } → LaneFits (present mid) shown mid.snap (lane_of new) → JointFits j shown → JointFits new shown
took_fits j mid new shown m n l f =
    let g = read_fits j mid shown m f in
    let drawn = subst (λ (place : Option IndexEntry). IfSome new.held (IsLeafAt (present mid) shown mid.snap place)) (ap (λ (x : Joint). x.place) n) l.drawn in
    let fits : JointFits (record mid { held = new.held }) shown = record { room = g.room; within = g.within; apart = g.apart; covers = g.covers; builds = g.builds; fresh = g.fresh; drawn = drawn } in
    subst (λ (x : Joint). JointFits x shown) (sym n) fits

-- A piece is accepted; where no cut follows it the list is complete.

-- what is counted of a piece
pub piece_counts : (old mid new : Joint) (entries : List IndexEntry) (next : Option IndexEntry) (last : Bool) (before built count : ℕ) → mid ≡ record old { place = next; held = None; building = old.building ++ kept_of old entries } → before ≡ length old.building → built ≡ length mid.building → count ≡ length entries → new ≡ record mid { counts = slice_set mid.counts mid.ended (piece_counted (counts_at mid.counts mid.ended) count (built - before) last); number = one_more mid.number } → new ≡ record old { counts = counts_after old entries last; number = one_more old.number; place = next; held = None; building = old.building ++ kept_of old entries }
piece_counts old mid new entries next last before built count m b u e n =
    let kept : built - before ≡ length (kept_of old entries) = let long : length mid.building ≡ length (old.building ++ kept_of old entries) = ap (λ (x : Joint). length x.building) m in let sum = length-append old.building (kept_of old entries) in omega arith in
    n
    ∙ ap (λ (x : Joint). record x { counts = slice_set x.counts x.ended (piece_counted (counts_at x.counts x.ended) count (built - before) last); number = one_more x.number }) m
    ∙ ap (λ (k : ℕ). record old { counts = slice_set old.counts old.ended (piece_counted (counts_at old.counts old.ended) count k last); number = one_more old.number; place = next; held = None; building = old.building ++ kept_of old entries }) kept
    ∙ ap (λ (k : ℕ). record old { counts = slice_set old.counts old.ended (piece_counted (counts_at old.counts old.ended) k (length (kept_of old entries)) last); number = one_more old.number; place = next; held = None; building = old.building ++ kept_of old entries }) e

pub over_accepts : (old mid new : Joint) (entries : List IndexEntry) (next : Option IndexEntry) (last : Bool) → is_some next ≡ not last → last ≡ true → mid ≡ record old { counts = counts_after old entries last; number = one_more old.number; place = next; held = None; building = old.building ++ kept_of old entries } → IsSome new.list → IfSome new.list (λ keys. IsPermutation mid.building keys × IsStrictlyIncreasing keys × (new ≡ record mid { ended = mid.ended + 1; place = None; held = None; building = []; list = Some keys })) → Accepts old new entries next
over_accepts old mid new entries next last n l m some made = by next last n l m new.list some made
  where
    by : (next : Option IndexEntry) (last : Bool) → is_some next ≡ not last → last ≡ true → mid ≡ record old { counts = counts_after old entries last; number = one_more old.number; place = next; held = None; building = old.building ++ kept_of old entries } → (list : Option (List ℕ)) → IsSome list → IfSome list (λ keys. IsPermutation mid.building keys × IsStrictlyIncreasing keys × (new ≡ record mid { ended = mid.ended + 1; place = None; held = None; building = []; list = Some keys })) → Accepts old new entries next
    by None true n l m None some made = absurd (cc)
    by None true n l m (Some keys) some made = (keys, subst (λ (b : List ℕ). IsPermutation b keys) (ap (λ (x : Joint). x.building) m) made.0, made.1, made.2 ∙ ap (λ (x : Joint). record x { ended = x.ended + 1; place = None; held = None; building = []; list = Some keys }) m)
    by None false n l m list some made = absurd (cc)
    by (Some cut) true n l m list some made = absurd (cc)
    by (Some cut) false n l m list some made = absurd (cc)
