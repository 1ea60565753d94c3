-- What scans, takes and steps do to the work that is left: of races, of unions and of retrievals.
use Rattle.std.proofs.Common.{◌≡◌, ℕ, ◌+◌, ◌<◌, ◌≤◌, List, ◌++◌, length, filter, Bool, true, false, not, ◌&&◌, refl, ap, sym, ◌∙◌, arith, subst, Option, Some, None, is_some, IfSome, Result, Ok, Err, IfOk}
use Rattle.std.proofs.lemmas.List.{length-append, length-map}
use Rattle.rv_value.proofs.Lists.{filter_length}
use Rattle.rv_value.specs.declared.record.IndexEntry.{IndexEntry}
use Rattle.rv_judge.specs.declared.counting.Counts.{Counts}
use Rattle.rv_judge.specs.Counting.{leaf_read, one_more, reads}
use Rattle.rv_reader.specs.declared.reader.Chunk.{Chunk}
use Rattle.rv_reader.specs.Leaves.{leaves_after, leaves_from, run_after, run_from}
use Rattle.rv_reader.specs.Shown.{Shown}
use Rattle.rv_jscan.specs.declared.jscan.ScanPlan.{ScanPlan}
use Rattle.rv_jscan.specs.Lanes.{IsLeafAt, Laned, passed}
use Rattle.rv_jscan.specs.Pieces.{Pieced, is_kept, kept_by}
use Rattle.rv_jscan.specs.Steps.{HasEntries, held_next}
use Rattle.rv_final.specs.Work.{Falls, Tries}
use Rattle.rv_reader.specs.declared.step.Step.{Step}
use Rattle.rv_value.specs.declared.record.Record.{Record}
use Rattle.rv_reader.specs.declared.step.Step.TheVariants.{Row, Working, End}
use Rattle.rv_final.specs.LaneWork.{Spends, ahead, lane_work, to_read}

-- a scan has a leaf ahead
pub some_leaf : (cuts : List IndexEntry) (place : Option IndexEntry) → 1 ≤ leaves_from cuts place
some_leaf cuts None = omega arith
some_leaf cuts (Some c) = omega arith

pub read_once : (h : Option Chunk) → to_read h ≤ 1
read_once None = omega arith
read_once (Some c) = omega arith

pub kept_few : (admits : ℕ → Bool) (piece : Pieced) → length (kept_by admits piece.part piece.entries) ≤ length piece.entries
kept_few admits piece =
    let mapped = length-map (filter (is_kept admits piece.part) piece.entries) (λ (e : IndexEntry). e.row.0) in
    let few = filter_length (is_kept admits piece.part) piece.entries in
    omega arith

-- the entries of the leaf held, and what is ahead behind them
pub ahead_split : (plan : ScanPlan) (shown : Shown) (snap : ℕ) (place : Option IndexEntry) (held : Option Chunk) (entries : List IndexEntry) → HasEntries held entries → IfSome held (IsLeafAt plan shown snap place) → run_from (shown.entries plan.index snap) plan.range place ≡ entries ++ run_after (shown.entries plan.index snap) plan.range (held_next held)
ahead_split plan shown snap place None entries has d = absurd has
ahead_split plan shown snap place (Some chunk) entries has d = d.parts ∙ ap (λ (es : List IndexEntry). es ++ run_after (shown.entries plan.index snap) plan.range chunk.next) has

-- the leaves ahead fall with the leaf held
pub leaves_fall : (plan : ScanPlan) (shown : Shown) (snap : ℕ) (place : Option IndexEntry) (held : Option Chunk) (entries : List IndexEntry) → HasEntries held entries → IfSome held (IsLeafAt plan shown snap place) → leaves_after (shown.cuts plan.index snap) (held_next held) < leaves_from (shown.cuts plan.index snap) place
leaves_fall plan shown snap place None entries has d = absurd has
leaves_fall plan shown snap place (Some chunk) entries has d = d.nearer

-- one that is not the last: the scan's work falls by two
pub passed_work : (plan : ScanPlan) (shown : Shown) (snap : ℕ) (l : Laned) (admits : ℕ → Bool) (piece : Pieced) (cut : IndexEntry) → HasEntries l.held piece.entries → IfSome l.held (IsLeafAt plan shown snap l.place) → held_next l.held ≡ Some cut → lane_work plan shown snap (passed admits piece l) + 2 ≤ lane_work plan shown snap l
passed_work plan shown snap l admits piece cut has d next =
    let new : Laned = record { place = Some cut; held = None; building = l.building ++ kept_by admits piece.part piece.entries } in
    let parts = ahead_split plan shown snap l.place l.held piece.entries has d ∙ ap (λ (o : Option IndexEntry). piece.entries ++ run_after (shown.entries plan.index snap) plan.range o) next in
    let long : length (ahead plan shown snap l) ≡ length piece.entries + length (ahead plan shown snap new) = ap length parts ∙ length-append piece.entries (ahead plan shown snap new) in
    let built = length-append l.building (kept_by admits piece.part piece.entries) in
    let few = kept_few admits piece in
    let near : leaves_from (shown.cuts plan.index snap) (Some cut) < leaves_from (shown.cuts plan.index snap) l.place = subst (λ (o : Option IndexEntry). leaves_after (shown.cuts plan.index snap) o < leaves_from (shown.cuts plan.index snap) l.place) next (leaves_fall plan shown snap l.place l.held piece.entries has d) in
    let less : lane_work plan shown snap new + 2 ≤ lane_work plan shown snap l = omega arith in
    subst (λ (o : Option IndexEntry). lane_work plan shown snap (record { place = o; held = None; building = l.building ++ kept_by admits piece.part piece.entries }) + 2 ≤ lane_work plan shown snap l) (sym next) less

pub leaf_once : (c : Counts) → reads (leaf_read c) ≤ reads c + 1
leaf_once c = let m = one_few c.leaves in omega arith
  where
    one_few : (n : ℕ) → one_more n ≤ n + 1
    one_few n = omega arith

pub none_held : (h : Option Chunk) (b : Bool) → (b && not (is_some h)) ≡ true → (h ≡ None) × (b ≡ true)
none_held None b r = (refl, first b r)
  where
    first : (b : Bool) → (b && true) ≡ true → b ≡ true
    first b r = grind arith
none_held (Some c) b r = absurd (let bad = last b r in cc)
  where
    last : (b : Bool) → (b && false) ≡ true → true ≡ false
    last b r = grind arith

pub tries_on : (before middle after : Counts) (old mid new : ℕ) → Tries before middle old mid → after ≡ middle → new ≤ mid → Tries before after old new
tries_on before middle after old mid new t e l =
    let once = t.once in
    let less = t.less in
    let same = ap reads e in
    record { once = omega arith; less = omega arith }

pub spends_by : {E : Type 0} (r : Result (Step Record) E) (before after : Counts) (old new : ℕ) → Tries before after old new → IfOk r (λ s. Falls s before after old new) → IfOk r (λ s. Spends s before after old new)
spends_by (Err x) before after old new t f = tt
spends_by (Ok s) before after old new t f = by s f
  where
    once : reads after ≤ reads before + 1
    once = t.once

    less : new ≤ old
    less = t.less

    by : (s : Step Record) → Falls s before after old new → Spends s before after old new
    by (Row r) f = (omega (arith, once), f)
    by Working f = (omega (arith, once), f)
    by End f = let same = ap reads f in (omega (arith, less), less)
