-- The work of the background falls with each leaf read, each piece accepted and each scan dropped.
use Rattle.std.proofs.Common.{◌≡◌, ℕ, ◌+◌, ◌-◌, ◌<◌, ◌≤◌, List, [], ◌∷◌, ◌++◌, length, drop, filter, Bool, true, false, ◌&&◌, refl, ap, sym, ◌∙◌, arith, subst, Option, Some, None, is_some, IsPermutation, not}
use Rattle.std.specs.Prelude.{if◌then◌else◌}
use Rattle.std.proofs.lemmas.List.{drop_more, length-append, length-map}
use Rattle.std.proofs.lemmas.List.Sorted.{length_permutation}
use Rattle.std.specs.Cmp.{first_so}
use Rattle.rv_value.proofs.Lists.{filter_length}
use Rattle.rv_value.specs.declared.record.IndexEntry.{IndexEntry}
use Rattle.rv_judge.specs.declared.counting.Counts.{Counts}
use Rattle.rv_judge.specs.Counting.{leaf_read, reads}
use Rattle.rv_reader.specs.declared.reader.Chunk.{Chunk}
use Rattle.rv_reader.specs.Leaves.{run_after, run_from}
use Rattle.rv_reader.specs.Shown.{Shown}
use Rattle.rv_jscan.specs.declared.jscan.ScanPlan.{ScanPlan}
use Rattle.rv_jscan.specs.declared.jscan.Taken.{Taken}
use Rattle.rv_jscan.specs.declared.jscan.Taken.TheVariants.{Piece, Nothing}
use Rattle.rv_jscan.specs.Pieces.{Pieced, is_kept, may}
use Rattle.rv_jscan.specs.Joint.{Joint, JointFits, leaves_ahead, no_plan, present, to_sieve, under_way}
use Rattle.rv_jscan.specs.Steps.{Accepts, Awaits, HasEntries, TakeLeaves, Takes, abandoned, completed, going, held_next, kept_of, reads_leaf, steps_read}
use Rattle.rv_jscan.proofs.Fits.{by_held, way_within}
use Rattle.rv_jscan.proofs.Leaves.{abandoned_nearer, accepts_nearer}
use Rattle.rv_final.specs.LaneWork.{to_read}
use Rattle.rv_final.proofs.LaneWork.{read_once, leaf_once}
use Rattle.rv_retrieval.specs.Effort.{back_work, entries_ahead, entries_of_scans, entries_planned}
use Rattle.rv_retrieval.specs.Shape.{lending_of}

-- The entries ahead.

pub entries_first : (plans : List ScanPlan) (shown : Shown) (snap : ℕ) → entries_of_scans plans None shown snap ≡ entries_planned plans shown snap
entries_first [] shown snap = refl
entries_first (p ∷ plans) shown snap = refl

pub entries_split : (j : Joint) (shown : Shown) → j.ended < length j.plans → entries_ahead j shown ≡ length (to_sieve j shown) + entries_of_scans (drop (j.ended + 1) j.plans) None shown j.snap
entries_split j shown lt =
    ap (λ (ps : List ScanPlan). entries_of_scans ps j.place shown j.snap) (drop_more j.plans j.ended no_plan lt) ∙ ap (λ (n : ℕ). length (to_sieve j shown) + n) (sym (entries_first (drop (j.ended + 1) j.plans) shown j.snap))

pub kept_few : (j : Joint) (entries : List IndexEntry) → length (kept_of j entries) ≤ length entries
kept_few j entries =
    let mapped = length-map (filter (is_kept (may j.list) (present j).part) entries) (λ (e : IndexEntry). e.row.0) in
    let few = filter_length (is_kept (may j.list) (present j).part) entries in
    omega arith

-- The keys to borrow.

lend_more : (list : Option (List ℕ)) (b k : List ℕ) (n : ℕ) → length (lending_of list (b ++ k)) - n ≤ (length (lending_of list b) - n) + length k
lend_more None b k n = let l = length-append b k in omega arith
lend_more (Some keys) b k n = omega arith

-- A piece is accepted.

going_less : (j : Joint) (shown : Shown) (entries : List IndexEntry) (cut : IndexEntry) (borrowed : ℕ) → under_way j ≡ true → to_sieve j shown ≡ entries ++ run_from (shown.entries (present j).index j.snap) (present j).range (Some cut) → leaves_ahead (going j entries cut) shown < leaves_ahead j shown → back_work (going j entries cut) borrowed shown < back_work j borrowed shown
going_less j shown entries cut borrowed way parts near =
    let old = entries_split j shown (way_within j way) in
    let new = entries_split (going j entries cut) shown (way_within j way) in
    let long = ap length parts ∙ length-append entries (run_from (shown.entries (present j).index j.snap) (present j).range (Some cut)) in
    let built = length-append j.building (kept_of j entries) in
    let few = kept_few j entries in
    let lent = lend_more j.list j.building (kept_of j entries) borrowed in
    omega arith

pub completed_less : (j : Joint) (shown : Shown) (entries : List IndexEntry) (keys : List ℕ) (borrowed other : ℕ) → under_way j ≡ true → to_sieve j shown ≡ entries ++ [] → IsPermutation (j.building ++ kept_of j entries) keys → leaves_ahead (completed j entries keys) shown < leaves_ahead j shown → back_work (completed j entries keys) other shown < back_work j borrowed shown
completed_less j shown entries keys borrowed other way parts perm near =
    let old = entries_split j shown (way_within j way) in
    let long = ap length parts ∙ length-append entries [] in
    let built = length-append j.building (kept_of j entries) in
    let same = length_permutation (j.building ++ kept_of j entries) keys perm in
    let few = kept_few j entries in
    omega arith

-- a piece that is accepted lowers the work, also where borrowing begins again behind the last piece of a scan
pub accepted_less : (old new : Joint) (piece : Pieced) (shown : Shown) (borrowed : ℕ) → Awaits old piece → Accepts old new piece.entries (held_next old.held) → JointFits old shown → back_work new borrowed shown < back_work old borrowed shown
accepted_less old new piece shown borrowed w a f = by (held_next old.held) a (by_held old shown piece.entries old.held w.entries f.drawn) (accepts_nearer old new piece shown w a f)
  where
    by : (next : Option IndexEntry) → Accepts old new piece.entries next → to_sieve old shown ≡ piece.entries ++ run_after (shown.entries (present old).index old.snap) (present old).range next → leaves_ahead new shown < leaves_ahead old shown → back_work new borrowed shown < back_work old borrowed shown
    by (Some cut) a parts near = subst (λ (j : Joint). back_work j borrowed shown < back_work old borrowed shown) (sym a) (going_less old shown piece.entries cut borrowed w.way parts (subst (λ (j : Joint). leaves_ahead j shown < leaves_ahead old shown) a near))
    by None a parts near = subst (λ (j : Joint). back_work j borrowed shown < back_work old borrowed shown) (sym a.3) (completed_less old shown piece.entries a.0 borrowed borrowed w.way parts a.1 (subst (λ (j : Joint). leaves_ahead j shown < leaves_ahead old shown) a.3 near))

-- A scan is dropped: what is borrowed of the complete list stays, and that of a list which is not complete is gone.

dropped_lent : (list : Option (List ℕ)) (b : List ℕ) (n : ℕ) → length (lending_of list []) - (if is_some list then n else 0) ≤ length (lending_of list b) - n
dropped_lent None b n = omega arith
dropped_lent (Some keys) b n = omega arith

pub abandoned_less : (j : Joint) (shown : Shown) (borrowed : ℕ) → under_way j ≡ true → back_work (abandoned j) (if is_some j.list then borrowed else 0) shown ≤ back_work j borrowed shown
abandoned_less j shown borrowed way =
    let old = entries_split j shown (way_within j way) in
    let near = abandoned_nearer j shown way in
    let lent = dropped_lent j.list j.building borrowed in
    omega arith

-- A leaf is read, or there is none to read.

pub leaf_spends : (old new : Joint) (shown : Shown) (borrowed : ℕ) (before after : Counts) → TakeLeaves old new → after ≡ steps_read old before → (reads after ≤ reads before + 1) × (back_work new borrowed shown ≤ back_work old borrowed shown)
leaf_spends old new shown borrowed before after t e = by (reads_leaf old) refl
  where
    held_less : old.held ≡ None → to_read new.held ≤ to_read old.held
    held_less n = let r = read_once new.held in let o = ap to_read n in omega arith

    none : (h : Option Chunk) → (b : Bool) → (b && not (is_some h)) ≡ true → h ≡ None
    none None b r = refl
    none (Some c) b r = absurd (let bad = last b r in cc)
      where
        last : (b : Bool) → (b && false) ≡ true → true ≡ false
        last b r = grind arith

    by : (b : Bool) → reads_leaf old ≡ b → (reads after ≤ reads before + 1) × (back_work new borrowed shown ≤ back_work old borrowed shown)
    by true r =
        let counted : after ≡ leaf_read before = e ∙ ap (λ (b : Bool). if b then leaf_read before else before) r in
        let once = leaf_once before in
        let said = ap reads counted in
        let work = ap (λ (j : Joint). back_work j borrowed shown) t.same in
        let less = held_less (none old.held (under_way old) r) in
        (omega arith, omega arith)
    by false r =
        let counted : after ≡ before = e ∙ ap (λ (b : Bool). if b then leaf_read before else before) r in
        let said = ap reads counted in
        let work = ap (λ (j : Joint). back_work j borrowed shown) (t.none r) in
        (omega arith, omega arith)

-- a take that answers lowers the work by its read
pub take_spends : (old new : Joint) (shown : Shown) (borrowed : ℕ) (before after : Counts) (taken : Taken) → TakeLeaves old new → Takes new taken → after ≡ steps_read old before → reads after + back_work new borrowed shown ≤ reads before + back_work old borrowed shown
take_spends old new shown borrowed before after taken t k e = by (reads_leaf old) refl
  where
    none : (h : Option Chunk) → (b : Bool) → (b && not (is_some h)) ≡ true → h ≡ None
    none None b r = refl
    none (Some c) b r = absurd (let bad = last b r in cc)
      where
        last : (b : Bool) → (b && false) ≡ true → true ≡ false
        last b r = grind arith

    has : (h : Option Chunk) (entries : List IndexEntry) → HasEntries h entries → to_read h ≡ 0
    has None entries i = absurd i
    has (Some c) entries i = refl

    held : (taken : Taken) → Takes new taken → under_way old ≡ true → to_read new.held ≡ 0
    held (Piece piece) k w = has new.held piece.entries k.entries
    held Nothing k w = absurd (let bad : true ≡ false = sym w ∙ sym (ap under_way t.same) ∙ k in cc)

    by : (b : Bool) → reads_leaf old ≡ b → reads after + back_work new borrowed shown ≤ reads before + back_work old borrowed shown
    by true r =
        let counted : after ≡ leaf_read before = e ∙ ap (λ (b : Bool). if b then leaf_read before else before) r in
        let once = leaf_once before in
        let said = ap reads counted in
        let work = ap (λ (j : Joint). back_work j borrowed shown) t.same in
        let was = ap to_read (none old.held (under_way old) r) in
        let is = held taken k (first_so (under_way old) (not (is_some old.held)) r) in
        omega arith
    by false r =
        let counted : after ≡ before = e ∙ ap (λ (b : Bool). if b then leaf_read before else before) r in
        let said = ap reads counted in
        let work = ap (λ (j : Joint). back_work j borrowed shown) (t.none r) in
        omega arith
