-- The leaves ahead of a joint scan fall with each accepted piece and each abandoned scan.
use Rattle.std.proofs.Common.{◌≡◌, ℕ, ◌+◌, ◌<◌, List, [], ◌∷◌, length, drop, refl, ap, sym, ◌∙◌, arith, subst, Option, Some, None, IfSome, true}
use Rattle.std.proofs.lemmas.List.{drop_more}
use Rattle.rv_value.specs.declared.record.IndexEntry.{IndexEntry}
use Rattle.rv_reader.specs.declared.reader.Chunk.{Chunk}
use Rattle.rv_reader.specs.Leaves.{leaves_from, leaves_after}
use Rattle.rv_reader.specs.Shown.{Shown}
use Rattle.rv_jscan.specs.declared.jscan.ScanPlan.{ScanPlan}
use Rattle.rv_jscan.specs.Pieces.{Pieced}
use Rattle.rv_jscan.specs.Joint.{Joint, JointFits, IsNextLeaf, leaves_ahead, leaves_of, leaves_planned, no_plan, present, under_way}
use Rattle.rv_jscan.specs.Steps.{Accepts, Awaits, HasEntries, abandoned, completed, going, held_next}
use Rattle.rv_jscan.proofs.Fits.{way_within}

pub leaves_first : (plans : List ScanPlan) (shown : Shown) (snap : ℕ) → leaves_of plans None shown snap ≡ leaves_planned plans shown snap
leaves_first [] shown snap = refl
leaves_first (p ∷ plans) shown snap = refl

-- those of the present scan, and those of the scans behind it
pub ahead_split : (j : Joint) (shown : Shown) → j.ended < length j.plans → leaves_ahead j shown ≡ leaves_from (shown.cuts (present j).index j.snap) j.place + leaves_of (drop (j.ended + 1) j.plans) None shown j.snap
ahead_split j shown lt =
    ap (λ (ps : List ScanPlan). leaves_of ps j.place shown j.snap) (drop_more j.plans j.ended no_plan lt) ∙ ap (λ (n : ℕ). leaves_from (shown.cuts (present j).index j.snap) j.place + n) (sym (leaves_first (drop (j.ended + 1) j.plans) shown j.snap))

going_nearer : (j : Joint) (shown : Shown) (entries : List IndexEntry) (cut : IndexEntry) → under_way j ≡ true → leaves_from (shown.cuts (present j).index j.snap) (Some cut) < leaves_from (shown.cuts (present j).index j.snap) j.place → leaves_ahead (going j entries cut) shown < leaves_ahead j shown
going_nearer j shown entries cut way near =
    let old = ahead_split j shown (way_within j way) in
    let new = ahead_split (going j entries cut) shown (way_within j way) in
    omega arith

some_leaf : (cuts : List IndexEntry) (place : Option IndexEntry) → 0 < leaves_from cuts place
some_leaf cuts None = omega arith
some_leaf cuts (Some c) = omega arith

completed_nearer : (j : Joint) (shown : Shown) (entries : List IndexEntry) (keys : List ℕ) → under_way j ≡ true → leaves_ahead (completed j entries keys) shown < leaves_ahead j shown
completed_nearer j shown entries keys way =
    let old = ahead_split j shown (way_within j way) in
    let near = some_leaf (shown.cuts (present j).index j.snap) j.place in
    omega arith

pub abandoned_nearer : (j : Joint) (shown : Shown) → under_way j ≡ true → leaves_ahead (abandoned j) shown < leaves_ahead j shown
abandoned_nearer j shown way =
    let old = ahead_split j shown (way_within j way) in
    let near = some_leaf (shown.cuts (present j).index j.snap) j.place in
    omega arith

by_next : (old new : Joint) (shown : Shown) (entries : List IndexEntry) (next : Option IndexEntry) → under_way old ≡ true → Accepts old new entries next → leaves_after (shown.cuts (present old).index old.snap) next < leaves_from (shown.cuts (present old).index old.snap) old.place → leaves_ahead new shown < leaves_ahead old shown
by_next old new shown entries (Some cut) way a near = subst (λ (j : Joint). leaves_ahead j shown < leaves_ahead old shown) (sym a) (going_nearer old shown entries cut way near)
by_next old new shown entries None way a near = subst (λ (j : Joint). leaves_ahead j shown < leaves_ahead old shown) (sym a.3) (completed_nearer old shown entries a.0 way)

by_held : (old : Joint) (shown : Shown) (entries : List IndexEntry) (h : Option Chunk) → HasEntries h entries → IfSome h (IsNextLeaf old shown) → leaves_after (shown.cuts (present old).index old.snap) (held_next h) < leaves_from (shown.cuts (present old).index old.snap) old.place
by_held old shown entries None i d = absurd i
by_held old shown entries (Some h) i d = d.nearer

pub accepts_nearer : (old new : Joint) (piece : Pieced) (shown : Shown) → Awaits old piece → Accepts old new piece.entries (held_next old.held) → JointFits old shown → leaves_ahead new shown < leaves_ahead old shown
accepts_nearer old new piece shown w a f = by_next old new shown piece.entries (held_next old.held) w.way a (by_held old shown piece.entries old.held w.entries f.drawn)
