-- What a take does to the work that is left, over plain numbers and leaves: of races and of unions.
-- A scan is under way or not (`on`); `held` is the leaf that it held before the take, `now` the one that it holds behind it.
use Rattle.std.proofs.Common.{◌≡◌, ℕ, ◌+◌, ◌≤◌, List, [], ◌++◌, length, Bool, true, false, not, ◌&&◌, refl, ap, sym, ◌∙◌, arith, Option, Some, None, is_some, IfSome, Result, Ok, Err, IfOk}
use Rattle.std.specs.Prelude.{if◌then◌else◌}
use Rattle.std.proofs.lemmas.List.{length-append}
use Rattle.rv_value.specs.declared.record.IndexEntry.{IndexEntry}
use Rattle.rv_judge.specs.declared.counting.Counts.{Counts}
use Rattle.rv_judge.specs.Counting.{leaf_read, reads}
use Rattle.rv_reader.specs.declared.reader.Chunk.{Chunk}
use Rattle.rv_reader.specs.Leaves.{run_after}
use Rattle.rv_reader.specs.Shown.{Shown}
use Rattle.rv_jscan.specs.declared.piece.PieceId.{PieceId}
use Rattle.rv_jscan.specs.declared.jscan.ScanPlan.{ScanPlan}
use Rattle.rv_jscan.specs.declared.jscan.Taken.{Taken}
use Rattle.rv_jscan.specs.declared.jscan.Taken.TheVariants.{Piece, Nothing}
use Rattle.rv_jscan.specs.Lanes.{IsLeafAt, Laned}
use Rattle.rv_jscan.specs.Pieces.{Pieced, kept_by}
use Rattle.rv_jscan.specs.Steps.{HasEntries, held_next}
use Rattle.rv_final.specs.LaneWork.{lane_work, to_read}
use Rattle.rv_final.specs.Work.{Tries}
use Rattle.rv_final.proofs.LaneWork.{ahead_split, kept_few, leaf_once, none_held, read_once, some_leaf}

-- WHETHER A LEAF IS READ

-- no scan is under way
pub none_unread : (on : Bool) (held : Option Chunk) → on ≡ false → (on && not (is_some held)) ≡ false
none_unread on held off = no on (is_some held) off
  where
    no : (w h : Bool) → w ≡ false → (w && not h) ≡ false
    no w h o = grind arith

pub none_read : (on : Bool) (held : Option Chunk) (c : Counts) → on ≡ false → c ≡ (if (on && not (is_some held)) then leaf_read c else c)
none_read on held c off = sym (ap (λ (b : Bool). if b then leaf_read c else c) (none_unread on held off))

-- no piece is awaited
pub unawaited_read : (on : Bool) (id : PieceId) (held : Option Chunk) (c : Counts) → (if on then Some id else None) ≡ None → c ≡ (if (on && not (is_some held)) then leaf_read c else c)
unawaited_read true id held c none = absurd (let bad : Some id ≡ None = none in cc)
unawaited_read false id held c none = refl

-- one is under way
pub held_if : (on : Bool) (held : Option Chunk) → on ≡ true → (on && not (is_some held)) ≡ false → is_some held ≡ true
held_if on held back unread = has on (is_some held) back unread
  where
    has : (w h : Bool) → w ≡ true → (w && not h) ≡ false → h ≡ true
    has w h way unread = grind arith

pub once_read : (on : Bool) (held : Option Chunk) (c : Counts) → on ≡ true → (if is_some held then c else leaf_read c) ≡ (if (on && not (is_some held)) then leaf_read c else c)
once_read on held c back = once on (is_some held) back
  where
    once : (w h : Bool) → w ≡ true → (if h then c else leaf_read c) ≡ (if (w && not h) then leaf_read c else c)
    once true true way = refl
    once true false way = refl
    once false h way = absurd (cc)

-- WHAT A TAKE SPENDS, where the effort falls by the leaf that has no longer to be read

-- a leaf that is held
pub held_read : (held : Option Chunk) (entries : List IndexEntry) → HasEntries held entries → to_read held ≡ 0
held_read None entries has = absurd has
held_read (Some c) entries has = refl

pub leaf_tries : (on : Bool) (held now : Option Chunk) (before after : Counts) (old new : ℕ) → (on ≡ true → new + to_read held ≡ old + to_read now) → ((on && not (is_some held)) ≡ false → new ≡ old) → after ≡ (if (on && not (is_some held)) then leaf_read before else before) → Tries before after old new
leaf_tries on held now before after old new took same e = by (on && not (is_some held)) refl
  where
    by : (b : Bool) → (on && not (is_some held)) ≡ b → Tries before after old new
    by true r =
        let counted : after ≡ leaf_read before = e ∙ ap (λ (b : Bool). if b then leaf_read before else before) r in
        let once = leaf_once before in
        let said = ap reads counted in
        let none = none_held held on r in
        let was = ap to_read none.0 in
        let work = took none.1 in
        let read = read_once now in
        record { once = omega arith; less = omega arith }
    by false r =
        let counted : after ≡ before = e ∙ ap (λ (b : Bool). if b then leaf_read before else before) r in
        let said = ap reads counted in
        let kept = same r in
        record { once = omega arith; less = omega arith }

-- a take that answers lowers the effort by its read; `T` says what it answers
pub taken_spends : {E : Type 0} (r : Result Taken E) (T : Taken → Type 0) (on : Bool) (held now : Option Chunk) (before after : Counts) (old mid new : ℕ) → ((piece : Pieced) → T (Piece piece) → HasEntries now piece.entries) → (T Nothing → on ≡ false) → (on ≡ true → new + to_read held ≡ old + to_read now) → ((on && not (is_some held)) ≡ false → new ≡ old) → mid ≡ new → IfOk r T → after ≡ (if (on && not (is_some held)) then leaf_read before else before) → IfOk r (λ taken. reads after + mid ≤ reads before + old)
taken_spends (Err x) T on held now before after old mid new has off took same m k e = tt
taken_spends (Ok taken) T on held now before after old mid new has off took same m k e = by (on && not (is_some held)) refl
  where
    holds : (taken : Taken) → T taken → on ≡ true → to_read now ≡ 0
    holds (Piece piece) k back = held_read now piece.entries (has piece k)
    holds Nothing k back = absurd (let bad : true ≡ false = sym back ∙ off k in cc)

    by : (b : Bool) → (on && not (is_some held)) ≡ b → reads after + mid ≤ reads before + old
    by true r =
        let counted : after ≡ leaf_read before = e ∙ ap (λ (b : Bool). if b then leaf_read before else before) r in
        let once = leaf_once before in
        let said = ap reads counted in
        let none = none_held held on r in
        let was = ap to_read none.0 in
        let work = took none.1 in
        let here = holds taken k none.1 in
        omega arith
    by false r =
        let counted : after ≡ before = e ∙ ap (λ (b : Bool). if b then leaf_read before else before) r in
        let said = ap reads counted in
        let kept = same r in
        omega arith

-- A PIECE

-- the last one of a scan: what was built has no more keys than the scan had work, but for two
pub built_few : (plan : ScanPlan) (shown : Shown) (snap : ℕ) (l : Laned) (admits : ℕ → Bool) (piece : Pieced) → HasEntries l.held piece.entries → IfSome l.held (IsLeafAt plan shown snap l.place) → held_next l.held ≡ None → length (l.building ++ kept_by admits piece.part piece.entries) + 2 ≤ lane_work plan shown snap l
built_few plan shown snap l admits piece has d next =
    let parts = ahead_split plan shown snap l.place l.held piece.entries has d ∙ ap (λ (o : Option IndexEntry). piece.entries ++ run_after (shown.entries plan.index snap) plan.range o) next in
    let long = ap length parts ∙ length-append piece.entries [] in
    let built = length-append l.building (kept_by admits piece.part piece.entries) in
    let few = kept_few admits piece in
    let some = some_leaf (shown.cuts plan.index snap) l.place in
    omega arith
