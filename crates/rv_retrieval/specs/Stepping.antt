-- What a foreground step does, by the control, the strategy and the fresh key.
use Rattle.std.specs.Prelude.{◌≡◌, ◌⊎◌, ℕ, ◌<◌, ◌≤◌, Bool, true, false, ◌&&◌, ◌==◌, length, Option, Some, None, if◌then◌else◌}
use Rattle.rv_keylist.specs.Rows.{AddsRow}
use Rattle.rv_judge.specs.Counting.{leaf_read, page_read, record_read}
use Rattle.rv_judge.specs.declared.counting.Counts.{Counts}
use Rattle.rv_judge.specs.declared.events.Control.{Control}
use Rattle.rv_judge.specs.declared.events.Control.TheVariants.{Building, ForegroundAlone, BackgroundAlone, FinalList, FinalTable, Done}
use Rattle.rv_judge.specs.declared.events.Event.TheVariants.{Full as FullEvent}
use Rattle.rv_judge.specs.declared.events.Happening.{Happening}
use Rattle.rv_judge.specs.declared.events.Happening.TheVariants.{Full, FrontEnded, FinalEnded}
use Rattle.rv_judge.specs.declared.events.Strategy.{Strategy}
use Rattle.rv_judge.specs.declared.events.Strategy.TheVariants.{Table, BackgroundOnly, FastFirst, Sorted, IndexOnly, Union}
use Rattle.rv_judge.specs.declared.judging.Facts.{Facts}
use Rattle.rv_judge.specs.Verdicts.{Ruling}
use Rattle.rv_reader.specs.Shown.{Shown}
use Rattle.rv_reader.specs.Tables.{row_at}
use Rattle.rv_scan.specs.Alongs.{looked}
use Rattle.rv_scan.specs.Places.{PageReads, PageTurns}
use Rattle.rv_scan.specs.Told.{KeyReads}
use Rattle.rv_reader.specs.declared.step.Step.{Step}
use Rattle.rv_value.specs.declared.record.Record.{Record}
use Rattle.rv_reader.specs.declared.step.Step.TheVariants.{Row, Working, End}
use Rattle.rv_jscan.specs.declared.jscan.Given.TheVariants.{Accepted}
use Rattle.rv_jscan.specs.Joint.{Joint, under_way}
use Rattle.rv_jscan.specs.Pieces.{Pieced, may}
use Rattle.rv_jscan.specs.Steps.{Awaits, TakeLeaves, steps_read}
use Rattle.rv_retrieval.specs.Accounts.{fresh_of}
use Rattle.rv_retrieval.specs.Effort.{Awaiting, keys_work}
use Rattle.rv_retrieval.specs.Given.{TakesLeaf}
use Rattle.rv_retrieval.specs.Rulings.{GivesOn, gone}
use Rattle.rv_retrieval.specs.Shape.{Shape, is_background, is_building, is_index_only, is_sorted, rows_of}
use Rattle.rv_final.specs.Stage.{FetchesKey, first_key}
use Rattle.rv_final.specs.Work.{Falls}
use Rattle.rv_scan.specs.Fronts.{FrontMayRead, FrontReads, SameFront}
use Rattle.rv_scan.specs.Reads.{OneAtMost}
use Rattle.rv_judge.specs.Tracing.{SameCounts, counted, noted}

-- WHAT EVERY STEP KEEPS, whatever it answers: the query, the foreground's scan but for its place, and that a scan is
-- under way where pieces are awaited. It writes no counts into the trace; its caller does.
pub record Steady (old new : Shape) : Type 0 where
  pub counts : SameCounts old.trace new.trace
  pub query : new.query ≡ old.query
  pub awaiting : Awaiting old → Awaiting new
  pub front : SameFront old.front new.front

-- a piece is awaited
abbrev pub is_awaiting : Shape → Bool
is_awaiting v = is_background v.control && under_way v.joint

-- the awaited piece, which is a leaf and so has at most 48 entries, is taken, sieved and given
pub record OnePiece (would : ℕ → Facts → Ruling) (state after : ℕ) (old new : Shape) : Type 0 where
  pub taken : Joint
  pub piece : Pieced
  pub short : length piece.entries ≤ 48
  pub leaves : TakeLeaves old.joint taken
  pub awaits : Awaits taken piece
  pub obeys : GivesOn would state after piece Accepted (record old { joint = taken }) new

-- A BACKGROUND STEP: one piece, upon which the judge is asked and obeyed as by a give; nothing where none is awaited
abbrev pub StepsBehind : Bool → (ℕ → Facts → Ruling) → ℕ → ℕ → Shape → Shape → Type 0
StepsBehind true would state after old new = OnePiece would state after old new
StepsBehind false would state after old new = (new ≡ old) × (after ≡ state)

-- the same where delivered keys are passed over before
pub record StepsBackground (would : ℕ → Facts → Ruling) (state after : ℕ) (old new : Shape) : Type 0 where
  pub passed : ℕ
  pub further : old.borrowed ≤ passed
  pub fresh : fresh_of (record old { borrowed = passed }) ≡ fresh_of old
  pub does : StepsBehind (is_awaiting old) would state after (record old { borrowed = passed }) new

-- a full buffer changes the control
abbrev pub filled : Shape → Shape
filled v = if length v.delivered == 1024 then gone Full (record v { trace = noted v.trace FullEvent }) else v

-- a row that is given is remembered, and the buffer may be full with it
pub record Remembered (row : ℕ) (old new : Shape) : Type 0 where
  pub adds : AddsRow old.delivered new.delivered row
  pub same : new ≡ filled (record old { delivered = new.delivered })

abbrev pub RemembersBy : Step Record → Shape → Shape → Type 0
RemembersBy (Row r) old new = Remembered r.row.0 old new
RemembersBy Working old new = new ≡ old
RemembersBy End old new = new ≡ gone FrontEnded old

-- a row that the foreground's scan gives is remembered where an index-only one runs beside the background
pub record GivesAhead (row : ℕ) (old new : Shape) : Type 0 where
  pub fills : (is_building old.control && is_index_only old.strategy) ≡ true → Remembered row old new
  pub forgets : (is_building old.control && is_index_only old.strategy) ≡ false → new ≡ old

-- what the scan's answer leads to
abbrev pub LeavesAhead : Step Record → Shape → Shape → Type 0
LeavesAhead (Row r) old new = GivesAhead r.row.0 old new
LeavesAhead Working old new = new ≡ old
LeavesAhead End old new = new ≡ gone FrontEnded old

-- the record of a row was read; a sorted foreground reads none that the complete list cannot have
pub record WalkRow (v : Shape) (shown : Shown) (c d : Counts) (s : Step Record) : Type 0 where
  pub row : ℕ
  pub listed : is_sorted v.strategy ≡ true → may v.joint.list row ≡ true
  pub read : d ≡ record_read c
  pub looks : s ≡ looked v.query.only (row_at (rows_of v shown) row)

abbrev pub WalkReads : Shape → Shown → Counts → Counts → Step Record → Type 0
WalkReads v shown c d s = WalkRow v shown c d s ⊎ (d.records ≡ c.records)

-- the first key of the complete list that is left and was not delivered
abbrev pub first_left : Shape → Option ℕ
first_left v = first_key v.joint.list (Some v.delivered) v.at

-- that key's row is fetched, and given exactly where it qualifies; where there is none it is the end
abbrev pub ListReads : Shape → Shown → Counts → Counts → Step Record → Type 0
ListReads v shown c d s = FetchesKey (first_left v) v.query.only (rows_of v shown) c d s

-- a source at its end leads to the last control
abbrev pub ended_by : Happening → Step Record → Shape → Shape
ended_by happening (Row r) v = v
ended_by happening Working v = v
ended_by happening End v = gone happening v

-- the row of a fresh key, which is then behind, is fetched, and given exactly where it qualifies
pub record Borrows (key : ℕ) (shown : Shown) (before after : Counts) (s : Step Record) (old new : Shape) : Type 0 where
  pub further : old.borrowed < new.borrowed
  pub read : after ≡ record_read before
  pub looks : s ≡ looked old.query.only (row_at (rows_of old shown) key)
  pub left : RemembersBy s (record old { borrowed = new.borrowed }) new

-- What a step is: the fetch of a fresh key, a background step, a step of the foreground's scan that remembers nothing
-- or what it gives, the fetch of a key of the complete list, a step through the table, or nothing.
pub data Kind : Type 0 where
  Borrow : ℕ → Kind
  Piece : Kind
  Walk : Kind
  WalkBoth : Kind
  NextKey : Kind
  NextPage : Kind
  Over : Kind

abbrev pub while_both : Strategy → Option ℕ → Kind
while_both Table fresh = Piece
while_both BackgroundOnly fresh = Piece
while_both Union fresh = Piece
while_both FastFirst None = Piece
while_both FastFirst (Some key) = Borrow key
while_both Sorted fresh = Walk
while_both IndexOnly fresh = WalkBoth

abbrev pub kind_of : Control → Strategy → Option ℕ → Kind
kind_of Building strategy fresh = while_both strategy fresh
kind_of ForegroundAlone strategy fresh = Walk
kind_of BackgroundAlone strategy fresh = Piece
kind_of FinalList strategy fresh = NextKey
kind_of FinalTable strategy fresh = NextPage
kind_of Done strategy fresh = Over

-- what each of them changes; the judge is asked by a background step alone
abbrev pub DoesAs : Kind → (ℕ → Facts → Ruling) → ℕ → ℕ → Shown → Counts → Counts → Step Record → Shape → Shape → Type 0
DoesAs (Borrow key) would state after shown c d s old new = (after ≡ state) × Borrows key shown c d s old new
DoesAs Piece would state after shown c d s old new = (s ≡ Working) × StepsBackground would state after old new
DoesAs Walk would state after shown c d s old new =
    (after ≡ state) × WalkReads old shown c d s × (new ≡ ended_by FrontEnded s (record old { front = new.front }))
DoesAs WalkBoth would state after shown c d s old new =
    (after ≡ state) × RemembersBy s (record old { front = new.front }) new
DoesAs NextKey would state after shown c d s old new =
    (after ≡ state) × ListReads old shown c d s × (new ≡ ended_by FinalEnded s (record old { at = new.at }))
    × Falls s c d (keys_work old) (keys_work new)
DoesAs NextPage would state after shown c d s old new =
    (after ≡ state) × (new ≡ ended_by FinalEnded s (record old { last = new.last }))
    × PageTurns s old.last new.last (shown.pages old.query.table old.query.snap)
DoesAs Over would state after shown c d s old new = (after ≡ state) × (s ≡ End) × (new ≡ old)

-- WHAT A FOREGROUND STEP DOES
abbrev pub DoesIts : (ℕ → Facts → Ruling) → ℕ → ℕ → Shown → Counts → Counts → Step Record → Shape → Shape → Type 0
DoesIts would state after shown c d s old new =
    DoesAs (kind_of old.control old.strategy (fresh_of old)) would state after shown c d s old new

-- the awaited leaf is read where it is not held
abbrev pub piece_read : Shape → Counts → Counts
piece_read v c = if is_background v.control then steps_read v.joint c else c

-- WHAT A STEP OF EACH KIND MAY READ, whatever it answers: the record of the fresh key, the awaited leaf, a leaf or a
-- record of the foreground's scan, the record of a listed key, a page, or nothing
abbrev pub MayRead : Kind → Shape → Counts → Counts → Type 0
MayRead (Borrow key) v c d = d ≡ record_read c
MayRead Piece v c d = d ≡ piece_read v c
MayRead Walk v c d = FrontMayRead v.front.alone c d
MayRead WalkBoth v c d = OneAtMost leaf_read c d
MayRead NextKey v c d = OneAtMost record_read c d
MayRead NextPage v c d = OneAtMost page_read c d
MayRead Over v c d = d ≡ c

abbrev pub MayReadIts : Shape → Counts → Counts → Type 0
MayReadIts v c d = MayRead (kind_of v.control v.strategy (fresh_of v)) v c d

-- what it reads by its answer: a scan reads nothing where it gives a row of the leaf or page that it holds
abbrev pub ReadsAs : Kind → Shape → Step Record → Counts → Counts → Type 0
ReadsAs (Borrow key) v s c d = d ≡ record_read c
ReadsAs Piece v s c d = d ≡ piece_read v c
ReadsAs Walk v s c d = FrontReads v.front.alone s c d
ReadsAs WalkBoth v s c d = KeyReads s c d
ReadsAs NextKey v s c d = OneAtMost record_read c d
ReadsAs NextPage v s c d = PageReads s c d
ReadsAs Over v s c d = d ≡ c

abbrev pub ReadsIts : Shape → Counts → Counts → Step Record → Type 0
ReadsIts v c d s = ReadsAs (kind_of v.control v.strategy (fresh_of v)) v s c d

-- WHAT A STEP LEAVES THAT FOUND NO MEMORY: the awaited leaf may have been taken and keys of delivered rows passed
-- over. No piece is accepted.
pub record OnlyTakes (old new : Shape) : Type 0 where
  pub same : new ≡ record old { joint = new.joint; borrowed = new.borrowed; at = new.at; trace = new.trace }
  pub leaves : (new.joint ≡ old.joint) ⊎ TakesLeaf old new.joint
  pub fresh : under_way old.joint ≡ true → fresh_of new ≡ fresh_of old
  pub further : old.borrowed ≤ new.borrowed
  pub fewer : keys_work new ≤ keys_work old

-- what it does and reads, and then what it read is counted
pub record StepsAs (would : ℕ → Facts → Ruling) (state after : ℕ) (shown : Shown) (c d : Counts) (fg : Step Record)
    (old new : Shape) : Type 0 where
  pub stepped : Shape
  pub does : DoesIts would state after shown c d fg old stepped
  pub reads : ReadsIts old c d fg
  pub counts : new ≡ record stepped { trace = counted stepped.trace c d }
