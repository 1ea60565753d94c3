-- What the calls of a retrieval leave, in the words of accesses: a take leaves what is awaited and counted, an accepted piece
-- raises the number of the next one by one, and no call changes what is asked, the strategy or the planned scans.
use Rattle.std.proofs.Common.{◌≡◌, ℕ, Bool, true, false, ◌==◌, List, length, Option, Some, None, if◌then◌else◌, refl, ap, sym, ◌∙◌, subst}
use Rattle.rv_value.specs.declared.record.IndexEntry.{IndexEntry}
use Rattle.rv_judge.specs.declared.counting.Counts.{Counts}
use Rattle.rv_judge.specs.declared.events.Control.{Control}
use Rattle.rv_judge.specs.declared.events.Control.TheVariants.{Building, ForegroundAlone, BackgroundAlone, FinalList, FinalTable, Done}
use Rattle.rv_judge.specs.declared.events.Happening.{Happening}
use Rattle.rv_judge.specs.declared.events.Happening.TheVariants.{FrontEnded, FinalEnded}
use Rattle.rv_judge.specs.declared.judging.Facts.{Facts}
use Rattle.rv_judge.specs.declared.judging.Verdict.{Verdict}
use Rattle.rv_judge.specs.declared.judging.Verdict.TheVariants.{Continue, AbandonScan, AbandonForeground, AbandonBackground}
use Rattle.rv_judge.specs.Counting.{one_more}
use Rattle.rv_judge.specs.Verdicts.{Ruling}
use Rattle.rv_reader.specs.Shown.{Shown}
use Rattle.rv_reader.specs.declared.step.Step.{Step}
use Rattle.rv_value.specs.declared.record.Record.{Record}
use Rattle.rv_reader.specs.declared.step.Step.TheVariants.{Row, Working, End}
use Rattle.rv_jscan.specs.declared.piece.PieceId.{PieceId}
use Rattle.rv_jscan.specs.declared.jscan.Given.{Given}
use Rattle.rv_jscan.specs.declared.jscan.Given.TheVariants.{Accepted, Stale}
use Rattle.rv_jscan.specs.Joint.{Joint, under_way}
use Rattle.rv_jscan.specs.Pieces.{Pieced}
use Rattle.rv_jscan.specs.Steps.{Accepts, awaited_id, held_next}
use Rattle.rv_retrieval.specs.Accounts.{fresh_of}
use Rattle.rv_retrieval.specs.Given.{AwaitsPiece, TakesLeaf, TakesLeafBy, awaited, more_behind}
use Rattle.rv_retrieval.specs.Rulings.{GivesOn, Obeyed, dropped, ruled, scan_over, stopped}
use Rattle.rv_retrieval.specs.Runs.{SameCourse}
use Rattle.rv_retrieval.specs.Shape.{Shape, is_background}
use Rattle.rv_retrieval.specs.Short.{fetches_left, is_settled}
use Rattle.rv_retrieval.specs.Stepping.{DoesAs, Kind, RemembersBy, StepsAs, StepsBehind, ended_by, filled, is_awaiting, kind_of, piece_read}
use Rattle.rv_retrieval.specs.Stepping.Kind.{Borrow, Piece, Walk, WalkBoth, NextKey, NextPage, Over}
use Rattle.rv_retrieval.specs.Telling.{can_stop}
use Rattle.rv_access.specs.Given.{CountsPiece}

-- what is asked, the strategy and the planned scans stay
pub record ShapePlans (old new : Shape) : Type 0 where
  pub query : new.query ≡ old.query
  pub strategy : new.strategy ≡ old.strategy
  pub plans : new.joint.plans ≡ old.joint.plans

-- the same piece is awaited, and none was counted
pub record ShapePieces (old new : Shape) : Type 0 where
  pub awaited : awaited new ≡ awaited old
  pub number : new.joint.number ≡ old.joint.number

-- A take.

joint_same : (back : Bool) (old new : Joint) → TakesLeafBy back old new → (awaited_id new ≡ awaited_id old) × (new.number ≡ old.number)
joint_same true old new taken = rw taken.same (refl, refl)
joint_same false old new taken = rw taken (refl, refl)

pub take_same : (old new : Shape) → new ≡ record old { joint = new.joint; trace = new.trace } → TakesLeaf old new.joint → ShapePieces old new
take_same old new same leaves =
    let joint = joint_same (is_background old.control) old.joint new.joint leaves in
    let control : new.control ≡ old.control = ap (λ (v : Shape). v.control) same in
    record { awaited = rw control (ap (λ (id : Option PieceId). if is_background old.control then id else None) joint.0); number = joint.1 }

-- A give.

accepted_number : (old new : Joint) (entries : List IndexEntry) (next : Option IndexEntry) → Accepts old new entries next → new.number ≡ one_more old.number
accepted_number old new entries (Some cut) accepts = ap (λ (j : Joint). j.number) accepts
accepted_number old new entries None accepts = ap (λ (j : Joint). j.number) accepts.3

record Turns (old new : Shape) : Type 0 where
  query : new.query ≡ old.query
  strategy : new.strategy ≡ old.strategy
  plans : new.joint.plans ≡ old.joint.plans
  number : new.joint.number ≡ old.joint.number

turned : (v : Shape) → Turns v v
turned v = record { query = refl; strategy = refl; plans = refl; number = refl }

over_turns : (scan : ℕ) (v : Shape) → Turns v (scan_over scan v)
over_turns scan v = by_way (under_way v.joint) refl
  where
    by_way : (b : Bool) → under_way v.joint ≡ b → Turns v (scan_over scan v)
    by_way true e = rw e (record { query = refl; strategy = refl; plans = refl; number = refl })
    by_way false e = rw e (record { query = refl; strategy = refl; plans = refl; number = refl })

dropped_turns : (verdict : Verdict) (more next : Bool) (v : Shape) → Turns v (dropped verdict more next v)
dropped_turns verdict more true v = record { query = refl; strategy = refl; plans = refl; number = refl }
dropped_turns verdict more false v = record { query = refl; strategy = refl; plans = refl; number = refl }

stopped_turns : (more : Bool) (v : Shape) → Turns v (stopped more v)
stopped_turns more v = by_stop (can_stop v) refl
  where
    by_stop : (b : Bool) → can_stop v ≡ b → Turns v (stopped more v)
    by_stop true e = rw e (record { query = refl; strategy = refl; plans = refl; number = refl })
    by_stop false e = rw e (turned v)

ruled_turns : (verdict : Verdict) (v : Shape) → Turns v (ruled verdict v)
ruled_turns Continue v = turned v
ruled_turns AbandonScan v = dropped_turns AbandonScan (more_behind v.joint) (more_behind v.joint) v
ruled_turns AbandonForeground v = stopped_turns (more_behind v.joint) v
ruled_turns AbandonBackground v = dropped_turns AbandonBackground (more_behind v.joint) false v

obeyed_turns : (same way : Bool) (would : ℕ → Facts → Ruling) (state after before : ℕ) (v new : Shape) → Obeyed same way would state after before v new → Turns v new
obeyed_turns true true would state after before v new obeyed = subst (Turns v) (sym obeyed.0) (ruled_turns _ v)
obeyed_turns true false would state after before v new obeyed = subst (Turns v) (sym obeyed.0) (turned v)
obeyed_turns false way would state after before v new obeyed = subst (Turns v) (sym obeyed.0) (over_turns before v)

accepted_turns : (would : ℕ → Facts → Ruling) (state after : ℕ) (piece : Pieced) (old new : Shape) → (gives : GivesOn would state after piece Accepted old new) → Turns (record old { joint = gives.0 }) new
accepted_turns would state after piece old new gives = obeyed_turns _ _ would state after old.joint.ended (record old { joint = gives.0 }) new gives.2

pub given_number : (would : ℕ → Facts → Ruling) (state after : ℕ) (piece : Pieced) (g : Given) (old new : Shape) → GivesOn would state after piece g old new → CountsPiece g old.joint.number new.joint.number
given_number would state after piece Accepted old new gives = (accepted_turns would state after piece old new gives).number ∙ accepted_number old.joint gives.0 piece.entries (held_next old.joint.held) gives.1
given_number would state after piece (Stale asked now) old new gives = ap (λ (w : Shape). w.joint.number) gives.0

pub piece_awaited : (v : Shape) (piece : Pieced) → AwaitsPiece v piece → awaited v ≡ Some piece.id
piece_awaited v piece awaits = rw (awaits.back, awaits.awaits.way) (ap (λ (id : PieceId). Some id) (sym awaits.awaits.id))

-- Strategy and planned scans.

plans_then : (u v w : Shape) → ShapePlans u v → ShapePlans v w → ShapePlans u w
plans_then u v w first after = record { query = after.query ∙ first.query; strategy = after.strategy ∙ first.strategy; plans = after.plans ∙ first.plans }

pub plans_stay : (v : Shape) → ShapePlans v v
plans_stay v = record { query = refl; strategy = refl; plans = refl }

turned_plans : (u v : Shape) → Turns u v → ShapePlans u v
turned_plans u v turns = record { query = turns.query; strategy = turns.strategy; plans = turns.plans }

accepted_plans : (old new : Joint) (entries : List IndexEntry) (next : Option IndexEntry) → Accepts old new entries next → new.plans ≡ old.plans
accepted_plans old new entries (Some cut) accepts = ap (λ (j : Joint). j.plans) accepts
accepted_plans old new entries None accepts = ap (λ (j : Joint). j.plans) accepts.3

pub given_plans : (would : ℕ → Facts → Ruling) (state after : ℕ) (piece : Pieced) (g : Given) (old new : Shape) → GivesOn would state after piece g old new → ShapePlans old new
given_plans would state after piece Accepted old new gives =
    let turns = accepted_turns would state after piece old new gives in
    record { query = turns.query; strategy = turns.strategy; plans = turns.plans ∙ accepted_plans old.joint gives.0 piece.entries (held_next old.joint.held) gives.1 }
given_plans would state after piece (Stale asked now) old new gives = subst (ShapePlans old) (sym gives.0) (plans_stay old)

taken_plans : (back : Bool) (old new : Joint) → TakesLeafBy back old new → new.plans ≡ old.plans
taken_plans true old new taken = ap (λ (j : Joint). j.plans) taken.same
taken_plans false old new taken = ap (λ (j : Joint). j.plans) taken

pub take_plans : (old new : Shape) → new ≡ record old { joint = new.joint; trace = new.trace } → TakesLeaf old new.joint → ShapePlans old new
take_plans old new same leaves = record {
  query = ap (λ (v : Shape). v.query) same;
  strategy = ap (λ (v : Shape). v.strategy) same;
  plans = taken_plans (is_background old.control) old.joint new.joint leaves;
}

filled_plans : (v : Shape) → ShapePlans v (filled v)
filled_plans v = by_full (length v.delivered == 1024) refl
  where
    by_full : (b : Bool) → (length v.delivered == 1024) ≡ b → ShapePlans v (filled v)
    by_full true e = rw e (record { query = refl; strategy = refl; plans = refl })
    by_full false e = rw e (plans_stay v)

remembers_plans : (s : Step Record) (old new : Shape) → RemembersBy s old new → ShapePlans old new
remembers_plans (Row r) old new does = subst (ShapePlans old) (sym does.same) (plans_then old (record old { delivered = new.delivered }) _ (record { query = refl; strategy = refl; plans = refl }) (filled_plans (record old { delivered = new.delivered })))
remembers_plans Working old new does = subst (ShapePlans old) (sym does) (plans_stay old)
remembers_plans End old new does = subst (ShapePlans old) (sym does) (record { query = refl; strategy = refl; plans = refl })

ended_plans : (h : Happening) (s : Step Record) (v : Shape) → ShapePlans v (ended_by h s v)
ended_plans h (Row r) v = plans_stay v
ended_plans h Working v = plans_stay v
ended_plans h End v = record { query = refl; strategy = refl; plans = refl }

behind_plans : (b : Bool) (would : ℕ → Facts → Ruling) (state after : ℕ) (old new : Shape) → StepsBehind b would state after old new → ShapePlans old new
behind_plans true would state after old new does = plans_then old (record old { joint = does.taken }) new (record { query = refl; strategy = refl; plans = ap (λ (j : Joint). j.plans) does.leaves.same }) (given_plans would state after does.piece Accepted (record old { joint = does.taken }) new does.obeys)
behind_plans false would state after old new does = subst (ShapePlans old) (sym does.0) (plans_stay old)

does_plans : (k : Kind) (would : ℕ → Facts → Ruling) (state after : ℕ) (shown : Shown) (c d : Counts) (s : Step Record) (old new : Shape) → DoesAs k would state after shown c d s old new → ShapePlans old new
does_plans (Borrow key) would state after shown c d s old new does = plans_then old (record old { borrowed = new.borrowed }) new (record { query = refl; strategy = refl; plans = refl }) (remembers_plans s (record old { borrowed = new.borrowed }) new does.1.left)
does_plans Piece would state after shown c d s old new does = plans_then old (record old { borrowed = does.1.passed }) new (record { query = refl; strategy = refl; plans = refl }) (behind_plans (is_awaiting old) would state after (record old { borrowed = does.1.passed }) new does.1.does)
does_plans Walk would state after shown c d s old new does = subst (ShapePlans old) (sym does.2) (plans_then old (record old { front = new.front }) _ (record { query = refl; strategy = refl; plans = refl }) (ended_plans FrontEnded s (record old { front = new.front })))
does_plans WalkBoth would state after shown c d s old new does = plans_then old (record old { front = new.front }) new (record { query = refl; strategy = refl; plans = refl }) (remembers_plans s (record old { front = new.front }) new does.1)
does_plans NextKey would state after shown c d s old new does = subst (ShapePlans old) (sym does.2) (plans_then old (record old { at = new.at }) _ (record { query = refl; strategy = refl; plans = refl }) (ended_plans FinalEnded s (record old { at = new.at })))
does_plans NextPage would state after shown c d s old new does = subst (ShapePlans old) (sym does.1) (plans_then old (record old { last = new.last }) _ (record { query = refl; strategy = refl; plans = refl }) (ended_plans FinalEnded s (record old { last = new.last })))
does_plans Over would state after shown c d s old new does = subst (ShapePlans old) (sym does.2) (plans_stay old)

pub steps_plans : (would : ℕ → Facts → Ruling) (state after : ℕ) (shown : Shown) (c d : Counts) (fg : Step Record) (old new : Shape) → StepsAs would state after shown c d fg old new → ShapePlans old new
steps_plans would state after shown c d fg old new steps = subst (ShapePlans old) (sym steps.counts) (plans_then old steps.stepped _ (does_plans (kind_of old.control old.strategy (fresh_of old)) would state after shown c d fg old steps.stepped steps.does) (record { query = refl; strategy = refl; plans = refl }))

pub course_plans : (old new : Shape) → SameCourse old new → ShapePlans old new
course_plans old new same = record { query = same.query; strategy = same.strategy; plans = same.plans }

-- Where a short index was scanned at opening a take changes nothing.

pub settled_back : (c : Control) → is_settled c ≡ true → is_background c ≡ false
settled_back Building s = absurd (cc)
settled_back ForegroundAlone s = refl
settled_back BackgroundAlone s = absurd (cc)
settled_back FinalList s = refl
settled_back FinalTable s = absurd (cc)
settled_back Done s = refl

pub settled_joint : (b : Bool) (old new : Joint) → b ≡ false → TakesLeafBy b old new → new ≡ old
settled_joint true old new e taken = absurd (cc)
settled_joint false old new e taken = taken

pub settled_fetches : (shown : Shown) (old new : Shape) → new ≡ record old { joint = new.joint; trace = new.trace } → new.joint ≡ old.joint → fetches_left new shown ≡ fetches_left old shown
settled_fetches shown old new same joint = ap (λ (v : Shape). fetches_left v shown) same ∙ ap (λ (j : Joint). fetches_left (record old { joint = j; trace = new.trace }) shown) joint

pub none_read : (v : Shape) (c : Counts) → awaited v ≡ None → c ≡ piece_read v c
none_read v c none = by (is_background v.control) (under_way v.joint) refl refl
  where
    by : (b w : Bool) → is_background v.control ≡ b → under_way v.joint ≡ w → c ≡ piece_read v c
    by true true e f = absurd (let some = rw (e, f) at none in cc)
    by true false e f = rw (e, f) refl
    by false w e f = rw e refl
