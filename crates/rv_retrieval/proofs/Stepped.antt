-- What a step does, from what its parts do.
use Rattle.std.proofs.Common.{◌≡◌, ◌⊎◌, ◌∙◌, ℕ, ◌+◌, ◌<◌, ◌≤◌, List, ◌∷◌, Bool, true, false, not, ◌&&◌, Option, Some, None, Result, Ok, Err, IfOk, IfSome, drop, find, length, refl, ap, sym, subst, arith, le_trans, inl, inr, ◌==◌}
use Rattle.std.specs.Prelude.{if◌then◌else◌}
use Rattle.std.proofs.lemmas.Bool.{cases_Bool, and_from}
use Rattle.rv_reader.proofs.Rows.{found_row}
use Rattle.rv_value.specs.declared.record.IndexEntry.{IndexEntry}
use Rattle.rv_value.specs.declared.record.Record.{Record}
use Rattle.rv_value.specs.declared.record.RowNo.{RowNo}
use Rattle.rv_keylist.specs.Keys.{has_key}
use Rattle.rv_judge.specs.Counting.{record_read}
use Rattle.rv_judge.specs.Course.{building, fast_first}
use Rattle.rv_judge.specs.declared.counting.Counts.{Counts}
use Rattle.rv_judge.specs.declared.events.Control.{Control}
use Rattle.rv_judge.specs.declared.events.Control.TheVariants.{Building}
use Rattle.rv_judge.specs.declared.events.Strategy.{Strategy}
use Rattle.rv_judge.specs.declared.events.Strategy.TheVariants.{Table, BackgroundOnly, FastFirst, Union}
use Rattle.rv_judge.specs.declared.judging.Facts.{Facts}
use Rattle.rv_judge.specs.Verdicts.{Ruling}
use Rattle.rv_restrict.specs.Truth.{qualifies}
use Rattle.rv_reader.specs.declared.reader.Chunk.{Chunk}
use Rattle.rv_reader.specs.Shown.{Shown}
use Rattle.rv_reader.specs.Tables.{row_at}
use Rattle.rv_scan.specs.Alongs.{looked}
use Rattle.rv_reader.specs.declared.step.Step.{Step}
use Rattle.rv_reader.specs.declared.step.Step.TheVariants.{Row, Working}
use Rattle.rv_jscan.specs.declared.jscan.Given.{Given}
use Rattle.rv_jscan.specs.declared.jscan.Given.TheVariants.{Accepted, Stale}
use Rattle.rv_jscan.specs.Joint.{IsNextLeaf, Joint, under_way}
use Rattle.rv_jscan.specs.Pieces.{Pieced}
use Rattle.rv_jscan.specs.Steps.{HasEntries, TakeLeaves}
use Rattle.rv_retrieval.specs.Accounts.{IsFresh, NextBorrowed, first_fresh, fresh_of}
use Rattle.rv_retrieval.specs.Given.{Answers, AwaitsPiece, TakesLeafBy}
use Rattle.rv_retrieval.specs.Rulings.{GivesOn}
use Rattle.rv_retrieval.specs.Shape.{Shape, is_background, lending, rows_of}
use Rattle.rv_retrieval.specs.Stepping.{Borrows, DoesAs, DoesIts, Kind, Piece, Remembered, StepsBackground, StepsBehind, filled, is_awaiting, kind_of, while_both}

-- a delivered key is passed over
pub passes_on : (v mid : Shape) (row : RowNo) → mid ≡ record v { borrowed = v.borrowed + 1 } → has_key row.0 v.delivered ≡ true → NextBorrowed v (Some row) → first_fresh mid ≡ first_fresh v
passes_on v mid row e h n = ap first_fresh e ∙ sym (ap (find (λ (k : ℕ). not (has_key k v.delivered))) n ∙ gone)
  where
    gone : find (λ (k : ℕ). not (has_key k v.delivered)) (row.0 ∷ drop (v.borrowed + 1) (lending v.joint)) ≡ find (λ (k : ℕ). not (has_key k v.delivered)) (drop (v.borrowed + 1) (lending v.joint))
    gone = rw h refl

pub fresh_on : (v mid : Shape) (r : Option RowNo) → first_fresh mid ≡ first_fresh v → IsFresh mid r → IsFresh v r
fresh_on v mid None e f = sym e ∙ f
fresh_on v mid (Some row) e f = sym e ∙ f

pub further_one : (was now : ℕ) → now ≡ was + 1 → was < now
further_one was now e = omega (arith, e)

-- the row of a fresh key does not qualify
pub borrowed_none : (v new : Shape) (key : ℕ) (shown : Shown) (c d : Counts) → new ≡ record v { borrowed = v.borrowed + 1 } → Working ≡ looked v.query.only (row_at (rows_of v shown) key) → d ≡ record_read c → Borrows key shown c d Working v new
borrowed_none v new key shown c d e l r =
    record {
      further = further_one v.borrowed new.borrowed (ap (λ (x : Shape). x.borrowed) e);
      read = r;
      looks = l;
      left = subst (λ (x : Shape). x ≡ record v { borrowed = x.borrowed }) (sym e) refl;
    }

-- the row of a fresh key was given
pub borrowed_row : (v mid new : Shape) (row : RowNo) (found : Record) (shown : Shown) (c d : Counts) → mid ≡ record v { borrowed = v.borrowed + 1 } → Remembered row.0 mid new → Row found ≡ looked v.query.only (row_at (rows_of v shown) row.0) → d ≡ record_read c → Borrows row.0 shown c d (Row found) v new
borrowed_row v mid new row found shown c d e m l r =
    let next : Remembered row.0 (record v { borrowed = v.borrowed + 1 }) new = subst (λ (x : Shape). Remembered row.0 x new) e m in
    let at : new.borrowed ≡ v.borrowed + 1 = ap (λ (x : Shape). x.borrowed) next.same ∙ kept (record v { borrowed = v.borrowed + 1; delivered = new.delivered }) in
    record {
      further = further_one v.borrowed new.borrowed at;
      read = r;
      looks = l;
      left = subst (λ (b : ℕ). Remembered found.row.0 (record v { borrowed = b }) new) (sym at) (subst (λ (k : ℕ). Remembered k (record v { borrowed = v.borrowed + 1 }) new) (number (row_at (rows_of v shown) row.0) refl l) next);
    }
  where
    kept : (x : Shape) → (filled x).borrowed ≡ x.borrowed
    kept x = elim (cases_Bool (length x.delivered == 1024)) [
      | inl on ↦ rw on refl
      | inr off ↦ rw off refl
    ]

    number : (o : Option Record) → row_at (rows_of v shown) row.0 ≡ o → Row found ≡ looked v.query.only o → row.0 ≡ found.row.0
    number None e l = let bad : Row found ≡ Working = l in absurd (cc)
    number (Some x) e l = by (qualifies v.query.only x.values) l
      where
        by : (b : Bool) → Row found ≡ (if b then Row x else Working) → row.0 ≡ found.row.0
        by true l = let same : found ≡ x = cc in sym (found_row (rows_of v shown) row.0 x e) ∙ ap (λ (y : Record). y.row.0) (sym same)
        by false l = let bad : Row found ≡ Working = l in absurd (cc)

-- A background step.

way_taken : (old new : Joint) → TakeLeaves old new → under_way new ≡ under_way old
way_taken old new t = ap under_way t.same

pub one_piece : (would : ℕ → Facts → Ruling) (state after : ℕ) (old mid new : Shape) (piece sieved : Pieced) (g : Given) → mid ≡ record old { joint = mid.joint } → TakesLeafBy (is_background old.control) old.joint mid.joint → AwaitsPiece mid piece → sieved ≡ piece → length piece.entries ≤ 48 → Answers mid sieved g new → GivesOn would state after sieved g mid new → StepsBehind (is_awaiting old) would state after old new
one_piece would state after old mid new piece sieved g e leaves a s few answers o =
    let back : is_background old.control ≡ true = ap (λ (x : Shape). is_background x.control) (sym e) ∙ a.back in
    let taken : TakeLeaves old.joint mid.joint = subst (λ (b : Bool). TakesLeafBy b old.joint mid.joint) back leaves in
    let way : under_way old.joint ≡ true = sym (way_taken old.joint mid.joint taken) ∙ a.awaits.way in
    subst (λ (b : Bool). StepsBehind b would state after old new) (sym (and_from (is_background old.control) (under_way old.joint) back way)) (record {
      taken = mid.joint;
      piece = sieved;
      short = subst (λ (p : Pieced). length p.entries ≤ 48) (sym s) few;
      leaves = taken;
      awaits = subst (λ (p : Pieced). Rattle.rv_jscan.specs.Steps.Awaits mid.joint p) (sym s) a.awaits;
      obeys = subst (λ (x : Shape). GivesOn would state after sieved Accepted x new) e (accepted g answers o);
    })
  where
    accepted : (g : Given) → Answers mid sieved g new → GivesOn would state after sieved g mid new → GivesOn would state after sieved Accepted mid new
    accepted Accepted answers o = o
    accepted (Stale asked now) (never, _, _, _) o = absurd (never (subst (AwaitsPiece mid) (sym s) a))

-- a piece that was taken is a leaf
pub taken_short : (h : Option Chunk) (j : Joint) (shown : Shown) (entries : List IndexEntry) → HasEntries h entries → IfSome h (IsNextLeaf j shown) → length entries ≤ 48
taken_short None j shown entries has drawn = absurd has
taken_short (Some chunk) j shown entries has drawn = subst (λ (es : List IndexEntry). length es ≤ 48) has drawn.short

pub as_it_is : (would : ℕ → Facts → Ruling) (state after : ℕ) (old new : Shape) → StepsBehind (is_awaiting old) would state after old new → StepsBackground would state after old new
as_it_is would state after old new s = record { passed = old.borrowed; further = omega arith; fresh = refl; does = s }

pub passed_first : (would : ℕ → Facts → Ruling) (state after : ℕ) (old mid new : Shape) → mid ≡ record old { borrowed = mid.borrowed } → old.borrowed ≤ mid.borrowed → first_fresh mid ≡ first_fresh old → StepsBackground would state after mid new → StepsBackground would state after old new
passed_first would state after old mid new e on f s =
    let moved = subst (λ (x : Shape). StepsBackground would state after x new) e s in
    record {
      passed = moved.passed;
      further = le_trans on s.further;
      fresh = moved.fresh ∙ same;
      does = moved.does;
    }
  where
    same : fresh_of (record old { borrowed = mid.borrowed }) ≡ fresh_of old
    same = sym (ap fresh_of e) ∙ ap (λ (o : Option ℕ). if building mid.control && fast_first mid.strategy then o else None) f ∙ ap (λ (x : Shape). if building x.control && fast_first x.strategy then first_fresh old else None) e

-- a fast-first step without a fresh key
pub fast_behind : {E : Type 0} (r : Result (Step Record) E) (would : ℕ → Facts → Ruling) (state after : ℕ) (shown : Shown) (c d : Counts) (v mid new : Shape) → v.control ≡ Building → v.strategy ≡ FastFirst → mid ≡ record v { borrowed = mid.borrowed } → v.borrowed ≤ mid.borrowed → first_fresh mid ≡ first_fresh v → first_fresh v ≡ None → IfOk r (λ s. (s ≡ Working) × StepsBackground would state after mid new) → IfOk r (λ s. DoesIts would state after shown c d s v new)
fast_behind (Err x) would state after shown c d v mid new ec es e on f none b = tt
fast_behind (Ok s) would state after shown c d v mid new ec es e on f none b =
    let fresh : fresh_of v ≡ None = ap (λ (x : Control). if building x && fast_first v.strategy then first_fresh v else None) ec ∙ ap (λ (x : Strategy). if fast_first x then first_fresh v else None) es ∙ none in
    let kind : kind_of v.control v.strategy (fresh_of v) ≡ Piece = ap (λ (x : Control). kind_of x v.strategy (fresh_of v)) ec ∙ ap (λ (x : Strategy). while_both x (fresh_of v)) es ∙ ap (while_both FastFirst) fresh in
    subst (λ (k : Kind). DoesAs k would state after shown c d s v new) (sym kind) (b.0, passed_first would state after v mid new e on f b.1)

-- a step while both sides run, of a strategy whose foreground gives nothing, is a background step
pub background_kind : (control : Control) (strategy : Strategy) (fresh : Option ℕ) → control ≡ Building → (strategy ≡ Table) ⊎ ((strategy ≡ BackgroundOnly) ⊎ (strategy ≡ Union)) → kind_of control strategy fresh ≡ Piece
background_kind control strategy fresh both (inl table) = rw (both, table) refl
background_kind control strategy fresh both (inr (inl alone)) = rw (both, alone) refl
background_kind control strategy fresh both (inr (inr union)) = rw (both, union) refl

pub piece_does : {E : Type 0} (r : Result (Step Record) E) (would : ℕ → Facts → Ruling) (state after : ℕ) (shown : Shown) (c d : Counts) (old new : Shape) → old.control ≡ Building → (old.strategy ≡ Table) ⊎ ((old.strategy ≡ BackgroundOnly) ⊎ (old.strategy ≡ Union)) → IfOk r (λ s. (s ≡ Working) × StepsBackground would state after old new) → IfOk r (λ s. DoesIts would state after shown c d s old new)
piece_does (Ok s) would state after shown c d old new both which h = subst (λ (k : Kind). DoesAs k would state after shown c d s old new) (sym (background_kind old.control old.strategy (fresh_of old) both which)) h
piece_does (Err e) would state after shown c d old new both which h = tt
