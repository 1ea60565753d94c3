-- The final stage of a union.
use Rattle.std.proofs.Common.{◌≡◌, ◌⊎◌, ℕ, ◌≤◌, List, [], length, false, refl, ap, sym, ◌∙◌, subst, inl, inr, Option, Some, None, IfSome, Result, Ok, Err, IfOk}
use Rattle.rv_value.specs.declared.duplicate.NoMemory.{NoMemory}
use Rattle.rv_value.proofs.Tests.{no_way}
use Rattle.rv_value.specs.declared.record.IndexEntry.{IndexEntry}
use Rattle.rv_value.specs.declared.record.Record.{Record}
use Rattle.rv_judge.specs.declared.counting.Counts.{Counts}
use Rattle.rv_judge.specs.declared.events.Control.{Control}
use Rattle.rv_judge.specs.declared.events.Control.TheVariants.{BackgroundAlone, FinalList, FinalTable, Done}
use Rattle.rv_judge.specs.declared.events.Event.TheVariants.{At}
use Rattle.rv_judge.specs.declared.events.Happening.TheVariants.{FinalEnded}
use Rattle.rv_judge.specs.declared.events.Strategy.TheVariants.{Union}
use Rattle.rv_judge.specs.declared.judging.Facts.{Facts}
use Rattle.rv_judge.specs.Tracing.{noted}
use Rattle.rv_judge.specs.Verdicts.{Ruling}
use Rattle.rv_reader.specs.declared.reader.Chunk.{Chunk}
use Rattle.rv_reader.specs.Shown.{Shown}
use Rattle.rv_reader.specs.declared.step.Step.{Step}
use Rattle.rv_reader.specs.declared.step.Step.TheVariants.{Row, Working, End}
use Rattle.rv_jscan.specs.declared.jscan.Given.{Given}
use Rattle.rv_jscan.specs.declared.jscan.Given.TheVariants.{Accepted}
use Rattle.rv_jscan.specs.declared.jscan.ScanPlan.{ScanPlan}
use Rattle.rv_jscan.specs.Lanes.{IsLeafAt}
use Rattle.rv_jscan.specs.Pieces.{Pieced}
use Rattle.rv_jscan.specs.Steps.{HasEntries}
use Rattle.rv_final.specs.Rest.{rest_by}
use Rattle.rv_final.specs.Shell.{Advances, FinalDoes, FinalReads, FinalStep, IsFinal, Shelled, ended, ended_by as shell_ended, final_work, left_by, moved, rest as rest_left, scanning}
use Rattle.rv_final.specs.Stage.{LastFits, Staged, keys_left}
use Rattle.rv_final.specs.Work.{Falls}
use Rattle.rv_final.proofs.Endings.{final_done}
use Rattle.rv_final.proofs.Givings.{was_accepted}
use Rattle.rv_final.proofs.Rests.{no_rest}
use Rattle.rv_final.proofs.Shells.{advances_as, final_over, no_scans, stays_over}
use Rattle.rv_union.specs.Effort.{effort, keys_work, scanning_work, table_work}
use Rattle.rv_union.specs.Given.{Answers, Awaits, TakesLeaf, piece_read}
use Rattle.rv_union.specs.Opened.{Does, DoesAs, MayRead, Steady, ended_by}
use Rattle.rv_union.specs.Unioned.{UnionFits, Unioned, present, rest, rows_of, shell_of, with_shell}
use Rattle.rv_union.specs.Rulings.{GivesOn, gone}
use Rattle.rv_union.proofs.Switches.{aside_fits}
use Rattle.rv_union.proofs.Tellings.{aside_tells, done_tells}

-- THE REST, BY THE CONTROL

pub rest_at : (r : Unioned) (shown : Shown) (c : Control) → r.control ≡ c → rest r shown ≡ rest_by (left_by c (Some r.keys) r.at r.last (rows_of r shown)) r.only (rows_of r shown)
rest_at r shown c e = ap (λ (x : Control). rest_by (left_by x (Some r.keys) r.at r.last (rows_of r shown)) r.only (rows_of r shown)) e

pub done_rest : (r : Unioned) (shown : Shown) → r.control ≡ Done → rest r shown ≡ []
done_rest r shown e = rest_at r shown Done e ∙ no_rest r.only (rows_of r shown) (λ n. false) (λ n q. refl)

-- the final stage's place in the union

abbrev pub stage_of : Unioned → Staged
stage_of r = record { at = r.at; last = r.last }

abbrev pub with_stage : Unioned → Staged → Unioned
with_stage r s = record r { at = s.at; last = s.last }

-- THE FIT

-- an end leads to the last control
gone_done : (r : Unioned) → IsFinal r.control → gone FinalEnded r ≡ record r { control = Done; trace = noted r.trace (At Done) }
gone_done r at = ap (λ (c : Control). record r { control = c; trace = noted r.trace (At c) }) (final_done Union r.control at)

pub done_fits : (r : Unioned) (shown : Shown) → IsFinal r.control → UnionFits r shown → UnionFits (gone FinalEnded r) shown
done_fits r shown at f = subst (λ (c : Control). UnionFits (record r { control = c; trace = (gone FinalEnded r).trace }) shown) (sym (final_done Union r.control at)) (aside_fits r Done r.at r.last (gone FinalEnded r).trace shown f.shell.last (λ h. no_way (sym h)) (λ h. no_way (sym h)) (λ h. absurd (cc)) refl f)

-- WHAT EVERY STEP OF IT KEEPS

-- the final stage's parts are none of what every step keeps
pub stage_steady : (r : Unioned) (s : Staged) (shown : Shown) → UnionFits (with_stage r s) shown → Steady r (with_stage r s) shown
stage_steady r s shown f = record {
  same = record { table = refl; snap = refl; cursor = refl; opening = refl; only = refl; plans = refl };
  counts = record { pages = refl; leaves = refl; fetches = refl };
  fits = f;
  tells = λ t. aside_tells r (with_stage r s) refl refl refl refl refl t;
}

moved_steady : (r : Unioned) (s : Staged) (shown : Shown) → IsFinal r.control → LastFits r.table r.snap s.last shown → UnionFits r shown → Steady r (with_stage r s) shown
moved_steady r s shown at l f = stage_steady r s shown (aside_fits r r.control s.at s.last r.trace shown l (λ h. no_way (sym h ∙ final_over r.control at)) f.finds f.covers f.shell.stands f)

pub ended_steady : (r mid new : Unioned) (shown : Shown) → IsFinal mid.control → new ≡ gone FinalEnded mid → Steady r mid shown → Steady r new shown
ended_steady r mid new shown at e s = subst (λ (x : Unioned). Steady r x shown) (sym e) record {
  same = record { table = s.same.table; snap = s.same.snap; cursor = s.same.cursor; opening = s.same.opening; only = s.same.only; plans = s.same.plans };
  counts = record { pages = s.counts.pages; leaves = s.counts.leaves; fetches = s.counts.fetches };
  fits = done_fits mid shown at s.fits;
  tells = λ t. done_tells mid at (s.tells t);
}

-- A STEP OF THE FINAL STAGE, as the shell makes it

abbrev pub Finishes : Shown → Counts → Counts → Result (Step Record) NoMemory → Unioned → Unioned → Type 0
Finishes shown c d r old new = FinalStep old.table old.snap old.only (Some old.keys) shown c d r (shell_of old) (shell_of new)

pub final_steady : (r : Result (Step Record) NoMemory) (shown : Shown) (c d : Counts) (old new : Unioned) → IsFinal old.control → new ≡ with_shell (shell_of new) old → Finishes shown c d r old new → UnionFits old shown → Steady old new shown
final_steady r shown c d old new at same f fits = by f.moves
  where
    mid : Unioned
    mid = with_stage old (stage_of new)

    steady : Steady old mid shown
    steady = moved_steady old (stage_of new) shown at f.last fits

    by : ((shell_of new ≡ moved (shell_of old) (shell_of new)) ⊎ (shell_of new ≡ ended (moved (shell_of old) (shell_of new)))) → Steady old new shown
    by (inl e) = subst (λ (x : Unioned). Steady old x shown) (sym (same ∙ ap (λ (s : Shelled). with_shell s old) e)) steady
    by (inr e) = ended_steady old mid new shown at (same ∙ ap (λ (s : Shelled). with_shell s old) e ∙ sym (gone_done mid at)) steady

as_ended : (s : Step Record) (r : Unioned) → IsFinal r.control → with_shell (shell_ended s (shell_of r)) r ≡ ended_by s r
as_ended (Row x) r at = refl
as_ended Working r at = refl
as_ended End r at = sym (gone_done r at)

pub final_does : (r : Result (Step Record) NoMemory) (rules : ℕ → Facts → Ruling) (stands : ℕ) (shown : Shown) (c d : Counts) (old new : Unioned) → IsFinal old.control → new ≡ with_shell (shell_of new) old → Finishes shown c d r old new → IfOk r (λ s. Does rules stands stands shown c d s old new)
final_does (Err x) rules stands shown c d old new at same f = tt
final_does (Ok s) rules stands shown c d old new at same f = by at
  where
    FinalDoesAt : Control → Type 0
    FinalDoesAt x = FinalDoes x old.only (rows_of old shown) (shown.pages old.table old.snap) (Some old.keys) c d s (shell_of old) (shell_of new)

    by : IsFinal old.control → Does rules stands stands shown c d s old new
    by (inl e) =
        let does : FinalDoesAt FinalList = subst FinalDoesAt e f.does in
        let mid = record old { at = new.at } in
        let is : new ≡ ended_by s mid = same ∙ ap (λ (x : Shelled). with_shell x old) does.1 ∙ as_ended s mid (inl e) in
        let falls = subst (λ (keys : List ℕ). Falls s c d (keys_work old) (length (keys_left (Some keys) new.at))) (sym (ap (λ (x : Unioned). x.keys) same)) does.2 in
        subst (λ (x : Control). DoesAs x rules stands stands shown c d s old new) (sym e) (refl, does.0, is, falls)
    by (inr e) =
        let does : FinalDoesAt FinalTable = subst FinalDoesAt e f.does in
        let mid = record old { last = new.last } in
        let is : new ≡ ended_by s mid = same ∙ ap (λ (x : Shelled). with_shell x old) does.1 ∙ as_ended s mid (inr e) in
        subst (λ (x : Control). DoesAs x rules stands stands shown c d s old new) (sym e) (refl, does.0, is, does.2)

-- the rest and the effort are those of the shell
final_rest : (old new : Unioned) (shown : Shown) → new ≡ with_shell (shell_of new) old → rest new shown ≡ rest_left old.only (rows_of old shown) (Some old.keys) (shell_of new)
final_rest old new shown same = ap (λ (x : Unioned). rest x shown) same

effort_over : (r : Unioned) (shown : Shown) → scanning r.control ≡ false → effort r shown ≡ final_work (rows_of r shown) (shown.pages r.table r.snap) (Some r.keys) (shell_of r)
effort_over r shown off = no_scans r.control (scanning_work r shown) (keys_work r) (table_work r shown) off

pub final_goes : (r : Result (Step Record) NoMemory) (shown : Shown) (c d : Counts) (old new : Unioned) → IsFinal old.control → new ≡ with_shell (shell_of new) old → Finishes shown c d r old new → Advances new.control c d r (rest old shown) (rest new shown) (effort old shown) (effort new shown)
final_goes r shown c d old new at same f =
    let off : scanning new.control ≡ false = stays_over (shell_of old) (shell_of new) at f.moves in
    let left = effort_over new shown off ∙ ap (λ (x : Unioned). final_work (rows_of x shown) (shown.pages x.table x.snap) (Some x.keys) (shell_of x)) same in
    advances_as new.control c d r _ _ _ _ _ _ _ (final_rest old new shown same) (effort_over old shown (final_over old.control at)) left f.goes

pub final_reads : (r : Unioned) (c d : Counts) → IsFinal r.control → FinalReads r.control c d → MayRead r.control r c d
final_reads r c d (inl e) reads = subst (λ (x : Control). MayRead x r c d) (sym e) (subst (λ (x : Control). FinalReads x c d) e reads)
final_reads r c d (inr e) reads = subst (λ (x : Control). MayRead x r c d) (sym e) (subst (λ (x : Control). FinalReads x c d) e reads)

-- the awaited piece was accepted
pub accepted_piece : (would : ℕ → Facts → Ruling) (state after : ℕ) (mid new : Unioned) (piece sieved : Pieced) (g : Given) → Awaits mid piece → sieved ≡ piece → Answers mid sieved g new → GivesOn would state after sieved g mid new → Awaits mid sieved × GivesOn would state after sieved Accepted mid new
accepted_piece would state after mid new piece sieved g a s answers o = was_accepted (λ g. Answers mid sieved g new) (λ g. GivesOn would state after sieved g mid new) g (λ asked now stale. stale.0 (subst (Awaits mid) (sym s) a)) answers o

-- a piece that was taken is a leaf
leaf_short : (plan : ScanPlan) (shown : Shown) (snap : ℕ) (place : Option IndexEntry) (held : Option Chunk) (entries : List IndexEntry) → HasEntries held entries → IfSome held (IsLeafAt plan shown snap place) → length entries ≤ 48
leaf_short plan shown snap place None entries has drawn = absurd has
leaf_short plan shown snap place (Some chunk) entries has drawn = subst (λ (es : List IndexEntry). length es ≤ 48) has drawn.short

-- one piece
pub one_piece : (would : ℕ → Facts → Ruling) (state after : ℕ) (old mid new : Unioned) (shown : Shown) (piece sieved : Pieced) (g : Given) (c d : Counts) → old.control ≡ BackgroundAlone → TakesLeaf old mid → Awaits mid piece → sieved ≡ piece → Answers mid sieved g new → GivesOn would state after sieved g mid new → d ≡ piece_read old c → UnionFits mid shown → Does would state after shown c d Working old new
one_piece would state after old mid new shown piece sieved g c d e leaves a s answers o reads fits =
    let was = accepted_piece would state after mid new piece sieved g a s answers o in
    let few = leaf_short (present mid) shown mid.snap mid.lane.place mid.lane.held sieved.entries was.0.own.entries fits.lane.drawn in
    subst (λ (x : Control). DoesAs x would state after shown c d Working old new) (sym e) (refl, record { taken = mid; piece = sieved; leaves = leaves; awaits = was.0; obeys = was.1; short = few }, reads)
