-- A step of the final stage, and what it leaves of a shell.
use Rattle.std.proofs.Common.{◌≡◌, ◌⊎◌, ℕ, List, [], length, true, Option, None, refl, ap, sym, ◌∙◌, arith, subst, inl, inr, Result, Ok, Err, false}
use Rattle.rv_value.specs.declared.duplicate.NoMemory.{NoMemory}
use Rattle.rv_value.specs.declared.record.Record.{Record}
use Rattle.rv_rows.specs.Rows.{Ascend}
use Rattle.rv_judge.specs.declared.counting.Counts.{Counts}
use Rattle.rv_judge.specs.declared.events.Control.{Control}
use Rattle.rv_judge.specs.declared.events.Control.TheVariants.{Building, ForegroundAlone, BackgroundAlone, FinalList, FinalTable, Done}
use Rattle.rv_judge.specs.Counting.{page_read, record_read}
use Rattle.rv_restrict.specs.declared.atom.Atom.{Atom}
use Rattle.rv_reader.specs.Shown.{Shown}
use Rattle.rv_scan.specs.Places.{PageReads, PageTurns, Place}
use Rattle.rv_scan.specs.Reads.{OneAtMost}
use Rattle.rv_reader.specs.declared.step.Step.{Step}
use Rattle.rv_reader.specs.declared.step.Step.TheVariants.{Row, Working, End}
use Rattle.rv_final.specs.LaneWork.{effort_by}
use Rattle.rv_final.specs.Rest.{StepMarks, Steps, rest_by}
use Rattle.rv_final.specs.Shell.{Advances, FinalDoes, FinalReads, FinalStep, IsFinal, OnlyPasses, Shelled, ended, ended_by, final_work, keys_work, left_by, moved, rest, scanning, table_work}
use Rattle.rv_final.specs.Stage.{FetchesKey, LastFits, PassesKeys, Staged, first_key, keys_left, list_left, table_left}
use Rattle.rv_final.specs.Work.{Falls, Tries}
use Rattle.rv_final.proofs.Endings.{done_tries, ended_tries, put_then, steps_by, told_as}
use Rattle.rv_final.proofs.Rests.{no_rest, same_rest}

-- BY THE CONTROL

rest_at : (only : List (List Atom)) (rows : List Record) (list : Option (List ℕ)) (s : Shelled) (c : Control) → s.control ≡ c → rest only rows list s ≡ rest_by (left_by c list s.at s.last rows) only rows
rest_at only rows list s c e = ap (λ (x : Control). rest_by (left_by x list s.at s.last rows) only rows) e

work_at : (rows : List Record) (pages : ℕ) (list : Option (List ℕ)) (s : Shelled) (c : Control) → s.control ≡ c → final_work rows pages list s ≡ effort_by c 0 (keys_work list s) (table_work rows pages s)
work_at rows pages list s c e = ap (λ (x : Control). effort_by x 0 (keys_work list s) (table_work rows pages s)) e

-- AN END leads to the last control, anything else leaves the place.

ended_at : (s : Step Record) (x : Shelled) → (ended_by s x).at ≡ x.at
ended_at (Row r) x = refl
ended_at Working x = refl
ended_at End x = refl

ended_last : (s : Step Record) (x : Shelled) → (ended_by s x).last ≡ x.last
ended_last (Row r) x = refl
ended_last Working x = refl
ended_last End x = refl

by_end : (table snap : ℕ) (only : List (List Atom)) (list : Option (List ℕ)) (shown : Shown) (c d : Counts) (s : Step Record) (old mid : Shelled) → mid ≡ moved old mid → LastFits table snap mid.last shown → ((need : List ℕ) → Steps need [] s (rest only (shown.rows table snap) list old) (rest only (shown.rows table snap) list mid)) → FinalDoes old.control only (shown.rows table snap) (shown.pages table snap) list c d s old (ended_by s mid) → FinalReads old.control c d → Tries c d (final_work (shown.rows table snap) (shown.pages table snap) list old) (final_work (shown.rows table snap) (shown.pages table snap) list mid) → Falls s c d (final_work (shown.rows table snap) (shown.pages table snap) list old) (final_work (shown.rows table snap) (shown.pages table snap) list mid) → FinalStep table snap only list shown c d (Ok s) old (ended_by s mid)
by_end table snap only list shown c d (Row r) old mid m l step does reads tries falls = record { does = does; moves = inl m; last = l; goes = record { step = step; ends = tt; err = tt; tries = tries; falls = falls }; still = tt; may_read = reads }
by_end table snap only list shown c d Working old mid m l step does reads tries falls = record { does = does; moves = inl m; last = l; goes = record { step = step; ends = tt; err = tt; tries = tries; falls = falls }; still = tt; may_read = reads }
by_end table snap only list shown c d End old mid m l step does reads tries falls = record {
  does = does;
  moves = inr (ap ended m);
  last = l;
  goes = record {
    step = λ need. ((step need).0, no_rest only (shown.rows table snap) (λ n. false) (λ n q. refl));
    ends = refl;
    err = tt;
    tries = ended_tries c d _ (final_work (shown.rows table snap) (shown.pages table snap) list mid) _ refl tries;
    falls = falls;
  };
  still = tt;
  may_read = reads;
}

-- THE LIST

keys_moved : (old new : Shelled) → new ≡ record old { at = new.at } → new ≡ moved old new
keys_moved old new e = subst (λ (x : Shelled). x ≡ moved old x) (sym e) refl

list_tries : (rows : List Record) (pages : ℕ) (list : Option (List ℕ)) (P : ℕ → ℕ → Type 0) (old new : Shelled) → old.control ≡ FinalList → new ≡ record old { at = new.at } → P (keys_work list old) (keys_work list new) → P (final_work rows pages list old) (final_work rows pages list new)
list_tries rows pages list P old new e n h = told_as P (keys_work list old) (keys_work list new) (final_work rows pages list old) (final_work rows pages list new) (work_at rows pages list old FinalList e) (work_at rows pages list new FinalList (ap (λ (x : Shelled). x.control) n ∙ e)) h

pub list_stepped : (table snap : ℕ) (only : List (List Atom)) (list : Option (List ℕ)) (shown : Shown) (c d : Counts) (s : Step Record) (old mid new : Shelled) → old.control ≡ FinalList → mid ≡ record old { at = mid.at } → new ≡ ended_by s mid → Ascend (shown.rows table snap) → LastFits table snap old.last shown → ((need : List ℕ) → StepMarks need only (shown.rows table snap) s (list_left list None old.at) (list_left list None mid.at)) → FetchesKey (first_key list None old.at) only (shown.rows table snap) c d s → OneAtMost record_read c d → Tries c d (keys_work list old) (keys_work list mid) → Falls s c d (keys_work list old) (keys_work list mid) → FinalStep table snap only list shown c d (Ok s) old new
list_stepped table snap only list shown c d s old mid new e m n asc l marks fetches reads tries falls =
    let rows = shown.rows table snap in
    let pages = shown.pages table snap in
    let there : mid.control ≡ FinalList = ap (λ (x : Shelled). x.control) m ∙ e in
    let does : FinalDoes FinalList only rows pages list c d s old (ended_by s mid) = (fetches, put_then (λ (x : Shelled). x.at) (λ (i : ℕ). record old { at = i }) (ended_by s) mid (ended_by s mid) (ended_at s mid) m refl, subst (λ (i : ℕ). Falls s c d (keys_work list old) (length (keys_left list i))) (sym (ended_at s mid)) falls) in
    subst (FinalStep table snap only list shown c d (Ok s) old) (sym n) (by_end table snap only list shown c d s old mid (keys_moved old mid m) (subst (λ (x : Place). LastFits table snap x shown) (sym (ap (λ (x : Shelled). x.last) m)) l) (λ need. steps_by need only rows s (list_left list None old.at) (list_left list None mid.at) (rest only rows list old) (rest only rows list mid) (rest_at only rows list old FinalList e) (rest_at only rows list mid FinalList there) asc (marks need)) (subst (λ (x : Control). FinalDoes x only rows pages list c d s old (ended_by s mid)) (sym e) does) (subst (λ (x : Control). FinalReads x c d) (sym e) reads) (list_tries rows pages list (Tries c d) old mid e m tries) (list_tries rows pages list (Falls s c d) old mid e m falls))

pub list_wanting : (x : NoMemory) (table snap : ℕ) (only : List (List Atom)) (list : Option (List ℕ)) (shown : Shown) (c d : Counts) (old new : Shelled) → old.control ≡ FinalList → new ≡ record old { at = new.at } → LastFits table snap old.last shown → PassesKeys list None old.at new.at → OneAtMost record_read c d → Tries c d (keys_work list old) (keys_work list new) → FinalStep table snap only list shown c d (Err x) old new
list_wanting x table snap only list shown c d old new e n l passed reads tries =
    let rows = shown.rows table snap in
    let there : new.control ≡ FinalList = ap (λ (x : Shelled). x.control) n ∙ e in
    record {
      does = tt;
      moves = inl (keys_moved old new n);
      last = subst (λ (x : Place). LastFits table snap x shown) (sym (ap (λ (x : Shelled). x.last) n)) l;
      goes = record {
        step = tt;
        ends = tt;
        err = rest_at only rows list new FinalList there ∙ same_rest only rows (list_left list None old.at) (list_left list None new.at) (λ k q. passed.same k) ∙ sym (rest_at only rows list old FinalList e);
        tries = list_tries rows (shown.pages table snap) list (Tries c d) old new e n tries;
        falls = tt;
      };
      still = record { same = n; fewer = tries.less };
      may_read = subst (λ (x : Control). FinalReads x c d) (sym e) reads;
    }

-- THE TABLE

rows_moved : (old new : Shelled) → new ≡ record old { last = new.last } → new ≡ moved old new
rows_moved old new e = subst (λ (x : Shelled). x ≡ moved old x) (sym e) refl

table_tries : (rows : List Record) (pages : ℕ) (list : Option (List ℕ)) (P : ℕ → ℕ → Type 0) (old new : Shelled) → old.control ≡ FinalTable → new ≡ record old { last = new.last } → P (table_work rows pages old) (table_work rows pages new) → P (final_work rows pages list old) (final_work rows pages list new)
table_tries rows pages list P old new e n h = told_as P (table_work rows pages old) (table_work rows pages new) (final_work rows pages list old) (final_work rows pages list new) (work_at rows pages list old FinalTable e) (work_at rows pages list new FinalTable (ap (λ (x : Shelled). x.control) n ∙ e)) h

pub table_stepped : (table snap : ℕ) (only : List (List Atom)) (list : Option (List ℕ)) (shown : Shown) (c d : Counts) (s : Step Record) (old mid new : Shelled) → old.control ≡ FinalTable → mid ≡ record old { last = mid.last } → new ≡ ended_by s mid → Ascend (shown.rows table snap) → LastFits table snap mid.last shown → ((need : List ℕ) → StepMarks need only (shown.rows table snap) s (table_left old.last (shown.rows table snap) None) (table_left mid.last (shown.rows table snap) None)) → PageReads s c d → PageTurns s old.last mid.last (shown.pages table snap) → OneAtMost page_read c d → Tries c d (table_work (shown.rows table snap) (shown.pages table snap) old) (table_work (shown.rows table snap) (shown.pages table snap) mid) → Falls s c d (table_work (shown.rows table snap) (shown.pages table snap) old) (table_work (shown.rows table snap) (shown.pages table snap) mid) → FinalStep table snap only list shown c d (Ok s) old new
table_stepped table snap only list shown c d s old mid new e m n asc l marks reads turns may tries falls =
    let rows = shown.rows table snap in
    let pages = shown.pages table snap in
    let there : mid.control ≡ FinalTable = ap (λ (x : Shelled). x.control) m ∙ e in
    let does : FinalDoes FinalTable only rows pages list c d s old (ended_by s mid) = (reads, put_then (λ (x : Shelled). x.last) (λ (p : Place). record old { last = p }) (ended_by s) mid (ended_by s mid) (ended_last s mid) m refl, subst (λ (p : Place). PageTurns s old.last p pages) (sym (ended_last s mid)) turns) in
    subst (FinalStep table snap only list shown c d (Ok s) old) (sym n) (by_end table snap only list shown c d s old mid (rows_moved old mid m) l (λ need. steps_by need only rows s (table_left old.last rows None) (table_left mid.last rows None) (rest only rows list old) (rest only rows list mid) (rest_at only rows list old FinalTable e) (rest_at only rows list mid FinalTable there) asc (marks need)) (subst (λ (x : Control). FinalDoes x only rows pages list c d s old (ended_by s mid)) (sym e) does) (subst (λ (x : Control). FinalReads x c d) (sym e) may) (table_tries rows pages list (Tries c d) old mid e m tries) (table_tries rows pages list (Falls s c d) old mid e m falls))

pub table_wanting : (x : NoMemory) (table snap : ℕ) (only : List (List Atom)) (list : Option (List ℕ)) (shown : Shown) (c d : Counts) (old new : Shelled) → old.control ≡ FinalTable → new ≡ old → LastFits table snap old.last shown → OneAtMost page_read c d → Tries c d (table_work (shown.rows table snap) (shown.pages table snap) old) (table_work (shown.rows table snap) (shown.pages table snap) new) → FinalStep table snap only list shown c d (Err x) old new
table_wanting x table snap only list shown c d old new e n l may tries = record {
  does = tt;
  moves = inl (subst (λ (x : Shelled). x ≡ moved old x) (sym n) refl);
  last = subst (λ (x : Shelled). LastFits table snap x.last shown) (sym n) l;
  goes = record {
    step = tt;
    ends = tt;
    err = ap (rest only (shown.rows table snap) list) n;
    tries = table_tries (shown.rows table snap) (shown.pages table snap) list (Tries c d) old new e (n ∙ ap (λ (x : Shelled). record old { last = x.last }) (sym n)) tries;
    falls = tt;
  };
  still = subst (OnlyPasses list old) (sym n) (record { same = refl; fewer = omega arith });
  may_read = subst (λ (x : Control). FinalReads x c d) (sym e) may;
}

-- What the final stage's calls leave of a shell.

abbrev pub stage_of : Shelled → Staged
stage_of s = record { at = s.at; last = s.last }

abbrev pub with_stage : Shelled → Staged → Shelled
with_stage s f = record s { at = f.at; last = f.last }

-- WHERE NO SCAN IS UNDER WAY

pub final_over : (c : Control) → IsFinal c → scanning c ≡ false
final_over c (inl e) = ap scanning e
final_over c (inr e) = ap scanning e

-- a step of the final stage begins none
pub stays_over : (old new : Shelled) → IsFinal old.control → (new ≡ moved old new) ⊎ (new ≡ ended (moved old new)) → scanning new.control ≡ false
stays_over old new at (inl e) = ap (λ (s : Shelled). scanning s.control) e ∙ final_over old.control at
stays_over old new at (inr e) = ap (λ (s : Shelled). scanning s.control) e

-- the effort is that of the final stage alone
pub no_scans : (c : Control) (scans keys table : ℕ) → scanning c ≡ false → effort_by c scans keys table ≡ effort_by c 0 keys table
no_scans Building scans keys table off = refl
no_scans ForegroundAlone scans keys table off = refl
no_scans BackgroundAlone scans keys table off = absurd (cc)
no_scans FinalList scans keys table off = refl
no_scans FinalTable scans keys table off = refl
no_scans Done scans keys table off = refl

-- WHAT A STEP COMES TO, told of the same rest and effort in other words

pub advances_as : (control : Control) (c d : Counts) (r : Result (Step Record) NoMemory) (was left told : List Record) (before first after last : ℕ) → told ≡ left → first ≡ before → last ≡ after → Advances control c d r was left before after → Advances control c d r was told first last
advances_as control c d r was left told before first after last t f l h = subst (λ (x : List Record). Advances control c d r was x first last) (sym t) (told_as (Advances control c d r was left) before after first last f l h)

-- nothing is left
pub done_advances : (control : Control) (c : Counts) (left : List Record) (n : ℕ) → control ≡ Done → left ≡ [] → Advances control c c (Ok End) left left n n
done_advances control c left n e none = record { step = λ need. (none, none); ends = e; err = tt; tries = done_tries c n; falls = refl }

-- nothing was done for want of memory
pub itself_wanting : (x : NoMemory) (table snap : ℕ) (only : List (List Atom)) (list : Option (List ℕ)) (shown : Shown) (c : Counts) (s : Shelled) → IsFinal s.control → LastFits table snap s.last shown → FinalStep table snap only list shown c c (Err x) s s
itself_wanting x table snap only list shown c s (inl e) l = list_wanting x table snap only list shown c c s s e refl l (record { same = λ n. refl }) (inl refl) (record { once = omega arith; less = omega arith })
itself_wanting x table snap only list shown c s (inr e) l = table_wanting x table snap only list shown c c s s e refl l (inl refl) (record { once = omega arith; less = omega arith })

-- the one control at which scans are under way
pub only_scanning : (c : Control) → scanning c ≡ true → c ≡ BackgroundAlone
only_scanning Building on = absurd (cc)
only_scanning ForegroundAlone on = absurd (cc)
only_scanning BackgroundAlone on = refl
only_scanning FinalList on = absurd (cc)
only_scanning FinalTable on = absurd (cc)
only_scanning Done on = absurd (cc)
