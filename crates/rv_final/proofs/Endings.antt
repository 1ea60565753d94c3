-- The final stage, over plain tests, numbers, controls and traces: of races and of unions, and in part of retrievals.
use Rattle.std.proofs.Common.{◌≡◌, ℕ, ◌-◌, List, [], Bool, true, false, not, ◌&&◌, Option, None, refl, ap, sym, ◌∙◌, arith, subst, inl, inr, Result, Ok, Err, IfOk}
use Rattle.rv_value.specs.declared.record.Record.{Record}
use Rattle.rv_rows.specs.Rows.{Ascend}
use Rattle.rv_keylist.specs.Keys.{has_key}
use Rattle.rv_judge.specs.declared.counting.Counts.{Counts}
use Rattle.rv_judge.specs.declared.events.Control.{Control}
use Rattle.rv_judge.specs.declared.events.Control.TheVariants.{Done}
use Rattle.rv_judge.specs.declared.events.Happening.TheVariants.{FinalEnded}
use Rattle.rv_judge.specs.declared.events.Strategy.{Strategy}
use Rattle.rv_judge.specs.declared.events.Trace.{Trace}
use Rattle.rv_judge.specs.Counting.{raised}
use Rattle.rv_judge.specs.Course.{next_control}
use Rattle.rv_judge.specs.Tracing.{CountsRise, SameCounts, counted}
use Rattle.rv_restrict.specs.declared.atom.Atom.{Atom}
use Rattle.rv_reader.specs.Shown.{Shown}
use Rattle.rv_scan.specs.Places.{Place, unseen}
use Rattle.rv_reader.specs.declared.step.Step.{Step}
use Rattle.rv_reader.specs.declared.step.Step.TheVariants.{Row, Working, End}
use Rattle.rv_final.specs.Rest.{StepMarks, Steps, has_row, qualifies_at, rest_by}
use Rattle.rv_final.specs.Shell.{IsFinal}
use Rattle.rv_final.specs.Stage.{LastFits, Unbegun, keys_left, list_left, own_pages, own_rows, table_left}
use Rattle.rv_final.specs.Work.{Tries}
use Rattle.rv_final.proofs.Marks.{marks_steps}
use Rattle.rv_final.proofs.Owed.{row_there}
use Rattle.rv_final.proofs.Rests.{same_rest}

-- THE END

pub final_done : (s : Strategy) (c : Control) → IsFinal c → next_control s c FinalEnded ≡ Done
final_done s c (inl e) = ap (λ (x : Control). next_control s x FinalEnded) e
final_done s c (inr e) = ap (λ (x : Control). next_control s x FinalEnded) e

-- what is said of an end alone is said of every step that goes on
pub ends_by : {E : Type 0} (r : Result (Step Record) E) (P Q : Step Record → Type 0) → ((x : Record) → Q (Row x)) → Q Working → (P End → Q End) → IfOk r P → IfOk r Q
ends_by (Ok (Row x)) P Q found working ends h = found x
ends_by (Ok Working) P Q found working ends h = working
ends_by (Ok End) P Q found working ends h = ends h
ends_by (Err x) P Q found working ends h = tt

-- a state of which one part was put in, and which then went on: the part can be told of what it went to
pub put_then : {S A : Type 0} (part : S → A) (put : A → S) (go : S → S) (mid new : S) → part (go mid) ≡ part mid → mid ≡ put (part mid) → new ≡ go mid → new ≡ go (put (part new))
put_then part put go mid new kept m n =
    let same : part mid ≡ part new = sym (ap part n ∙ kept) in
    n ∙ ap go (m ∙ ap put same)

-- THE REST

-- a step said of each row number is one of the rest
pub steps_by : (need : List ℕ) (only : List (List Atom)) (rows : List Record) (s : Step Record) (was is : ℕ → Bool) (old new : List Record) → old ≡ rest_by was only rows → new ≡ rest_by is only rows → Ascend rows → StepMarks need only rows s was is → Steps need [] s old new
steps_by need only rows s was is old new o n asc marks =
    let step = marks_steps need [] only rows s was is asc refl marks in
    subst (λ (x : List Record). Steps need [] s x new) (sym o) (subst (λ (x : List Record). Steps need [] s (rest_by was only rows) x) (sym n) step)

-- the table that is scanned is the one that was asked for
pub rows_same : (table snap : ℕ) (last : Place) (shown : Shown) → LastFits table snap last shown → own_rows last shown ≡ shown.rows table snap
rows_same table snap last shown f = ap (λ (t : ℕ). shown.rows t last.snap) f.of_table ∙ ap (shown.rows table) f.at_snap

pub pages_same : (table snap : ℕ) (last : Place) (shown : Shown) → LastFits table snap last shown → own_pages last shown ≡ shown.pages table snap
pages_same table snap last shown f = ap (λ (t : ℕ). shown.pages t last.snap) f.of_table ∙ ap (shown.pages table) f.at_snap

-- Where the final stage begins each row that qualifies is left: of a list that has each of them, and of the table.

and_true : (a : Bool) → a ≡ true → (a && not false) ≡ true
and_true a h = grind arith

pub list_whole : (only : List (List Atom)) (rows : List Record) (list : Option (List ℕ)) (at : ℕ) (last : Place) → Unbegun at last → ((n : ℕ) → qualifies_at only rows n ≡ true → has_key n (keys_left list 0) ≡ true) → rest_by (λ n. list_left list None at n) only rows ≡ rest_by (λ n. true) only rows
list_whole only rows list at last u has = same_rest only rows (λ n. true) (λ n. list_left list None at n) each
  where
    each : (n : ℕ) → qualifies_at only rows n ≡ true → list_left list None at n ≡ true
    each n q = and_true (has_key n (keys_left list at)) (ap (λ (i : ℕ). has_key n (keys_left list i)) u.keys ∙ has n q)

pub table_whole : (only : List (List Atom)) (rows : List Record) (at : ℕ) (last : Place) → Unbegun at last → rest_by (λ n. table_left last rows None n) only rows ≡ rest_by (λ n. true) only rows
table_whole only rows at last u = same_rest only rows (λ n. true) (λ n. table_left last rows None n) each
  where
    each : (n : ℕ) → qualifies_at only rows n ≡ true → table_left last rows None n ≡ true
    each n q = and_true (has_row n (unseen last rows)) (ap (has_row n) (u.pages rows) ∙ row_there only rows n q)

-- THE EFFORT

-- what holds of two numbers holds of those that equal them
pub told_as : (P : ℕ → ℕ → Type 0) (a b old new : ℕ) → old ≡ a → new ≡ b → P a b → P old new
told_as P a b old new o n h = subst (λ (x : ℕ). P x new) (sym o) (subst (λ (x : ℕ). P a x) (sym n) h)

-- a step that reads nothing
pub done_tries : (c : Counts) (n : ℕ) → Tries c c n n
done_tries c n = record { once = omega arith; less = omega arith }

-- nothing is left
pub ended_tries : (c d : Counts) (old mid new : ℕ) → new ≡ 0 → Tries c d old mid → Tries c d old new
ended_tries c d old mid new none t = record { once = t.once; less = omega arith }

-- THE TRACE

-- what was read is counted
pub counts_raised : (old mid : Trace) (c d : Counts) → SameCounts old mid → CountsRise old (counted mid c d) c d
counts_raised old mid c d s = record {
  pages = ap (λ (n : ℕ). raised n (d.pages - c.pages)) s.pages;
  leaves = ap (λ (n : ℕ). raised n (d.leaves - c.leaves)) s.leaves;
  fetches = ap (λ (n : ℕ). raised n (d.records - c.records)) s.fetches;
}
