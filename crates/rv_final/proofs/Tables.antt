-- The scan of the table in the final stage.
use Rattle.std.proofs.Common.{◌≡◌, ℕ, List, [], Bool, not, ◌&&◌, ap, sym, ◌∙◌, subst, None, Option, Result, Ok, Err, IfOk}
use Rattle.std.proofs.Math.Bool.{or-false}
use Rattle.rv_value.specs.declared.record.Record.{Record}
use Rattle.rv_value.proofs.Lists.{filter_true}
use Rattle.rv_rows.specs.Rows.{Ascend}
use Rattle.rv_restrict.specs.declared.atom.Atom.{Atom}
use Rattle.rv_reader.specs.declared.step.Step.{Step}
use Rattle.rv_scan.specs.Due.{Skipped, StepsTo, due, skips, was_delivered}
use Rattle.rv_scan.specs.Places.{Fits as PlaceFits, Place, rest as pages_rest, unseen}
use Rattle.rv_final.specs.Rest.{StepMarks, has_row}
use Rattle.rv_final.specs.Stage.{table_left}
use Rattle.rv_final.proofs.Dues.{Looks, marks_move, open_in, rows_looks, step_marks}

pub no_skip : Skipped
no_skip = record { delivered = None; list = None }

-- a scan of the table that gives all rows has looked at none
pub unseen_all : (place : Place) (rows : List Record) → pages_rest place rows [] no_skip ≡ due [] no_skip rows → unseen place rows ≡ rows
unfolding no_skip
unseen_all place rows e = sym (filter_true (unseen place rows)) ∙ e ∙ filter_true rows

-- rows that were delivered are passed over, and no others
abbrev pub passing : Option (List ℕ) → Skipped
passing delivered = record { delivered = delivered; list = None }

table_marks : (need : List ℕ) (only : List (List Atom)) (rows : List Record) (delivered : Option (List ℕ)) (old new : Place) (s : Step Record) (w u : ℕ) → Ascend rows → PlaceFits old rows → PlaceFits new rows → StepsTo s (pages_rest old rows only (passing delivered)) w (pages_rest new rows only (passing delivered)) u → StepMarks need only rows s (table_left old rows delivered) (table_left new rows delivered)
table_marks need only rows delivered old new s w u asc f g step =
    let old_look : Looks need only rows (unseen old rows) = subst (Looks need only rows) (sym f.1) (rows_looks need only rows f.0 asc) in
    let new_look : Looks need only rows (unseen new rows) = subst (Looks need only rows) (sym g.1) (rows_looks need only rows g.0 asc) in
    marks_move need only rows s (open_in (unseen old rows) (passing delivered)) (open_in (unseen new rows) (passing delivered)) (table_left old rows delivered) (table_left new rows delivered) asc
    (λ n q. ap (λ (b : Bool). has_row n (unseen old rows) && not b) (sym (same n)))
    (λ n q. ap (λ (b : Bool). has_row n (unseen new rows) && not b) (sym (same n)))
    (step_marks need only rows (passing delivered) (unseen old rows) (unseen new rows) s w u asc old_look new_look step)
  where
    same : (n : ℕ) → skips (passing delivered) n ≡ was_delivered delivered n
    same n = or-false (was_delivered delivered n)

pub table_marks_if : {E : Type 0} (r : Result (Step Record) E) (need : List ℕ) (only : List (List Atom)) (rows : List Record) (delivered : Option (List ℕ)) (old new : Place) (w u : ℕ) → Ascend rows → PlaceFits old rows → PlaceFits new rows → IfOk r (λ s. StepsTo s (pages_rest old rows only (passing delivered)) w (pages_rest new rows only (passing delivered)) u) → IfOk r (λ s. StepMarks need only rows s (table_left old rows delivered) (table_left new rows delivered))
table_marks_if (Ok s) need only rows delivered old new w u asc f g step = table_marks need only rows delivered old new s w u asc f g step
table_marks_if (Err x) need only rows delivered old new w u asc f g step = tt
