-- Where nothing is remembered there is no buffer: what is left is then the same as with an empty one.
use Rattle.std.proofs.Common.{◌≡◌, ◌&&◌, ℕ, List, true, Option, Some, None, IfOk, OnErr, Result, Ok, Err, refl}
use Rattle.rv_value.specs.declared.record.Record.{Record}
use Rattle.rv_judge.specs.declared.counting.Counts.{Counts}
use Rattle.rv_judge.specs.declared.events.Strategy.{Strategy}
use Rattle.rv_judge.specs.declared.events.Strategy.TheVariants.{Table, BackgroundOnly, FastFirst, Sorted, IndexOnly, Union}
use Rattle.rv_judge.specs.declared.events.Control.{Control}
use Rattle.rv_judge.specs.declared.events.Control.TheVariants.{Building, ForegroundAlone, BackgroundAlone, FinalList, FinalTable, Done}
use Rattle.rv_restrict.specs.declared.atom.Atom.{Atom}
use Rattle.rv_scan.specs.Places.{Place}
use Rattle.rv_reader.specs.declared.step.Step.{Step}
use Rattle.rv_final.specs.Rest.{StepMarks}
use Rattle.rv_final.specs.Stage.{FetchesKey, PassesKeys, first_key, list_left, table_left}
use Rattle.rv_retrieval.specs.Room.{must_remember, rows_given}
use Rattle.rv_retrieval.specs.Shape.{is_building, is_index_only}

pub marks_of_list : {E : Type 0} (r : Result (Step Record) E) (given : Option (List ℕ)) (need : List ℕ) (only : List (List Atom)) (rows : List Record) (list : Option (List ℕ)) (at next : ℕ) → IfOk r (λ s. StepMarks need only rows s (list_left list given at) (list_left list given next)) → IfOk r (λ s. StepMarks need only rows s (list_left list (Some (rows_given given)) at) (list_left list (Some (rows_given given)) next))
marks_of_list r None need only rows list at next m = m
marks_of_list r (Some keys) need only rows list at next m = m

pub fetches_of_list : {E : Type 0} (r : Result (Step Record) E) (given : Option (List ℕ)) (list : Option (List ℕ)) (at : ℕ) (only : List (List Atom)) (rows : List Record) (before after : Counts) → IfOk r (FetchesKey (first_key list given at) only rows before after) → IfOk r (FetchesKey (first_key list (Some (rows_given given)) at) only rows before after)
fetches_of_list r None list at only rows before after f = f
fetches_of_list r (Some keys) list at only rows before after f = f

pub passes_of_list : {E : Type 0} (r : Result (Step Record) E) (given : Option (List ℕ)) (list : Option (List ℕ)) (at next : ℕ) → OnErr r (PassesKeys list given at next) → OnErr r (PassesKeys list (Some (rows_given given)) at next)
passes_of_list (Ok s) given list at next p = tt
passes_of_list (Err e) None list at next p = record { same = p.same }
passes_of_list (Err e) (Some keys) list at next p = p

pub marks_of_table : {E : Type 0} (r : Result (Step Record) E) (given : Option (List ℕ)) (need : List ℕ) (only : List (List Atom)) (rows own : List Record) (last next : Place) → IfOk r (λ s. StepMarks need only rows s (table_left last own given) (table_left next own given)) → IfOk r (λ s. StepMarks need only rows s (table_left last own (Some (rows_given given))) (table_left next own (Some (rows_given given))))
marks_of_table r None need only rows own last next m = m
marks_of_table r (Some keys) need only rows own last next m = m

-- where both sides run an index-only foreground's rows are remembered
pub both_remember : (c : Control) (s : Strategy) → (is_building c && is_index_only s) ≡ true → must_remember s ≡ true
both_remember Building Table h = absurd (cc)
both_remember Building BackgroundOnly h = absurd (cc)
both_remember Building Union h = absurd (cc)
both_remember Building FastFirst h = refl
both_remember Building Sorted h = absurd (cc)
both_remember Building IndexOnly h = refl
both_remember ForegroundAlone s h = absurd (cc)
both_remember BackgroundAlone s h = absurd (cc)
both_remember FinalList s h = absurd (cc)
both_remember FinalTable s h = absurd (cc)
both_remember Done s h = absurd (cc)
