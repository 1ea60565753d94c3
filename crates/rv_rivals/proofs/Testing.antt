-- A row and a place more were tested.
use Rattle.std.proofs.Common.{◌≡◌, ℕ, zero, suc, List, [], ◌∷◌, ◌++◌, Option, Some, None, Result, Ok, Err, refl, ap, sym, ◌∙◌, arith, drop, map, true, ◌&&◌, ◌||◌, ◌==◌}
use Rattle.std.specs.Prelude.{slice_get}
use Rattle.std.specs.List.{AllByRecursion}
use Rattle.std.proofs.lemmas.Bool.Decides.{nat_tests}
use Rattle.std.proofs.Math.Bool.{or-true}
use Rattle.rv_lang.specs.declared.reply.Refusal.{Refusal}
use Rattle.rv_lang.specs.declared.reply.Rival.{Rival}
use Rattle.rv_value.specs.declared.value.Value.{Value}
use Rattle.rv_value.specs.declared.record.Record.{Record}
use Rattle.rv_value.specs.declared.record.RowNo.{RowNo}
use Rattle.rv_rows.specs.declared.changes.Change.{Change}
use Rattle.rv_rows.specs.Changes.{has_change}
use Rattle.rv_rows.specs.Merging.{values_row}
use Rattle.rv_txn.specs.declared.txns.TxnFault.{TxnFault}
use Rattle.rv_txn.specs.declared.txns.TxnFault.TheVariants.{Refused, NoMemory}
use Rattle.rv_txn.specs.Calls.{IsFault}
use Rattle.rv_catalog.specs.Answers.{◌>>=◌, all_pass}
use Rattle.rv_rivals.specs.Lookups.{all_none, first_some, none_in, shown_at}
use Rattle.rv_rivals.proofs.Entries.{given}

-- The places, one after another.

pub some_here : (at : RowNo → Rival) (row : RowNo) (place : Option RowNo) (rest : Option Refusal) → Some row ≡ place → shown_at at (Some row) ≡ first_some (shown_at at place) rest
some_here at row place rest is = ap (λ o. first_some (shown_at at o) rest) is

pub none_here : (at : RowNo → Rival) (place : Option RowNo) (rest : Option Refusal) → None ≡ place → rest ≡ first_some (shown_at at place) rest
none_here at place rest is = ap (λ o. first_some (shown_at at o) rest) is

-- The items of a list, one after another: what is tested so far passes.

pub passes_next : {A : Type 0} (f : A → Result (Unit {0}) Refusal) (xs : List A) (k : ℕ) (x : A) (whole : Result (Unit {0}) Refusal) → slice_get xs k ≡ Some x → f x ≡ Ok tt → all_pass f (drop k xs) ≡ whole → all_pass f (drop (suc k) xs) ≡ whole
passes_next f [] k x whole is pass h = cc
passes_next f (y ∷ ys) zero x whole is pass h =
    let own : y ≡ x = cc in
    sym (ap (λ r. r >>= (λ passed. all_pass f ys)) (ap f own ∙ pass)) ∙ h
passes_next f (y ∷ ys) (suc k) x whole is pass h = passes_next f ys k x whole is pass h

pub fails_here : {A : Type 0} (f : A → Result (Unit {0}) Refusal) (xs : List A) (k : ℕ) (x : A) (e : Refusal) (whole : Result (Unit {0}) Refusal) → slice_get xs k ≡ Some x → f x ≡ Err e → all_pass f (drop k xs) ≡ whole → whole ≡ Err e
fails_here f [] k x e whole is fail h = cc
fails_here f (y ∷ ys) zero x e whole is fail h =
    let own : y ≡ x = cc in
    sym h ∙ ap (λ r. r >>= (λ passed. all_pass f ys)) (ap f own ∙ fail)
fails_here f (y ∷ ys) (suc k) x e whole is fail h = fails_here f ys k x e whole is fail h

-- The rows that changes write: those of one change, and of those behind it.

one_front : (f : Record → Result (Unit {0}) Refusal) (number : ℕ) (values : Option (List Value)) (rows : List Record) → all_pass f (values_row number values) ≡ Ok tt → all_pass f (values_row number values ++ rows) ≡ all_pass f rows
one_front f number None rows pass = refl
one_front f number (Some vs) rows pass = (let r : Record = record { row = record { 0 = number }; values = vs } in by (f r) pass)
  where
    by : (r : Result (Unit {0}) Refusal) → (r >>= (λ passed. all_pass f [])) ≡ all_pass f [] → (r >>= (λ passed. all_pass f rows)) ≡ all_pass f rows
    by (Ok u) h = refl
    by (Err e) h = cc

pub row_passes : (f : Record → Result (Unit {0}) Refusal) (cs : List Change) (k : ℕ) (c : Change) (whole : Result (Unit {0}) Refusal) → slice_get cs k ≡ Some c → all_pass f (values_row c.row.0 c.values) ≡ Ok tt
    → all_pass f (given (drop k cs)) ≡ whole → all_pass f (given (drop (suc k) cs)) ≡ whole
row_passes f [] k c whole is pass h = cc
row_passes f (d ∷ ds) zero c whole is pass h =
    let own : d ≡ c = cc in
    sym (one_front f d.row.0 d.values (given ds) (ap (λ (x : Change). all_pass f (values_row x.row.0 x.values)) own ∙ pass)) ∙ h
row_passes f (d ∷ ds) (suc k) c whole is pass h = row_passes f ds k c whole is pass h

-- The same through a function.

pub passes_mapped : {A B : Type 0} (f : B → Result (Unit {0}) Refusal) (h : A → B) (xs : List A) (k : ℕ) (x : A) (whole : Result (Unit {0}) Refusal) → slice_get xs k ≡ Some x → f (h x) ≡ Ok tt → all_pass f (map h (drop k xs)) ≡ whole → all_pass f (map h (drop (suc k) xs)) ≡ whole
passes_mapped f h [] k x whole is pass inv = cc
passes_mapped f h (y ∷ ys) zero x whole is pass inv =
    let own : y ≡ x = cc in
    sym (ap (λ r. r >>= (λ passed. all_pass f (map h ys))) (ap (λ z. f (h z)) own ∙ pass)) ∙ inv
passes_mapped f h (y ∷ ys) (suc k) x whole is pass inv = passes_mapped f h ys k x whole is pass inv

pub fails_mapped : {A B : Type 0} (f : B → Result (Unit {0}) Refusal) (h : A → B) (xs : List A) (k : ℕ) (x : A) (e : Refusal) (whole : Result (Unit {0}) Refusal) → slice_get xs k ≡ Some x → f (h x) ≡ Err e → all_pass f (map h (drop k xs)) ≡ whole → whole ≡ Err e
fails_mapped f h [] k x e whole is fail inv = cc
fails_mapped f h (y ∷ ys) zero x e whole is fail inv =
    let own : y ≡ x = cc in
    sym inv ∙ ap (λ r. r >>= (λ passed. all_pass f (map h ys))) (ap (λ z. f (h z)) own ∙ fail)
fails_mapped f h (y ∷ ys) (suc k) x e whole is fail inv = fails_mapped f h ys k x e whole is fail inv

-- One change.

pub one_row : (found : Record → List ℕ → Option Refusal) (columns : List (List ℕ)) (number : ℕ) (values : List Value) (given_values : Option (List Value)) (r : Record) → r ≡ record { row = record { 0 = number }; values = values } → given_values ≡ Some values
    → none_in (found r) columns ≡ Ok tt → all_none found columns (values_row number given_values) ≡ Ok tt
one_row found columns number values given_values r same is pass =
    ap (λ v. all_none found columns (values_row number v)) is ∙ ap (λ x. x >>= (λ passed. all_none found columns [])) (ap (λ (x : Record). none_in (found x) columns) (sym same) ∙ pass)

pub one_fails : (found : Record → List ℕ → Option Refusal) (columns : List (List ℕ)) (number : ℕ) (values : List Value) (given_values : Option (List Value)) (r : Record) (fault : TxnFault) → r ≡ record { row = record { 0 = number }; values = values } → given_values ≡ Some values
    → IsFault (none_in (found r) columns) fault → IsFault (all_none found columns (values_row number given_values)) fault
one_fails found columns number values given_values r (Refused refusal) same is fail =
    ap (λ v. all_none found columns (values_row number v)) is ∙ ap (λ x. x >>= (λ passed. all_none found columns [])) (ap (λ (x : Record). none_in (found x) columns) (sym same) ∙ fail)
one_fails found columns number values given_values r NoMemory same is fail = tt

front_fails : (f : Record → Result (Unit {0}) Refusal) (number : ℕ) (values : Option (List Value)) (rows : List Record) (e : Refusal) → all_pass f (values_row number values) ≡ Err e → all_pass f (values_row number values ++ rows) ≡ Err e
front_fails f number None rows e fail = cc
front_fails f number (Some vs) rows e fail = (let r : Record = record { row = record { 0 = number }; values = vs } in fails_by f rows e (f r) fail)
  where
    fails_by : (g : Record → Result (Unit {0}) Refusal) (more : List Record) (d : Refusal) (r : Result (Unit {0}) Refusal) → (r >>= (λ passed. all_pass g [])) ≡ Err d → (r >>= (λ passed. all_pass g more)) ≡ Err d
    fails_by g more d (Ok u) h = cc
    fails_by g more d (Err x) h = h

pub row_faults : (f : Record → Result (Unit {0}) Refusal) (cs : List Change) (k : ℕ) (c : Change) (fault : TxnFault) (whole : Result (Unit {0}) Refusal) → slice_get cs k ≡ Some c → IsFault (all_pass f (values_row c.row.0 c.values)) fault
    → all_pass f (given (drop k cs)) ≡ whole → IsFault whole fault
row_faults f cs k c NoMemory whole is fail h = tt
row_faults f [] k c (Refused e) whole is fail h = cc
row_faults f (d ∷ ds) zero c (Refused e) whole is fail h =
    let own : d ≡ c = cc in
    sym h ∙ front_fails f d.row.0 d.values (given ds) e (ap (λ (x : Change). all_pass f (values_row x.row.0 x.values)) own ∙ fail)
row_faults f (d ∷ ds) (suc k) c (Refused e) whole is fail h = row_faults f ds k c (Refused e) whole is fail h

-- The change in a place is one of those that were given.

pub has_at : (table : ℕ) (cs : List Change) (k : ℕ) (c : Change) → slice_get cs k ≡ Some c → AllByRecursion (λ (d : Change). d.table ≡ table) cs → has_change table c.row.0 cs ≡ true
has_at table [] k c is of = cc
has_at table (d ∷ ds) zero c is of =
    let own : d ≡ c = cc in
    let rows : d.row.0 ≡ c.row.0 = ap (λ (x : Change). x.row.0) own in
    let tables = of.0 in
    let here : ((d.table == table) && (d.row.0 == c.row.0)) ≡ true = grind (arith, nat_tests, rows, tables) in
    ap (λ b. b || has_change table c.row.0 ds) here
has_at table (d ∷ ds) (suc k) c is of = ap (λ b. ((d.table == table) && (d.row.0 == c.row.0)) || b) (has_at table ds k c is of.1) ∙ or-true ((d.table == table) && (d.row.0 == c.row.0))
