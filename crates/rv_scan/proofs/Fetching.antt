-- How many records a scan may still fetch.
use Rattle.std.proofs.Common.{◌≡◌, ℕ, ◌+◌, ◌<◌, ◌≤◌, List, [], ◌∷◌, ◌++◌, Bool, true, false, cond, ap, sym, arith, length, zero, suc, drop, filter, subst, Some, Result, Ok, Err, IfOk}
use Rattle.std.specs.List.{slice_index_or}
use Rattle.rv_value.specs.declared.record.RowNo.{RowNo}
use Rattle.rv_value.specs.declared.record.IndexEntry.{IndexEntry}
use Rattle.rv_judge.specs.declared.counting.Counts.{Counts}
use Rattle.rv_judge.specs.Counting.{record_read}
use Rattle.rv_reader.specs.declared.step.Step.{Step}
use Rattle.rv_value.specs.declared.record.Record.{Record}
use Rattle.rv_reader.specs.declared.step.Step.TheVariants.{Row, Working, End}
use Rattle.rv_scan.specs.Due.{Skipped}
use Rattle.rv_scan.specs.Alongs.{Along, Fetching, FindsEntry, Turned, is_given, to_come, to_fetch}

-- an entry that is given is passed over
passed_fewer : (p : IndexEntry → Bool) (passed : ℕ) (xs ys : List IndexEntry) (d : IndexEntry) → passed < length xs → p (slice_index_or xs passed d) ≡ true → length (filter p (drop (passed + 1) xs ++ ys)) + 1 ≤ length (filter p (xs ++ ys))
passed_fewer p passed [] ys d l h = absurd (omega arith)
passed_fewer p zero (x ∷ xs) ys d l h = subst (λ (b : Bool). length (filter p (xs ++ ys)) + 1 ≤ length (cond b (x ∷ filter p (xs ++ ys)) (filter p (xs ++ ys)))) (sym h) (omega arith)
passed_fewer p (suc passed) (x ∷ xs) ys d l h =
    let more = passed_fewer p passed xs ys d (omega arith) h in
    let e : suc passed + 1 ≡ suc (passed + 1) = omega arith in
    rw e (elim (p x) as (λ b. length (filter p (drop (passed + 1) xs ++ ys)) + 1 ≤ length (cond b (x ∷ filter p (xs ++ ys)) (filter p (xs ++ ys)))) [ true ↦ omega arith | false ↦ more ])

-- the first entries are passed over
rest_fewer : (p : IndexEntry → Bool) (xs ys : List IndexEntry) → length (filter p ys) ≤ length (filter p (xs ++ ys))
rest_fewer p [] ys = omega arith
rest_fewer p (x ∷ xs) ys =
    let more = rest_fewer p xs ys in
    elim (p x) as (λ b. length (filter p ys) ≤ length (cond b (x ∷ filter p (xs ++ ys)) (filter p (xs ++ ys)))) [ true ↦ omega arith | false ↦ more ]

pub fetches_fetched : (skip : Skipped) (old : Fetching) (new : Along) (passed : ℕ) (row : RowNo) (d : IndexEntry) (entries : List IndexEntry) (before after : Counts) → FindsEntry skip old.walk.held (Some (passed, row)) → after ≡ record_read before → new ≡ record old.walk { held = drop (passed + 1) old.walk.held } → after.records + to_fetch new entries skip ≤ before.records + to_fetch old.walk entries skip
fetches_fetched skip old new passed row d entries before after found read is =
    let fewer = passed_fewer (is_given skip) passed old.walk.held (to_come old.walk.ahead entries old.walk.range) d found.0.0 (found.1 d).0 in
    let same = ap (λ (w : Along). to_fetch w entries skip) is in
    let records = ap (λ (c : Counts). c.records) read in
    omega arith

turned_fetches : (scanned : Step Record) (skip : Skipped) (old new : Fetching) (entries cuts : List IndexEntry) (before after : Counts) → Turned old new entries cuts scanned → after.records ≡ before.records → after.records + to_fetch new.walk entries skip ≤ before.records + to_fetch old.walk entries skip
turned_fetches (Row r) skip old new entries cuts before after turned read = elim turned [ ]
turned_fetches Working skip old new entries cuts before after turned read =
    let same = ap (λ (es : List IndexEntry). length (filter (is_given skip) es)) turned.1.parts in
    let fewer = rest_fewer (is_given skip) old.walk.held (to_come old.walk.ahead entries old.walk.range) in
    omega arith
turned_fetches End skip old new entries cuts before after turned read =
    let same = ap (λ (f : Fetching). to_fetch f.walk entries skip) turned.1 in
    omega arith

pub fetches_turned : {E : Type 0} (r : Result (Step Record) E) (skip : Skipped) (old new : Fetching) (entries cuts : List IndexEntry) (before after : Counts) → IfOk r (Turned old new entries cuts) → after.records ≡ before.records → IfOk r (λ scanned. after.records + to_fetch new.walk entries skip ≤ before.records + to_fetch old.walk entries skip)
fetches_turned (Ok scanned) skip old new entries cuts before after turned read = turned_fetches scanned skip old new entries cuts before after turned read
fetches_turned (Err e) skip old new entries cuts before after turned read = tt
