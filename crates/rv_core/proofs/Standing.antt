-- What each statement does to the database of a core.
use Rattle.std.proofs.Common.{◌≡◌, ℕ, zero, suc, ◌+◌, ◌<◌, ◌≤◌, List, [], ◌∷◌, ◌++◌, refl, ap, sym, ◌∙◌, subst, arith, map, length, length-append, remove, slice_set, Result, Ok, Err, IfOk, OnErr, Option, Some, None, Bool, true, false, nat_lt, inl, inr, ◌⊎◌, ◌≢◌, eqb, IfSome, length-set}
use Rattle.std.specs.List.{AllByRecursion}
use Rattle.std.proofs.lemmas.List.Quantifiers.{position-Some}
use Rattle.std.proofs.lemmas.Bool.{cases_Bool}
use Rattle.std.proofs.lemmas.Bool.Decides.{eqb_tells, nat_tests}
use Rattle.std.proofs.lemmas.List.{map_push}
use Rattle.rv_value.proofs.Lists.{all_append, all_filter, all_more, all_or}
use Rattle.rv_value.specs.declared.value.Value.{Value}
use Rattle.rv_value.specs.declared.record.Record.{Record}
use Rattle.rv_value.specs.declared.record.RowNo.{RowNo}
use Rattle.rv_rows.specs.declared.changes.Change.{Change}
use Rattle.rv_rows.specs.Changes.{is_before, rows_with_changes, with_change, with_changes}
use Rattle.rv_rows.specs.Rows.{comes_below, with_values}
use Rattle.rv_lang.specs.declared.reply.Refusal.{Refusal}
use Rattle.rv_lang.specs.declared.reply.Refusal.TheVariants.{NoTransaction, ReadOnly}
use Rattle.rv_lang.specs.declared.reply.Reply.{Reply}
use Rattle.rv_lang.specs.declared.reply.Reply.TheVariants.{Began, Inserted, Touched, Committed, RolledBack, Refused}
use Rattle.rv_restrict.specs.declared.atom.Atom.{Atom}
use Rattle.rv_restrict.specs.Truth.{qualifies}
use Rattle.rv_catalog.specs.Answers.{ok_or, refuse_if}
use Rattle.rv_catalog.specs.declared.def.TableDef.{TableDef}
use Rattle.rv_catalog.specs.declared.def.IndexDef.{IndexDef}
use Rattle.rv_catalog.specs.Fits.{is_over_table}
use Rattle.rv_catalog.specs.Schema.{Schema, width}
use Rattle.rv_catalog.proofs.Steps.{bind_ok, not_refused, ok_is, was_some}
use Rattle.rv_reader.specs.Shown.{Shown, IsSnapshot, CanRead}
use Rattle.rv_reader.specs.Storing.{AreWide, IsStored, Stays, IsSame, Created, Indexed, Swept}
use Rattle.rv_model.specs.declared.state.State.{State}
use Rattle.rv_model.specs.declared.state.Cursor.{Cursor}
use Rattle.rv_model.specs.declared.transactions.Transaction.{Transaction}
use Rattle.rv_model.specs.declared.transactions.Transactions.{Transactions}
use Rattle.rv_model.specs.Transactions as calls
use Rattle.rv_model.specs.Database.{empty}
use Rattle.rv_model.specs.Transactions.{no_transaction, no_transactions, transaction_of, transaction_at, refuse_at, next_row, with_number, with_own, done, without, horizon, lowest}
use Rattle.rv_model.specs.Step.{Outcome, began, inserted, row_alone, rows_alone, changed, committed, committed_with, rolled_back, other_cursors, rows_seen}
use Rattle.rv_txn.specs.declared.txns.TxnFault.{TxnFault}
use Rattle.rv_txn.specs.Calls.{finished, rolled_back as undone}
use Rattle.rv_txn.specs.Changing.{CanChange, IsWide}
use Rattle.rv_core.specs.Db.{image, bases_of, db_of, Stand, stand_of, AreTaken, IsOwn, IsActive, IsTied}
use Rattle.rv_core.specs.Doing.{Does}
use Rattle.rv_core.specs.Storing.{CommitsTo, changed_over}
use Rattle.rv_core.proofs.Facts.{all_map, all_put}
use Rattle.rv_core.proofs.Images.{base_at, map_remove, set_same, image_stays, bases_stay, image_committed, image_created}
use Rattle.rv_core.proofs.Numbers.{TakesOne, takes_more, takes_one}
use Rattle.rv_core.proofs.Tied.{actives_more, own_changes, horizon_low, horizon_last, none_lowest, tied_more}

pub does : (o : Outcome) (old : Stand) (new : State) (reply : Reply) → o ≡ Ok (reply, new) → Does o old (reply, reply) (record old { db = new })
does o old new reply h = rw h (refl, refl, refl)

-- a refusal leaves all
pub refuses : (o : Outcome) (old : Stand) (refusal : Refusal) → o ≡ Err refusal → Does o old (Refused refusal, Refused refusal) old
refuses o old refusal h = rw h (refl, refl, refl)

pair_is : {A B : Type 0} (a c : A) (b d : B) → ◌≡◌ {A = Result (A × B) Refusal} (Ok (a, b)) (Ok (c, d)) → (a ≡ c) × (b ≡ d)
pair_is {A} {B} a c b d h = let e : ◌≡◌ {A = A × B} (a, b) (c, d) = cc in (ap (λ (x : A × B). x.0) e, ap (λ (x : A × B). x.1) e)

-- BEGIN

pub begun_is : (t : Transactions) (session : ℕ) (read_only : Bool) (base n : ℕ) (new : Transactions) → calls.began t session read_only base ≡ Ok (n, new)
    → (n ≡ t.next) × (new ≡ record t { active = t.active ++ record { number = t.next; session = session; read_only = read_only; base = base; changes = [] } ∷ []; next = t.next + 1 })
begun_is t session read_only base n new h =
    let s = bind_ok (refuse_at (transaction_of t.active session) _) _ (n, new) h in
    let e = pair_is _ n _ new s.2 in
    (sym e.0, sym e.1)

pub db_began : (shown : Shown) (schema : Schema) (txns new : Transactions) (cursors : List Cursor) (session : ℕ) (read_only : Bool) (n : ℕ) → calls.began txns session read_only shown.newest ≡ Ok (n, new)
    → Does (began (db_of shown schema txns cursors) session read_only) (stand_of shown schema txns cursors) (Began n, Began n) (stand_of shown schema new cursors)
db_began shown schema txns new cursors session read_only n h =
    let b = begun_is txns session read_only shown.newest n new h in
    let tables = length schema.tables in
    let bases : bases_of shown tables new.active ≡ bases_of shown tables txns.active ++ image shown tables shown.newest ∷ [] =
    ap (λ (t : Transactions). bases_of shown tables t.active) b.1 ∙ map_push (λ (t : Transaction). image shown tables t.base) txns.active _ in
    let same : record (db_of shown schema txns cursors) { transactions = new; bases = bases_of shown tables txns.active ++ image shown tables shown.newest ∷ [] } ≡ db_of shown schema new cursors = cc in
    let is : began (db_of shown schema txns cursors) session read_only ≡ Ok (Began n, db_of shown schema new cursors) = rw (h, same) refl in
    does (began (db_of shown schema txns cursors) session read_only) (stand_of shown schema txns cursors) (db_of shown schema new cursors) (Began n) is

-- INSERT, UPDATE and DELETE: the bases stay.

pub own_bases : (shown : Shown) (tables : ℕ) (active : List Transaction) (own : ℕ) (changes : List Change) → bases_of shown tables (with_own active own changes) ≡ bases_of shown tables active
own_bases shown tables active own changes = set_same (λ (t : Transaction). image shown tables t.base) active own _ no_transaction refl

pub inserted_is : (t : Transactions) (session table : ℕ) (values : List Value) (row : RowNo) (new : Transactions) → calls.inserted t session table values ≡ Ok (row, new)
    → (own : ℕ) × (calls.writer t.active session ≡ Ok own) × (nat_lt 999999 (calls.next_row t.touched table) ≡ false) × (row ≡ record { 0 = calls.next_row t.touched table }) × (new ≡ calls.with_row t own table values row)
inserted_is t session table values row new h =
    let w = bind_ok (calls.writer t.active session) _ (row, new) h in
    let n = bind_ok (refuse_if (nat_lt 999999 (calls.next_row t.touched table)) _) _ (row, new) w.2 in
    let p = bind_ok (refuse_if (nat_lt 99999 (length (transaction_at t.active w.0).changes)) _) _ (row, new) n.2 in
    let e = pair_is _ row _ new p.2 in
    (w.0, w.1, not_refused (nat_lt 999999 (calls.next_row t.touched table)) _ n.0 n.1, sym e.0, sym e.1 ∙ ap (λ (r : RowNo). calls.with_row t w.0 table values r) e.0)

pub db_inserted : (shown : Shown) (schema : Schema) (txns new : Transactions) (cursors : List Cursor) (session table : ℕ) (values : List Value) (row : RowNo) → calls.inserted txns session table values ≡ Ok (row, new) → row_alone (db_of shown schema txns []) session table values row ≡ Ok tt
    → Does (inserted (db_of shown schema txns cursors) session table values) (stand_of shown schema txns cursors) (Inserted row, Inserted row) (stand_of shown schema new cursors)
db_inserted shown schema txns new cursors session table values row h alone =
    let b = inserted_is txns session table values row new h in
    let tables = length schema.tables in
    let bases : bases_of shown tables new.active ≡ bases_of shown tables txns.active = ap (λ (t : Transactions). bases_of shown tables t.active) b.4 ∙ own_bases shown tables txns.active b.0 _ in
    let same : record (db_of shown schema txns cursors) { transactions = new } ≡ db_of shown schema new cursors = cc in
    let is : inserted (db_of shown schema txns cursors) session table values ≡ Ok (Inserted row, db_of shown schema new cursors) = rw (h, alone, same) refl in
    does (inserted (db_of shown schema txns cursors) session table values) (stand_of shown schema txns cursors) (db_of shown schema new cursors) (Inserted row) is

-- the place of the session's transaction is one
pub own_within : (active : List Transaction) (session own : ℕ) → transaction_of active session ≡ Some own → own < length active
own_within active session own e = (position-Some _ active own no_transaction e).0

pub rows_same : (shown : Shown) (schema : Schema) (txns : Transactions) (cursors : List Cursor) (session table : ℕ) (only : List (List Atom)) (sets : Option (List (ℕ × Value))) (o : Option ℕ) → table < length schema.tables → transaction_of txns.active session ≡ o
    → calls.changed txns session table only sets (λ base. rows_seen (db_of shown schema txns cursors) o table) ≡ calls.changed txns session table only sets (shown.rows table)
rows_same shown schema txns cursors session table only sets None there e = rw e refl
rows_same shown schema txns cursors session table only sets (Some own) there e =
    let at = base_at shown (length schema.tables) table txns.active own (own_within txns.active session own e) there in
    elim (cases_Bool (transaction_at txns.active own).read_only) [
      | inl t ↦ rw (e, t) refl
      | inr f ↦ rw (e, f, at) refl
    ]

-- the changes of the transaction in a place, with those of the rows that it sees and a restriction keeps
abbrev pub calls_made : Transactions → ℕ → List (List Atom) → Option (List (ℕ × Value)) → (ℕ → List Record) → ℕ → List Change
calls_made t table only sets rows own = with_changes (map (calls.change_of table sets) (calls.met (transaction_at t.active own) table only rows)) (transaction_at t.active own).changes

pub changed_is : (t : Transactions) (session table : ℕ) (only : List (List Atom)) (sets : Option (List (ℕ × Value))) (rows : ℕ → List Record) (k : ℕ) (new : Transactions) → calls.changed t session table only sets rows ≡ Ok (k, new)
    → (own : ℕ) × (calls.writer t.active session ≡ Ok own) × (new ≡ record t { active = with_own t.active own (calls_made t table only sets rows own) })
changed_is t session table only sets rows k new h =
    let w = bind_ok (calls.writer t.active session) _ (k, new) h in
    let met = calls.met (transaction_at t.active w.0) table only rows in
    let p = bind_ok (refuse_if (nat_lt 100000 (calls.changed_with (transaction_at t.active w.0).changes table met)) _) _ (k, new) w.2 in
    let f = bind_ok (calls.unharmed t session (transaction_at t.active w.0).base table met) _ (k, new) p.2 in
    let e = pair_is _ k _ new f.2 in
    (w.0, w.1, sym e.1)

pub db_changed : (shown : Shown) (schema : Schema) (txns new : Transactions) (cursors : List Cursor) (session table : ℕ) (only : List (List Atom)) (sets : Option (List (ℕ × Value))) (k : ℕ) → changed_over shown schema txns session table sets only ≡ Ok (k, new) → rows_alone (db_of shown schema txns []) session table sets only ≡ Ok tt
    → Does (changed (db_of shown schema txns cursors) session table sets only) (stand_of shown schema txns cursors) (Touched k, Touched k) (stand_of shown schema new cursors)
db_changed shown schema txns new cursors session table only sets k h alone =
    let b = changed_is txns session table only sets (λ base. rows_seen (db_of shown schema txns []) (transaction_of txns.active session) table) k new h in
    let tables = length schema.tables in
    let bases : bases_of shown tables new.active ≡ bases_of shown tables txns.active = ap (λ (t : Transactions). bases_of shown tables t.active) b.2 ∙ own_bases shown tables txns.active b.0 _ in
    let same : record (db_of shown schema txns cursors) { transactions = new } ≡ db_of shown schema new cursors = cc in
    let is : changed (db_of shown schema txns cursors) session table sets only ≡ Ok (Touched k, db_of shown schema new cursors) = rw (h, alone, same) refl in
    does (changed (db_of shown schema txns cursors) session table sets only) (stand_of shown schema txns cursors) (db_of shown schema new cursors) (Touched k) is

-- COMMIT

-- the rows at the bases stay
bases_kept : (old new : Shown) (touched : List (List ℕ)) (tables : ℕ) (active : List Transaction) → tables ≤ old.tables → Stays old new → new.horizon ≡ old.horizon → old.newest ≤ new.newest → AllByRecursion (IsActive old touched) active → bases_of new tables active ≡ bases_of old tables active
bases_kept old new touched tables active n stays h m all =
    bases_stay old new tables active (all_more (IsActive old touched) (λ (t : Transaction). (table : ℕ) → table < tables → new.rows table t.base ≡ old.rows table t.base)
    (λ t a table k. stays.rows table t.base (record { there = omega arith; snapshot = a.base }) (record { kept = omega (arith, h, a.base.kept); known = omega (arith, m, a.base.known) })) active all)

commits : (old new : Shown) (schema : Schema) (txns : Transactions) (cursors : List Cursor) (session own base c : ℕ) (changes : List Change) → IsTied old schema txns → (transaction_at txns.active own).base ≡ base → CommitsTo old new base changes c
    → committed_with changes (db_of old schema txns cursors) session own ≡ (Committed c, db_of new schema (done txns own c) (other_cursors cursors session))
commits old new schema txns cursors session own base c [] tied b told =
    let tables = length schema.tables in
    let bases : bases_of new tables (done txns own c).active ≡ remove (bases_of old tables txns.active) own = rw told.0 (map_remove (λ (t : Transaction). image old tables t.base) txns.active own) in
    let last : new.newest ≡ old.newest = ap (λ (s : Shown). s.newest) told.0 in
    let rows : image new tables new.newest ≡ image old tables old.newest = ap (λ (s : Shown). image s tables s.newest) told.0 in
    let number : c ≡ (transaction_at txns.active own).base = told.1 ∙ sym b in
    let moved : done txns own c ≡ done txns own (transaction_at txns.active own).base = ap (λ n. done txns own n) number in
    cc
commits old new schema txns cursors session own base c (x ∷ xs) tied b told =
    let tables = length schema.tables in
    let n : old.newest ≤ new.newest = omega (arith, told.0.newest) in
    let rows = image_committed old new tables (x ∷ xs) (sym tied.count) told.0 in
    let stay = bases_kept old new txns.touched tables txns.active (omega (arith, tied.count)) told.0.stays told.0.horizon n tied.active in
    let bases : bases_of new tables (done txns own c).active ≡ remove (bases_of old tables txns.active) own = map_remove (λ (t : Transaction). image new tables t.base) txns.active own ∙ ap (λ xs. remove xs own) stay in
    let newest = told.0.newest in
    let number : c ≡ old.newest + 1 = told.1 ∙ newest in
    let moved : done txns own c ≡ done txns own (old.newest + 1) = ap (λ n. done txns own n) number in
    cc

horizon_same : (old new : Shown) (base c : ℕ) (changes : List Change) → CommitsTo old new base changes c → new.horizon ≡ old.horizon
horizon_same old new base c [] told = ap (λ (s : Shown). s.horizon) told.0
horizon_same old new base c (x ∷ xs) told = told.0.horizon

pub db_committed : (old new : Shown) (schema : Schema) (txns : Transactions) (cursors : List Cursor) (session own base c : ℕ) (changes : List Change) → IsTied old schema txns → transaction_of txns.active session ≡ Some own → (transaction_at txns.active own).changes ≡ changes → (transaction_at txns.active own).base ≡ base → CommitsTo old new base changes c
    → Does (committed (db_of old schema txns cursors) session) (stand_of old schema txns cursors) (Committed c, Committed c) (stand_of new schema (done txns own c) (other_cursors cursors session))
db_committed old new schema txns cursors session own base c changes tied e ch b told =
    let here : committed (db_of old schema txns cursors) session ≡ Ok (committed_with (transaction_at txns.active own).changes (db_of old schema txns cursors) session own) = rw e refl in
    let by : committed_with (transaction_at txns.active own).changes (db_of old schema txns cursors) session own ≡ committed_with changes (db_of old schema txns cursors) session own = ap (λ (cs : List Change). committed_with cs (db_of old schema txns cursors) session own) ch in
    let all = commits old new schema txns cursors session own base c changes tied b told in
    let low = horizon_same old new base c changes told in
    let stand : record (stand_of old schema txns cursors) { db = db_of new schema (done txns own c) (other_cursors cursors session) } ≡ stand_of new schema (done txns own c) (other_cursors cursors session) = rw low refl in
    subst (λ (s : Stand). Does (committed (db_of old schema txns cursors) session) (stand_of old schema txns cursors) (Committed c, Committed c) s) stand
    (does (committed (db_of old schema txns cursors) session) (stand_of old schema txns cursors) (db_of new schema (done txns own c) (other_cursors cursors session)) (Committed c) (here ∙ ap (λ (r : Reply × State). Ok r) (by ∙ all)))

-- ROLLBACK

pub db_rolled_back : (shown : Shown) (schema : Schema) (txns : Transactions) (cursors : List Cursor) (session own : ℕ) → transaction_of txns.active session ≡ Some own
    → Does (rolled_back (db_of shown schema txns cursors) session) (stand_of shown schema txns cursors) (RolledBack, RolledBack) (stand_of shown schema (without txns own) (other_cursors cursors session))
db_rolled_back shown schema txns cursors session own e =
    let tables = length schema.tables in
    let bases : bases_of shown tables (without txns own).active ≡ remove (bases_of shown tables txns.active) own = map_remove (λ (t : Transaction). image shown tables t.base) txns.active own in
    let is : rolled_back (db_of shown schema txns cursors) session ≡ Ok (RolledBack, db_of shown schema (without txns own) (other_cursors cursors session)) = rw (e, bases) refl in
    does (rolled_back (db_of shown schema txns cursors) session) (stand_of shown schema txns cursors) (db_of shown schema (without txns own) (other_cursors cursors session)) RolledBack is

-- Stores that show the same, or from a horizon on.

pub stand_same : (old new : Shown) (schema : Schema) (txns : Transactions) (cursors : List Cursor) → IsTied old schema txns → IsSame old new → stand_of new schema txns cursors ≡ stand_of old schema txns cursors
stand_same old new schema txns cursors tied same =
    let tables = length schema.tables in
    let newest = same.newest in
    let low = same.horizon in
    let rows : image new tables old.newest ≡ image old tables old.newest = image_stays old new tables old.newest (λ i h. same.stays.rows i old.newest (record { there = omega (arith, tied.count); snapshot = record { kept = tied.standing; known = omega arith } }) (record { kept = omega (arith, same.horizon, tied.standing); known = omega (arith, same.newest) })) in
    let bases = bases_kept old new txns.touched tables txns.active (omega (arith, tied.count)) same.stays same.horizon (omega (arith, same.newest)) tied.active in
    rw (newest, low, rows, bases) refl

swept_rows : (old new : Shown) (touched : List (List ℕ)) (tables low : ℕ) (active : List Transaction) → tables ≤ old.tables → Swept old new low → AllByRecursion (λ (t : Transaction). low ≤ t.base) active → AllByRecursion (IsActive old touched) active → bases_of new tables active ≡ bases_of old tables active
swept_rows old new touched tables low [] n swept below all = refl
swept_rows old new touched tables low (t ∷ ts) n swept below all =
    let head = image_stays old new tables t.base (λ i h. swept.stays.rows i t.base (record { there = omega arith; snapshot = all.0.base }) (record { kept = omega (arith, swept.moved, below.0); known = omega (arith, swept.newest, all.0.base.known) })) in
    let tail = swept_rows old new touched tables low ts n swept below.1 all.1 in
    rw (head, tail) refl

stand_swept_to : (old new : Shown) (schema : Schema) (txns : Transactions) (cursors : List Cursor) → IsTied old schema txns → Swept old new (horizon txns.active old.newest) → stand_of new schema txns cursors ≡ record (stand_of old schema txns cursors) { horizon = horizon txns.active old.newest }
stand_swept_to old new schema txns cursors tied swept =
    let tables = length schema.tables in
    let low = horizon txns.active old.newest in
    let last = horizon_last txns.active old.newest in
    let newest = swept.newest in
    let moved = swept.moved in
    let rows : image new tables old.newest ≡ image old tables old.newest = image_stays old new tables old.newest (λ i h. swept.stays.rows i old.newest (record { there = omega (arith, tied.count); snapshot = record { kept = tied.standing; known = omega arith } }) (record { kept = omega (arith, swept.moved, last); known = omega (arith, swept.newest) })) in
    let bases = swept_rows old new txns.touched tables low txns.active (omega (arith, tied.count)) swept (horizon_low txns.active old.newest) tied.active in
    rw (newest, moved, rows, bases) refl

pub stand_swept : (old new : Shown) (schema : Schema) (txns : Transactions) (cursors : List Cursor) (newest low : ℕ) → newest ≡ old.newest → low ≡ horizon txns.active newest → IsTied old schema txns → Swept old new low → stand_of new schema txns cursors ≡ record (stand_of old schema txns cursors) { horizon = horizon txns.active old.newest }
stand_swept old new schema txns cursors newest low is at tied swept = stand_swept_to old new schema txns cursors tied (subst (λ (h : ℕ). Swept old new h) (at ∙ ap (λ (n : ℕ). horizon txns.active n) is) swept)

-- CREATE TABLE

pub stand_created : (old new : Shown) (schema : Schema) (def : TableDef) (txns : Transactions) (cursors : List Cursor) → lowest txns.active ≡ None → IsTied old schema txns → Created old new (length def.columns)
    → stand_of new (record schema { tables = schema.tables ++ def ∷ [] }) txns cursors ≡ record (stand_of old schema txns cursors) { db = record (db_of old schema txns cursors) { schema = record schema { tables = schema.tables ++ def ∷ [] }; rows = image old (length schema.tables) old.newest ++ [] ∷ [] } }
stand_created old new schema def txns cursors idle tied more =
    let tables = length schema.tables in
    let count : length (schema.tables ++ def ∷ []) ≡ tables + 1 = length-append schema.tables (def ∷ []) in
    let newest = more.newest in
    let low = more.horizon in
    let snap : IsSnapshot new old.newest = record { kept = omega (arith, more.horizon, tied.standing); known = omega (arith, more.newest) } in
    let none : new.rows tables old.newest ≡ [] = subst (λ (n : ℕ). new.rows n old.newest ≡ []) tied.count (more.rows old.newest snap) in
    let rows : image new (tables + 1) old.newest ≡ image old tables old.newest ++ [] ∷ [] = image_created old new tables old.newest (λ i h. more.stays.rows i old.newest (record { there = omega (arith, tied.count); snapshot = record { kept = tied.standing; known = omega arith } }) snap) none in
    let no : txns.active ≡ [] = none_lowest txns.active idle in
    let bases : bases_of new (tables + 1) txns.active ≡ bases_of old tables txns.active = rw no refl in
    rw (newest, low, count, rows, bases) refl

-- CREATE INDEX

pub stand_indexed : (old new : Shown) (schema : Schema) (def : IndexDef) (txns : Transactions) (cursors : List Cursor) → IsTied old schema txns → Indexed old new def.table def.columns
    → stand_of new (record schema { indexes = schema.indexes ++ def ∷ [] }) txns cursors ≡ record (stand_of old schema txns cursors) { db = record (db_of old schema txns cursors) { schema = record schema { indexes = schema.indexes ++ def ∷ [] } } }
stand_indexed old new schema def txns cursors tied more =
    let tables = length schema.tables in
    let newest = more.newest in
    let low = more.horizon in
    let rows : image new tables old.newest ≡ image old tables old.newest = image_stays old new tables old.newest (λ i h. more.stays.rows i old.newest (record { there = omega (arith, tied.count); snapshot = record { kept = tied.standing; known = omega arith } }) (record { kept = omega (arith, more.horizon, tied.standing); known = omega (arith, more.newest) })) in
    let bases = bases_kept old new txns.touched tables txns.active (omega (arith, tied.count)) more.stays more.horizon (omega (arith, more.newest)) tied.active in
    rw (newest, low, rows, bases) refl

-- A database stays tied to its store under calls on its transactions.

-- no table, no commit, no transaction
pub fresh_tied : (shown : Shown) → shown.tables ≡ 0 → IsStored shown → IsTied shown (record { tables = []; indexes = [] }) no_transactions
fresh_tied shown none stored = record {
  count = none;
  columns = λ i h. absurd (omega arith);
  indexes = λ i h. refl;
  indexed = no_indexes shown.indexes refl;
  each = λ i h. absurd (omega arith);
  over = λ i. omega arith;
  standing = stored.standing;
  given = λ i snap can. absurd (let t = can.there in omega (arith, none));
  few = λ i. omega arith;
  active = tt;
}
  where
    no_indexes : (n : ℕ) → shown.indexes ≡ n → n ≡ 0
    no_indexes zero e = refl
    no_indexes (suc n) e = absurd (let t = (stored.over 0 (omega arith)).table in omega (arith, none))

pub fresh_stand : (shown : Shown) → shown.newest ≡ 0 → IsStored shown → stand_of shown (record { tables = []; indexes = [] }) no_transactions [] ≡ record { db = empty; horizon = 0 }
fresh_stand shown newest stored =
    let low : shown.horizon ≡ 0 = let s = stored.standing in omega (arith, newest) in
    rw (newest, low) refl

pub tied_began : (shown : Shown) (schema : Schema) (txns new : Transactions) (session : ℕ) (read_only : Bool) (n : ℕ) → IsTied shown schema txns → calls.began txns session read_only shown.newest ≡ Ok (n, new) → IsTied shown schema new
tied_began shown schema txns new session read_only n tied h =
    let b = begun_is txns session read_only shown.newest n new h in
    let t : Transaction = record { number = txns.next; session = session; read_only = read_only; base = shown.newest; changes = [] } in
    let one : IsActive shown txns.touched t = record { base = record { kept = tied.standing; known = omega arith }; changes = tt } in
    rw b.1 (tied_more shown schema txns (record txns { active = txns.active ++ t ∷ []; next = txns.next + 1 }) (λ i. omega arith) tied.few
    (all_append (IsActive shown txns.touched) txns.active (t ∷ []) tied.active (one, tt)) tied)

-- a transaction of no place
none_active : (shown : Shown) (touched : List (List ℕ)) → AllByRecursion (IsOwn shown touched) no_transaction.changes
none_active shown touched = tt

-- other changes of the transaction in a place
own_active : (shown : Shown) (touched : List (List ℕ)) (active : List Transaction) (own : ℕ) (changes : List Change) → own < length active → AllByRecursion (IsOwn shown touched) changes → AllByRecursion (IsActive shown touched) active → AllByRecursion (IsActive shown touched) (with_own active own changes)
own_active shown touched [] own changes h fits all = absurd (omega arith)
own_active shown touched (t ∷ ts) zero changes h fits all = (record { base = all.0.base; changes = fits }, all.1)
own_active shown touched (t ∷ ts) (suc own) changes h fits all = (all.0, own_active shown touched ts own changes (omega arith) fits all.1)

-- the place of a transaction that may write
pub writer_within : (active : List Transaction) (session own : ℕ) → calls.writer active session ≡ Ok own → own < length active
writer_within active session own h =
    let s = bind_ok (ok_or (transaction_of active session) NoTransaction) _ own h in
    let w = bind_ok (refuse_if (transaction_at active s.0).read_only ReadOnly) _ own s.2 in
    let e : s.0 ≡ own = ok_is s.0 own w.2 in
    rw (← e) (own_within active session s.0 (was_some (transaction_of active session) NoTransaction s.0 s.1))

pub tied_inserted : (shown : Shown) (schema : Schema) (txns new : Transactions) (session table : ℕ) (values : List Value) (row : RowNo) → IsTied shown schema txns → table < length schema.tables → length values ≡ width schema.tables table → calls.inserted txns session table values ≡ Ok (row, new) → IsTied shown schema new
tied_inserted shown schema txns new session table values row tied there wide h =
    let b = inserted_is txns session table values row new h in
    let more = with_number txns.touched table in
    let one = takes_one txns.touched table in
    let grows = takes_more table txns.touched more one in
    let place : row.0 ≡ next_row txns.touched table = ap (λ (r : RowNo). r.0) b.3 in
    let low : next_row txns.touched table ≤ 999999 = few_rows (next_row txns.touched table) b.2 in
    let c : Change = record { table = table; row = row; values = Some values } in
    let here = one.here in
    let own_fits : IsOwn shown more c = record { there = omega (arith, tied.count); taken = omega (arith, here, place); width = wide ∙ sym (tied.columns table there) } in
    let active = actives_more shown txns.touched more txns.active grows tied.active in
    let changes = all_put (IsOwn shown more) is_before c (transaction_at txns.active b.0).changes own_fits (own_changes shown more txns.active b.0 active) in
    rw b.4 (tied_more shown schema txns (calls.with_row txns b.0 table values row) grows (λ i. few_more i (eqb_tells i table) low one)
    (own_active shown more txns.active b.0 (with_change c (transaction_at txns.active b.0).changes) (writer_within txns.active session b.0 b.1) changes active) tied)
  where
    few_rows : (n : ℕ) → nat_lt 999999 n ≡ false → n ≤ 999999
    few_rows n h = grind (arith, nat_tests)

    few_more : (i : ℕ) → ((eqb i table ≡ true) × (i ≡ table)) ⊎ ((eqb i table ≡ false) × (i ≢ table)) → next_row txns.touched table ≤ 999999 → TakesOne table txns.touched (with_number txns.touched table) → next_row (with_number txns.touched table) i ≤ 1000000
    few_more i (inl e) low one = let h = one.here in rw (e.1) (omega arith)
    few_more i (inr f) low one = let h = one.others i f.1 in let k = tied.few i in omega arith

-- UPDATE and DELETE

sets_length : (sets : List (ℕ × Value)) (values : List Value) → length (calls.with_sets sets values) ≡ length values
sets_length [] values = refl
sets_length (s ∷ sets) values = sets_length sets (slice_set values s.0 s.1) ∙ length-set values s.0 s.1

-- a row that a change of own may be made of
pub record IsRow (shown : Shown) (touched : List (List ℕ)) (table : ℕ) (r : Record) : Type 0 where
  pub taken : r.row.0 < next_row touched table
  pub wide : length r.values ≡ shown.columns table

values_row : (shown : Shown) (touched : List (List ℕ)) (table number : ℕ) (values : Option (List Value)) (rows : List Record) → number < next_row touched table → IfSome values (λ vs. length vs ≡ shown.columns table) → AllByRecursion (IsRow shown touched table) rows → AllByRecursion (IsRow shown touched table) (with_values number values rows)
values_row shown touched table number (Some vs) rows taken wide a = all_put (IsRow shown touched table) comes_below (record { row = record { 0 = number }; values = vs }) rows (record { taken = taken; wide = wide }) a
values_row shown touched table number None rows taken wide a = all_filter (IsRow shown touched table) _ rows a

applied_rows : (shown : Shown) (touched : List (List ℕ)) (table : ℕ) (changes : List Change) (rows : List Record) → AllByRecursion (IsOwn shown touched) changes → AllByRecursion (IsRow shown touched table) rows → AllByRecursion (IsRow shown touched table) (rows_with_changes table changes rows)
applied_rows shown touched table [] rows fits a = a
applied_rows shown touched table (c ∷ cs) rows fits a = elim (eqb_tells c.table table) [
  | inl here ↦
      let same : c.table ≡ table = here.1 in
      let taken : c.row.0 < next_row touched table = subst (λ (n : ℕ). c.row.0 < next_row touched n) same fits.0.taken in
      let wide : IfSome c.values (λ vs. length vs ≡ shown.columns table) = subst (λ (n : ℕ). IfSome c.values (λ (vs : List Value). length vs ≡ shown.columns n)) same fits.0.width in
      rw here.0 (applied_rows shown touched table cs (with_values c.row.0 c.values rows) fits.1 (values_row shown touched table c.row.0 c.values rows taken wide a))
  | inr other ↦ rw other.0 (applied_rows shown touched table cs rows fits.1 a)
]

base_rows_are : (shown : Shown) (touched : List (List ℕ)) (table : ℕ) (rows : List Record) → AreTaken touched table rows → AreWide (shown.columns table) rows → AllByRecursion (IsRow shown touched table) rows
base_rows_are shown touched table [] taken wide = tt
base_rows_are shown touched table (r ∷ rows) taken wide = (record { taken = taken.0; wide = wide.0 }, base_rows_are shown touched table rows taken.1 wide.1)

pub row_change : (shown : Shown) (touched : List (List ℕ)) (table : ℕ) (sets : Option (List (ℕ × Value))) (r : Record) → table < shown.tables → IsRow shown touched table r → IsOwn shown touched (calls.change_of table sets r)
row_change shown touched table None r there h = record { there = there; taken = h.taken; width = tt }
row_change shown touched table (Some sets) r there h = record { there = there; taken = h.taken; width = sets_length sets r.values ∙ h.wide }

changes_all : (P : Change → Type 0) (new old : List Change) → AllByRecursion P new → AllByRecursion P old → AllByRecursion P (with_changes new old)
changes_all P [] old a b = b
changes_all P (c ∷ cs) old a b = changes_all P cs (with_change c old) a.1 (all_put P is_before c old a.0 b)

-- the base of the transaction in a place is a snapshot
pub base_known : (shown : Shown) (touched : List (List ℕ)) (active : List Transaction) (own : ℕ) → own < length active → AllByRecursion (IsActive shown touched) active → IsSnapshot shown (transaction_at active own).base
base_known shown touched [] own h all = absurd (omega arith)
base_known shown touched (t ∷ ts) zero h all = all.0.base
base_known shown touched (t ∷ ts) (suc own) h all = base_known shown touched ts own (omega arith) all.1

-- the rows of a table that a transaction sees have numbers that were taken, and values for all columns
pub seen_rows : (shown : Shown) (schema : Schema) (txns : Transactions) (table own : ℕ) → IsTied shown schema txns → IsStored shown → table < length schema.tables → own < length txns.active → AllByRecursion (IsRow shown txns.touched table) (calls.seen (transaction_at txns.active own) table (shown.rows table))
seen_rows shown schema txns table own tied stored there within =
    let base = base_known shown txns.touched txns.active own within tied.active in
    let can : CanRead shown table (transaction_at txns.active own).base = record { there = omega (arith, tied.count); snapshot = base } in
    applied_rows shown txns.touched table (transaction_at txns.active own).changes (shown.rows table (transaction_at txns.active own).base) (own_changes shown txns.touched txns.active own tied.active)
    (base_rows_are shown txns.touched table (shown.rows table (transaction_at txns.active own).base) (tied.given table (transaction_at txns.active own).base can) (stored.wide table (transaction_at txns.active own).base can))

pub tied_changed : (shown : Shown) (schema : Schema) (txns new : Transactions) (session table : ℕ) (only : List (List Atom)) (sets : Option (List (ℕ × Value))) (k : ℕ) → IsTied shown schema txns → IsStored shown → table < length schema.tables → calls.changed txns session table only sets (shown.rows table) ≡ Ok (k, new) → IsTied shown schema new
tied_changed shown schema txns new session table only sets k tied stored there h =
    let b = changed_is txns session table only sets (shown.rows table) k new h in
    let within = writer_within txns.active session b.0 b.1 in
    let rows = all_filter (IsRow shown txns.touched table) (λ (r : Record). qualifies only r.values) (calls.seen (transaction_at txns.active b.0) table (shown.rows table)) (seen_rows shown schema txns table b.0 tied stored there within) in
    let here : table < shown.tables = omega (arith, tied.count) in
    let met = calls.met (transaction_at txns.active b.0) table only (shown.rows table) in
    let made = all_map (IsOwn shown txns.touched) (calls.change_of table sets) met (all_more (IsRow shown txns.touched table) (λ (r : Record). IsOwn shown txns.touched (calls.change_of table sets r)) (λ r a. row_change shown txns.touched table sets r here a) met rows) in
    let changes = changes_all (IsOwn shown txns.touched) (map (calls.change_of table sets) met) (transaction_at txns.active b.0).changes made (own_changes shown txns.touched txns.active b.0 tied.active) in
    rw b.2 (tied_more shown schema txns (record txns { active = with_own txns.active b.0 (calls_made txns table only sets (shown.rows table) b.0) }) (λ i. omega arith) tied.few
    (own_active shown txns.touched txns.active b.0 (calls_made txns table only sets (shown.rows table) b.0) within changes tied.active) tied)

-- Facts of the session's transaction, as rv_txn answers them.

-- ROLLBACK found the transaction in a place
pub rolled_is : (t new : Transactions) (session : ℕ) → undone t session ≡ Ok new → (own : ℕ) × (transaction_of t.active session ≡ Some own) × (new ≡ without t own)
rolled_is t new session h =
    let s = bind_ok (ok_or (transaction_of t.active session) NoTransaction) _ new h in
    (s.0, was_some (transaction_of t.active session) NoTransaction s.0 s.1, sym (ok_is (without t s.0) new s.2))

-- what is to be committed is of the transaction in a place
pub finished_is : (t : Transactions) (session n base : ℕ) (changes : List Change) → finished t session ≡ Ok (n, base, changes) → (own : ℕ) × (transaction_of t.active session ≡ Some own) × ((transaction_at t.active own).base ≡ base) × ((transaction_at t.active own).changes ≡ changes)
finished_is t session n base changes h =
    let s = bind_ok (ok_or (transaction_of t.active session) NoTransaction) _ (n, base, changes) h in
    let e = triple_is _ n _ base _ changes s.2 in
    (s.0, was_some (transaction_of t.active session) NoTransaction s.0 s.1, e.0, e.1)
  where
    triple_is : (a c b d : ℕ) (x y : List Change) → ◌≡◌ {A = Result (ℕ × ℕ × List Change) Refusal} (Ok (a, b, x)) (Ok (c, d, y)) → (b ≡ d) × (x ≡ y)
    triple_is a c b d x y k = let e : ◌≡◌ {A = ℕ × ℕ × List Change} (a, b, x) (c, d, y) = cc in (ap (λ (p : ℕ × ℕ × List Change). p.1) e, ap (λ (p : ℕ × ℕ × List Change). p.2) e)

-- what UPDATE and DELETE ask of the session's transaction
pub can_change : (shown : Shown) (schema : Schema) (txns : Transactions) (session table : ℕ) (only : List (List Atom)) → IsTied shown schema txns → table < length schema.tables → is_over_table schema.tables table only ≡ true → IfSome (transaction_of txns.active session) (λ own. CanChange shown (transaction_at txns.active own) table only)
can_change shown schema txns session table only tied there over = by_place (transaction_of txns.active session) refl
  where
    wide : (t : Transaction) → IsActive shown txns.touched t → AllByRecursion (IsWide table (shown.columns table)) t.changes
    wide t a = all_more (IsOwn shown txns.touched) (IsWide table (shown.columns table)) (λ c k e. subst (λ (n : ℕ). IfSome c.values (λ (values : List Value). length values ≡ shown.columns n)) e k.width) t.changes a.changes

    by_place : (o : Option ℕ) → transaction_of txns.active session ≡ o → IfSome o (λ own. CanChange shown (transaction_at txns.active own) table only)
    by_place None e = tt
    by_place (Some own) e =
        let within = own_within txns.active session own e in
        let base = base_known shown txns.touched txns.active own within tied.active in
        record {
          rows = record { there = omega (arith, tied.count); snapshot = base };
          over = rw (tied.columns table there) over;
          wide = all_or (λ (t : Transaction). AllByRecursion (IsWide table (shown.columns table)) t.changes) txns.active own no_transaction (all_more (IsActive shown txns.touched) (λ (t : Transaction). AllByRecursion (IsWide table (shown.columns table)) t.changes) (λ t a. wide t a) txns.active tied.active) tt;
        }

-- transactions after UPDATE or DELETE, whatever is answered
pub changes_tied : (r : Result ℕ TxnFault) (shown : Shown) (schema : Schema) (txns new : Transactions) (session table : ℕ) (only : List (List Atom)) (sets : Option (List (ℕ × Value))) → IsTied shown schema txns → IsStored shown → table < length schema.tables → IfOk r (λ k. calls.changed txns session table only sets (shown.rows table) ≡ Ok (k, new)) → OnErr r (new ≡ txns) → IsTied shown schema new
changes_tied (Ok k) shown schema txns new session table only sets tied stored there ok err = tied_changed shown schema txns new session table only sets k tied stored there ok
changes_tied (Err e) shown schema txns new session table only sets tied stored there ok err = rw err tied
