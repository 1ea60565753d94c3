-- After every legal history each row has a number that its table gave.
use Rattle.std.proofs.Common.{◌≡◌, ℕ, zero, suc, ◌+◌, ◌-◌, ◌<◌, ◌≤◌, List, [], ◌∷◌, ◌++◌, Option, Some, None, Result, Ok, Err, Bool, true, false, refl, sym, ap, subst, filter, map, length, nat_lt, nat_eq, not, arith, if◌then◌else◌}
use Rattle.std.specs.Prelude.{remove, slice_set}
use Rattle.std.specs.List.{AllByRecursion, range_with_len, slice_index_or}
use Rattle.std.proofs.lemmas.Bool.{eqb-true, ltb-false, ltb-true}
use Rattle.std.proofs.lemmas.List.{get_or_past, length_push}
use Rattle.rv_value.proofs.Lists.{all_append, all_filter, all_last, all_or, all_remove, all_set}
use Rattle.rv_value.specs.declared.value.Value.{Value}
use Rattle.rv_value.specs.declared.record.Record.{Record}
use Rattle.rv_value.specs.declared.record.RowNo.{RowNo}
use Rattle.rv_value.proofs.Places.{default_behind}
use Rattle.rv_restrict.specs.declared.atom.Atom.{Atom}
use Rattle.rv_rows.specs.declared.changes.Change.{Change}
use Rattle.rv_rows.specs.Changes.{is_before, rows_with_changes, with_change, with_changes}
use Rattle.rv_rows.specs.Rows.{comes_below, with_values}
use Rattle.rv_lang.specs.declared.reply.Refusal.{Refusal}
use Rattle.rv_lang.specs.declared.reply.Refusal.TheVariants as refusals
use Rattle.rv_lang.specs.declared.reply.Reply.{Reply}
use Rattle.rv_lang.specs.declared.reply.Which.TheVariants as which
use Rattle.rv_parse.specs.Reading.{statement_of}
use Rattle.rv_catalog.specs.declared.def.IndexDef.{IndexDef}
use Rattle.rv_catalog.specs.declared.def.Resolved.{Resolved}
use Rattle.rv_catalog.specs.declared.def.Resolved.TheVariants as asked
use Rattle.rv_catalog.specs.declared.def.Select.{Select}
use Rattle.rv_catalog.specs.declared.def.TableDef.{TableDef}
use Rattle.rv_catalog.specs.Answers.{ok_or, refuse_if}
use Rattle.rv_catalog.specs.Kept.{indexes_over}
use Rattle.rv_model.specs.declared.entry.Entry.{Entry}
use Rattle.rv_model.specs.declared.state.State.{State}
use Rattle.rv_model.specs.declared.transactions.Transaction.{Transaction}
use Rattle.rv_model.specs.declared.transactions.Transactions.{Transactions}
use Rattle.rv_model.specs.Database.{cursor_named, empty, rows_at}
use Rattle.rv_model.specs.History.{after_from, stepped}
use Rattle.rv_model.specs.Step.{Outcome, began, changed, closed, committed, committed_with, created, ended, fetched, indexed, inserted, next_asked, opened, opening, rolled_back, row_alone, rows_alone, rows_differ, rows_seen, state_of, tables_changed, understood}
use Rattle.rv_model.specs.Transactions as transactions
use Rattle.rv_model.specs.Transactions.{empty_lists, next_row, no_transaction, refuse_at, touch_all, touched_in, transaction_at, transaction_of, with_number}
use Rattle.rv_model.proofs.Touches.{touch_all_same}
use Rattle.rv_believed.specs.Taken.{AreTaken, ChangesTaken, HasTaken, StaysTaken, TablesTaken}
use Rattle.rv_believed.proofs.OrderlyStates.{Gives, Any, then_gives, any_gives}

-- ---- the next row numbers

abbrev pub Next : Type 0
Next = ℕ → ℕ

-- no number falls
abbrev pub Rises : Next → Next → Type 0
Rises old new = (table : ℕ) → old table ≤ new table

set_rises : (xs : List (List ℕ)) (n t : ℕ) → length (slice_index_or xs t []) ≤ length (slice_index_or (slice_set xs n (slice_index_or xs n [] ++ 0 ∷ [])) t [])
set_rises [] n t = omega arith
set_rises (x ∷ xs) zero zero = let e = length_push x 0 in omega (arith, e)
set_rises (x ∷ xs) zero (suc t) = omega arith
set_rises (x ∷ xs) (suc n) zero = omega arith
set_rises (x ∷ xs) (suc n) (suc t) = set_rises xs n t

set_gives : (xs : List (List ℕ)) (n : ℕ) → n < length xs → length (slice_index_or xs n []) < length (slice_index_or (slice_set xs n (slice_index_or xs n [] ++ 0 ∷ [])) n [])
set_gives [] n lt = absurd (omega (arith, lt))
set_gives (x ∷ xs) zero lt = let e = length_push x 0 in omega (arith, e)
set_gives (x ∷ xs) (suc n) lt = set_gives xs n (omega (arith, lt))

behind_rises : (xs more : List (List ℕ)) (t : ℕ) → length (slice_index_or xs t []) ≤ length (slice_index_or (xs ++ more) t [])
behind_rises [] more t = omega arith
behind_rises (x ∷ xs) more zero = omega arith
behind_rises (x ∷ xs) more (suc t) = behind_rises xs more t

-- past so many empty ones
past_empty : (k : ℕ) → slice_index_or (empty_lists k ++ (0 ∷ []) ∷ []) k [] ≡ 0 ∷ []
past_empty zero = refl
past_empty (suc k) = past_empty k

past_by : (n m k : ℕ) (us : List (List ℕ)) → n ≡ m → slice_index_or us m [] ≡ 0 ∷ [] → slice_index_or us n [] ≡ 0 ∷ []
past_by n m k us e h = subst (λ j. slice_index_or us j [] ≡ 0 ∷ []) (sym e) h

past_end : (xs : List (List ℕ)) (n k : ℕ) → n ≡ length xs + k → slice_index_or (xs ++ empty_lists k ++ (0 ∷ []) ∷ []) n [] ≡ 0 ∷ []
past_end [] n k e = past_by n k k (empty_lists k ++ (0 ∷ []) ∷ []) (omega (arith, e)) (past_empty k)
past_end (x ∷ xs) zero k e = absurd (omega (arith, e))
past_end (x ∷ xs) (suc n) k e = past_end xs n k (omega (arith, e))

end_rises : (xs us vs : List (List ℕ)) (t : ℕ) → length (slice_index_or xs t []) ≤ length (slice_index_or (xs ++ us ++ vs) t [])
end_rises [] us vs t = omega arith
end_rises (x ∷ xs) us vs zero = omega arith
end_rises (x ∷ xs) us vs (suc t) = end_rises xs us vs t

number_by : (touched : List (List ℕ)) (table t : ℕ) (b : Bool) → next_row touched t
    ≤ next_row (if b then slice_set touched table (touched_in touched table ++ 0 ∷ []) else touched ++ empty_lists (table - length touched) ++ (0 ∷ []) ∷ []) t
number_by touched table t true = set_rises touched table t
number_by touched table t false = end_rises touched (empty_lists (table - length touched)) ((0 ∷ []) ∷ []) t

number_rises : (touched : List (List ℕ)) (table : ℕ) → Rises (next_row touched) (next_row (with_number touched table))
number_rises touched table t = number_by touched table t (nat_lt table (length touched))

given_by : (touched : List (List ℕ)) (table : ℕ) (b : Bool) → nat_lt table (length touched) ≡ b → next_row touched table
    < next_row (if b then slice_set touched table (touched_in touched table ++ 0 ∷ []) else touched ++ empty_lists (table - length touched) ++ (0 ∷ []) ∷ []) table
given_by touched table true e = set_gives touched table (ltb-true table (length touched) e)
given_by touched table false e =
    let le : length touched ≤ table = ltb-false table (length touched) e in
    let before : length (slice_index_or touched table []) ≡ 0 = ap (λ (ns : List ℕ). length ns) (get_or_past touched table [] le) in
    let now : length (slice_index_or (touched ++ empty_lists (table - length touched) ++ (0 ∷ []) ∷ []) table []) ≡ 1 =
    ap (λ (ns : List ℕ). length ns) (past_end touched table (table - length touched) (omega (arith, le))) in
    omega (arith, before, now)

number_given : (touched : List (List ℕ)) (table : ℕ) → next_row touched table < next_row (with_number touched table) table
number_given touched table = given_by touched table (nat_lt table (length touched)) refl

-- ---- rows and changes

rows_more : (old new : ℕ) (rows : List Record) → old ≤ new → AreTaken old rows → AreTaken new rows
rows_more old new [] le h = tt
rows_more old new (r ∷ rows) le h = ((let lt = h.0 in omega (arith, le, lt)), rows_more old new rows le h.1)

tables_more : (old new : Next) (tables : List (List Record)) → Rises old new → TablesTaken old tables → TablesTaken new tables
tables_more old new tables rises h t = rows_more (old t) (new t) (rows_at tables t) (rises t) (h t)

bases_more : (old new : Next) (bases : List (List (List Record))) → Rises old new → AllByRecursion (TablesTaken old) bases → AllByRecursion (TablesTaken new) bases
bases_more old new [] rises h = tt
bases_more old new (b ∷ bs) rises h = (tables_more old new b rises h.0, bases_more old new bs rises h.1)

pub changes_more : (old new : Next) (cs : List Change) → Rises old new → ChangesTaken old cs → ChangesTaken new cs
changes_more old new [] rises h = tt
changes_more old new (c ∷ cs) rises h = ((let lt = h.0 in let le = rises c.table in omega (arith, lt, le)), changes_more old new cs rises h.1)

abbrev pub Takes : Next → Transaction → Type 0
Takes next t = ChangesTaken next t.changes

active_more : (old new : Next) (ts : List Transaction) → Rises old new → AllByRecursion (Takes old) ts → AllByRecursion (Takes new) ts
active_more old new [] rises h = tt
active_more old new (t ∷ ts) rises h = (changes_more old new t.changes rises h.0, active_more old new ts rises h.1)

with_values_taken : (m n : ℕ) (o : Option (List Value)) (rows : List Record) → n < m → AreTaken m rows → AreTaken m (with_values n o rows)
with_values_taken m n (Some vs) rows lt h =
    let new : Record = record { row = record { 0 = n }; values = vs } in
    all_append (λ (r : Record). r.row.0 < m) (filter (λ x. comes_below x new) rows) (new ∷ filter (λ x. comes_below new x) rows)
    (all_filter (λ (r : Record). r.row.0 < m) (λ x. comes_below x new) rows h) (lt, all_filter (λ (r : Record). r.row.0 < m) (λ x. comes_below new x) rows h)
with_values_taken m n None rows lt h = all_filter (λ (r : Record). r.row.0 < m) (λ (r : Record). not (nat_eq r.row.0 n)) rows h

applied_one : (next : Next) (table : ℕ) (c : Change) (rows : List Record) → c.row.0 < next c.table → AreTaken (next table) rows
    → (b : Bool) → nat_eq c.table table ≡ b → AreTaken (next table) (if b then with_values c.row.0 c.values rows else rows)
applied_one next table c rows lt h true e = with_values_taken (next table) c.row.0 c.values rows (subst (λ t. c.row.0 < next t) (eqb-true c.table table e) lt) h
applied_one next table c rows lt h false e = h

applied_taken : (next : Next) (table : ℕ) (cs : List Change) (rows : List Record) → ChangesTaken next cs → AreTaken (next table) rows → AreTaken (next table) (rows_with_changes table cs rows)
applied_taken next table [] rows p h = h
applied_taken next table (c ∷ cs) rows p h = applied_taken next table cs _ p.1 (applied_one next table c rows p.0 h (nat_eq c.table table) refl)

with_change_taken : (next : Next) (c : Change) (cs : List Change) → c.row.0 < next c.table → ChangesTaken next cs → ChangesTaken next (with_change c cs)
with_change_taken next c cs lt h = all_append (λ (x : Change). x.row.0 < next x.table) (filter (λ x. is_before x c) cs) (c ∷ filter (λ x. is_before c x) cs)
    (all_filter (λ (x : Change). x.row.0 < next x.table) (λ x. is_before x c) cs h) (lt, all_filter (λ (x : Change). x.row.0 < next x.table) (λ x. is_before c x) cs h)

with_changes_taken : (next : Next) (new cs : List Change) → ChangesTaken next new → ChangesTaken next cs → ChangesTaken next (with_changes new cs)
with_changes_taken next [] cs p h = h
with_changes_taken next (c ∷ new) cs p h = with_changes_taken next new (with_change c cs) p.1 (with_change_taken next c cs p.0 h)

pub own_taken : (next : Next) (ts : List Transaction) (own : ℕ) → AllByRecursion (Takes next) ts → ChangesTaken next (transaction_at ts own).changes
own_taken next ts own h = all_or (Takes next) ts own no_transaction h tt

rows_at_taken : (next : Next) (bases : List (List (List Record))) (own table : ℕ) → AllByRecursion (TablesTaken next) bases
    → AreTaken (next table) (rows_at (slice_index_or bases own []) table)
rows_at_taken next bases own table h = all_or (TablesTaken next) bases own [] h (λ t. tt) table

seen_taken : (s : State) (o : Option ℕ) (table : ℕ) → HasTaken s → AreTaken (next_row s.transactions.touched table) (rows_seen s o table)
seen_taken s None table h = tt
seen_taken s (Some own) table h = rows_at_taken (next_row s.transactions.touched) s.bases own table h.bases

-- ---- transactions

record Keeps (t new : Transactions) : Type 0 where
  rises : Rises (next_row t.touched) (next_row new.touched)
  changes : AllByRecursion (Takes (next_row new.touched)) new.active

with_own_taken : (next : Next) (ts : List Transaction) (own : ℕ) (cs : List Change) → AllByRecursion (Takes next) ts → ChangesTaken next cs
    → AllByRecursion (Takes next) (transactions.with_own ts own cs)
with_own_taken next ts own cs h p = all_set (Takes next) ts own (record (transaction_at ts own) { changes = cs }) h p

insert_keeps : (t : Transactions) (session table : ℕ) (vs : List Value) → AllByRecursion (Takes (next_row t.touched)) t.active
    → Gives (λ (b : RowNo × Transactions). Keeps t b.1) (transactions.inserted t session table vs)
insert_keeps t session table vs h = then_gives Any (λ (b : RowNo × Transactions). Keeps t b.1) (transactions.writer t.active session) _ (any_gives (transactions.writer t.active session))
    (λ own p. then_gives Any (λ (b : RowNo × Transactions). Keeps t b.1) (refuse_if (nat_lt 999999 (next_row t.touched table)) (refusals.Limit which.Rows 1000000)) _
    (any_gives (refuse_if (nat_lt 999999 (next_row t.touched table)) (refusals.Limit which.Rows 1000000)))
    (λ u q. then_gives Any (λ (b : RowNo × Transactions). Keeps t b.1) (refuse_if (nat_lt 99999 (length (transaction_at t.active own).changes)) (refusals.Limit which.Pending 100000)) _
    (any_gives (refuse_if (nat_lt 99999 (length (transaction_at t.active own).changes)) (refusals.Limit which.Pending 100000)))
    (λ v r.
    let new : Next = next_row (with_number t.touched table) in
    let rises = number_rises t.touched table in
    let active = active_more (next_row t.touched) new t.active rises h in
    let c : Change = record { table = table; row = record { 0 = next_row t.touched table }; values = Some vs } in
    record {
      rises = rises;
      changes = with_own_taken new t.active own (with_change c (transaction_at t.active own).changes) active
          (with_change_taken new c (transaction_at t.active own).changes (number_given t.touched table) (own_taken new t.active own active));
    })))

changes_of_taken : (next : Next) (table : ℕ) (sets : Option (List (ℕ × Value))) (rows : List Record) → AreTaken (next table) rows
    → ChangesTaken next (map (transactions.change_of table sets) rows)
changes_of_taken next table sets [] h = tt
changes_of_taken next table sets (r ∷ rows) h = (h.0, changes_of_taken next table sets rows h.1)

no_rise : (n : Next) → Rises n n
no_rise n t = omega arith

rows_keep : (t : Transactions) (session own table : ℕ) (sets : Option (List (ℕ × Value))) (rows : List Record) → AllByRecursion (Takes (next_row t.touched)) t.active
    → AreTaken (next_row t.touched table) rows → Gives (λ (b : ℕ × Transactions). Keeps t b.1) (transactions.changed_rows t session own table sets rows)
rows_keep t session own table sets rows h p = then_gives Any (λ (b : ℕ × Transactions). Keeps t b.1)
    (refuse_if (nat_lt 100000 (transactions.changed_with (transaction_at t.active own).changes table rows)) (refusals.Limit which.Pending 100000)) _
    (any_gives (refuse_if (nat_lt 100000 (transactions.changed_with (transaction_at t.active own).changes table rows)) (refusals.Limit which.Pending 100000)))
    (λ u q. then_gives Any (λ (b : ℕ × Transactions). Keeps t b.1) (transactions.unharmed t session (transaction_at t.active own).base table rows) _
    (any_gives (transactions.unharmed t session (transaction_at t.active own).base table rows))
    (λ v r. record {
      rises = no_rise (next_row t.touched);
      changes = with_own_taken (next_row t.touched) t.active own (with_changes (map (transactions.change_of table sets) rows) (transaction_at t.active own).changes) h
          (with_changes_taken (next_row t.touched) (map (transactions.change_of table sets) rows) (transaction_at t.active own).changes
          (changes_of_taken (next_row t.touched) table sets rows p) (own_taken (next_row t.touched) t.active own h));
    }))

change_keeps : (t : Transactions) (session table : ℕ) (only : List (List Atom)) (sets : Option (List (ℕ × Value))) (rows : ℕ → List Record)
    → AllByRecursion (Takes (next_row t.touched)) t.active → ((base : ℕ) → AreTaken (next_row t.touched table) (rows base))
    → Gives (λ (b : ℕ × Transactions). Keeps t b.1) (transactions.changed t session table only sets rows)
change_keeps t session table only sets rows h p = then_gives Any (λ (b : ℕ × Transactions). Keeps t b.1) (transactions.writer t.active session) _ (any_gives (transactions.writer t.active session))
    (λ own q. rows_keep t session own table sets (transactions.met (transaction_at t.active own) table only rows) h
    (all_filter (λ (r : Record). r.row.0 < next_row t.touched table) _ (transactions.seen (transaction_at t.active own) table rows)
    (applied_taken (next_row t.touched) table (transaction_at t.active own).changes (rows (transaction_at t.active own).base)
    (own_taken (next_row t.touched) t.active own h) (p (transaction_at t.active own).base))))

-- ---- statements

abbrev Done : Reply × State → Type 0
Done d = HasTaken d.1

created_taken : (s : State) (def : TableDef) → HasTaken s → Gives Done (created s def)
created_taken s def h = then_gives Any Done (refuse_at (transactions.lowest s.transactions.active) refusals.Busy) _
    (any_gives (refuse_at (transactions.lowest s.transactions.active) refusals.Busy))
    (λ u p. then_gives Any Done (refuse_if (nat_lt 63 (length s.schema.tables)) (refusals.Limit which.Tables 64)) _
    (any_gives (refuse_if (nat_lt 63 (length s.schema.tables)) (refusals.Limit which.Tables 64)))
    (λ v q. record { rows = λ t. subst (AreTaken (next_row s.transactions.touched t)) (sym (default_behind s.rows t [])) (h.rows t); bases = h.bases; changes = h.changes }))

indexed_taken : (s : State) (def : IndexDef) → HasTaken s → Gives Done (indexed s def)
indexed_taken s def h = then_gives Any Done (refuse_at (transactions.lowest s.transactions.active) refusals.Busy) _
    (any_gives (refuse_at (transactions.lowest s.transactions.active) refusals.Busy))
    (λ u p. then_gives Any Done (refuse_if (nat_lt 7 (indexes_over def.table s.schema.indexes)) (refusals.Limit which.Indexes 8)) _
    (any_gives (refuse_if (nat_lt 7 (indexes_over def.table s.schema.indexes)) (refusals.Limit which.Indexes 8)))
    (λ v q. then_gives Any Done (rows_differ s def) _ (any_gives (rows_differ s def))
    (λ w r. record { rows = h.rows; bases = h.bases; changes = h.changes })))

begin_keeps : (t : Transactions) (session : ℕ) (read_only : Bool) (base : ℕ) → AllByRecursion (Takes (next_row t.touched)) t.active
    → Gives (λ (b : ℕ × Transactions). Keeps t b.1) (transactions.began t session read_only base)
begin_keeps t session read_only base h = then_gives Any (λ (b : ℕ × Transactions). Keeps t b.1)
    (refuse_at (transaction_of t.active session) (λ own. refusals.Active (transaction_at t.active own).number)) _
    (any_gives (refuse_at (transaction_of t.active session) (λ own. refusals.Active (transaction_at t.active own).number)))
    (λ u p. record {
      rises = no_rise (next_row t.touched);
      changes = all_last (Takes (next_row t.touched)) t.active (record { number = t.next; session = session; read_only = read_only; base = base; changes = [] }) h tt;
    })

began_taken : (s : State) (session : ℕ) (read_only : Bool) → HasTaken s → Gives Done (began s session read_only)
began_taken s session read_only h = then_gives (λ (b : ℕ × Transactions). Keeps s.transactions b.1) Done
    (transactions.began s.transactions session read_only s.last) _ (begin_keeps s.transactions session read_only s.last h.changes)
    (λ b p. record {
      rows = tables_more (next_row s.transactions.touched) (next_row b.1.touched) s.rows p.rises h.rows;
      bases = all_last (TablesTaken (next_row b.1.touched)) s.bases s.rows
          (bases_more (next_row s.transactions.touched) (next_row b.1.touched) s.bases p.rises h.bases)
          (tables_more (next_row s.transactions.touched) (next_row b.1.touched) s.rows p.rises h.rows);
      changes = p.changes;
    })

inserted_taken : (s : State) (session table : ℕ) (vs : List Value) → HasTaken s → Gives Done (inserted s session table vs)
inserted_taken s session table vs h = then_gives (λ (b : RowNo × Transactions). Keeps s.transactions b.1) Done
    (transactions.inserted s.transactions session table vs) _ (insert_keeps s.transactions session table vs h.changes)
    (λ b p. then_gives Any Done (row_alone s session table vs b.0) _ (any_gives (row_alone s session table vs b.0)) (λ u q. record {
      rows = tables_more (next_row s.transactions.touched) (next_row b.1.touched) s.rows p.rises h.rows;
      bases = bases_more (next_row s.transactions.touched) (next_row b.1.touched) s.bases p.rises h.bases;
      changes = p.changes;
    }))

changed_taken : (s : State) (session table : ℕ) (sets : Option (List (ℕ × Value))) (only : List (List Atom)) → HasTaken s → Gives Done (changed s session table sets only)
changed_taken s session table sets only h = then_gives (λ (b : ℕ × Transactions). Keeps s.transactions b.1) Done
    (transactions.changed s.transactions session table only sets (λ base. rows_seen s (transaction_of s.transactions.active session) table)) _
    (change_keeps s.transactions session table only sets (λ base. rows_seen s (transaction_of s.transactions.active session) table) h.changes
    (λ base. seen_taken s (transaction_of s.transactions.active session) table h))
    (λ b p. then_gives Any Done (rows_alone s session table sets only) _ (any_gives (rows_alone s session table sets only)) (λ u q. record {
      rows = tables_more (next_row s.transactions.touched) (next_row b.1.touched) s.rows p.rises h.rows;
      bases = bases_more (next_row s.transactions.touched) (next_row b.1.touched) s.bases p.rises h.bases;
      changes = p.changes;
    }))

same : (m a : ℕ) → m ≡ a + 0 → a ≡ m
same m a e = omega (arith, e)

moved : (m a t : ℕ) → m ≡ a + suc t → m ≡ (a + 1) + t
moved m a t e = omega (arith, e)

mapped_taken : (next : Next) (f : ℕ → List Record) → ((t : ℕ) → AreTaken (next t) (f t)) → (n a t m : ℕ) → m ≡ a + t
    → AreTaken (next m) (slice_index_or (map f (range_with_len a n)) t [])
mapped_taken next f h zero a t m e = tt
mapped_taken next f h (suc n) a zero m e = subst (λ k. AreTaken (next k) (f a)) (same m a e) (h a)
mapped_taken next f h (suc n) a (suc t) m e = mapped_taken next f h n (a + 1) t m (moved m a t e)

tables_changed_taken : (next : Next) (cs : List Change) (rows : List (List Record)) → ChangesTaken next cs → TablesTaken next rows → TablesTaken next (tables_changed cs rows)
tables_changed_taken next cs rows p h t = mapped_taken next (λ table. rows_with_changes table cs (rows_at rows table)) (λ table. applied_taken next table cs (rows_at rows table) p (h table))
    (length rows) 0 t t (omega arith)

ended_taken : (s : State) (own session : ℕ) (left : Transactions) (rows : List (List Record)) (last : ℕ) → HasTaken s
    → left.active ≡ remove s.transactions.active own → Rises (next_row s.transactions.touched) (next_row left.touched) → TablesTaken (next_row left.touched) rows
    → HasTaken (record (ended s own session left) { rows = rows; last = last })
ended_taken s own session left rows last h e rises r = record {
  rows = r;
  bases = all_remove (TablesTaken (next_row left.touched)) s.bases own (bases_more (next_row s.transactions.touched) (next_row left.touched) s.bases rises h.bases);
  changes = subst (AllByRecursion (Takes (next_row left.touched))) (sym e) (all_remove (Takes (next_row left.touched)) s.transactions.active own
      (active_more (next_row s.transactions.touched) (next_row left.touched) s.transactions.active rises h.changes));
}

pub touched_rises : (commit : ℕ) (cs : List Change) (touched : List (List ℕ)) → Rises (next_row touched) (next_row (touch_all commit cs touched))
touched_rises commit cs touched t = let e = touch_all_same commit cs touched t in omega (arith, e)

committed_with_taken : (cs : List Change) (s : State) (session own : ℕ) → HasTaken s → ChangesTaken (next_row s.transactions.touched) cs → Done (committed_with cs s session own)
committed_with_taken [] s session own h p =
    let base : ℕ = (transaction_at s.transactions.active own).base in
    let changes : List Change = (transaction_at s.transactions.active own).changes in
    let rises = touched_rises base changes s.transactions.touched in
    ended_taken s own session (transactions.done s.transactions own base) s.rows s.last h refl rises
    (tables_more (next_row s.transactions.touched) (next_row (touch_all base changes s.transactions.touched)) s.rows rises h.rows)
committed_with_taken (c ∷ cs) s session own h p =
    let changes : List Change = (transaction_at s.transactions.active own).changes in
    let rises = touched_rises (s.last + 1) changes s.transactions.touched in
    ended_taken s own session (transactions.done s.transactions own (s.last + 1)) (tables_changed (c ∷ cs) s.rows) (s.last + 1) h refl rises
    (tables_more (next_row s.transactions.touched) (next_row (touch_all (s.last + 1) changes s.transactions.touched)) (tables_changed (c ∷ cs) s.rows) rises
    (tables_changed_taken (next_row s.transactions.touched) (c ∷ cs) s.rows p h.rows))

committed_taken : (s : State) (session : ℕ) → HasTaken s → Gives Done (committed s session)
committed_taken s session h = then_gives Any Done (ok_or (transaction_of s.transactions.active session) refusals.NoTransaction) _
    (any_gives (ok_or (transaction_of s.transactions.active session) refusals.NoTransaction))
    (λ own p. committed_with_taken (transaction_at s.transactions.active own).changes s session own h (own_taken (next_row s.transactions.touched) s.transactions.active own h.changes))

rolled_taken : (s : State) (session : ℕ) → HasTaken s → Gives Done (rolled_back s session)
rolled_taken s session h = then_gives Any Done (ok_or (transaction_of s.transactions.active session) refusals.NoTransaction) _
    (any_gives (ok_or (transaction_of s.transactions.active session) refusals.NoTransaction))
    (λ own p. ended_taken s own session (transactions.without s.transactions own) s.rows s.last h refl (no_rise (next_row s.transactions.touched)) h.rows)

opened_taken : (s : State) (session : ℕ) (name : List ℕ) (q : Select) → HasTaken s → Gives Done (opened s session name q)
opened_taken s session name q h = then_gives Any Done (opening s.transactions.active s.cursors session name) _
    (any_gives (opening s.transactions.active s.cursors session name))
    (λ own p. record { rows = h.rows; bases = h.bases; changes = h.changes })

closed_taken : (s : State) (session : ℕ) (name : List ℕ) → HasTaken s → Gives Done (closed s session name)
closed_taken s session name h = then_gives Any Done (ok_or (cursor_named s.cursors session name) (refusals.NoCursor name)) _
    (any_gives (ok_or (cursor_named s.cursors session name) (refusals.NoCursor name)))
    (λ place p. record { rows = h.rows; bases = h.bases; changes = h.changes })

fetched_taken : (o : Option ℕ) (s : State) (reply : Reply) → HasTaken s → HasTaken (fetched o s reply)
fetched_taken None s reply h = h
fetched_taken (Some place) s reply h = record { rows = h.rows; bases = h.bases; changes = h.changes }

-- ---- the whole

state_taken : (o : Outcome) (s : State) → HasTaken s → Gives Done o → HasTaken (state_of o s)
state_taken (Ok done) s h p = p
state_taken (Err refusal) s h p = h

pub next_taken : (r : Result Resolved Refusal) (s : State) (session : ℕ) (reply : Reply) → HasTaken s → HasTaken (next_asked r s session reply)
next_taken (Err refusal) s session reply h = h
next_taken (Ok (asked.Fetch name)) s session reply h = fetched_taken (cursor_named s.cursors session name) s reply h
next_taken (Ok (asked.Step name n)) s session reply h = h
next_taken (Ok (asked.Show name)) s session reply h = h
next_taken (Ok (asked.CreateTable def)) s session reply h = state_taken (created s def) s h (created_taken s def h)
next_taken (Ok (asked.CreateIndex def)) s session reply h = state_taken (indexed s def) s h (indexed_taken s def h)
next_taken (Ok (asked.Begin read_only)) s session reply h = state_taken (began s session read_only) s h (began_taken s session read_only h)
next_taken (Ok (asked.Insert table vs)) s session reply h = state_taken (inserted s session table vs) s h (inserted_taken s session table vs h)
next_taken (Ok (asked.Update table sets only)) s session reply h = state_taken (changed s session table (Some sets) only) s h (changed_taken s session table (Some sets) only h)
next_taken (Ok (asked.Delete table only)) s session reply h = state_taken (changed s session table None only) s h (changed_taken s session table None only h)
next_taken (Ok asked.Commit) s session reply h = state_taken (committed s session) s h (committed_taken s session h)
next_taken (Ok asked.Rollback) s session reply h = state_taken (rolled_back s session) s h (rolled_taken s session h)
next_taken (Ok (asked.Open cursor q)) s session reply h = state_taken (opened s session cursor q) s h (opened_taken s session cursor q h)
next_taken (Ok (asked.Close cursor)) s session reply h = state_taken (closed s session cursor) s h (closed_taken s session cursor h)

pub stepped_taken : (s : State) (e : Entry) → HasTaken s → HasTaken (stepped s e)
stepped_taken s e h = next_taken (understood s.schema (statement_of e.text)) s e.session e.reply h

after_taken : (s : State) (es : List Entry) → HasTaken s → HasTaken (after_from s es)
after_taken s [] h = h
after_taken s (e ∷ es) h = after_taken (stepped s e) es (stepped_taken s e h)

pub empty_taken : HasTaken empty
empty_taken = record { rows = λ t. tt; bases = tt; changes = tt }

pub stays_taken : StaysTaken
stays_taken history = after_taken empty history empty_taken
