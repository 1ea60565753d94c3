-- After every history each table has a list of rows, and row numbers were taken of tables alone.
use Rattle.std.proofs.Common.{◌≡◌, ℕ, zero, suc, ◌+◌, ◌-◌, ◌<◌, ◌≤◌, List, [], ◌∷◌, ◌++◌, Option, Some, None, Result, Ok, Err, Bool, true, false, cond, refl, ◌∙◌, subst, arith, is_some, length, map, nat_lt, slice_set, if◌then◌else◌, length-set}
use Rattle.std.proofs.lemmas.Bool.{ltb-false, ltb-true}
use Rattle.std.proofs.lemmas.List.{length-append}
use Rattle.std.proofs.lemmas.List.FromFn.{length-map-range_with_len}
use Rattle.rv_value.specs.declared.value.Value.{Value}
use Rattle.rv_restrict.specs.declared.atom.Atom.{Atom}
use Rattle.rv_rows.specs.declared.changes.Change.{Change}
use Rattle.rv_lang.specs.declared.statement.RawKind.{RawKind}
use Rattle.rv_lang.specs.declared.statement.Statement.{Statement}
use Rattle.rv_lang.specs.declared.statement.Statement.TheVariants as statements
use Rattle.rv_lang.specs.declared.reply.Refusal.{Refusal}
use Rattle.rv_lang.specs.declared.reply.Refusal.TheVariants as refusals
use Rattle.rv_lang.specs.declared.reply.Reply.{Reply}
use Rattle.rv_lang.specs.declared.reply.Which.TheVariants as which
use Rattle.rv_parse.specs.Reading.{statement_of}
use Rattle.rv_catalog.specs.declared.columns.Item.{Item}
use Rattle.rv_catalog.specs.declared.def.IndexDef.{IndexDef}
use Rattle.rv_catalog.specs.declared.def.Resolved.{Resolved}
use Rattle.rv_catalog.specs.declared.def.Resolved.TheVariants as asked
use Rattle.rv_catalog.specs.declared.def.Select.{Select}
use Rattle.rv_catalog.specs.declared.def.TableDef.{TableDef}
use Rattle.rv_catalog.specs.Answers.{all_pass, ok_or, refuse_if}
use Rattle.rv_catalog.specs.Kept.{indexes_over}
use Rattle.rv_catalog.specs.Resolve.{resolved}
use Rattle.rv_catalog.specs.Schema.{Schema, index_named, table_named}
use Rattle.rv_model.specs.declared.entry.Entry.{Entry}
use Rattle.rv_model.specs.declared.state.State.{State}
use Rattle.rv_model.specs.Database.{cursor_named, empty}
use Rattle.rv_model.specs.History.{after_from, stepped}
use Rattle.rv_model.specs.Step.{Outcome, began, changed, closed, committed, committed_with, created, fetched, indexed, inserted, next_asked, no_rivals, opened, opening, rolled_back, rows_differ, state_of, understood}
use Rattle.rv_model.specs.Transactions as transactions
use Rattle.rv_model.specs.Transactions.{next_row, refuse_at, touch_all, touch, touched_in, transaction_at, transaction_of, empty_lists, writer}
use Rattle.rv_believed.specs.Answers.{answers}
use Rattle.rv_believed.specs.Changing.{few_changes}
use Rattle.rv_believed.specs.Limits.{within_limits}
use Rattle.rv_believed.specs.Names.{InReach, all_differ, asked_in, column_number, columns_returned, condition_of, item_of, kinds, reach_alone, reach_of, references, resolution, row_kinds, set_kind, set_of, table_number}
use Rattle.rv_believed.specs.Standing.{IsOfTables, IsSound, StaysSound}
use Rattle.rv_believed.proofs.ChangingOfState.{changes_by, no_holder, no_later_commit}
use Rattle.rv_believed.proofs.ChangingSame.{change_same, insert_same}
use Rattle.rv_believed.proofs.CommitsSame.{begin_same}
use Rattle.rv_believed.proofs.OrderlyStates.{Gives, empty_orderly, next_orderly, then_gives, then_any}
use Rattle.rv_believed.proofs.Pairs.{last_same}
use Rattle.rv_believed.proofs.Resolution.{resolution_same}
use Rattle.rv_believed.proofs.TakenStates.{empty_taken, next_taken}

-- ---- INSERT is into a table that is there

abbrev pub Among : ℕ → Resolved → Type 0
Among n (asked.Insert table vs) = table < n
Among n (asked.CreateTable def) = Unit {0}
Among n (asked.CreateIndex def) = Unit {0}
Among n (asked.Begin read_only) = Unit {0}
Among n (asked.Update table sets only) = Unit {0}
Among n (asked.Delete table only) = Unit {0}
Among n asked.Commit = Unit {0}
Among n asked.Rollback = Unit {0}
Among n (asked.Open cursor select) = Unit {0}
Among n (asked.Fetch cursor) = Unit {0}
Among n (asked.Step cursor m) = Unit {0}
Among n (asked.Show cursor) = Unit {0}
Among n (asked.Close cursor) = Unit {0}

number_by : (m n : ℕ) (name : List ℕ) (b : Bool) → nat_lt m n ≡ b → Gives (λ (k : ℕ). k < n) (ok_or (cond b (Some m) None) (refusals.Unknown name))
number_by m n name true e = ltb-true m n e
number_by m n name false e = tt

number_gives : (tables : List TableDef) (name : List ℕ) → Gives (λ (k : ℕ). k < length tables) (table_number tables name)
number_gives tables name = number_by _ (length tables) name (nat_lt _ (length tables)) refl

asked_gives : (tables : List TableDef) (indexes : List IndexDef) (s : Statement) → Gives (Among (length tables)) (asked_in tables indexes s)
asked_gives tables indexes (statements.CreateTable name columns) =
    then_any (Among (length tables)) (refuse_if (is_some (table_named tables name)) (refusals.Exists name)) _
    (λ u. then_any (Among (length tables)) (all_differ [] (map (λ (c : List ℕ × RawKind). c.0) columns)) _ (λ v. tt))
asked_gives tables indexes (statements.CreateIndex unique name table columns) =
    then_any (Among (length tables)) (table_number tables table) _
    (λ number. then_any (Among (length tables)) (answers (column_number (reach_alone tables table number)) columns) _
    (λ found. then_any (Among (length tables)) (refuse_if (is_some (index_named indexes name)) (refusals.Exists name)) _
    (λ u. then_any (Among (length tables)) (all_differ [] columns) _ (λ v. tt))))
asked_gives tables indexes (statements.Begin read_only) = tt
asked_gives tables indexes (statements.Insert table vs) =
    then_gives (λ (k : ℕ). k < length tables) (Among (length tables)) (table_number tables table) _ (number_gives tables table)
    (λ number p. then_any (Among (length tables)) (row_kinds [] (reach_alone tables table number) vs) _ (λ u. p))
asked_gives tables indexes (statements.Update table sets only) =
    then_any (Among (length tables)) (table_number tables table) _
    (λ number. let reach : List InReach = reach_alone tables table number in
    then_any (Among (length tables)) (answers (set_of reach) sets) _
    (λ found. then_any (Among (length tables)) (condition_of reach only) _
    (λ w. then_any (Among (length tables)) (all_differ [] (map (λ (s : List ℕ × Value). s.0) sets)) _
    (λ u. then_any (Among (length tables)) (all_pass (set_kind reach) sets) _
    (λ v. then_any (Among (length tables)) (kinds reach only) _ (λ x. tt))))))
asked_gives tables indexes (statements.Delete table only) =
    then_any (Among (length tables)) (table_number tables table) _
    (λ number. let reach : List InReach = reach_alone tables table number in
    then_any (Among (length tables)) (condition_of reach only) _
    (λ w. then_any (Among (length tables)) (kinds reach only) _ (λ x. tt)))
asked_gives tables indexes statements.Commit = tt
asked_gives tables indexes statements.Rollback = tt
asked_gives tables indexes (statements.Open cursor returned items only order goal) =
    then_any (Among (length tables)) (answers (item_of tables) items) _
    (λ from. let reach : List InReach = reach_of tables 0 from in
    then_any (Among (length tables)) (columns_returned reach returned) _
    (λ shown. then_any (Among (length tables)) (condition_of reach only) _
    (λ w. then_any (Among (length tables)) (references reach order) _
    (λ sorted. then_any (Among (length tables)) (all_differ [] (map (λ (i : Item). i.name) from)) _
    (λ u. then_any (Among (length tables)) (kinds reach only) _ (λ v. tt))))))
asked_gives tables indexes (statements.Fetch cursor) = tt
asked_gives tables indexes (statements.Show cursor) = tt
asked_gives tables indexes (statements.Close cursor) = tt
asked_gives tables indexes (statements.Step cursor n) = tt

pub resolution_gives : (schema : Schema) (s : Statement) → Gives (Among (length schema.tables)) (resolution schema.tables schema.indexes s)
resolution_gives schema s = then_any (Among (length schema.tables)) (within_limits s) (λ u. asked_in schema.tables schema.indexes s)
    (λ u. asked_gives schema.tables schema.indexes s)

resolved_gives : (schema : Schema) (s : Statement) → Gives (Among (length schema.tables)) (resolved schema s)
resolved_gives schema s = subst (Gives (Among (length schema.tables))) (resolution_same schema s) (resolution_gives schema s)

-- ---- lengths

untouched_length : (n : ℕ) → length (empty_lists n) ≡ n
untouched_length zero = refl
untouched_length (suc n) = let e : length (empty_lists n) ≡ n = untouched_length n in omega (arith, e)

number_length : (touched : List (List ℕ)) (table n : ℕ) (b : Bool) → nat_lt table (length touched) ≡ b → length touched ≤ n → table < n
    → length (if b then slice_set touched table (touched_in touched table ++ 0 ∷ []) else touched ++ empty_lists (table - length touched) ++ (0 ∷ []) ∷ []) ≤ n
number_length touched table n true e le lt =
    let p : length (slice_set touched table (touched_in touched table ++ 0 ∷ [])) ≡ length touched = length-set touched table (touched_in touched table ++ 0 ∷ []) in
    let all : length (slice_set touched table (touched_in touched table ++ 0 ∷ [])) ≤ n = omega (arith, p, le) in
    all
number_length touched table n false e le lt =
    let past : length touched ≤ table = ltb-false table (length touched) e in
    let p : length (touched ++ empty_lists (table - length touched)) ≡ length touched + length (empty_lists (table - length touched)) =
    length-append touched (empty_lists (table - length touched)) in
    let q : length (empty_lists (table - length touched)) ≡ table - length touched = untouched_length (table - length touched) in
    let r : length (touched ++ empty_lists (table - length touched) ++ (0 ∷ []) ∷ []) ≡ length (touched ++ empty_lists (table - length touched)) + 1 =
    length-append (touched ++ empty_lists (table - length touched)) ((0 ∷ []) ∷ []) in
    let all : length (touched ++ empty_lists (table - length touched) ++ (0 ∷ []) ∷ []) ≤ n = omega (arith, past, p, q, r, le, lt) in
    all

touch_length : (commit : ℕ) (cs : List Change) (touched : List (List ℕ)) → length (touch_all commit cs touched) ≡ length touched
touch_length commit [] touched = refl
touch_length commit (c ∷ cs) touched = touch_length commit cs (touch commit c touched)
    ∙ length-set touched c.table (slice_set (touched_in touched c.table) c.row.0 commit)

-- ---- statements

abbrev Done : Reply × State → Type 0
Done d = IsOfTables d.1

created_there : (s : State) (def : TableDef) → IsOfTables s → Gives Done (created s def)
created_there s def h = then_any Done (refuse_at (transactions.lowest s.transactions.active) refusals.Busy) _
    (λ u. then_any Done (refuse_if (nat_lt 63 (length s.schema.tables)) (refusals.Limit which.Tables 64)) _
    (λ v. record {
      rows = last_same s.rows s.schema.tables [] def h.rows;
      touched = (let le = h.touched in let p : length (s.schema.tables ++ def ∷ []) ≡ length s.schema.tables + 1 = length-append s.schema.tables (def ∷ []) in omega (arith, le, p));
    }))

indexed_there : (s : State) (def : IndexDef) → IsOfTables s → Gives Done (indexed s def)
indexed_there s def h = then_any Done (refuse_at (transactions.lowest s.transactions.active) refusals.Busy) _
    (λ u. then_any Done (refuse_if (nat_lt 7 (indexes_over def.table s.schema.indexes)) (refusals.Limit which.Indexes 8)) _
    (λ v. then_any Done (rows_differ s def) _ (λ w. record { rows = h.rows; touched = h.touched })))

began_there : (s : State) (session : ℕ) (read_only : Bool) → IsOfTables s → Gives Done (began s session read_only)
began_there s session read_only h = subst (Gives Done) (begin_same s session read_only)
    (then_any Done (refuse_at (transaction_of s.transactions.active session) (λ own. refusals.Active (transaction_at s.transactions.active own).number)) _
    (λ u. record { rows = h.rows; touched = h.touched }))

inserted_there : (s : State) (session table : ℕ) (vs : List Value) → table < length s.schema.tables → IsOfTables s → Gives Done (inserted s session table vs)
inserted_there s session table vs lt h = subst (Gives Done) (insert_same s session table vs)
    (then_any Done (writer s.transactions.active session) _
    (λ own. then_any Done (refuse_if (nat_lt 999999 (next_row s.transactions.touched table)) (refusals.Limit which.Rows 1000000)) _
    (λ u. then_any Done (refuse_if (nat_lt 99999 (length (transaction_at s.transactions.active own).changes)) (refusals.Limit which.Pending 100000)) _
    (λ v. then_any Done (no_rivals s session own table (record { table = table; row = record { 0 = next_row s.transactions.touched table }; values = Some vs } ∷ [])) _
    (λ w. record {
      rows = h.rows;
      touched = number_length s.transactions.touched table (length s.schema.tables) (nat_lt table (length s.transactions.touched)) refl h.touched lt;
    })))))

changed_there : (s : State) (session table : ℕ) (sets : Option (List (ℕ × Value))) (only : List (List Atom)) → IsOfTables s → Gives Done (changed s session table sets only)
changed_there s session table sets only h = subst (Gives Done) (change_same s session table sets only)
    (then_any Done (writer s.transactions.active session) _
    (λ own. then_any Done (few_changes (transaction_at s.transactions.active own).changes (changes_by s own table sets only)) _
    (λ u. then_any Done (all_pass (no_later_commit s (transaction_at s.transactions.active own).base) (changes_by s own table sets only)) _
    (λ v. then_any Done (all_pass (no_holder s session) (changes_by s own table sets only)) _
    (λ w. then_any Done (no_rivals s session own table (changes_by s own table sets only)) _
    (λ x. record { rows = h.rows; touched = h.touched }))))))

ended_there : (s : State) (session own : ℕ) (cs : List Change) → IsOfTables s → Done (committed_with cs s session own)
ended_there s session own [] h = record {
  rows = h.rows;
  touched = (let le = h.touched in
      let p : length (touch_all (transaction_at s.transactions.active own).base (transaction_at s.transactions.active own).changes s.transactions.touched) ≡ length s.transactions.touched =
      touch_length (transaction_at s.transactions.active own).base (transaction_at s.transactions.active own).changes s.transactions.touched in
      omega (arith, le, p));
}
ended_there s session own (c ∷ cs) h = record {
  rows = length-map-range_with_len _ 0 (length s.rows) ∙ h.rows;
  touched = (let le = h.touched in
      let p : length (touch_all (s.last + 1) (transaction_at s.transactions.active own).changes s.transactions.touched) ≡ length s.transactions.touched =
      touch_length (s.last + 1) (transaction_at s.transactions.active own).changes s.transactions.touched in
      omega (arith, le, p));
}

committed_there : (s : State) (session : ℕ) → IsOfTables s → Gives Done (committed s session)
committed_there s session h = then_any Done (ok_or (transaction_of s.transactions.active session) refusals.NoTransaction) _
    (λ own. ended_there s session own (transaction_at s.transactions.active own).changes h)

rolled_there : (s : State) (session : ℕ) → IsOfTables s → Gives Done (rolled_back s session)
rolled_there s session h = then_any Done (ok_or (transaction_of s.transactions.active session) refusals.NoTransaction) _
    (λ own. record { rows = h.rows; touched = h.touched })

opened_there : (s : State) (session : ℕ) (name : List ℕ) (q : Select) → IsOfTables s → Gives Done (opened s session name q)
opened_there s session name q h = then_any Done (opening s.transactions.active s.cursors session name) _
    (λ own. record { rows = h.rows; touched = h.touched })

closed_there : (s : State) (session : ℕ) (name : List ℕ) → IsOfTables s → Gives Done (closed s session name)
closed_there s session name h = then_any Done (ok_or (cursor_named s.cursors session name) (refusals.NoCursor name)) _
    (λ place. record { rows = h.rows; touched = h.touched })

fetched_there : (o : Option ℕ) (s : State) (reply : Reply) → IsOfTables s → IsOfTables (fetched o s reply)
fetched_there None s reply h = h
fetched_there (Some place) s reply h = record { rows = h.rows; touched = h.touched }

state_there : (o : Outcome) (s : State) → IsOfTables s → Gives Done o → IsOfTables (state_of o s)
state_there (Ok done) s h p = p
state_there (Err refusal) s h p = h

next_there : (r : Result Resolved Refusal) (s : State) (session : ℕ) (reply : Reply) → Gives (Among (length s.schema.tables)) r → IsOfTables s
    → IsOfTables (next_asked r s session reply)
next_there (Err refusal) s session reply p h = h
next_there (Ok (asked.Fetch name)) s session reply p h = fetched_there (cursor_named s.cursors session name) s reply h
next_there (Ok (asked.Step name n)) s session reply p h = h
next_there (Ok (asked.Show name)) s session reply p h = h
next_there (Ok (asked.CreateTable def)) s session reply p h = state_there (created s def) s h (created_there s def h)
next_there (Ok (asked.CreateIndex def)) s session reply p h = state_there (indexed s def) s h (indexed_there s def h)
next_there (Ok (asked.Begin read_only)) s session reply p h = state_there (began s session read_only) s h (began_there s session read_only h)
next_there (Ok (asked.Insert table vs)) s session reply p h = state_there (inserted s session table vs) s h (inserted_there s session table vs p h)
next_there (Ok (asked.Update table sets only)) s session reply p h = state_there (changed s session table (Some sets) only) s h (changed_there s session table (Some sets) only h)
next_there (Ok (asked.Delete table only)) s session reply p h = state_there (changed s session table None only) s h (changed_there s session table None only h)
next_there (Ok asked.Commit) s session reply p h = state_there (committed s session) s h (committed_there s session h)
next_there (Ok asked.Rollback) s session reply p h = state_there (rolled_back s session) s h (rolled_there s session h)
next_there (Ok (asked.Open cursor q)) s session reply p h = state_there (opened s session cursor q) s h (opened_there s session cursor q h)
next_there (Ok (asked.Close cursor)) s session reply p h = state_there (closed s session cursor) s h (closed_there s session cursor h)

understood_gives : (schema : Schema) (o : Option Statement) → Gives (Among (length schema.tables)) (understood schema o)
understood_gives schema None = tt
understood_gives schema (Some s) = resolved_gives schema s

-- ---- the whole

pub next_sound : (r : Result Resolved Refusal) (s : State) (session : ℕ) (reply : Reply) → Gives (Among (length s.schema.tables)) r → IsSound s
    → IsSound (next_asked r s session reply)
next_sound r s session reply p h = record {
  orderly = next_orderly r s session reply h.orderly;
  taken = next_taken r s session reply h.taken;
  tables = next_there r s session reply p h.tables;
}

pub stepped_sound : (s : State) (e : Entry) → IsSound s → IsSound (stepped s e)
stepped_sound s e h = next_sound (understood s.schema (statement_of e.text)) s e.session e.reply (understood_gives s.schema (statement_of e.text)) h

pub empty_sound : IsSound empty
empty_sound = record { orderly = empty_orderly; taken = empty_taken; tables = record { rows = refl; touched = omega arith } }

after_sound : (s : State) (es : List Entry) → IsSound s → IsSound (after_from s es)
after_sound s [] h = h
after_sound s (e ∷ es) h = after_sound (stepped s e) es (stepped_sound s e h)

pub stays_sound : StaysSound
stays_sound history = after_sound empty history empty_sound
