-- After any history the names of indexes are all different.
use Rattle.std.proofs.Common.{◌≡◌, ℕ, ◌≤◌, List, [], ◌∷◌, ◌++◌, refl, sym, Bool, true, false, Option, Some, None, Result, Ok, Err, bytes_eq, nat_lt, length, remove}
use Rattle.std.proofs.lemmas.Slice.Eq.{bytes_eq-Decides}
use Rattle.std.proofs.lemmas.Bool.{ltb-false, or_from}
use Rattle.rv_value.proofs.Tests.{left_false, right_false}
use Rattle.rv_rows.specs.declared.changes.Change.{Change}
use Rattle.rv_lang.specs.declared.statement.Statement.{Statement}
use Rattle.rv_lang.specs.declared.reply.Refusal.{Refusal}
use Rattle.rv_lang.specs.declared.reply.Refusal.TheVariants.{Limit, NoCursor}
use Rattle.rv_lang.specs.declared.reply.Which.TheVariants.{Name, Text as TextBytes, Columns, Key, List as Listed, Atoms, Groups, Joined, Returned, Order, Steps}
use Rattle.rv_lang.specs.declared.reply.Reply.{Reply}
use Rattle.rv_lang.specs.declared.reply.Reply.TheVariants.{Closed, Inserted, Opened, Touched}
use Rattle.rv_value.specs.declared.record.RowNo.{RowNo}
use Rattle.rv_parse.specs.Reading.{statement_of}
use Rattle.rv_catalog.specs.declared.def.IndexDef.{IndexDef}
use Rattle.rv_catalog.specs.declared.def.TableDef.{TableDef}
use Rattle.rv_catalog.specs.declared.def.Resolved.{Resolved}
use Rattle.rv_catalog.specs.declared.def.Resolved.TheVariants as asks
use Rattle.rv_catalog.specs.Schema.{Schema, index_named}
use Rattle.rv_catalog.specs.Answers.{◌>>=◌, ok_or, refuse_if}
use Rattle.rv_catalog.specs.Fits.{FitsSchema}
use Rattle.rv_catalog.specs.Kept.{indexes_over}
use Rattle.rv_catalog.specs.Limits.{columns_count, groups_in, has_long_group, has_long_list, has_long_name, has_no_steps, has_wide_text, joined_count, key_count, limits, order_count, returned_count}
use Rattle.rv_catalog.specs.Resolve.{form}
use Rattle.rv_catalog.proofs.Forms.{fits_if}
use Rattle.rv_catalog.proofs.Known.{none_any}
use Rattle.rv_model.specs.declared.state.Cursor.{Cursor}
use Rattle.rv_model.specs.declared.transactions.Transactions.{Transactions}
use Rattle.rv_model.specs.Offering.{offers_over}
use Rattle.rv_model.specs.Offers.{offers_in_order}
use Rattle.rv_model.specs.declared.entry.Entry.{Entry}
use Rattle.rv_model.specs.declared.state.State.{State}
use Rattle.rv_model.specs.Database.{cursor_named, empty}
use Rattle.rv_model.specs.History.{after, after_from, stepped}
use Rattle.rv_model.specs.Step.{committed_with, fetched, next_asked, opening, row_alone, rows_alone, rows_differ, rows_seen, state_of, table_of, view_rows, understood}
use Rattle.rv_model.specs.Transactions as transactions
use Rattle.rv_model.specs.Transactions.{lowest, transaction_at, transaction_of}
use Rattle.rv_decide.specs.Naming.{AreNamedApart, is_named}
use Rattle.rv_replay.proofs.Lifts.{begins, changes, commits, creates, indexes, inserts, rolls}

-- ---- a statement names a new index only so

step : (b : Bool) (r : Refusal) (rest : Result (Unit {0}) Refusal) (u : Unit {0}) → (refuse_if b r >>= (λ x. rest)) ≡ Ok u → (b ≡ false) × (rest ≡ Ok u)
step true r rest u h = absurd (cc)
step false r rest u h = (refl, h)

abbrev from_order : Statement → Result (Unit {0}) Refusal
from_order s = refuse_if (nat_lt 4 (order_count s)) (Limit Order 4) >>= (λ u. refuse_if (has_no_steps s) (Limit Steps 10000))

abbrev from_returned : Statement → Result (Unit {0}) Refusal
from_returned s = refuse_if (nat_lt 64 (returned_count s)) (Limit Returned 64) >>= (λ u. from_order s)

abbrev from_joined : Statement → Result (Unit {0}) Refusal
from_joined s = refuse_if (nat_lt 4 (joined_count s)) (Limit Joined 4) >>= (λ u. from_returned s)

abbrev from_groups : Statement → Result (Unit {0}) Refusal
from_groups s = refuse_if (nat_lt 32 (length (groups_in s))) (Limit Groups 32) >>= (λ u. from_joined s)

abbrev from_atoms : Statement → Result (Unit {0}) Refusal
from_atoms s = refuse_if (has_long_group (groups_in s)) (Limit Atoms 32) >>= (λ u. from_groups s)

abbrev from_lists : Statement → Result (Unit {0}) Refusal
from_lists s = refuse_if (has_long_list (groups_in s)) (Limit Listed 32) >>= (λ u. from_atoms s)

abbrev from_key : Statement → Result (Unit {0}) Refusal
from_key s = refuse_if (nat_lt 4 (key_count s)) (Limit Key 4) >>= (λ u. from_lists s)

abbrev from_columns : Statement → Result (Unit {0}) Refusal
from_columns s = refuse_if (nat_lt 16 (columns_count s)) (Limit Columns 16) >>= (λ u. from_key s)

abbrev from_texts : Statement → Result (Unit {0}) Refusal
from_texts s = refuse_if (has_wide_text s) (Limit TextBytes 255) >>= (λ u. from_columns s)

record IsWithin (s : Statement) : Type 0 where
  pub columns : columns_count s ≤ 16
  pub key : key_count s ≤ 4
  pub joined : joined_count s ≤ 4

within : (s : Statement) (u : Unit {0}) → limits s ≡ Ok u → IsWithin s
within s u h =
    let names = step (has_long_name s) (Limit Name 31) (from_texts s) u h in
    let texts = step (has_wide_text s) (Limit TextBytes 255) (from_columns s) u names.1 in
    let columns = step (nat_lt 16 (columns_count s)) (Limit Columns 16) (from_key s) u texts.1 in
    let key = step (nat_lt 4 (key_count s)) (Limit Key 4) (from_lists s) u columns.1 in
    let lists = step (has_long_list (groups_in s)) (Limit Listed 32) (from_atoms s) u key.1 in
    let atoms = step (has_long_group (groups_in s)) (Limit Atoms 32) (from_groups s) u lists.1 in
    let groups = step (nat_lt 32 (length (groups_in s))) (Limit Groups 32) (from_joined s) u atoms.1 in
    let joined = step (nat_lt 4 (joined_count s)) (Limit Joined 4) (from_returned s) u groups.1 in
    record { columns = ltb-false 16 (columns_count s) columns.0; key = ltb-false 4 (key_count s) key.0; joined = ltb-false 4 (joined_count s) joined.0 }

after_limits : (schema : Schema) (s : Statement) (r : Resolved) (l : Result (Unit {0}) Refusal) → limits s ≡ l → (l >>= (λ u. form schema s)) ≡ Ok r → IsWithin s × (form schema s ≡ Ok r)
after_limits schema s r (Ok u) e h = (within s u e, h)
after_limits schema s r (Err refusal) e h = absurd (cc)

-- what is asked fits the schema
asked_fits : (schema : Schema) (statement : Option Statement) (r : Resolved) → understood schema statement ≡ Ok r → FitsSchema schema r
asked_fits schema None r h = absurd (cc)
asked_fits schema (Some s) r h =
    let l = after_limits schema s r (limits s) refl h in
    fits_if schema s (Ok r) l.0.columns l.0.key l.0.joined l.1

-- ---- a new index of another name

same_sides : (a b : List ℕ) → bytes_eq a b ≡ false → bytes_eq b a ≡ false
same_sides a b h = by (bytes_eq b a) refl
  where
    by : (c : Bool) → bytes_eq b a ≡ c → c ≡ false
    by false e = refl
    by true e =
        let same : b ≡ a = (bytes_eq-Decides b a).0 e in
        let bad : bytes_eq a b ≡ true = (bytes_eq-Decides a b).1 (sym same) in
        cc

behind : (name : List ℕ) (ds : List IndexDef) (def : IndexDef) → is_named name ds ≡ false → bytes_eq name def.name ≡ false → is_named name (ds ++ def ∷ []) ≡ false
behind name [] def none other = or_from _ _ other refl
behind name (d ∷ ds) def none other = or_from _ _ (left_false _ _ none) (behind name ds def (right_false (bytes_eq name d.name) _ none) other)

pushed : (ds : List IndexDef) (def : IndexDef) → AreNamedApart ds → is_named def.name ds ≡ false → AreNamedApart (ds ++ def ∷ [])
pushed [] def apart fresh = (refl, tt)
pushed (d ∷ ds) def apart fresh = (behind d.name ds def apart.0 (same_sides def.name d.name (left_false _ _ fresh)), pushed ds def apart.1 (right_false (bytes_eq def.name d.name) _ fresh))

-- ---- each statement

abbrev Apart : State → Type 0
Apart s = AreNamedApart s.schema.indexes

created_apart : (s : State) (def : TableDef) (busy : Option ℕ) (full : Bool) → Apart s → Apart (state_of (creates s def busy full) s)
created_apart s def (Some n) full apart = apart
created_apart s def None true apart = apart
created_apart s def None false apart = apart

indexed_apart : (s : State) (def : IndexDef) (busy : Option ℕ) (full : Bool) (differ : Result (Unit {0}) Refusal) → index_named s.schema.indexes def.name ≡ None → Apart s → Apart (state_of (indexes s def busy full differ) s)
indexed_apart s def (Some n) full differ fresh apart = apart
indexed_apart s def None true differ fresh apart = apart
indexed_apart s def None false (Err e) fresh apart = apart
indexed_apart s def None false (Ok u) fresh apart = pushed s.schema.indexes def apart (none_any (λ (i : IndexDef). bytes_eq def.name i.name) s.schema.indexes fresh)

began_apart : (s : State) (r : Result (ℕ × Transactions) Refusal) → Apart s → Apart (state_of (begins s r) s)
began_apart s (Ok begun) apart = apart
began_apart s (Err e) apart = apart

tested_apart : (s : State) (alone : Result (Unit {0}) Refusal) (reply : Reply) (new : Transactions) → Apart s → Apart (state_of (alone >>= (λ u. Ok (reply, record s { transactions = new }))) s)
tested_apart s (Ok u) reply new apart = apart
tested_apart s (Err e) reply new apart = apart

inserted_apart : (s : State) (r : Result (RowNo × Transactions) Refusal) (alone : RowNo → Result (Unit {0}) Refusal) → Apart s → Apart (state_of (inserts s r alone) s)
inserted_apart s (Ok more) alone apart = tested_apart s (alone more.0) (Inserted more.0) more.1 apart
inserted_apart s (Err e) alone apart = apart

changed_apart : (s : State) (r : Result (ℕ × Transactions) Refusal) (alone : Result (Unit {0}) Refusal) → Apart s → Apart (state_of (changes s r alone) s)
changed_apart s (Ok done) alone apart = tested_apart s alone (Touched done.0) done.1 apart
changed_apart s (Err e) alone apart = apart

with_apart : (made : List Change) (s : State) (session own : ℕ) → Apart s → Apart (committed_with made s session own).1
with_apart [] s session own apart = apart
with_apart (c ∷ cs) s session own apart = apart

committed_apart : (s : State) (session : ℕ) (place : Option ℕ) → Apart s → Apart (state_of (commits s session place) s)
committed_apart s session None apart = apart
committed_apart s session (Some own) apart = with_apart (transaction_at s.transactions.active own).changes s session own apart

rolled_apart : (s : State) (session : ℕ) (place : Option ℕ) → Apart s → Apart (state_of (rolls s session place) s)
rolled_apart s session None apart = apart
rolled_apart s session (Some own) apart = apart

-- a statement that changes cursors alone
cursors_apart : {A : Type 0} (s : State) (r : Result A Refusal) (reply : Reply) (cursors : A → List Cursor) → Apart s → Apart (state_of (r >>= (λ a. Ok (reply, record s { cursors = cursors a }))) s)
cursors_apart s (Ok a) reply cursors apart = apart
cursors_apart s (Err e) reply cursors apart = apart

fetched_apart : (place : Option ℕ) (s : State) (reply : Reply) → Apart s → Apart (fetched place s reply)
fetched_apart None s reply apart = apart
fetched_apart (Some place) s reply apart = apart

asked_apart : (asked : Result Resolved Refusal) (s : State) (session : ℕ) (reply : Reply) → ((r : Resolved) → asked ≡ Ok r → FitsSchema s.schema r) → Apart s → Apart (next_asked asked s session reply)
asked_apart (Err refusal) s session reply fits apart = apart
asked_apart (Ok (asks.Fetch name)) s session reply fits apart = fetched_apart (cursor_named s.cursors session name) s reply apart
asked_apart (Ok (asks.CreateTable def)) s session reply fits apart = created_apart s def (lowest s.transactions.active) (nat_lt 63 (length s.schema.tables)) apart
asked_apart (Ok (asks.CreateIndex def)) s session reply fits apart = indexed_apart s def (lowest s.transactions.active) (nat_lt 7 (indexes_over def.table s.schema.indexes)) (rows_differ s def) (fits (asks.CreateIndex def) refl).fresh apart
asked_apart (Ok (asks.Begin read_only)) s session reply fits apart = began_apart s (transactions.began s.transactions session read_only s.last) apart
asked_apart (Ok (asks.Insert table values)) s session reply fits apart = inserted_apart s (transactions.inserted s.transactions session table values) (row_alone s session table values) apart
asked_apart (Ok (asks.Update table sets only)) s session reply fits apart = changed_apart s (transactions.changed s.transactions session table only (Some sets) (λ base. rows_seen s (transaction_of s.transactions.active session) table)) (rows_alone s session table (Some sets) only) apart
asked_apart (Ok (asks.Delete table only)) s session reply fits apart = changed_apart s (transactions.changed s.transactions session table only None (λ base. rows_seen s (transaction_of s.transactions.active session) table)) (rows_alone s session table None only) apart
asked_apart (Ok asks.Commit) s session reply fits apart = committed_apart s session (transaction_of s.transactions.active session) apart
asked_apart (Ok asks.Rollback) s session reply fits apart = rolled_apart s session (transaction_of s.transactions.active session) apart
asked_apart (Ok (asks.Open cursor select)) s session reply fits apart = cursors_apart s (opening s.transactions.active s.cursors session cursor) Opened (λ own. s.cursors ++ record { session = session; name = cursor; table = table_of select; offers = offers_in_order (offers_over select (view_rows s own)) } ∷ []) apart
asked_apart (Ok (asks.Step cursor n)) s session reply fits apart = apart
asked_apart (Ok (asks.Show cursor)) s session reply fits apart = apart
asked_apart (Ok (asks.Close cursor)) s session reply fits apart = cursors_apart s (ok_or (cursor_named s.cursors session cursor) (NoCursor cursor)) Closed (λ place. remove s.cursors place) apart

after_apart : (s : State) (h : List Entry) → Apart s → Apart (after_from s h)
after_apart s [] apart = apart
after_apart s (e ∷ es) apart = after_apart (stepped s e) es (asked_apart (understood s.schema (statement_of e.text)) s e.session e.reply (asked_fits s.schema (statement_of e.text)) apart)

-- After any history the names of indexes are all different.
pub apart_after : (h : List Entry) → AreNamedApart (after h).schema.indexes
apart_after h = after_apart empty h tt
