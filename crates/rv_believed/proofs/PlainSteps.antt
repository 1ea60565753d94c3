-- Each call leaves a plain database, and its reply is plain.
use Rattle.std.proofs.Common.{◌≡◌, ℕ, ◌+◌, List, [], ◌∷◌, ◌++◌, Option, Some, None, Result, Ok, Err, Bool, true, false, ◌&&◌, refl, sym, subst, map, filter, is_some, nat_eq, nat_lt, length, not, if◌then◌else◌}
use Rattle.std.specs.Prelude.{IfSome, IsSome, find, slice_set, remove}
use Rattle.std.specs.List.{AllByRecursion, slice_index_or, range_with_len}
use Rattle.std.specs.Ordering.{is_lt}
use Rattle.std.specs.Cmp.{second_so}
use Rattle.rv_value.proofs.Lists.{all_append, all_filter, all_or, all_remove, all_set}
use Rattle.rv_value.specs.declared.value.Value.{Value}
use Rattle.rv_value.specs.declared.value.Value.TheVariants.{Null}
use Rattle.rv_value.specs.declared.record.Record.{Record}
use Rattle.rv_value.specs.declared.record.RowNo.{RowNo}
use Rattle.rv_restrict.specs.declared.atom.Atom.{Atom}
use Rattle.rv_restrict.specs.declared.atom.ColRef.{ColRef}
use Rattle.rv_rows.specs.declared.changes.Change.{Change}
use Rattle.rv_rows.specs.Changes.{rows_with_changes, with_change, with_changes, is_before}
use Rattle.rv_rows.specs.Rows.{with_values, comes_below}
use Rattle.rv_lang.specs.declared.reply.Refusal.{Refusal}
use Rattle.rv_lang.specs.declared.reply.Refusal.TheVariants as refusals
use Rattle.rv_lang.specs.declared.reply.Rival.TheVariants as rivals
use Rattle.rv_lang.specs.declared.reply.Which.TheVariants as which
use Rattle.rv_lang.specs.declared.reply.Reply.{Reply}
use Rattle.rv_lang.specs.declared.reply.Reply.TheVariants as replies
use Rattle.rv_catalog.specs.declared.def.IndexDef.{IndexDef}
use Rattle.rv_catalog.specs.declared.def.Resolved.{Resolved}
use Rattle.rv_catalog.specs.declared.def.Resolved.TheVariants as asked
use Rattle.rv_catalog.specs.declared.def.Select.{Select}
use Rattle.rv_catalog.specs.declared.def.TableDef.{TableDef}
use Rattle.rv_catalog.specs.Answers.{all_pass, ok_or, refuse_if}
use Rattle.rv_catalog.specs.Kept.{indexes_over}
use Rattle.rv_model.specs.declared.state.State.{State}
use Rattle.rv_model.specs.declared.state.Cursor.{Cursor}
use Rattle.rv_model.specs.declared.state.Offer.{Offer}
use Rattle.rv_model.specs.declared.transactions.Transaction.{Transaction}
use Rattle.rv_model.specs.declared.transactions.Transactions.{Transactions}
use Rattle.rv_model.specs.Transactions as transactions
use Rattle.rv_model.specs.Transactions.{refuse_at, no_transaction, transaction_at, transaction_of}
use Rattle.rv_model.specs.Database.{base_rows, cursor_at, cursor_named, no_cursor, rows_at}
use Rattle.rv_model.specs.Offers.{offer_cmp, offers_in_order, place_of, same_values, with_offer, without}
use Rattle.rv_model.specs.Offering.{choices, is_kept, offer_over, offers_over, picked_over}
use Rattle.rv_model.specs.Rivals.{Neighbour, all_alone, alone, first_equal, is_rival, rows_written, unique_over}
use Rattle.rv_model.specs.Step.{Outcome, AllowsFetch, AllowsShow, AllowsStep, Offers, AllowsAsked, next_asked, began, closed, changed, committed, committed_with, created, changes_met, ended, fetched, indexed, inserted, neighbours_of, new_change, no_rivals_of, offers_after, opened, opening, own_cursors, reply_of, rolled_back, row_alone, rows_alone, rows_differ, rows_seen, state_of, tables_changed, view_rows}
use Rattle.rv_model.specs.Transcript.{IsName as IsPlainName}
use Rattle.rv_value.proofs.Same.{equal_values}
use Rattle.rv_believed.specs.Answers.{Test}
use Rattle.rv_believed.specs.Plain.{IsPlainValue, IsPlainRefusal, IsPlainReply}
use Rattle.rv_believed.proofs.PlainLists.{all_map, all_map_any, all_flat, passing}
use Rattle.rv_believed.proofs.PlainNames.{Comes, Any, then_comes, refuse_comes, ok_or_comes, IsPlainTable, ArePlainTables, IsPlainAsked}
use Rattle.rv_believed.proofs.PlainTraces.{shown_plain}

-- ---- a plain database

abbrev ArePlainValues : List Value → Type 0
ArePlainValues = AllByRecursion IsPlainValue

abbrev IsPlainRow : Record → Type 0
IsPlainRow r = ArePlainValues r.values

abbrev ArePlainRows : List Record → Type 0
ArePlainRows = AllByRecursion IsPlainRow

abbrev IsPlainChange : Change → Type 0
IsPlainChange c = IfSome c.values ArePlainValues

abbrev ArePlainChanges : List Change → Type 0
ArePlainChanges = AllByRecursion IsPlainChange

abbrev IsPlainTransaction : Transaction → Type 0
IsPlainTransaction t = ArePlainChanges t.changes

abbrev ArePlainTransactions : List Transaction → Type 0
ArePlainTransactions = AllByRecursion IsPlainTransaction

abbrev IsPlainOffer : Offer → Type 0
IsPlainOffer o = ArePlainValues o.returned

abbrev IsPlainCursor : Cursor → Type 0
IsPlainCursor c = AllByRecursion IsPlainOffer c.offers

abbrev IsPlainIndex : IndexDef → Type 0
IsPlainIndex i = IsPlainName i.name

pub record IsPlainState (s : State) : Type 0 where
  pub tables : ArePlainTables s.schema.tables
  pub indexes : AllByRecursion IsPlainIndex s.schema.indexes
  pub rows : AllByRecursion ArePlainRows s.rows
  pub active : ArePlainTransactions s.transactions.active
  pub bases : AllByRecursion (AllByRecursion ArePlainRows) s.bases
  pub cursors : AllByRecursion IsPlainCursor s.cursors

-- a reply with the database after it
abbrev IsPlainDone : Reply × State → Type 0
IsPlainDone d = IsPlainReply d.0 × IsPlainState d.1

refuse_at_comes : {A : Type 0} (o : Option A) (f : A → Refusal) → ((a : A) → IsPlainRefusal (f a)) → Comes Any (refuse_at o f)
refuse_at_comes None f holds = tt
refuse_at_comes (Some a) f holds = holds a

some_any : {A : Type 0} (o : Option A) → IfSome o Any
some_any None = tt
some_any (Some a) = tt

-- ---- rows and changes

put_plain : (new : Record) (rows : List Record) → IsPlainRow new → ArePlainRows rows
    → ArePlainRows (filter (λ x. comes_below x new) rows ++ new ∷ filter (λ x. comes_below new x) rows)
put_plain new rows p h = all_append IsPlainRow (filter (λ x. comes_below x new) rows) (new ∷ filter (λ x. comes_below new x) rows)
    (all_filter IsPlainRow (λ x. comes_below x new) rows h) (p, all_filter IsPlainRow (λ x. comes_below new x) rows h)

with_values_plain : (n : ℕ) (o : Option (List Value)) (rows : List Record) → IfSome o ArePlainValues → ArePlainRows rows → ArePlainRows (with_values n o rows)
with_values_plain n (Some vs) rows p h = put_plain (record { row = record { 0 = n }; values = vs }) rows p h
with_values_plain n None rows p h = all_filter IsPlainRow (λ (r : Record). not (nat_eq r.row.0 n)) rows h

applied_one : (b : Bool) (xs ys : List Record) → ArePlainRows xs → ArePlainRows ys → ArePlainRows (if b then xs else ys)
applied_one true xs ys p q = p
applied_one false xs ys p q = q

applied_plain : (table : ℕ) (changes : List Change) (rows : List Record) → ArePlainChanges changes → ArePlainRows rows → ArePlainRows (rows_with_changes table changes rows)
applied_plain table [] rows p h = h
applied_plain table (c ∷ cs) rows p h = applied_plain table cs _ p.1
    (applied_one (nat_eq c.table table) (with_values c.row.0 c.values rows) rows (with_values_plain c.row.0 c.values rows p.0 h) h)

with_change_plain : (c : Change) (cs : List Change) → IsPlainChange c → ArePlainChanges cs → ArePlainChanges (with_change c cs)
with_change_plain c cs p h = all_append IsPlainChange (filter (λ x. is_before x c) cs) (c ∷ filter (λ x. is_before c x) cs)
    (all_filter IsPlainChange (λ x. is_before x c) cs h) (p, all_filter IsPlainChange (λ x. is_before c x) cs h)

with_changes_plain : (new cs : List Change) → ArePlainChanges new → ArePlainChanges cs → ArePlainChanges (with_changes new cs)
with_changes_plain [] cs p h = h
with_changes_plain (c ∷ new) cs p h = with_changes_plain new (with_change c cs) p.1 (with_change_plain c cs p.0 h)

own_plain : (active : List Transaction) (own : ℕ) → ArePlainTransactions active → ArePlainChanges (transaction_at active own).changes
own_plain active own h = all_or IsPlainTransaction active own no_transaction h tt

with_own_plain : (active : List Transaction) (own : ℕ) (changes : List Change) → ArePlainTransactions active → ArePlainChanges changes
    → ArePlainTransactions (transactions.with_own active own changes)
with_own_plain active own changes h p = all_set IsPlainTransaction active own (record (transaction_at active own) { changes = changes }) h p

rows_at_plain : (tables : List (List Record)) (n : ℕ) → AllByRecursion ArePlainRows tables → ArePlainRows (rows_at tables n)
rows_at_plain tables n h = all_or ArePlainRows tables n [] h tt

base_plain : (s : State) (own table : ℕ) → IsPlainState s → ArePlainRows (base_rows s own table)
base_plain s own table h = rows_at_plain (slice_index_or s.bases own []) table (all_or (AllByRecursion ArePlainRows) s.bases own [] h.bases tt)

seen_plain : (s : State) (o : Option ℕ) (table : ℕ) → IsPlainState s → ArePlainRows (rows_seen s o table)
seen_plain s None table h = tt
seen_plain s (Some own) table h = base_plain s own table h

view_plain : (s : State) (own table : ℕ) → IsPlainState s → ArePlainRows (view_rows s own table)
view_plain s own table h = applied_plain table (transaction_at s.transactions.active own).changes (base_rows s own table) (own_plain s.transactions.active own h.active) (base_plain s own table h)

-- ---- CREATE and BEGIN

created_plain : (s : State) (def : TableDef) → IsPlainState s → IsPlainTable def → Comes IsPlainDone (created s def)
created_plain s def h p = then_comes Any IsPlainDone (refuse_at (transactions.lowest s.transactions.active) refusals.Busy) _
    (refuse_at_comes (transactions.lowest s.transactions.active) refusals.Busy (λ a. tt))
    (λ u q. then_comes Any IsPlainDone (refuse_if (nat_lt 63 (length s.schema.tables)) (refusals.Limit which.Tables 64)) _
    (refuse_comes (nat_lt 63 (length s.schema.tables)) (refusals.Limit which.Tables 64) tt)
    (λ v r. (
      tt,
      record {
        tables = all_append IsPlainTable s.schema.tables (def ∷ []) h.tables (p, tt);
        indexes = h.indexes;
        rows = all_append ArePlainRows s.rows ([] ∷ []) h.rows (tt, tt);
        active = h.active;
        bases = h.bases;
        cursors = h.cursors;
      },
    )))

indexed_plain : (s : State) (def : IndexDef) → IsPlainState s → IsPlainName def.name → Comes IsPlainDone (indexed s def)
indexed_plain s def h p = then_comes Any IsPlainDone (refuse_at (transactions.lowest s.transactions.active) refusals.Busy) _
    (refuse_at_comes (transactions.lowest s.transactions.active) refusals.Busy (λ a. tt))
    (λ u q. then_comes Any IsPlainDone (refuse_if (nat_lt 7 (indexes_over def.table s.schema.indexes)) (refusals.Limit which.Indexes 8)) _
    (refuse_comes (nat_lt 7 (indexes_over def.table s.schema.indexes)) (refusals.Limit which.Indexes 8) tt)
    (λ v r. then_comes Any IsPlainDone (rows_differ s def) _
    (refuse_at_comes (first_equal def (rows_at s.rows def.table)) (λ (x : Record). refusals.Duplicate x.row rivals.View) (λ x. tt))
    (λ w q. (
      tt,
      record {
        tables = h.tables;
        indexes = all_append IsPlainIndex s.schema.indexes (def ∷ []) h.indexes (p, tt);
        rows = h.rows;
        active = h.active;
        bases = h.bases;
        cursors = h.cursors;
      },
    ))))

abbrev NewTransaction : ℕ × Transactions → Type 0
NewTransaction b = ArePlainTransactions b.1.active

begun_plain : (t : Transactions) (session : ℕ) (read_only : Bool) (base : ℕ) → ArePlainTransactions t.active
    → Comes NewTransaction (transactions.began t session read_only base)
begun_plain t session read_only base h = then_comes Any NewTransaction
    (refuse_at (transaction_of t.active session) (λ own. refusals.Active (transaction_at t.active own).number)) _
    (refuse_at_comes (transaction_of t.active session) (λ own. refusals.Active (transaction_at t.active own).number) (λ a. tt))
    (λ u q. all_append IsPlainTransaction t.active (record { number = t.next; session = session; read_only = read_only; base = base; changes = [] } ∷ []) h (tt, tt))

began_plain : (s : State) (session : ℕ) (read_only : Bool) → IsPlainState s → Comes IsPlainDone (began s session read_only)
began_plain s session read_only h = then_comes NewTransaction IsPlainDone (transactions.began s.transactions session read_only s.last) _
    (begun_plain s.transactions session read_only s.last h.active)
    (λ b q. (
      tt,
      record {
        tables = h.tables;
        indexes = h.indexes;
        rows = h.rows;
        active = q;
        bases = all_append (AllByRecursion ArePlainRows) s.bases (s.rows ∷ []) h.bases (h.rows, tt);
        cursors = h.cursors;
      },
    ))

-- ---- INSERT, UPDATE and DELETE

writer_comes : (active : List Transaction) (session : ℕ) → Comes Any (transactions.writer active session)
writer_comes active session = then_comes Any Any (ok_or (transaction_of active session) refusals.NoTransaction) _
    (ok_or_comes Any (transaction_of active session) refusals.NoTransaction (some_any (transaction_of active session)) tt)
    (λ own q. then_comes Any Any (refuse_if (transaction_at active own).read_only refusals.ReadOnly) _
    (refuse_comes (transaction_at active own).read_only refusals.ReadOnly tt) (λ u r. tt))

-- a row with a rival is refused without a name

alone_comes : (near : List Neighbour) (r : Record) (d : IndexDef) → Comes Any (alone near r d)
alone_comes near r d = refuse_at_comes (find (λ (n : Neighbour). is_rival d.columns r n.row) near) (λ (n : Neighbour). refusals.Duplicate n.row.row n.at) (λ n. tt)

each_comes : {A : Type 0} (t : A → Test) → ((a : A) → Comes Any (t a)) → (xs : List A) → Comes Any (all_pass t xs)
each_comes t holds [] = tt
each_comes t holds (x ∷ xs) = then_comes Any Any (t x) (λ u. all_pass t xs) (holds x) (λ u p. each_comes t holds xs)

all_alone_comes : (indexes : List IndexDef) (near : List Neighbour) (rows : List Record) → Comes Any (all_alone indexes near rows)
all_alone_comes indexes near rows = each_comes (λ (r : Record). all_pass (alone near r) indexes) (λ r. each_comes (alone near r) (alone_comes near r) indexes) rows

rivals_come : (s : State) (session table : ℕ) (new : ℕ → List Change) (o : Option ℕ) → Comes Any (no_rivals_of s session o table new)
rivals_come s session table new None = tt
rivals_come s session table new (Some own) = all_alone_comes (unique_over table s.schema.indexes) (neighbours_of s session own table (new own)) (rows_written table (new own))

abbrev NewRow : RowNo × Transactions → Type 0
NewRow b = ArePlainTransactions b.1.active

insert_plain : (t : Transactions) (session table : ℕ) (vs : List Value) → ArePlainTransactions t.active → ArePlainValues vs
    → Comes NewRow (transactions.inserted t session table vs)
insert_plain t session table vs h p = then_comes Any NewRow (transactions.writer t.active session) _ (writer_comes t.active session)
    (λ own q. then_comes Any NewRow (refuse_if (nat_lt 999999 (transactions.next_row t.touched table)) (refusals.Limit which.Rows 1000000)) _
    (refuse_comes (nat_lt 999999 (transactions.next_row t.touched table)) (refusals.Limit which.Rows 1000000) tt)
    (λ u r. then_comes Any NewRow (refuse_if (nat_lt 99999 (length (transaction_at t.active own).changes)) (refusals.Limit which.Pending 100000)) _
    (refuse_comes (nat_lt 99999 (length (transaction_at t.active own).changes)) (refusals.Limit which.Pending 100000) tt)
    (λ v w. with_own_plain t.active own _ h
    (with_change_plain (record { table = table; row = record { 0 = transactions.next_row t.touched table }; values = Some vs })
    (transaction_at t.active own).changes p (own_plain t.active own h)))))

inserted_plain : (s : State) (session table : ℕ) (vs : List Value) → IsPlainState s → ArePlainValues vs → Comes IsPlainDone (inserted s session table vs)
inserted_plain s session table vs h p = then_comes NewRow IsPlainDone (transactions.inserted s.transactions session table vs) _
    (insert_plain s.transactions session table vs h.active p)
    (λ b q. then_comes Any IsPlainDone (row_alone s session table vs b.0) _ (rivals_come s session table (λ own. new_change table b.0 vs ∷ []) (transaction_of s.transactions.active session))
    (λ u r. (tt, record { tables = h.tables; indexes = h.indexes; rows = h.rows; active = q; bases = h.bases; cursors = h.cursors })))

abbrev ArePlainSets : List (ℕ × Value) → Type 0
ArePlainSets = AllByRecursion (λ (s : ℕ × Value). IsPlainValue s.1)

sets_plain : (sets : List (ℕ × Value)) (vs : List Value) → ArePlainSets sets → ArePlainValues vs → ArePlainValues (transactions.with_sets sets vs)
sets_plain [] vs p h = h
sets_plain (s ∷ sets) vs p h = sets_plain sets (slice_set vs s.0 s.1) p.1 (all_set IsPlainValue vs s.0 s.1 h p.0)

new_plain : (o : Option (List (ℕ × Value))) (vs : List Value) → IfSome o ArePlainSets → ArePlainValues vs → IfSome (transactions.new_values o vs) ArePlainValues
new_plain None vs p h = tt
new_plain (Some sets) vs p h = sets_plain sets vs p h

held_plain : (active : List Transaction) (row : RowNo) (o : Option ℕ) → IsPlainRefusal (transactions.held_by active row o)
held_plain active row None = tt
held_plain active row (Some place) = tt

abbrev NewChanges : ℕ × Transactions → Type 0
NewChanges b = ArePlainTransactions b.1.active

unharmed_comes : (t : Transactions) (session base table : ℕ) (rows : List Record) → Comes Any (transactions.unharmed t session base table rows)
unharmed_comes t session base table rows = then_comes Any Any
    (refuse_at (transactions.first_changed t.touched table base rows) (λ place. transactions.changed_refusal t.touched table (transactions.row_in rows place))) _
    (refuse_at_comes (transactions.first_changed t.touched table base rows) (λ place. transactions.changed_refusal t.touched table (transactions.row_in rows place)) (λ a. tt))
    (λ u q. refuse_at_comes (transactions.first_held t.active session table rows) (λ place. transactions.held_refusal t.active session table (transactions.row_in rows place))
    (λ place. held_plain t.active (transactions.row_in rows place) (transactions.holder t.active session table (transactions.row_in rows place).0)))

change_rows_plain : (t : Transactions) (session own table : ℕ) (sets : Option (List (ℕ × Value))) (rows : List Record)
    → ArePlainTransactions t.active → IfSome sets ArePlainSets → ArePlainRows rows → Comes NewChanges (transactions.changed_rows t session own table sets rows)
change_rows_plain t session own table sets rows h p q = then_comes Any NewChanges
    (refuse_if (nat_lt 100000 (transactions.changed_with (transaction_at t.active own).changes table rows)) (refusals.Limit which.Pending 100000)) _
    (refuse_comes (nat_lt 100000 (transactions.changed_with (transaction_at t.active own).changes table rows)) (refusals.Limit which.Pending 100000) tt)
    (λ u r. then_comes Any NewChanges (transactions.unharmed t session (transaction_at t.active own).base table rows) _
    (unharmed_comes t session (transaction_at t.active own).base table rows)
    (λ v w. with_own_plain t.active own _ h (with_changes_plain (map (transactions.change_of table sets) rows) (transaction_at t.active own).changes
    (all_map IsPlainRow IsPlainChange (transactions.change_of table sets) (λ (x : Record) k. new_plain sets x.values p k) rows q) (own_plain t.active own h))))

change_plain : (t : Transactions) (session table : ℕ) (only : List (List Atom)) (sets : Option (List (ℕ × Value))) (rows : ℕ → List Record)
    → ArePlainTransactions t.active → IfSome sets ArePlainSets → ((base : ℕ) → ArePlainRows (rows base)) → Comes NewChanges (transactions.changed t session table only sets rows)
change_plain t session table only sets rows h p q = then_comes Any NewChanges (transactions.writer t.active session) _ (writer_comes t.active session)
    (λ own r. change_rows_plain t session own table sets (transactions.met (transaction_at t.active own) table only rows) h p
    (all_filter IsPlainRow _ (transactions.seen (transaction_at t.active own) table rows)
    (applied_plain table (transaction_at t.active own).changes (rows (transaction_at t.active own).base) (own_plain t.active own h) (q (transaction_at t.active own).base))))

changed_plain : (s : State) (session table : ℕ) (sets : Option (List (ℕ × Value))) (only : List (List Atom)) → IsPlainState s → IfSome sets ArePlainSets
    → Comes IsPlainDone (changed s session table sets only)
changed_plain s session table sets only h p = then_comes NewChanges IsPlainDone
    (transactions.changed s.transactions session table only sets (λ base. rows_seen s (transaction_of s.transactions.active session) table)) _
    (change_plain s.transactions session table only sets (λ base. rows_seen s (transaction_of s.transactions.active session) table) h.active p
    (λ base. seen_plain s (transaction_of s.transactions.active session) table h))
    (λ b q. then_comes Any IsPlainDone (rows_alone s session table sets only) _ (rivals_come s session table (changes_met s table sets only) (transaction_of s.transactions.active session))
    (λ u r. (tt, record { tables = h.tables; indexes = h.indexes; rows = h.rows; active = q; bases = h.bases; cursors = h.cursors })))

-- ---- COMMIT and ROLLBACK

tables_changed_plain : (changes : List Change) (rows : List (List Record)) → ArePlainChanges changes → AllByRecursion ArePlainRows rows
    → AllByRecursion ArePlainRows (tables_changed changes rows)
tables_changed_plain changes rows p h = all_map_any ArePlainRows (λ table. rows_with_changes table changes (rows_at rows table))
    (λ table. applied_plain table changes (rows_at rows table) p (rows_at_plain rows table h)) (range_with_len 0 (length rows))

-- the transaction in a place and the cursors of its session are gone
ended_plain : (s : State) (own session : ℕ) (left : Transactions) (rows : List (List Record)) (last : ℕ) → IsPlainState s
    → left.active ≡ remove s.transactions.active own → AllByRecursion ArePlainRows rows
    → IsPlainState (record (ended s own session left) { rows = rows; last = last })
ended_plain s own session left rows last h e q = record {
  tables = h.tables;
  indexes = h.indexes;
  rows = q;
  active = subst ArePlainTransactions (sym e) (all_remove IsPlainTransaction s.transactions.active own h.active);
  bases = all_remove (AllByRecursion ArePlainRows) s.bases own h.bases;
  cursors = all_filter IsPlainCursor _ s.cursors h.cursors;
}

committed_with_plain : (changes : List Change) (s : State) (session own : ℕ) → IsPlainState s → ArePlainChanges changes → IsPlainDone (committed_with changes s session own)
committed_with_plain [] s session own h p = (tt, ended_plain s own session (transactions.done s.transactions own (transaction_at s.transactions.active own).base) s.rows s.last h refl h.rows)
committed_with_plain (c ∷ cs) s session own h p = (
  tt,
  ended_plain s own session (transactions.done s.transactions own (s.last + 1)) (tables_changed (c ∷ cs) s.rows) (s.last + 1) h refl
      (tables_changed_plain (c ∷ cs) s.rows p h.rows),
)

committed_plain : (s : State) (session : ℕ) → IsPlainState s → Comes IsPlainDone (committed s session)
committed_plain s session h = then_comes Any IsPlainDone (ok_or (transaction_of s.transactions.active session) refusals.NoTransaction) _
    (ok_or_comes Any (transaction_of s.transactions.active session) refusals.NoTransaction (some_any (transaction_of s.transactions.active session)) tt)
    (λ own q. committed_with_plain (transaction_at s.transactions.active own).changes s session own h (own_plain s.transactions.active own h.active))

rolled_plain : (s : State) (session : ℕ) → IsPlainState s → Comes IsPlainDone (rolled_back s session)
rolled_plain s session h = then_comes Any IsPlainDone (ok_or (transaction_of s.transactions.active session) refusals.NoTransaction) _
    (ok_or_comes Any (transaction_of s.transactions.active session) refusals.NoTransaction (some_any (transaction_of s.transactions.active session)) tt)
    (λ own q. (tt, ended_plain s own session (transactions.without s.transactions own) s.rows s.last h refl h.rows))

-- ---- cursors

abbrev IsPlainChoice : List (List Value) → Type 0
IsPlainChoice = AllByRecursion ArePlainValues

choices_plain : (rows : ℕ → List Record) → ((t : ℕ) → ArePlainRows (rows t)) → (tables : List ℕ) (chosen : List (List Value)) → IsPlainChoice chosen
    → AllByRecursion IsPlainChoice (choices rows tables chosen)
choices_plain rows h [] chosen p = (p, tt)
choices_plain rows h (t ∷ ts) chosen p = all_flat IsPlainRow IsPlainChoice (λ (r : Record). choices rows ts (chosen ++ r.values ∷ []))
    (λ (r : Record) q. choices_plain rows h ts (chosen ++ r.values ∷ []) (all_append ArePlainValues chosen (r.values ∷ []) p (q, tt))) (rows t) (h t)

picked_plain : (columns : List ColRef) (rows : List (List Value)) → IsPlainChoice rows → ArePlainValues (picked_over columns rows)
picked_plain columns rows h = all_map_any IsPlainValue (λ (c : ColRef). slice_index_or (slice_index_or rows c.place []) c.column Null)
    (λ (c : ColRef). all_or IsPlainValue (slice_index_or rows c.place []) c.column Null (all_or ArePlainValues rows c.place [] h tt) tt) columns

offers_plain : (q : Select) (rows : ℕ → List Record) → ((t : ℕ) → ArePlainRows (rows t)) → AllByRecursion IsPlainOffer (offers_over q rows)
offers_plain q rows h = all_map IsPlainChoice IsPlainOffer (offer_over q.order q.returns) (λ c p. picked_plain q.returns c p)
    (filter (is_kept q.only) (choices rows q.tables [])) (all_filter IsPlainChoice (is_kept q.only) (choices rows q.tables []) (choices_plain rows h q.tables [] tt))

sorted_one : (b : Bool) (x o : Offer) (xs ys : List Offer) → IsPlainOffer x → IsPlainOffer o → AllByRecursion IsPlainOffer xs → AllByRecursion IsPlainOffer ys
    → AllByRecursion IsPlainOffer (if b then x ∷ ys else o ∷ x ∷ xs)
sorted_one true x o xs ys p q h k = (p, k)
sorted_one false x o xs ys p q h k = (q, (p, h))

sorted_in_plain : (o : Offer) (xs : List Offer) → IsPlainOffer o → AllByRecursion IsPlainOffer xs → AllByRecursion IsPlainOffer (with_offer o xs)
sorted_in_plain o [] p h = (p, tt)
sorted_in_plain o (x ∷ xs) p h = sorted_one (is_lt (offer_cmp x o)) x o xs (with_offer o xs) h.0 p h.1 (sorted_in_plain o xs p h.1)

sorted_plain : (xs : List Offer) → AllByRecursion IsPlainOffer xs → AllByRecursion IsPlainOffer (offers_in_order xs)
sorted_plain [] h = tt
sorted_plain (x ∷ xs) h = sorted_in_plain x (offers_in_order xs) h.0 (sorted_plain xs h.1)

opening_plain : (active : List Transaction) (cursors : List Cursor) (session : ℕ) (name : List ℕ)
    → IsPlainName name → Comes Any (opening active cursors session name)
opening_plain active cursors session name p = then_comes Any Any (ok_or (transaction_of active session) refusals.NoTransaction) _
    (ok_or_comes Any (transaction_of active session) refusals.NoTransaction (some_any (transaction_of active session)) tt)
    (λ own q. then_comes Any Any (refuse_if (is_some (cursor_named cursors session name)) (refusals.CursorOpen name)) _
    (refuse_comes (is_some (cursor_named cursors session name)) (refusals.CursorOpen name) p)
    (λ u r. then_comes Any Any (refuse_if (nat_lt 15 (length (own_cursors cursors session))) (refusals.Limit which.Cursors 16)) _
    (refuse_comes (nat_lt 15 (length (own_cursors cursors session))) (refusals.Limit which.Cursors 16) tt) (λ z o. tt)))

opened_plain : (s : State) (session : ℕ) (cursor : List ℕ) (q : Select) → IsPlainState s → IsPlainName cursor → Comes IsPlainDone (opened s session cursor q)
opened_plain s session cursor q h p = then_comes Any IsPlainDone (opening s.transactions.active s.cursors session cursor) _
    (opening_plain s.transactions.active s.cursors session cursor p)
    (λ own w. (
      tt,
      record {
        tables = h.tables;
        indexes = h.indexes;
        rows = h.rows;
        active = h.active;
        bases = h.bases;
        cursors = all_append IsPlainCursor s.cursors _ h.cursors (sorted_plain (offers_over q (view_rows s own)) (offers_plain q (view_rows s own) (λ t. view_plain s own t h)), tt);
      },
    ))

closed_plain : (s : State) (session : ℕ) (cursor : List ℕ) → IsPlainState s → IsPlainName cursor → Comes IsPlainDone (closed s session cursor)
closed_plain s session cursor h p = then_comes Any IsPlainDone (ok_or (cursor_named s.cursors session cursor) (refusals.NoCursor cursor)) _
    (ok_or_comes Any (cursor_named s.cursors session cursor) (refusals.NoCursor cursor) (some_any (cursor_named s.cursors session cursor)) p)
    (λ place q. (
      tt,
      record {
        tables = h.tables;
        indexes = h.indexes;
        rows = h.rows;
        active = h.active;
        bases = h.bases;
        cursors = all_remove IsPlainCursor s.cursors place h.cursors;
      },
    ))

-- ---- FETCH

given_plain : (offers : List Offer) (values : List Value) → AllByRecursion IsPlainOffer offers → IsSome (place_of offers values) → ArePlainValues values
given_plain [] values h e = absurd (cc e)
given_plain (first ∷ others) values h e = passing IsPlainOffer (λ (o : Offer). same_values o.order first.order && same_values o.returned values)
    (first ∷ others) h e (λ o p q. subst ArePlainValues (equal_values o.returned values (second_so (same_values o.order first.order) (same_values o.returned values) q)) p)

offered_plain : (offers : List Offer) (reply : Reply) → AllByRecursion IsPlainOffer offers → Offers offers reply → IsPlainReply reply
offered_plain offers (replies.Row values) h p = given_plain offers values h p
offered_plain offers replies.End h p = tt
offered_plain offers replies.Created h p = absurd p
offered_plain offers (replies.Began n) h p = absurd p
offered_plain offers (replies.Inserted row) h p = absurd p
offered_plain offers (replies.Touched n) h p = absurd p
offered_plain offers (replies.Committed n) h p = absurd p
offered_plain offers replies.RolledBack h p = absurd p
offered_plain offers replies.Opened h p = absurd p
offered_plain offers replies.Closed h p = absurd p
offered_plain offers (replies.Stepped n) h p = absurd p
offered_plain offers (replies.Trace shown) h p = absurd p
offered_plain offers (replies.Refused refusal) h p = absurd p

without_plain : (o : Option ℕ) (offers : List Offer) → AllByRecursion IsPlainOffer offers → AllByRecursion IsPlainOffer (without o offers)
without_plain None offers h = h
without_plain (Some place) offers h = all_remove IsPlainOffer offers place h

after_plain : (offers : List Offer) (reply : Reply) → AllByRecursion IsPlainOffer offers → AllByRecursion IsPlainOffer (offers_after offers reply)
after_plain offers (replies.Row values) h = without_plain (place_of offers values) offers h
after_plain offers replies.End h = h
after_plain offers replies.Created h = h
after_plain offers (replies.Began n) h = h
after_plain offers (replies.Inserted row) h = h
after_plain offers (replies.Touched n) h = h
after_plain offers (replies.Committed n) h = h
after_plain offers replies.RolledBack h = h
after_plain offers replies.Opened h = h
after_plain offers replies.Closed h = h
after_plain offers (replies.Stepped n) h = h
after_plain offers (replies.Trace shown) h = h
after_plain offers (replies.Refused refusal) h = h

cursor_plain : (s : State) (place : ℕ) → IsPlainState s → IsPlainCursor (cursor_at s.cursors place)
cursor_plain s place h = all_or IsPlainCursor s.cursors place no_cursor h.cursors tt

fetch_plain : (o : Option ℕ) (s : State) (name : List ℕ) (reply : Reply) → IsPlainState s → IsPlainName name → AllowsFetch o s name reply
    → IsPlainReply reply × IsPlainState (fetched o s reply)
fetch_plain None s name reply h p allowed = (subst IsPlainReply (sym allowed) p, h)
fetch_plain (Some place) s name reply h p allowed =
    let cursor : Cursor = cursor_at s.cursors place in (
      offered_plain cursor.offers reply (cursor_plain s place h) allowed,
      record {
        tables = h.tables;
        indexes = h.indexes;
        rows = h.rows;
        active = h.active;
        bases = h.bases;
        cursors = all_set IsPlainCursor s.cursors place (record cursor { offers = offers_after cursor.offers reply }) h.cursors
            (after_plain cursor.offers reply (cursor_plain s place h));
      },
    )

step_plain : (o : Option ℕ) (name : List ℕ) (n : ℕ) (reply : Reply) → IsPlainName name → AllowsStep o name n reply → IsPlainReply reply
step_plain None name n reply p allowed = subst IsPlainReply (sym allowed) p
step_plain (Some place) name n (replies.Stepped m) p allowed = tt
step_plain (Some place) name n (replies.Row values) p allowed = absurd allowed
step_plain (Some place) name n replies.End p allowed = absurd allowed
step_plain (Some place) name n replies.Created p allowed = absurd allowed
step_plain (Some place) name n (replies.Began m) p allowed = absurd allowed
step_plain (Some place) name n (replies.Inserted row) p allowed = absurd allowed
step_plain (Some place) name n (replies.Touched m) p allowed = absurd allowed
step_plain (Some place) name n (replies.Committed m) p allowed = absurd allowed
step_plain (Some place) name n replies.RolledBack p allowed = absurd allowed
step_plain (Some place) name n replies.Opened p allowed = absurd allowed
step_plain (Some place) name n replies.Closed p allowed = absurd allowed
step_plain (Some place) name n (replies.Trace shown) p allowed = absurd allowed
step_plain (Some place) name n (replies.Refused refusal) p allowed = absurd allowed

show_plain : (o : Option ℕ) (s : State) (name : List ℕ) (reply : Reply) → IsPlainState s → IsPlainName name → AllowsShow o s name reply → IsPlainReply reply
show_plain None s name reply h p allowed = subst IsPlainReply (sym allowed) p
show_plain (Some place) s name (replies.Trace shown) h p allowed = shown_plain s.schema.indexes (cursor_at s.cursors place).table shown h.indexes allowed
show_plain (Some place) s name (replies.Row values) h p allowed = absurd allowed
show_plain (Some place) s name replies.End h p allowed = absurd allowed
show_plain (Some place) s name replies.Created h p allowed = absurd allowed
show_plain (Some place) s name (replies.Began m) h p allowed = absurd allowed
show_plain (Some place) s name (replies.Inserted row) h p allowed = absurd allowed
show_plain (Some place) s name (replies.Touched m) h p allowed = absurd allowed
show_plain (Some place) s name (replies.Committed m) h p allowed = absurd allowed
show_plain (Some place) s name replies.RolledBack h p allowed = absurd allowed
show_plain (Some place) s name replies.Opened h p allowed = absurd allowed
show_plain (Some place) s name replies.Closed h p allowed = absurd allowed
show_plain (Some place) s name (replies.Stepped m) h p allowed = absurd allowed
show_plain (Some place) s name (replies.Refused refusal) h p allowed = absurd allowed

-- ---- all statements

-- a determined statement
done_plain : (o : Outcome) (s : State) (reply : Reply) → IsPlainState s → Comes IsPlainDone o → reply ≡ reply_of o → IsPlainReply reply × IsPlainState (state_of o s)
done_plain (Ok done) s reply h p e = (subst IsPlainReply (sym e) p.0, p.1)
done_plain (Err refusal) s reply h p e = (subst IsPlainReply (sym e) p, h)

pub step_keeps : (r : Result Resolved Refusal) (s : State) (session : ℕ) (reply : Reply) → IsPlainState s → Comes (IsPlainAsked s.schema.tables) r
    → AllowsAsked r s session reply → IsPlainReply reply × IsPlainState (next_asked r s session reply)
step_keeps (Err refusal) s session reply h p allowed = (subst IsPlainReply (sym allowed) p, h)
step_keeps (Ok (asked.Fetch name)) s session reply h p allowed = fetch_plain (cursor_named s.cursors session name) s name reply h p allowed
step_keeps (Ok (asked.Step name n)) s session reply h p allowed = (step_plain (cursor_named s.cursors session name) name n reply p allowed, h)
step_keeps (Ok (asked.Show name)) s session reply h p allowed = (show_plain (cursor_named s.cursors session name) s name reply h p allowed, h)
step_keeps (Ok (asked.CreateTable def)) s session reply h p allowed = done_plain (created s def) s reply h (created_plain s def h p) allowed
step_keeps (Ok (asked.CreateIndex def)) s session reply h p allowed = done_plain (indexed s def) s reply h (indexed_plain s def h p) allowed
step_keeps (Ok (asked.Begin read_only)) s session reply h p allowed = done_plain (began s session read_only) s reply h (began_plain s session read_only h) allowed
step_keeps (Ok (asked.Insert table vs)) s session reply h p allowed = done_plain (inserted s session table vs) s reply h (inserted_plain s session table vs h p) allowed
step_keeps (Ok (asked.Update table sets only)) s session reply h p allowed = done_plain (changed s session table (Some sets) only) s reply h (changed_plain s session table (Some sets) only h p) allowed
step_keeps (Ok (asked.Delete table only)) s session reply h p allowed = done_plain (changed s session table None only) s reply h (changed_plain s session table None only h tt) allowed
step_keeps (Ok asked.Commit) s session reply h p allowed = done_plain (committed s session) s reply h (committed_plain s session h) allowed
step_keeps (Ok asked.Rollback) s session reply h p allowed = done_plain (rolled_back s session) s reply h (rolled_plain s session h) allowed
step_keeps (Ok (asked.Open cursor q)) s session reply h p allowed = done_plain (opened s session cursor q) s reply h (opened_plain s session cursor q h p) allowed
step_keeps (Ok (asked.Close cursor)) s session reply h p allowed = done_plain (closed s session cursor) s reply h (closed_plain s session cursor h p) allowed
