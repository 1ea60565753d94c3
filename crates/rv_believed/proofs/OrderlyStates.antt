-- After every legal history the database is orderly.
use Rattle.std.proofs.Common.{◌≡◌, ℕ, ◌+◌, ◌<◌, List, [], ◌∷◌, ◌++◌, Option, Some, None, Result, Ok, Err, Bool, true, false, ◌&&◌, refl, sym, ap, ◌∙◌, subst, is_some, length, nat_lt, nat_eq, arith, bytes_eq, length-set}
use Rattle.std.specs.Prelude.{remove}
use Rattle.std.specs.List.{AllByRecursion}
use Rattle.std.proofs.lemmas.Slice.Eq.{bytes_eq-Decides}
use Rattle.rv_value.proofs.Tests.{no_other, same_number}
use Rattle.rv_value.specs.declared.value.Value.{Value}
use Rattle.rv_value.specs.declared.record.Record.{Record}
use Rattle.rv_value.specs.declared.record.RowNo.{RowNo}
use Rattle.rv_value.proofs.Lists.{all_last, all_remove}
use Rattle.rv_restrict.specs.declared.atom.Atom.{Atom}
use Rattle.rv_rows.specs.declared.changes.Change.{Change}
use Rattle.rv_lang.specs.declared.reply.Refusal.{Refusal}
use Rattle.rv_lang.specs.declared.reply.Refusal.TheVariants as refusals
use Rattle.rv_lang.specs.declared.reply.Reply.{Reply}
use Rattle.rv_lang.specs.declared.reply.Which.TheVariants as which
use Rattle.rv_parse.specs.Reading.{statement_of}
use Rattle.rv_catalog.specs.declared.def.IndexDef.{IndexDef}
use Rattle.rv_catalog.specs.declared.def.Resolved.{Resolved}
use Rattle.rv_catalog.specs.declared.def.Resolved.TheVariants as asked
use Rattle.rv_catalog.specs.declared.def.Select.{Select}
use Rattle.rv_catalog.specs.declared.def.TableDef.{TableDef}
use Rattle.rv_catalog.specs.Answers.{◌>>=◌, ok_or, refuse_if}
use Rattle.rv_catalog.specs.Kept.{indexes_over}
use Rattle.rv_model.specs.declared.entry.Entry.{Entry}
use Rattle.rv_model.specs.declared.state.State.{State}
use Rattle.rv_model.specs.declared.state.Cursor.{Cursor}
use Rattle.rv_model.specs.declared.transactions.Transaction.{Transaction}
use Rattle.rv_model.specs.declared.transactions.Transactions.{Transactions}
use Rattle.rv_model.specs.Database.{cursor_at, cursor_named, empty, no_cursor}
use Rattle.rv_model.specs.History.{after_from, stepped}
use Rattle.rv_model.specs.Offering.{offers_over}
use Rattle.rv_model.specs.Offers.{offers_in_order}
use Rattle.rv_model.specs.Step.{Outcome, began, changed, closed, committed, committed_with, created, ended, fetched, indexed, inserted, next_asked, offers_after, opened, opening, own_cursors, rolled_back, row_alone, rows_alone, rows_differ, rows_seen, state_of, table_of, understood, view_rows}
use Rattle.rv_model.specs.Transactions as transactions
use Rattle.rv_model.specs.Transactions.{no_transaction, refuse_at, transaction_at, transaction_of}
use Rattle.rv_believed.specs.Orderly.{BeginsBefore, EachTwo, IsOrderly, IsOther, StaysOrderly}
use Rattle.rv_believed.proofs.Pairs.{all_put, last_same, none_passes, two_filter, two_last, two_put, two_without, without_same}

-- ---- what an answer has, where there is one

abbrev pub Gives : {A : Type 0} → (A → Type 0) → Result A Refusal → Type 0
Gives P (Ok a) = P a
Gives P (Err r) = Unit {0}

abbrev pub Any : {A : Type 0} → A → Type 0
Any a = Unit {0}

pub then_gives : {A B : Type 0} (P : A → Type 0) (Q : B → Type 0) (r : Result A Refusal) (f : A → Result B Refusal)
    → Gives P r → ((a : A) → P a → Gives Q (f a)) → Gives Q (r >>= f)
then_gives P Q (Ok a) f p next = next a p
then_gives P Q (Err e) f p next = tt

pub then_any : {A B : Type 0} (Q : B → Type 0) (r : Result A Refusal) (f : A → Result B Refusal) → ((a : A) → Gives Q (f a)) → Gives Q (r >>= f)
then_any Q (Ok a) f next = next a
then_any Q (Err e) f next = tt

pub any_gives : {A : Type 0} (r : Result A Refusal) → Gives Any r
any_gives (Ok a) = tt
any_gives (Err e) = tt

free_gives : {A : Type 0} (o : Option A) (f : A → Refusal) → Gives (λ u. is_some o ≡ false) (refuse_at o f)
free_gives None f = refl
free_gives (Some a) f = tt

test_gives : (b : Bool) (r : Refusal) → Gives (λ u. b ≡ false) (refuse_if b r)
test_gives true r = tt
test_gives false r = refl

-- ---- transactions

abbrev AreBelow : ℕ → List Transaction → Type 0
AreBelow n = AllByRecursion (λ (t : Transaction). t.number < n)

-- as many, and orderly
record Keeps (t new : Transactions) : Type 0 where
  active : EachTwo BeginsBefore new.active
  below : AreBelow new.next new.active
  count : length new.active ≡ length t.active

own_keeps : (t : Transactions) (own : ℕ) (changes : List Change) (touched : List (List ℕ)) → EachTwo BeginsBefore t.active → AreBelow t.next t.active
    → Keeps t (record t { active = transactions.with_own t.active own changes; touched = touched })
own_keeps t own changes touched h b =
    let new : Transaction = record (transaction_at t.active own) { changes = changes } in
    record {
      active = two_put BeginsBefore t.active own new no_transaction h
          (λ y r. record { session = r.session; number = r.number }) (λ y r. record { session = r.session; number = r.number });
      below = all_put (λ (u : Transaction). u.number < t.next) t.active own new no_transaction b (λ p. p);
      count = length-set t.active own new;
    }

insert_keeps : (t : Transactions) (session table : ℕ) (vs : List Value) → EachTwo BeginsBefore t.active → AreBelow t.next t.active
    → Gives (λ (b : RowNo × Transactions). Keeps t b.1) (transactions.inserted t session table vs)
insert_keeps t session table vs h b = then_gives Any (λ (b : RowNo × Transactions). Keeps t b.1) (transactions.writer t.active session) _ (any_gives (transactions.writer t.active session))
    (λ own p. then_gives Any (λ (b : RowNo × Transactions). Keeps t b.1) (refuse_if (nat_lt 999999 (transactions.next_row t.touched table)) (refusals.Limit which.Rows 1000000)) _
    (any_gives (refuse_if (nat_lt 999999 (transactions.next_row t.touched table)) (refusals.Limit which.Rows 1000000)))
    (λ u q. then_gives Any (λ (b : RowNo × Transactions). Keeps t b.1) (refuse_if (nat_lt 99999 (length (transaction_at t.active own).changes)) (refusals.Limit which.Pending 100000)) _
    (any_gives (refuse_if (nat_lt 99999 (length (transaction_at t.active own).changes)) (refusals.Limit which.Pending 100000)))
    (λ v r. own_keeps t own _ (transactions.with_number t.touched table) h b)))

rows_keep : (t : Transactions) (session own table : ℕ) (sets : Option (List (ℕ × Value))) (rows : List Record) → EachTwo BeginsBefore t.active → AreBelow t.next t.active
    → Gives (λ (b : ℕ × Transactions). Keeps t b.1) (transactions.changed_rows t session own table sets rows)
rows_keep t session own table sets rows h b = then_gives Any (λ (b : ℕ × Transactions). Keeps t b.1)
    (refuse_if (nat_lt 100000 (transactions.changed_with (transaction_at t.active own).changes table rows)) (refusals.Limit which.Pending 100000)) _
    (any_gives (refuse_if (nat_lt 100000 (transactions.changed_with (transaction_at t.active own).changes table rows)) (refusals.Limit which.Pending 100000)))
    (λ u p. then_gives Any (λ (b : ℕ × Transactions). Keeps t b.1) (transactions.unharmed t session (transaction_at t.active own).base table rows) _
    (any_gives (transactions.unharmed t session (transaction_at t.active own).base table rows))
    (λ v q. own_keeps t own _ t.touched h b))

change_keeps : (t : Transactions) (session table : ℕ) (only : List (List Atom)) (sets : Option (List (ℕ × Value))) (rows : ℕ → List Record)
    → EachTwo BeginsBefore t.active → AreBelow t.next t.active → Gives (λ (b : ℕ × Transactions). Keeps t b.1) (transactions.changed t session table only sets rows)
change_keeps t session table only sets rows h b = then_gives Any (λ (b : ℕ × Transactions). Keeps t b.1) (transactions.writer t.active session) _ (any_gives (transactions.writer t.active session))
    (λ own p. rows_keep t session own table sets (transactions.met (transaction_at t.active own) table only rows) h b)

-- ---- statements

abbrev Done : Reply × State → Type 0
Done d = IsOrderly d.1

created_orderly : (s : State) (def : TableDef) → IsOrderly s → Gives Done (created s def)
created_orderly s def h = then_gives Any Done (refuse_at (transactions.lowest s.transactions.active) refusals.Busy) _
    (any_gives (refuse_at (transactions.lowest s.transactions.active) refusals.Busy))
    (λ u p. then_gives Any Done (refuse_if (nat_lt 63 (length s.schema.tables)) (refusals.Limit which.Tables 64)) _
    (any_gives (refuse_if (nat_lt 63 (length s.schema.tables)) (refusals.Limit which.Tables 64)))
    (λ v q. record { active = h.active; below = h.below; bases = h.bases; cursors = h.cursors }))

indexed_orderly : (s : State) (def : IndexDef) → IsOrderly s → Gives Done (indexed s def)
indexed_orderly s def h = then_gives Any Done (refuse_at (transactions.lowest s.transactions.active) refusals.Busy) _
    (any_gives (refuse_at (transactions.lowest s.transactions.active) refusals.Busy))
    (λ u p. then_gives Any Done (refuse_if (nat_lt 7 (indexes_over def.table s.schema.indexes)) (refusals.Limit which.Indexes 8)) _
    (any_gives (refuse_if (nat_lt 7 (indexes_over def.table s.schema.indexes)) (refusals.Limit which.Indexes 8)))
    (λ v q. then_gives Any Done (rows_differ s def) _ (any_gives (rows_differ s def))
    (λ w r. record { active = h.active; below = h.below; bases = h.bases; cursors = h.cursors })))

abbrev IsTrueOne : Bool → Type 0
IsTrueOne true = Unit {0}
IsTrueOne false = ⊥

-- the transactions before a new one
befores : (ts : List Transaction) (new : Transaction) → AllByRecursion (λ (t : Transaction). nat_eq t.session new.session ≡ false) ts → AreBelow new.number ts
    → AllByRecursion (λ t. BeginsBefore t new) ts
befores [] new e b = tt
befores (t ∷ ts) new e b =
    (record { session = λ p. no_other (sym e.0 ∙ ap (λ n. nat_eq n new.session) p ∙ same_number new.session); number = b.0 }, befores ts new e.1 b.1)

one_more_below : (n : ℕ) (ts : List Transaction) → AreBelow n ts → AreBelow (n + 1) ts
one_more_below n [] b = tt
one_more_below n (t ∷ ts) b = ((let lt = b.0 in omega (arith, lt)), one_more_below n ts b.1)

-- with one more
record Gains (t : Transactions) (base : List (List Record)) (bases : List (List (List Record))) (new : Transactions) : Type 0 where
  active : EachTwo BeginsBefore new.active
  below : AreBelow new.next new.active
  beside : length (bases ++ base ∷ []) ≡ length new.active

begin_gains : (t : Transactions) (base : List (List Record)) (bases : List (List (List Record))) (session : ℕ) (read_only : Bool) (last : ℕ)
    → EachTwo BeginsBefore t.active → AreBelow t.next t.active → length bases ≡ length t.active
    → Gives (λ (b : ℕ × Transactions). Gains t base bases b.1) (transactions.began t session read_only last)
begin_gains t base bases session read_only last h b e =
    let new : Transaction = record { number = t.next; session = session; read_only = read_only; base = last; changes = [] } in
    then_gives (λ u. is_some (transaction_of t.active session) ≡ false) (λ (b : ℕ × Transactions). Gains t base bases b.1)
    (refuse_at (transaction_of t.active session) (λ own. refusals.Active (transaction_at t.active own).number)) _
    (free_gives (transaction_of t.active session) (λ own. refusals.Active (transaction_at t.active own).number))
    (λ u free. record {
      active = two_last BeginsBefore t.active new h (befores t.active new (none_passes (λ (u : Transaction). nat_eq u.session session) t.active free) b);
      below = all_last (λ (u : Transaction). u.number < t.next + 1) t.active new (one_more_below t.next t.active b) (omega arith);
      beside = last_same bases t.active base new e;
    })

began_orderly : (s : State) (session : ℕ) (read_only : Bool) → IsOrderly s → Gives Done (began s session read_only)
began_orderly s session read_only h = then_gives (λ (b : ℕ × Transactions). Gains s.transactions s.rows s.bases b.1) Done
    (transactions.began s.transactions session read_only s.last) _
    (begin_gains s.transactions s.rows s.bases session read_only s.last h.active h.below h.bases)
    (λ b p. record { active = p.active; below = p.below; bases = p.beside; cursors = h.cursors })

inserted_orderly : (s : State) (session table : ℕ) (vs : List Value) → IsOrderly s → Gives Done (inserted s session table vs)
inserted_orderly s session table vs h = then_gives (λ (b : RowNo × Transactions). Keeps s.transactions b.1) Done
    (transactions.inserted s.transactions session table vs) _ (insert_keeps s.transactions session table vs h.active h.below)
    (λ b p. then_gives Any Done (row_alone s session table vs b.0) _ (any_gives (row_alone s session table vs b.0))
    (λ u q. record { active = p.active; below = p.below; bases = h.bases ∙ sym p.count; cursors = h.cursors }))

changed_orderly : (s : State) (session table : ℕ) (sets : Option (List (ℕ × Value))) (only : List (List Atom)) → IsOrderly s → Gives Done (changed s session table sets only)
changed_orderly s session table sets only h = then_gives (λ (b : ℕ × Transactions). Keeps s.transactions b.1) Done
    (transactions.changed s.transactions session table only sets (λ base. rows_seen s (transaction_of s.transactions.active session) table)) _
    (change_keeps s.transactions session table only sets (λ base. rows_seen s (transaction_of s.transactions.active session) table) h.active h.below)
    (λ b p. then_gives Any Done (rows_alone s session table sets only) _ (any_gives (rows_alone s session table sets only))
    (λ u q. record { active = p.active; below = p.below; bases = h.bases ∙ sym p.count; cursors = h.cursors }))

-- the transaction in a place and the cursors of its session are gone
ended_orderly : (s : State) (own session : ℕ) (left : Transactions) (rows : List (List Record)) (last : ℕ) → IsOrderly s
    → left.active ≡ remove s.transactions.active own → left.next ≡ s.transactions.next
    → IsOrderly (record (ended s own session left) { rows = rows; last = last })
ended_orderly s own session left rows last h e n = record {
  active = subst (EachTwo BeginsBefore) (sym e) (two_without BeginsBefore s.transactions.active own h.active);
  below = subst (λ ts. AreBelow left.next ts) (sym e) (subst (λ m. AreBelow m (remove s.transactions.active own)) (sym n)
      (all_remove (λ (t : Transaction). t.number < s.transactions.next) s.transactions.active own h.below));
  bases = without_same s.bases s.transactions.active own h.bases ∙ sym (ap (λ ts. length ts) e);
  cursors = two_filter IsOther _ s.cursors h.cursors;
}

committed_with_orderly : (changes : List Change) (s : State) (session own : ℕ) → IsOrderly s → Done (committed_with changes s session own)
committed_with_orderly [] s session own h = ended_orderly s own session (transactions.done s.transactions own (transaction_at s.transactions.active own).base) s.rows s.last h refl refl
committed_with_orderly (c ∷ cs) s session own h = ended_orderly s own session (transactions.done s.transactions own (s.last + 1)) _ (s.last + 1) h refl refl

committed_orderly : (s : State) (session : ℕ) → IsOrderly s → Gives Done (committed s session)
committed_orderly s session h = then_gives Any Done (ok_or (transaction_of s.transactions.active session) refusals.NoTransaction) _
    (any_gives (ok_or (transaction_of s.transactions.active session) refusals.NoTransaction))
    (λ own p. committed_with_orderly (transaction_at s.transactions.active own).changes s session own h)

rolled_orderly : (s : State) (session : ℕ) → IsOrderly s → Gives Done (rolled_back s session)
rolled_orderly s session h = then_gives Any Done (ok_or (transaction_of s.transactions.active session) refusals.NoTransaction) _
    (any_gives (ok_or (transaction_of s.transactions.active session) refusals.NoTransaction))
    (λ own p. ended_orderly s own session (transactions.without s.transactions own) s.rows s.last h refl refl)

-- ---- cursors

opening_free : (active : List Transaction) (cursors : List Cursor) (session : ℕ) (name : List ℕ)
    → Gives (λ own. is_some (cursor_named cursors session name) ≡ false) (opening active cursors session name)
opening_free active cursors session name =
    then_gives Any (λ own. is_some (cursor_named cursors session name) ≡ false) (ok_or (transaction_of active session) refusals.NoTransaction) _
    (any_gives (ok_or (transaction_of active session) refusals.NoTransaction))
    (λ own p. then_gives (λ u. is_some (cursor_named cursors session name) ≡ false) (λ own. is_some (cursor_named cursors session name) ≡ false)
    (refuse_if (is_some (cursor_named cursors session name)) (refusals.CursorOpen name)) _
    (test_gives (is_some (cursor_named cursors session name)) (refusals.CursorOpen name))
    (λ u free. then_gives Any (λ own. is_some (cursor_named cursors session name) ≡ false)
    (refuse_if (nat_lt 15 (length (own_cursors cursors session))) (refusals.Limit which.Cursors 16)) _
    (any_gives (refuse_if (nat_lt 15 (length (own_cursors cursors session))) (refusals.Limit which.Cursors 16)))
    (λ w r. free)))

others_of : (cursors : List Cursor) (new : Cursor) → AllByRecursion (λ (c : Cursor). (nat_eq c.session new.session && bytes_eq c.name new.name) ≡ false) cursors
    → AllByRecursion (λ c. IsOther c new) cursors
others_of [] new e = tt
others_of (c ∷ cs) new e = (
  (λ p q. no_other (sym e.0
      ∙ (λ k. nat_eq (p k) new.session && bytes_eq (q k) new.name) ∙ (λ k. same_number new.session k && (bytes_eq-Decides new.name new.name).1 refl k))),
  others_of cs new e.1,
)

opened_orderly : (s : State) (session : ℕ) (name : List ℕ) (q : Select) → IsOrderly s → Gives Done (opened s session name q)
opened_orderly s session name q h = then_gives (λ own. is_some (cursor_named s.cursors session name) ≡ false) Done
    (opening s.transactions.active s.cursors session name) _
    (opening_free s.transactions.active s.cursors session name)
    (λ own free. let new : Cursor = record { session = session; name = name; table = table_of q; offers = offers_in_order (offers_over q (view_rows s own)) } in
    record {
      active = h.active;
      below = h.below;
      bases = h.bases;
      cursors = two_last IsOther s.cursors new h.cursors
          (others_of s.cursors new (none_passes (λ (c : Cursor). nat_eq c.session session && bytes_eq c.name name) s.cursors free));
    })

closed_orderly : (s : State) (session : ℕ) (name : List ℕ) → IsOrderly s → Gives Done (closed s session name)
closed_orderly s session name h = then_gives Any Done (ok_or (cursor_named s.cursors session name) (refusals.NoCursor name)) _
    (any_gives (ok_or (cursor_named s.cursors session name) (refusals.NoCursor name)))
    (λ place p. record { active = h.active; below = h.below; bases = h.bases; cursors = two_without IsOther s.cursors place h.cursors })

fetched_orderly : (o : Option ℕ) (s : State) (reply : Reply) → IsOrderly s → IsOrderly (fetched o s reply)
fetched_orderly None s reply h = h
fetched_orderly (Some place) s reply h =
    let cursor : Cursor = cursor_at s.cursors place in
    record {
      active = h.active;
      below = h.below;
      bases = h.bases;
      cursors = two_put IsOther s.cursors place (record cursor { offers = offers_after cursor.offers reply }) no_cursor h.cursors (λ y r. r) (λ y r. r);
    }

-- ---- the whole

state_orderly : (o : Outcome) (s : State) → IsOrderly s → Gives Done o → IsOrderly (state_of o s)
state_orderly (Ok done) s h p = p
state_orderly (Err refusal) s h p = h

pub next_orderly : (r : Result Resolved Refusal) (s : State) (session : ℕ) (reply : Reply) → IsOrderly s → IsOrderly (next_asked r s session reply)
next_orderly (Err refusal) s session reply h = h
next_orderly (Ok (asked.Fetch name)) s session reply h = fetched_orderly (cursor_named s.cursors session name) s reply h
next_orderly (Ok (asked.Step name n)) s session reply h = h
next_orderly (Ok (asked.Show name)) s session reply h = h
next_orderly (Ok (asked.CreateTable def)) s session reply h = state_orderly (created s def) s h (created_orderly s def h)
next_orderly (Ok (asked.CreateIndex def)) s session reply h = state_orderly (indexed s def) s h (indexed_orderly s def h)
next_orderly (Ok (asked.Begin read_only)) s session reply h = state_orderly (began s session read_only) s h (began_orderly s session read_only h)
next_orderly (Ok (asked.Insert table vs)) s session reply h = state_orderly (inserted s session table vs) s h (inserted_orderly s session table vs h)
next_orderly (Ok (asked.Update table sets only)) s session reply h = state_orderly (changed s session table (Some sets) only) s h (changed_orderly s session table (Some sets) only h)
next_orderly (Ok (asked.Delete table only)) s session reply h = state_orderly (changed s session table None only) s h (changed_orderly s session table None only h)
next_orderly (Ok asked.Commit) s session reply h = state_orderly (committed s session) s h (committed_orderly s session h)
next_orderly (Ok asked.Rollback) s session reply h = state_orderly (rolled_back s session) s h (rolled_orderly s session h)
next_orderly (Ok (asked.Open cursor q)) s session reply h = state_orderly (opened s session cursor q) s h (opened_orderly s session cursor q h)
next_orderly (Ok (asked.Close cursor)) s session reply h = state_orderly (closed s session cursor) s h (closed_orderly s session cursor h)

pub stepped_orderly : (s : State) (e : Entry) → IsOrderly s → IsOrderly (stepped s e)
stepped_orderly s e h = next_orderly (understood s.schema (statement_of e.text)) s e.session e.reply h

after_orderly : (s : State) (es : List Entry) → IsOrderly s → IsOrderly (after_from s es)
after_orderly s [] h = h
after_orderly s (e ∷ es) h = after_orderly (stepped s e) es (stepped_orderly s e h)

pub empty_orderly : IsOrderly empty
empty_orderly = record { active = tt; below = tt; bases = refl; cursors = tt }

pub stays_orderly : StaysOrderly
stays_orderly history = after_orderly empty history empty_orderly
