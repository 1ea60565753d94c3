-- Commits and transactions are at most as many as entries.
use Rattle.std.proofs.Common.{◌≡◌, ℕ, ◌+◌, ◌-◌, ◌^◌, ◌<◌, ◌≤◌, List, [], ◌∷◌, refl, arith, add-zero, suc, length, Option, Some, None, Result, Ok, Err, Bool, true, false, nat_lt, inl, inr, is_some}
use Rattle.std.proofs.lemmas.Bool.{cases_Bool}
use Rattle.rv_lang.specs.declared.reply.Reply.{Reply}
use Rattle.rv_lang.specs.declared.reply.Refusal.{Refusal}
use Rattle.rv_lang.specs.declared.statement.Statement.{Statement}
use Rattle.rv_value.specs.declared.value.Value.{Value}
use Rattle.rv_value.specs.declared.record.Record.{Record}
use Rattle.rv_restrict.specs.declared.atom.Atom.{Atom}
use Rattle.rv_rows.specs.declared.changes.Change.{Change}
use Rattle.rv_catalog.specs.declared.def.TableDef.{TableDef}
use Rattle.rv_catalog.specs.declared.def.IndexDef.{IndexDef}
use Rattle.rv_catalog.specs.declared.def.Select.{Select}
use Rattle.rv_catalog.specs.declared.def.Resolved.{Resolved}
use Rattle.rv_catalog.specs.declared.def.Resolved.TheVariants as asks
use Rattle.rv_parse.specs.Reading.{statement_of}
use Rattle.rv_model.specs.declared.state.State.{State}
use Rattle.rv_model.specs.declared.transactions.Transactions.{Transactions}
use Rattle.rv_model.specs.declared.entry.Entry.{Entry}
use Rattle.rv_model.specs.Database.{empty, cursor_named}
use Rattle.rv_model.specs.Transactions as transactions
use Rattle.rv_model.specs.Transactions.{transaction_of, transaction_at}
use Rattle.rv_model.specs.Step.{Outcome, state_of, created, indexed, began, inserted, changed, committed, committed_with, rolled_back, opened, closed, performed, fetched, next_asked, understood, next}
use Rattle.rv_model.specs.History.{stepped, after_from, after}
use Rattle.rv_model.specs.Standing.{HasRoom}

pub record IsBounded (n : ℕ) (s : State) : Type 0 where
  pub last : s.last ≤ n
  pub next : s.transactions.next ≤ n + 1

IsBounded-more : (n : ℕ) (s : State) → IsBounded n s → IsBounded (n + 1) s
IsBounded-more n s b = record { last = omega (arith, b.last); next = omega (arith, b.next) }

created_bounded : (n : ℕ) (s : State) (def : TableDef) → IsBounded n s → IsBounded (n + 1) (state_of (created s def) s)
created_bounded n s def b = record { last = grind (arith, b.last); next = grind (arith, b.next) }

indexed_bounded : (n : ℕ) (s : State) (def : IndexDef) → IsBounded n s → IsBounded (n + 1) (state_of (indexed s def) s)
indexed_bounded n s def b = record { last = grind (arith, b.last); next = grind (arith, b.next) }

began_bounded : (n : ℕ) (s : State) (session : ℕ) (read_only : Bool) → IsBounded n s → IsBounded (n + 1) (state_of (began s session read_only) s)
began_bounded n s session read_only b = record { last = grind (arith, b.last); next = grind (arith, b.next) }

inserted_bounded : (n : ℕ) (s : State) (session table : ℕ) (values : List Value) → IsBounded n s → IsBounded (n + 1) (state_of (inserted s session table values) s)
inserted_bounded n s session table values b = record { last = grind (arith, b.last); next = grind (arith, b.next) }

changed_bounded : (n : ℕ) (s : State) (session table : ℕ) (sets : Option (List (ℕ × Value))) (only : List (List Atom)) → IsBounded n s → IsBounded (n + 1) (state_of (changed s session table sets only) s)
changed_bounded n s session table sets only b = record { last = grind (arith, b.last); next = grind (arith, b.next) }

with_bounded : (n : ℕ) (changes : List Change) (s : State) (session own : ℕ) → IsBounded n s → IsBounded (n + 1) (committed_with changes s session own).1
with_bounded n [] s session own b = record { last = omega (arith, b.last); next = omega (arith, b.next) }
with_bounded n (c ∷ cs) s session own b = record { last = omega (arith, b.last); next = omega (arith, b.next) }

committed_by : (n : ℕ) (o : Option ℕ) (s : State) (session : ℕ) → transaction_of s.transactions.active session ≡ o → IsBounded n s → IsBounded (n + 1) (state_of (committed s session) s)
committed_by n None s session e b = rw e (IsBounded-more n s b)
committed_by n (Some own) s session e b = rw e (with_bounded n (transaction_at s.transactions.active own).changes s session own b)

committed_bounded : (n : ℕ) (s : State) (session : ℕ) → IsBounded n s → IsBounded (n + 1) (state_of (committed s session) s)
committed_bounded n s session b = committed_by n (transaction_of s.transactions.active session) s session refl b

rolled_bounded : (n : ℕ) (s : State) (session : ℕ) → IsBounded n s → IsBounded (n + 1) (state_of (rolled_back s session) s)
rolled_bounded n s session b = record { last = grind (arith, b.last); next = grind (arith, b.next) }

opened_bounded : (n : ℕ) (s : State) (session : ℕ) (cursor : List ℕ) (select : Select) → IsBounded n s → IsBounded (n + 1) (state_of (opened s session cursor select) s)
opened_bounded n s session cursor select b = record { last = grind (arith, b.last); next = grind (arith, b.next) }

closed_bounded : (n : ℕ) (s : State) (session : ℕ) (cursor : List ℕ) → IsBounded n s → IsBounded (n + 1) (state_of (closed s session cursor) s)
closed_bounded n s session cursor b = record { last = grind (arith, b.last); next = grind (arith, b.next) }

fetched_bounded : (n : ℕ) (place : Option ℕ) (s : State) (reply : Reply) → IsBounded n s → IsBounded (n + 1) (fetched place s reply)
fetched_bounded n None s reply b = IsBounded-more n s b
fetched_bounded n (Some place) s reply b = record { last = omega (arith, b.last); next = omega (arith, b.next) }

asked_bounded : (n : ℕ) (asked : Result Resolved Refusal) (s : State) (session : ℕ) (reply : Reply) → IsBounded n s → IsBounded (n + 1) (next_asked asked s session reply)
asked_bounded n (Err refusal) s session reply b = IsBounded-more n s b
asked_bounded n (Ok (asks.Fetch name)) s session reply b = fetched_bounded n (cursor_named s.cursors session name) s reply b
asked_bounded n (Ok (asks.CreateTable def)) s session reply b = created_bounded n s def b
asked_bounded n (Ok (asks.CreateIndex def)) s session reply b = indexed_bounded n s def b
asked_bounded n (Ok (asks.Begin read_only)) s session reply b = began_bounded n s session read_only b
asked_bounded n (Ok (asks.Insert table values)) s session reply b = inserted_bounded n s session table values b
asked_bounded n (Ok (asks.Update table sets only)) s session reply b = changed_bounded n s session table (Some sets) only b
asked_bounded n (Ok (asks.Delete table only)) s session reply b = changed_bounded n s session table None only b
asked_bounded n (Ok asks.Commit) s session reply b = committed_bounded n s session b
asked_bounded n (Ok asks.Rollback) s session reply b = rolled_bounded n s session b
asked_bounded n (Ok (asks.Open cursor select)) s session reply b = opened_bounded n s session cursor select b
asked_bounded n (Ok (asks.Step cursor k)) s session reply b = IsBounded-more n s b
asked_bounded n (Ok (asks.Show cursor)) s session reply b = IsBounded-more n s b
asked_bounded n (Ok (asks.Close cursor)) s session reply b = closed_bounded n s session cursor b

after_bounded : (n : ℕ) (s : State) (h : List Entry) → IsBounded n s → IsBounded (n + length h) (after_from s h)
after_bounded n s [] b = rw add-zero b
after_bounded n s (e ∷ es) b =
    let count : n + suc (length es) ≡ (n + 1) + length es = omega arith in
    rw count (after_bounded (n + 1) (stepped s e) es (asked_bounded n (understood s.schema (statement_of e.text)) s e.session e.reply b))

-- After fewer entries than numbers there is room.
pub HasRoom-after : (h : List Entry) → length h < 2 ^ 63 → HasRoom (after h)
HasRoom-after h few =
    let b = after_bounded 0 empty h (record { last = omega arith; next = omega arith }) in
    record { last = omega (arith, b.last); next = omega (arith, b.next) }
