-- Rivals are looked for over the store, as the definition looks for them in the database.
use Rattle.std.proofs.Common.{◌≡◌, ℕ, ◌<◌, ◌≤◌, List, [], ◌∷◌, true, Option, None, Result, Ok, refl, ap, sym, ◌∙◌, subst, arith, filter, length, map}
use Rattle.std.specs.List.{AllByRecursion, list_all}
use Rattle.std.proofs.lemmas.Bool.Decides.{nat_tests}
use Rattle.std.proofs.lemmas.Bool.{and_parts}
use Rattle.rv_value.proofs.Lists.{all_more}
use Rattle.rv_reader.proofs.Rows.{applied_ascends}
use Rattle.rv_value.specs.declared.value.Value.{Value}
use Rattle.rv_value.specs.declared.record.Record.{Record}
use Rattle.rv_rows.specs.declared.changes.Change.{Change}
use Rattle.rv_rows.specs.Changes.{Rise, is_before, rows_with_changes, with_changes}
use Rattle.rv_rows.specs.Rows.{Ascend, comes_below}
use Rattle.rv_rows.proofs.Puts.{rising_filter}
use Rattle.rv_restrict.specs.declared.atom.Atom.{Atom}
use Rattle.rv_restrict.specs.Truth.{qualifies}
use Rattle.rv_lang.specs.declared.reply.Refusal.{Refusal}
use Rattle.rv_catalog.specs.Schema.{Schema}
use Rattle.rv_reader.specs.Shown.{Shown, CanRead}
use Rattle.rv_reader.specs.Storing.{IsStored}
use Rattle.rv_model.specs.declared.transactions.Transaction.{Transaction}
use Rattle.rv_model.specs.declared.transactions.Transactions.{Transactions}
use Rattle.rv_model.specs.Rivals.{all_alone, neighbours, rows_written, unique_over}
use Rattle.rv_model.specs.Step.{no_rivals_of, others}
use Rattle.rv_model.specs.Transactions as calls
use Rattle.rv_model.specs.Transactions.{touched_by, transaction_at, transaction_of}
use Rattle.rv_own.specs.declared.views.OwnView.{OwnView}
use Rattle.rv_own.specs.Views.{AreViews, CanView}
use Rattle.rv_txn.specs.Halves.{changing}
use Rattle.rv_txn.proofs.Halving.{changing_is}
use Rattle.rv_rivals.specs.Lookups.{CanLook, neighbours_in}
use Rattle.rv_core.specs.Db.{IsActive, IsTied, db_of}
use Rattle.rv_core.specs.Storing.{lone_over}
use Rattle.rv_core.proofs.Images.{base_at, image_at}
use Rattle.rv_core.proofs.Putting.{Owns, are_indexes, can_keep, own_at, own_read}
use Rattle.rv_core.proofs.Standing.{base_known, own_within, writer_within}

-- Views may be made of all active transactions.

all_view : (shown : Shown) (schema : Schema) (txns : Transactions) → IsTied shown schema txns → IsStored shown → AllByRecursion (λ (t : Transaction). CanView shown schema.indexes t []) txns.active
all_view shown schema txns tied stored =
    all_more (IsActive shown txns.touched) (λ (t : Transaction). CanView shown schema.indexes t []) (λ t k. record {
      indexed = are_indexes shown schema txns tied stored;
      own = all_more _ _ (λ c own. can_keep shown schema txns t.base c tied k.base own) t.changes k.changes;
      new_ones = tt;
    }) txns.active tied.active

pub can_look : (shown : Shown) (schema : Schema) (txns : Transactions) (session table : ℕ) (t : Transaction) (new : List Change) (views : List OwnView) → IsTied shown schema txns → IsStored shown → length schema.indexes ≤ 512 → table < length schema.tables → Owns txns.active session t
    → Rise new → AllByRecursion (λ (c : Change). c.table ≡ table) new → AreViews shown txns.active views → CanLook shown schema.indexes txns views t table new
can_look shown schema txns session table t new views tied stored most there own rise of all = record {
  stored = stored;
  read = own_read shown schema txns session table t tied there own;
  placed = record { place = own.place; found = own_at txns.active session t own; here = own.here };
  active = all_view shown schema txns tied stored;
  kept = all;
  numbers = omega (arith, most);
  rise = rise;
  of_table = of;
}

-- What is tested over the store is what the definition tests.

pub lone_is : (shown : Shown) (schema : Schema) (txns : Transactions) (session table : ℕ) (t : Transaction) (new : List Change) → table < length schema.tables → (own : Owns txns.active session t)
    → lone_over shown schema txns session table new ≡ all_alone (unique_over table schema.indexes) (neighbours_in shown txns t table new) (rows_written table new)
lone_is shown schema txns session table t new there own =
    let within = own_within txns.active session own.place own.at in
    let base : List Record → List Record → Transaction → ℕ → Result (Unit {0}) Refusal = λ rows last u who.
    all_alone (unique_over table schema.indexes) (neighbours table (with_changes new u.changes) rows last (touched_by txns.touched table) (others txns.active who)) (rows_written table new) in
    ap (λ (o : Option ℕ). no_rivals_of (db_of shown schema txns []) session o table (λ own. new)) own.at
    ∙ (λ i. base (base_at shown (length schema.tables) table txns.active own.place within there i) (image_at shown (length schema.tables) shown.newest table there i) (transaction_at txns.active own.place) session)
    ∙ (λ i. base (shown.rows table (own.here i).base) (shown.rows table shown.newest) (own.here i) (sym own.owner i))

pub lone_none : (shown : Shown) (schema : Schema) (txns : Transactions) (session table : ℕ) (new : List Change) → transaction_of txns.active session ≡ None → lone_over shown schema txns session table new ≡ Ok tt
lone_none shown schema txns session table new none = ap (λ (o : Option ℕ). no_rivals_of (db_of shown schema txns []) session o table (λ own. new)) none

-- The changes of an UPDATE or DELETE are of rows of its table, the lowest first.

before_all : (table : ℕ) (sets : Option (List (ℕ × Value))) (r : Record) (rows : List Record) → list_all (comes_below r) rows ≡ true → list_all (is_before (calls.change_of table sets r)) (map (calls.change_of table sets) rows) ≡ true
before_all table sets r [] all = refl
before_all table sets r (s ∷ rows) all =
    let parts = and_parts (comes_below r s) (list_all (comes_below r) rows) all in
    let first : is_before (calls.change_of table sets r) (calls.change_of table sets s) ≡ true = (let below = parts.0 in grind (arith, nat_tests)) in
    rw first (before_all table sets r rows parts.1)

mapped_rise : (table : ℕ) (sets : Option (List (ℕ × Value))) (rows : List Record) → Ascend rows → Rise (map (calls.change_of table sets) rows)
mapped_rise table sets [] ascend = tt
mapped_rise table sets (r ∷ rows) ascend = (before_all table sets r rows ascend.0, mapped_rise table sets rows ascend.1)

mapped_of : (table : ℕ) (sets : Option (List (ℕ × Value))) (rows : List Record) → AllByRecursion (λ (c : Change). c.table ≡ table) (map (calls.change_of table sets) rows)
mapped_of table sets [] = tt
mapped_of table sets (r ∷ rows) = (refl, mapped_of table sets rows)

pub these_rise : (shown : Shown) (schema : Schema) (txns : Transactions) (session table : ℕ) (only : List (List Atom)) (sets : Option (List (ℕ × Value))) (new these : List Change) → IsTied shown schema txns → IsStored shown → table < length schema.tables → these ≡ new
    → changing txns session table only sets (shown.rows table) ≡ Ok new → Rise these
these_rise shown schema txns session table only sets new these tied stored there is due =
    let b = changing_is txns session table only sets (shown.rows table) new due in
    let t = transaction_at txns.active b.0 in
    let count = tied.count in
    let read : CanRead shown table t.base = record { there = omega (arith, count, there); snapshot = base_known shown txns.touched txns.active b.0 (writer_within txns.active session b.0 b.1) tied.active } in
    let seen = rows_with_changes table t.changes (shown.rows table t.base) in
    subst Rise (sym (is ∙ b.2)) (mapped_rise table sets (filter (λ (r : Record). qualifies only r.values) seen)
    (rising_filter comes_below (λ (r : Record). qualifies only r.values) seen (applied_ascends table t.changes (shown.rows table t.base) (stored.ascend table t.base read))))

pub these_of : (txns : Transactions) (session table : ℕ) (only : List (List Atom)) (sets : Option (List (ℕ × Value))) (rows : ℕ → List Record) (new these : List Change) → these ≡ new → changing txns session table only sets rows ≡ Ok new
    → AllByRecursion (λ (c : Change). c.table ≡ table) these
these_of txns session table only sets rows new these is due =
    let b = changing_is txns session table only sets rows new due in
    subst (AllByRecursion (λ (c : Change). c.table ≡ table)) (sym (is ∙ b.2)) (mapped_of table sets (calls.met (transaction_at txns.active b.0) table only rows))
