-- INSERT, UPDATE and DELETE of what their two halves give.
use Rattle.std.proofs.Common.{◌≡◌, ℕ, List, Option, Some, Result, Ok, Err, ap, sym, ◌∙◌, length, map, nat_lt}
use Rattle.std.proofs.lemmas.List.{length-map}
use Rattle.rv_value.specs.declared.value.Value.{Value}
use Rattle.rv_value.specs.declared.record.Record.{Record}
use Rattle.rv_value.specs.declared.record.RowNo.{RowNo}
use Rattle.rv_rows.specs.declared.changes.Change.{Change}
use Rattle.rv_lang.specs.declared.reply.Which.TheVariants.{Rows, Pending}
use Rattle.rv_lang.specs.declared.reply.Refusal.{Refusal}
use Rattle.rv_lang.specs.declared.reply.Refusal.TheVariants.{NoTransaction, ReadOnly, Limit}
use Rattle.rv_restrict.specs.declared.atom.Atom.{Atom}
use Rattle.rv_catalog.specs.Answers.{◌>>=◌, ok_or, refuse_if}
use Rattle.rv_catalog.proofs.Steps.{bind_ok, ok_is, was_some}
use Rattle.rv_model.specs.declared.transactions.Transaction.{Transaction}
use Rattle.rv_model.specs.declared.transactions.Transactions.{Transactions}
use Rattle.rv_model.specs.Transactions.{change_of, changed, changed_with, inserted, met, next_row, transaction_at, transaction_of, unharmed, with_row, writer}
use Rattle.rv_txn.specs.Calls.{writing}
use Rattle.rv_txn.specs.Halves.{changing, changing_found, changing_rows, inserting, with_new, with_these}

-- the place of the session's transaction, which may write
written_by : (t : Transactions) (session own : ℕ) → writer t.active session ≡ Ok own → transaction_of t.active session ≡ Some own
written_by t session own h =
    let w = bind_ok (ok_or (transaction_of t.active session) NoTransaction) _ own h in
    let free = bind_ok (refuse_if (transaction_at t.active w.0).read_only ReadOnly) _ own w.2 in
    was_some (transaction_of t.active session) NoTransaction w.0 w.1 ∙ ap (λ (n : ℕ). Some n) (ok_is w.0 own free.2)

bound : {A B : Type 0} (r : Result A Refusal) (f : A → Result B Refusal) (a : A) → r ≡ Ok a → (r >>= f) ≡ f a
bound r f a is = ap (λ x. x >>= f) is

pub inserted_by : (t : Transactions) (session table : ℕ) (values : List Value) (row : RowNo) → inserting t session table ≡ Ok row
    → inserted t session table values ≡ Ok (row, with_new t (transaction_of t.active session) (record { table = table; row = row; values = Some values }))
inserted_by t session table values row h =
    let o = bind_ok (writer t.active session) _ row h in
    let n = bind_ok (refuse_if (nat_lt 999999 (next_row t.touched table)) (Limit Rows 1000000)) _ row o.2 in
    let space = bind_ok (refuse_if (nat_lt 99999 (length (transaction_at t.active o.0).changes)) (Limit Pending 100000)) _ row n.2 in
    let number : RowNo = record { 0 = next_row t.touched table } in
    let same : number ≡ row = ok_is number row space.2 in
    let found = written_by t session o.0 o.1 in
    bound (writer t.active session) _ o.0 o.1
    ∙ bound (refuse_if (nat_lt 999999 (next_row t.touched table)) (Limit Rows 1000000)) _ n.0 n.1
    ∙ bound (refuse_if (nat_lt 99999 (length (transaction_at t.active o.0).changes)) (Limit Pending 100000)) _ space.0 space.1
    ∙ ap (λ (r : RowNo). Ok (r, with_row t o.0 table values r)) same
    ∙ ap (λ (own : Option ℕ). Ok (row, with_new t own (record { table = table; row = row; values = Some values }))) (sym found)

pub changed_by : (t : Transactions) (session table : ℕ) (only : List (List Atom)) (sets : Option (List (ℕ × Value))) (rows : ℕ → List Record) (new : List Change) → changing t session table only sets rows ≡ Ok new
    → changed t session table only sets rows ≡ Ok (length new, with_these t (transaction_of t.active session) new)
changed_by t session table only sets rows new h =
    let o = bind_ok (writer t.active session) _ new h in
    let there = met (transaction_at t.active o.0) table only rows in
    let space = bind_ok (refuse_if (nat_lt 100000 (changed_with (transaction_at t.active o.0).changes table there)) (Limit Pending 100000)) _ new o.2 in
    let free = bind_ok (unharmed t session (transaction_at t.active o.0).base table there) _ new space.2 in
    let same : map (change_of table sets) there ≡ new = ok_is (map (change_of table sets) there) new free.2 in
    let count : length there ≡ length new = sym (length-map there (change_of table sets)) ∙ ap length same in
    let found = written_by t session o.0 o.1 in
    bound (writer t.active session) _ o.0 o.1
    ∙ bound (refuse_if (nat_lt 100000 (changed_with (transaction_at t.active o.0).changes table there)) (Limit Pending 100000)) _ space.0 space.1
    ∙ bound (unharmed t session (transaction_at t.active o.0).base table there) _ free.0 free.1
    ∙ ap (λ (cs : List Change). Ok (length there, with_these t (Some o.0) cs)) same
    ∙ ap (λ (n : ℕ). Ok (n, with_these t (Some o.0) new)) count
    ∙ ap (λ (own : Option ℕ). Ok (length new, with_these t own new)) (sym found)

-- the changes that are due are those of the rows that are met
pub changing_is : (t : Transactions) (session table : ℕ) (only : List (List Atom)) (sets : Option (List (ℕ × Value))) (rows : ℕ → List Record) (new : List Change) → changing t session table only sets rows ≡ Ok new
    → (own : ℕ) × (writer t.active session ≡ Ok own) × (new ≡ map (change_of table sets) (met (transaction_at t.active own) table only rows)) × (transaction_of t.active session ≡ Some own)
changing_is t session table only sets rows new h =
    let o = bind_ok (writer t.active session) _ new h in
    let there = met (transaction_at t.active o.0) table only rows in
    let space = bind_ok (refuse_if (nat_lt 100000 (changed_with (transaction_at t.active o.0).changes table there)) (Limit Pending 100000)) _ new o.2 in
    let free = bind_ok (unharmed t session (transaction_at t.active o.0).base table there) _ new space.2 in
    (o.0, o.1, sym (ok_is (map (change_of table sets) there) new free.2), written_by t session o.0 o.1)

-- a transaction that may write is the session's
pub writing_is : (t : Transactions) (session : ℕ) (own : Transaction) → writing t.active session ≡ Ok own → (place : ℕ) × (transaction_of t.active session ≡ Some place) × (transaction_at t.active place ≡ own)
writing_is t session own h =
    let w = bind_ok (writer t.active session) _ own h in
    (w.0, written_by t session w.0 w.1, ok_is (transaction_at t.active w.0) own w.2)

-- the rows that were found being those that are met, the changes that are due are those of these rows
pub changing_met : (t : Transactions) (session table : ℕ) (only : List (List Atom)) (sets : Option (List (ℕ × Value))) (rows : ℕ → List Record) (own : Transaction) (found : List Record) → writing t.active session ≡ Ok own → found ≡ met own table only rows
    → changing t session table only sets rows ≡ changing_found t session table sets found
changing_met t session table only sets rows own found writes is =
    let w = bind_ok (writer t.active session) _ own writes in
    let here : transaction_at t.active w.0 ≡ own = ok_is (transaction_at t.active w.0) own w.2 in
    bound (writer t.active session) (λ n. changing_rows t session n table sets (met (transaction_at t.active n) table only rows)) w.0 w.1
    ∙ ap (changing_rows t session w.0 table sets) (ap (λ (u : Transaction). met u table only rows) here ∙ sym is)
    ∙ sym (bound (writer t.active session) (λ n. changing_rows t session n table sets found) w.0 w.1)

-- A refusal of the first half is that of the whole.

refused_first : {A B C : Type 0} (r : Result A Refusal) (f : A → Result B Refusal) (g : A → Result C Refusal) (e : Refusal) → ((a : A) → f a ≡ Err e → g a ≡ Err e) → (r >>= f) ≡ Err e → (r >>= g) ≡ Err e
refused_first (Ok a) f g e goes h = goes a h
refused_first (Err x) f g e goes h = let same : x ≡ e = cc in ap (λ y. Err y) same

never : {A B : Type 0} (a : A) (b : B) (e : Refusal) → ◌≡◌ {A = Result A Refusal} (Ok a) (Err e) → ◌≡◌ {A = Result B Refusal} (Ok b) (Err e)
never a b e h = cc

pub inserting_refused : (t : Transactions) (session table : ℕ) (values : List Value) (e : Refusal) → inserting t session table ≡ Err e → inserted t session table values ≡ Err e
inserting_refused t session table values e h =
    refused_first (writer t.active session) _ _ e
    (λ own. refused_first (refuse_if (nat_lt 999999 (next_row t.touched table)) (Limit Rows 1000000)) _ _ e
    (λ u. refused_first (refuse_if (nat_lt 99999 (length (transaction_at t.active own).changes)) (Limit Pending 100000)) _ _ e
    (λ v. never _ _ e)))
    h

pub changing_refused : (t : Transactions) (session table : ℕ) (only : List (List Atom)) (sets : Option (List (ℕ × Value))) (rows : ℕ → List Record) (e : Refusal) → changing t session table only sets rows ≡ Err e → changed t session table only sets rows ≡ Err e
changing_refused t session table only sets rows e h =
    refused_first (writer t.active session) _ _ e
    (λ own. let there = met (transaction_at t.active own) table only rows in
    refused_first (refuse_if (nat_lt 100000 (changed_with (transaction_at t.active own).changes table there)) (Limit Pending 100000)) _ _ e
    (λ u. refused_first (unharmed t session (transaction_at t.active own).base table there) _ _ e
    (λ v. never _ _ e)))
    h

-- a transaction that may not write changes nothing
impossible : {A B : Type 0} (a : A) (r : Result B Refusal) (e : Refusal) → ◌≡◌ {A = Result A Refusal} (Ok a) (Err e) → r ≡ Err e
impossible a r e h = absurd (cc)

pub changing_unwritten : (t : Transactions) (session table : ℕ) (only : List (List Atom)) (sets : Option (List (ℕ × Value))) (rows : ℕ → List Record) (e : Refusal) → writing t.active session ≡ Err e → changing t session table only sets rows ≡ Err e
changing_unwritten t session table only sets rows e h =
    refused_first (writer t.active session) (λ n. Ok (transaction_at t.active n)) (λ n. changing_rows t session n table sets (met (transaction_at t.active n) table only rows)) e
    (λ own. impossible (transaction_at t.active own) (changing_rows t session own table sets (met (transaction_at t.active own) table only rows)) e)
    h
