-- Bridge: INSERT, UPDATE and DELETE come to what the working definitions say.
use Rattle.std.proofs.Common.{◌≡◌, ℕ, zero, suc, ◌+◌, List, [], ◌∷◌, Option, Some, None, Result, Ok, Err, Bool, true, false, not, cond, ◌&&◌, ◌==◌, refl, sym, ap, ◌∙◌, arith, filter, map, length, nat_lt, is_some, option_map, slice_index_or, position, one-add}
use Rattle.std.proofs.lemmas.Bool.Decides.{nat_tests}
use Rattle.std.specs.List.{position_or_len}
use Rattle.std.proofs.lemmas.List.{length-map}
use Rattle.std.proofs.lemmas.List.Elements.{filter_agree}
use Rattle.std.proofs.lemmas.Bool.{le-ltb, lt-ltb}
use Rattle.rv_value.specs.declared.value.Value.{Value}
use Rattle.rv_value.specs.declared.record.Record.{Record}
use Rattle.rv_value.specs.declared.record.RowNo.{RowNo}
use Rattle.rv_restrict.specs.declared.atom.Atom.{Atom}
use Rattle.rv_restrict.specs.Truth.{qualifies, row_reads}
use Rattle.rv_rows.specs.declared.changes.Change.{Change}
use Rattle.rv_rows.specs.Changes.{has_change, with_changes}
use Rattle.rv_lang.specs.declared.reply.Refusal.{Refusal}
use Rattle.rv_lang.specs.declared.reply.Refusal.TheVariants.{NoTransaction, ReadOnly, Held, Limit}
use Rattle.rv_lang.specs.declared.reply.Which.TheVariants.{Rows, Pending}
use Rattle.rv_lang.specs.declared.reply.Reply.TheVariants.{Inserted, Touched}
use Rattle.rv_catalog.specs.Answers.{◌>>=◌, all_pass, ok_or, refuse_if}
use Rattle.rv_catalog.proofs.Steps.{pass_same}
use Rattle.rv_model.specs.declared.state.State.{State}
use Rattle.rv_model.specs.declared.transactions.Transaction.{Transaction}
use Rattle.rv_model.specs.declared.transactions.Transactions.{Transactions}
use Rattle.rv_model.specs.Step.{Outcome, changed, changes_met, inserted, new_change, no_rivals, no_rivals_of, rows_seen}
use Rattle.rv_model.specs.Transactions as working
use Rattle.rv_model.specs.Transactions.{changed_refusal, changed_rows, changed_with, first_changed, first_held, held_by, held_refusal, holder, met, next_row, no_record, refuse_at, row_in, touched_by, transaction_at, transaction_of, with_own}
use Rattle.rv_believed.specs.Answers.{Test}
use Rattle.rv_believed.specs.Truth.{keeps}
use Rattle.rv_believed.proofs.Chains.{map_same}
use Rattle.rv_believed.proofs.TruthSame.{keeps_same}
use Rattle.rv_believed.specs.Changing.{change_of, few_changes}
use Rattle.rv_believed.proofs.ChangingOfState.{change, changes_by, insert, no_holder, no_later_commit, view}

-- ---- the place of the first that passes

abbrev pub found : Bool → Option ℕ → Option ℕ
found true o = Some zero
found false o = option_map suc o

more_less : (m n : ℕ) → nat_lt m n ≡ true → nat_lt (1 + m) (suc n) ≡ true
more_less m n h = grind (arith, nat_tests)

no_more_less : (m n : ℕ) → nat_lt m n ≡ false → nat_lt (1 + m) (suc n) ≡ false
no_more_less m n h = grind (arith, nat_tests)

one_on : (m n : ℕ) (c : Bool) → nat_lt m n ≡ c
    → cond (nat_lt (1 + m) (suc n)) (Some (1 + m)) None ≡ option_map suc (cond c (Some m) None)
one_on m n true e = ap (λ b. cond b (Some (1 + m)) None) (more_less m n e) ∙ ap (λ j. Some j) (one-add m)
one_on m n false e = ap (λ b. cond b (Some (1 + m)) None) (no_more_less m n e)

step_by : (m n : ℕ) (b : Bool) → cond (nat_lt (cond (not b) (1 + m) 0) (suc n)) (Some (cond (not b) (1 + m) 0)) None
    ≡ found b (cond (nat_lt m n) (Some m) None)
step_by m n true = ap (λ b. cond b (Some 0) None) (lt-ltb 0 (suc n) (omega arith))
step_by m n false = one_on m n (nat_lt m n) refl

pub position_step : {X : Type 0} (p : X → Bool) (x : X) (xs : List X) → position p (x ∷ xs) ≡ found (p x) (position p xs)
position_step p x xs = step_by (position_or_len p xs) (length xs) (p x)

pub position_none : {X : Type 0} (p : X → Bool) → position p [] ≡ None
position_none p = ap (λ b. cond b (Some (position_or_len p [])) None) (le-ltb (position_or_len p []) 0 (omega arith))

-- ---- a test of each, and the first that fails

pass_map : {X Y : Type 0} (f : Y → Test) (g : X → Y) (xs : List X) → all_pass f (map g xs) ≡ all_pass (λ x. f (g x)) xs
pass_map f g [] = refl
pass_map f g (x ∷ xs) = ap (λ (rest : Test). f (g x) >>= (λ u. rest)) (pass_map f g xs)

refuse_later : (g : ℕ → Refusal) (o : Option ℕ) → refuse_at (option_map suc o) g ≡ refuse_at o (λ n. g (suc n))
refuse_later g None = refl
refuse_later g (Some n) = refl

first_by : {X : Type 0} (p : X → Bool) (g : X → Refusal) (d x : X) (xs : List X) (o : Option ℕ)
    → refuse_at o (λ n. g (slice_index_or xs n d)) ≡ all_pass (λ y. refuse_if (p y) (g y)) xs → (b : Bool)
    → refuse_at (found b o) (λ n. g (slice_index_or (x ∷ xs) n d)) ≡ (refuse_if b (g x) >>= (λ u. all_pass (λ y. refuse_if (p y) (g y)) xs))
first_by p g d x xs o rest true = refl
first_by p g d x xs o rest false = refuse_later (λ n. g (slice_index_or (x ∷ xs) n d)) o ∙ rest

pub first_passes : {X : Type 0} (p : X → Bool) (g : X → Refusal) (d : X) (xs : List X)
    → refuse_at (position p xs) (λ n. g (slice_index_or xs n d)) ≡ all_pass (λ y. refuse_if (p y) (g y)) xs
first_passes p g d [] = ap (λ o. refuse_at o (λ n. g (slice_index_or [] n d))) (position_none p)
first_passes p g d (x ∷ xs) = ap (λ o. refuse_at o (λ n. g (slice_index_or (x ∷ xs) n d))) (position_step p x xs)
    ∙ first_by p g d x xs (position p xs) (first_passes p g d xs) (p x)

-- ---- rows that a later commit has written

abbrev later_test : State → ℕ → ℕ → List Record → Test
later_test s base table rows = refuse_at (first_changed s.transactions.touched table base rows)
    (λ place. changed_refusal s.transactions.touched table (row_in rows place))

later_same : (s : State) (base table : ℕ) (sets : Option (List (ℕ × Value))) (rows : List Record)
    → all_pass (no_later_commit s base) (map (change_of table sets) rows) ≡ later_test s base table rows
later_same s base table sets rows = pass_map (no_later_commit s base) (change_of table sets) rows
    ∙ sym (first_passes (λ (r : Record). nat_lt base (touched_by s.transactions.touched table r.row.0))
    (λ (r : Record). changed_refusal s.transactions.touched table r.row) no_record rows)

-- ---- rows that another transaction has changed

held_later : (row : RowNo) (t : Transaction) (ts : List Transaction) (o : Option ℕ)
    → refuse_if (is_some (option_map suc o)) (held_by (t ∷ ts) row (option_map suc o)) ≡ refuse_if (is_some o) (held_by ts row o)
held_later row t ts None = refl
held_later row t ts (Some n) = refl

held_step : (row : RowNo) (f : Transaction → Test) (t : Transaction) (ts kept : List Transaction) (o : Option ℕ)
    → refuse_if (is_some o) (held_by ts row o) ≡ all_pass f kept → (a b : Bool) → f t ≡ refuse_if b (Held row t.number)
    → refuse_if (is_some (found (a && b) o)) (held_by (t ∷ ts) row (found (a && b) o)) ≡ all_pass f (cond a (t ∷ kept) kept)
held_step row f t ts kept o rest true true e = ap (λ (r : Test). r >>= (λ u. all_pass f kept)) (sym e)
held_step row f t ts kept o rest true false e = held_later row t ts o ∙ rest ∙ ap (λ (r : Test). r >>= (λ u. all_pass f kept)) (sym e)
held_step row f t ts kept o rest false true e = held_later row t ts o ∙ rest
held_step row f t ts kept o rest false false e = held_later row t ts o ∙ rest

abbrev is_free : ℕ → RowNo → Transaction → Test
is_free table row t = refuse_if (has_change table row.0 t.changes) (Held row t.number)

held_one : (table session : ℕ) (row : RowNo) (ts : List Transaction)
    → refuse_if (is_some (holder ts session table row.0)) (held_by ts row (holder ts session table row.0))
    ≡ all_pass (is_free table row) (filter (λ (t : Transaction). not (t.session == session)) ts)
held_one table session row [] = ap (λ o. refuse_if (is_some o) (held_by [] row o))
    (position_none (λ (t : Transaction). not (t.session == session) && has_change table row.0 t.changes))
held_one table session row (t ∷ ts) = ap (λ o. refuse_if (is_some o) (held_by (t ∷ ts) row o))
    (position_step (λ (t : Transaction). not (t.session == session) && has_change table row.0 t.changes) t ts)
    ∙ held_step row (is_free table row) t ts (filter (λ (t : Transaction). not (t.session == session)) ts) (holder ts session table row.0)
    (held_one table session row ts) (not (t.session == session)) (has_change table row.0 t.changes) refl

abbrev held_test : State → ℕ → ℕ → List Record → Test
held_test s session table rows = refuse_at (first_held s.transactions.active session table rows)
    (λ place. held_refusal s.transactions.active session table (row_in rows place))

held_same : (s : State) (session table : ℕ) (sets : Option (List (ℕ × Value))) (rows : List Record)
    → all_pass (no_holder s session) (map (change_of table sets) rows) ≡ held_test s session table rows
held_same s session table sets rows = pass_map (no_holder s session) (change_of table sets) rows
    ∙ pass_same (λ (r : Record). no_holder s session (change_of table sets r))
    (λ (r : Record). refuse_if (is_some (holder s.transactions.active session table r.row.0)) (held_refusal s.transactions.active session table r.row))
    (λ (r : Record). sym (held_one table session r.row s.transactions.active)) rows
    ∙ sym (first_passes (λ (r : Record). is_some (holder s.transactions.active session table r.row.0))
    (λ (r : Record). held_refusal s.transactions.active session table r.row) no_record rows)

-- ---- how many rows are changed, and how

kept_length : {X Y : Type 0} (b : Bool) (x : X) (xs : List X) (y : Y) (ys : List Y) → length xs ≡ length ys
    → length (cond b (x ∷ xs) xs) ≡ length (cond b (y ∷ ys) ys)
kept_length true x xs y ys e = omega (arith, e)
kept_length false x xs y ys e = e

filter_length : {X Y : Type 0} (p : Y → Bool) (f : X → Y) (xs : List X) → length (filter p (map f xs)) ≡ length (filter (λ x. p (f x)) xs)
filter_length p f [] = refl
filter_length p f (x ∷ xs) = kept_length (p (f x)) (f x) (filter p (map f xs)) x (filter (λ x. p (f x)) xs) (filter_length p f xs)

change_of_same : (table : ℕ) (sets : Option (List (ℕ × Value))) (r : Record) → change_of table sets r ≡ working.change_of table sets r
change_of_same table None r = refl
change_of_same table (Some sets) r = refl

abbrev few_test : List Change → ℕ → List Record → Test
few_test old table rows = refuse_if (nat_lt 100000 (changed_with old table rows)) (Limit Pending 100000)

few_same : (old : List Change) (table : ℕ) (sets : Option (List (ℕ × Value))) (rows : List Record)
    → few_changes old (map (change_of table sets) rows) ≡ few_test old table rows
few_same old table sets rows = ap (λ n. refuse_if (nat_lt 100000 (length old + n)) (Limit Pending 100000))
    (filter_length (λ (c : Change). not (has_change c.table c.row.0 old)) (change_of table sets) rows)

-- ---- UPDATE and DELETE

abbrev touched_to : State → ℕ → Transactions → Outcome
touched_to s n t = Ok (Touched n, record s { transactions = t })

abbrev counted_to : ℕ → Transactions → Result (ℕ × Transactions) Refusal
counted_to n t = Ok (n, t)

-- the last test, and what follows it
abbrev touched_by_these : State → Test → ℕ × Transactions → Outcome
touched_by_these s alone done = alone >>= (λ u. Ok (Touched done.0, record s { transactions = done.1 }))

four_tests : (s : State) (a b c d : Test) (n : ℕ) (t : Transactions)
    → (a >>= (λ u. b >>= (λ v. c >>= (λ w. d >>= (λ x. touched_to s n t)))))
    ≡ ((a >>= (λ u. (b >>= (λ v. c)) >>= (λ w. counted_to n t))) >>= touched_by_these s d)
four_tests s (Ok u) (Ok v) (Ok w) d n t = refl
four_tests s (Ok u) (Ok v) (Err e) d n t = refl
four_tests s (Ok u) (Err e) c d n t = refl
four_tests s (Err e) b c d n t = refl

abbrev transactions_with : State → ℕ → List Change → Transactions
transactions_with s own new = record s.transactions {
  active = with_own s.transactions.active own (with_changes new (transaction_at s.transactions.active own).changes);
}

abbrev changing : State → ℕ → ℕ → ℕ → List Change → Outcome
changing s session own table new = few_changes (transaction_at s.transactions.active own).changes new
    >>= (λ u. all_pass (no_later_commit s (transaction_at s.transactions.active own).base) new
    >>= (λ v. all_pass (no_holder s session) new
    >>= (λ w. no_rivals s session own table new
    >>= (λ x. touched_to s (length new) (transactions_with s own new)))))

rows_same : (s : State) (session own table : ℕ) (sets : Option (List (ℕ × Value))) (rows : List Record)
    → changing s session own table (map (change_of table sets) rows)
    ≡ (changed_rows s.transactions session own table sets rows
    >>= touched_by_these s (no_rivals s session own table (map (working.change_of table sets) rows)))
rows_same s session own table sets rows =
    (λ k. few_same (transaction_at s.transactions.active own).changes table sets rows k
    >>= (λ u. later_same s (transaction_at s.transactions.active own).base table sets rows k
    >>= (λ v. held_same s session table sets rows k
    >>= (λ w. no_rivals s session own table (map_same (change_of table sets) (working.change_of table sets) (change_of_same table sets) rows k)
    >>= (λ x. touched_to s (length-map rows (change_of table sets) k)
    (transactions_with s own (map_same (change_of table sets) (working.change_of table sets) (change_of_same table sets) rows k)))))))
    ∙ four_tests s (few_test (transaction_at s.transactions.active own).changes table rows)
    (later_test s (transaction_at s.transactions.active own).base table rows) (held_test s session table rows)
    (no_rivals s session own table (map (working.change_of table sets) rows)) (length rows)
    (transactions_with s own (map (working.change_of table sets) rows))

abbrev writer_by : State → Option ℕ → Result ℕ Refusal
writer_by s o = ok_or o NoTransaction >>= (λ own. refuse_if (transaction_at s.transactions.active own).read_only ReadOnly >>= (λ u. Ok own))

abbrev rows_met : State → ℕ → List (List Atom) → Option ℕ → ℕ → List Record
rows_met s table only o own = met (transaction_at s.transactions.active own) table only (λ base. rows_seen s o table)

change_at : (s : State) (session table : ℕ) (sets : Option (List (ℕ × Value))) (only : List (List Atom)) (own : ℕ) (b : Bool)
    → ((refuse_if b ReadOnly >>= (λ u. Ok own)) >>= (λ o. changing s session o table (changes_by s o table sets only)))
    ≡ (((refuse_if b ReadOnly >>= (λ u. Ok own)) >>= (λ o. changed_rows s.transactions session o table sets (rows_met s table only (Some own) o)))
    >>= touched_by_these s (no_rivals s session own table (changes_met s table sets only own)))
change_at s session table sets only own true = refl
change_at s session table sets only own false = ap (λ (rows : List Record). changing s session own table (map (change_of table sets) rows))
    (filter_agree (λ (r : Record). keeps (row_reads r.values) only) (λ (r : Record). qualifies only r.values)
    (λ (r : Record). keeps_same (row_reads r.values) only) (view s own table))
    ∙ rows_same s session own table sets (filter (λ (r : Record). qualifies only r.values) (view s own table))

change_by : (s : State) (session table : ℕ) (sets : Option (List (ℕ × Value))) (only : List (List Atom)) (o : Option ℕ)
    → (writer_by s o >>= (λ own. changing s session own table (changes_by s own table sets only)))
    ≡ ((writer_by s o >>= (λ own. changed_rows s.transactions session own table sets (rows_met s table only o own)))
    >>= touched_by_these s (no_rivals_of s session o table (changes_met s table sets only)))
change_by s session table sets only None = refl
change_by s session table sets only (Some own) = change_at s session table sets only own (transaction_at s.transactions.active own).read_only

pub change_same : (s : State) (session table : ℕ) (sets : Option (List (ℕ × Value))) (only : List (List Atom))
    → change s session table sets only ≡ changed s session table sets only
change_same s session table sets only = change_by s session table sets only (transaction_of s.transactions.active session)

-- ---- INSERT

abbrev inserted_to : State → RowNo → Transactions → Outcome
inserted_to s row t = Ok (Inserted row, record s { transactions = t })

abbrev row_to : RowNo → Transactions → Result (RowNo × Transactions) Refusal
row_to row t = Ok (row, t)

-- the last test of the row that is added, and what follows it
abbrev inserted_by : State → (RowNo → Test) → RowNo × Transactions → Outcome
inserted_by s alone more = alone more.0 >>= (λ u. Ok (Inserted more.0, record s { transactions = more.1 }))

insert_tests : (s : State) (a b : Test) (alone : RowNo → Test) (row : RowNo) (t : Transactions)
    → (a >>= (λ u. b >>= (λ v. alone row >>= (λ w. inserted_to s row t))))
    ≡ ((a >>= (λ u. b >>= (λ v. row_to row t))) >>= inserted_by s alone)
insert_tests s (Ok u) (Ok v) alone row t = refl
insert_tests s (Ok u) (Err e) alone row t = refl
insert_tests s (Err e) b alone row t = refl

-- whether the row that a transaction adds has no rival
abbrev added_alone : State → ℕ → ℕ → List Value → ℕ → RowNo → Test
added_alone s session table values own row = no_rivals s session own table (new_change table row values ∷ [])

insert_at : (s : State) (session table : ℕ) (values : List Value) (a : Test) (b : ℕ → Test) (row : RowNo) (t : ℕ → Transactions) (own : ℕ) (reads : Bool)
    → ((refuse_if reads ReadOnly >>= (λ u. Ok own)) >>= (λ o. a >>= (λ u. b o >>= (λ v. added_alone s session table values o row >>= (λ w. inserted_to s row (t o))))))
    ≡ (((refuse_if reads ReadOnly >>= (λ u. Ok own)) >>= (λ o. a >>= (λ u. b o >>= (λ v. row_to row (t o)))))
    >>= inserted_by s (added_alone s session table values own))
insert_at s session table values a b row t own true = refl
insert_at s session table values a b row t own false = insert_tests s a (b own) (added_alone s session table values own) row (t own)

insert_by : (s : State) (session table : ℕ) (values : List Value) (a : Test) (b : ℕ → Test) (row : RowNo) (t : ℕ → Transactions) (o : Option ℕ)
    → (writer_by s o >>= (λ own. a >>= (λ u. b own >>= (λ v. added_alone s session table values own row >>= (λ w. inserted_to s row (t own))))))
    ≡ ((writer_by s o >>= (λ own. a >>= (λ u. b own >>= (λ v. row_to row (t own)))))
    >>= inserted_by s (λ (r : RowNo). no_rivals_of s session o table (λ own. new_change table r values ∷ [])))
insert_by s session table values a b row t None = refl
insert_by s session table values a b row t (Some own) = insert_at s session table values a b row t own (transaction_at s.transactions.active own).read_only

pub insert_same : (s : State) (session table : ℕ) (values : List Value)
    → insert s session table values ≡ inserted s session table values
insert_same s session table values = insert_by s session table values (refuse_if (nat_lt 999999 (next_row s.transactions.touched table)) (Limit Rows 1000000))
    (λ own. refuse_if (nat_lt 99999 (length (transaction_at s.transactions.active own).changes)) (Limit Pending 100000))
    (record { 0 = next_row s.transactions.touched table })
    (λ own. working.with_row s.transactions own table values (record { 0 = next_row s.transactions.touched table }))
    (transaction_of s.transactions.active session)
