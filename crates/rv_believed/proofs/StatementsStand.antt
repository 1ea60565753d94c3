-- Bridge: each statement on the database for which a state stands comes to that of what it comes to on the state.
use Rattle.std.proofs.Common.{◌≡◌, ℕ, zero, suc, ◌+◌, ◌<◌, ◌≤◌, List, [], ◌∷◌, ◌++◌, Option, Some, None, Ok, Err, Bool, true, false, cond, not, ◌==◌, refl, sym, ap, ◌∙◌, arith, filter, is_some, length, map, nat_eq, nat_lt, option_map, slice_get, slice_index_or, if◌then◌else◌}
use Rattle.std.proofs.lemmas.Bool.Decides.{nat_tests}
use Rattle.std.specs.List.{AllByRecursion, range_with_len}
use Rattle.std.proofs.lemmas.Bool.{eqb-true}
use Rattle.rv_value.specs.declared.value.Value.{Value}
use Rattle.rv_value.specs.declared.record.Record.{Record}
use Rattle.rv_restrict.specs.declared.atom.Atom.{Atom}
use Rattle.rv_rows.specs.declared.changes.Change.{Change}
use Rattle.rv_rows.specs.Changes.{has_change, rows_with_changes, with_change, with_changes}
use Rattle.rv_rows.specs.Rows.{with_values}
use Rattle.rv_lang.specs.declared.reply.Refusal.TheVariants.{Active, Busy, CursorOpen, Duplicate, Held, Limit, NoCursor}
use Rattle.rv_lang.specs.declared.reply.Rival.TheVariants.{View}
use Rattle.rv_lang.specs.declared.reply.Which.TheVariants as which
use Rattle.rv_lang.specs.declared.reply.Reply.{Reply}
use Rattle.rv_lang.specs.declared.reply.Reply.TheVariants.{Began, Closed, Committed, Created, Inserted, Opened, RolledBack, Touched}
use Rattle.rv_catalog.specs.declared.def.IndexDef.{IndexDef}
use Rattle.rv_catalog.specs.declared.def.Select.{Select}
use Rattle.rv_catalog.specs.declared.def.TableDef.{TableDef}
use Rattle.rv_catalog.specs.Answers.{◌>>=◌, all_pass, ok_or, refuse_if}
use Rattle.rv_catalog.proofs.Steps.{pass_same}
use Rattle.rv_model.specs.declared.state.State.{State}
use Rattle.rv_model.specs.declared.state.Cursor.{Cursor}
use Rattle.rv_model.specs.declared.transactions.Transaction.{Transaction as Working}
use Rattle.rv_model.specs.Database.{cursor_named, rows_at}
use Rattle.rv_model.specs.Rivals.{all_alone, first_equal, neighbours, rows_written, unique_over}
use Rattle.rv_model.specs.Step as step
use Rattle.rv_model.specs.Transactions.{next_row, refuse_at, touched_by, transaction_at, transaction_of, with_number}
use Rattle.rv_model.proofs.Touches.{touch_all_same}
use Rattle.rv_believed.specs.Answers.{Test}
use Rattle.rv_believed.specs.Changing as believed
use Rattle.rv_believed.specs.Changing.{few_changes}
use Rattle.rv_believed.specs.Cursors as cursors
use Rattle.rv_believed.specs.Database.{Database, Transaction, with_changed, without_session}
use Rattle.rv_believed.specs.Standing.{IsSound, database, outcome_of, with_bases, transaction_with}
use Rattle.rv_believed.specs.Taken.{ChangesTaken}
use Rattle.rv_believed.specs.Transactions as transactions
use Rattle.rv_believed.proofs.ChangingOfState as changing
use Rattle.rv_believed.proofs.CursorsOfState as opening
use Rattle.rv_believed.proofs.TransactionsOfState as state
use Rattle.rv_believed.proofs.ChangingSame.{change_same, insert_same}
use Rattle.rv_believed.proofs.CommitsSame.{begin_same, commit_same, index_same, rollback_same, table_same}
use Rattle.rv_believed.proofs.CursorsSame.{close_same, open_same}
use Rattle.rv_believed.proofs.Growing.{number_next, number_touched, touch_all_by, within}
use Rattle.rv_believed.proofs.StandingSame.{drop_at, others_listed, outcome_four, own_dropped, own_found, own_of, own_passes, own_put, own_then, others_pass, outcome_thrice, outcome_twice, put_at, writer_then}
use Rattle.rv_believed.proofs.TakenStates.{own_taken}

-- ---- CREATE

idle_stands : (ws : List Working) (bs : List (List (List Record)))
    → refuse_at (slice_get (with_bases ws bs) 0) (λ (t : Transaction). Busy t.number) ≡ refuse_at (slice_get ws 0) (λ (w : Working). Busy w.number)
idle_stands [] bs = refl
idle_stands (w ∷ ws) bs = refl

no_row_more : (rows : List (List Record)) (table : ℕ) → rows_at (rows ++ [] ∷ []) table ≡ rows_at rows table
no_row_more [] zero = refl
no_row_more [] (suc n) = refl
no_row_more (r ∷ rows) zero = refl
no_row_more (r ∷ rows) (suc n) = no_row_more rows n

abbrev with_table : State → TableDef → State
with_table s def = record s { schema = record s.schema { tables = s.schema.tables ++ def ∷ [] }; rows = s.rows ++ [] ∷ [] }

table_on : (s : State) (def : TableDef) → transactions.create_table (database s) def ≡ outcome_of (state.create_table s def)
table_on s def =
    (λ k. idle_stands s.transactions.active s.bases k >>= (λ u. refuse_if (nat_lt 63 (length s.schema.tables)) (Limit which.Tables 64)
    >>= (λ v. Ok (
      Created,
      record (database s) {
        tables = s.schema.tables ++ def ∷ [];
        rows = λ table. sym (no_row_more s.rows table) k;
      },
    ))))
    ∙ sym (outcome_twice (refuse_at (slice_get s.transactions.active 0) (λ (w : Working). Busy w.number))
    (refuse_if (nat_lt 63 (length s.schema.tables)) (Limit which.Tables 64)) (Created, with_table s def))

pub table_stands : (s : State) (def : TableDef) → IsSound s → transactions.create_table (database s) def ≡ outcome_of (step.created s def)
table_stands s def h = table_on s def ∙ ap outcome_of (table_same s def h.orderly)

index_on : (s : State) (def : IndexDef) → transactions.create_index (database s) def ≡ outcome_of (state.create_index s def)
index_on s def =
    (λ k. idle_stands s.transactions.active s.bases k
    >>= (λ u. refuse_if (nat_lt 7 (length (filter (λ (i : IndexDef). i.table == def.table) s.schema.indexes))) (Limit which.Indexes 8)
    >>= (λ v. refuse_at (first_equal def (rows_at s.rows def.table)) (λ (r : Record). Duplicate r.row View)
    >>= (λ w. Ok (Created, record (database s) { indexes = s.schema.indexes ++ def ∷ [] })))))
    ∙ sym (outcome_thrice (refuse_at (slice_get s.transactions.active 0) (λ (w : Working). Busy w.number))
    (refuse_if (nat_lt 7 (length (filter (λ (i : IndexDef). i.table == def.table) s.schema.indexes))) (Limit which.Indexes 8))
    (refuse_at (first_equal def (rows_at s.rows def.table)) (λ (r : Record). Duplicate r.row View))
    (Created, record s { schema = record s.schema { indexes = s.schema.indexes ++ def ∷ [] } }))

pub index_stands : (s : State) (def : IndexDef) → IsSound s → transactions.create_index (database s) def ≡ outcome_of (step.indexed s def)
index_stands s def h = index_on s def ∙ ap outcome_of (index_same s def h.orderly)

-- ---- BEGIN

no_lengths : {A : Type 0} (n : ℕ) → 0 ≡ suc n → A
no_lengths n e = absurd (omega (arith, e))

last_stands : (ws : List Working) (bs : List (List (List Record))) (w : Working) (b : List (List Record)) → length bs ≡ length ws
    → with_bases (ws ++ w ∷ []) (bs ++ b ∷ []) ≡ with_bases ws bs ++ transaction_with w b ∷ []
last_stands [] [] w b e = refl
last_stands [] (c ∷ bs) w b e = no_lengths (length bs) (sym e)
last_stands (v ∷ ws) [] w b e = no_lengths (length ws) e
last_stands (v ∷ ws) (c ∷ bs) w b e = ap (λ ts. transaction_with v c ∷ ts) (last_stands ws bs w b (omega (arith, e)))

free_stands : (ws : List Working) (bs : List (List (List Record))) (o : Option ℕ)
    → refuse_at (option_map (own_of ws bs) o) (λ (t : Transaction). Active t.number) ≡ refuse_at o (λ own. Active (transaction_at ws own).number)
free_stands ws bs None = refl
free_stands ws bs (Some own) = refl

outcome_once : (a : Test) (done : Reply × State) → outcome_of (a >>= (λ u. Ok done)) ≡ (a >>= (λ u. Ok (done.0, database done.1)))
outcome_once (Ok u) done = refl
outcome_once (Err e) done = refl

abbrev new_working : State → ℕ → Bool → Working
new_working s session read_only = record { number = s.transactions.next; session = session; read_only = read_only; base = s.last; changes = [] }

abbrev begun : State → ℕ → Bool → State
begun s session read_only = record s {
  transactions = record s.transactions { active = s.transactions.active ++ new_working s session read_only ∷ []; next = s.transactions.next + 1 };
  bases = s.bases ++ s.rows ∷ [];
}

begin_on : (s : State) (session : ℕ) (read_only : Bool) → length s.bases ≡ length s.transactions.active
    → transactions.begin (database s) session read_only ≡ outcome_of (state.begin s session read_only)
begin_on s session read_only e =
    (λ k. (ap (λ o. refuse_at o (λ (t : Transaction). Active t.number)) (own_found session s.transactions.active s.bases)
    ∙ free_stands s.transactions.active s.bases (transaction_of s.transactions.active session)) k
    >>= (λ u. Ok (
      Began s.transactions.next,
      record (database s) {
        next = s.transactions.next + 1;
        active = sym (last_stands s.transactions.active s.bases (new_working s session read_only) s.rows e) k;
      },
    )))
    ∙ sym (outcome_once (refuse_at (transaction_of s.transactions.active session) (λ own. Active (transaction_at s.transactions.active own).number))
    (Began s.transactions.next, begun s session read_only))

pub begin_stands : (s : State) (session : ℕ) (read_only : Bool) → IsSound s → transactions.begin (database s) session read_only ≡ outcome_of (step.began s session read_only)
begin_stands s session read_only h = begin_on s session read_only h.orderly.bases ∙ ap outcome_of (begin_same s session read_only)

-- ---- INSERT, UPDATE and DELETE

put_place : (s : State) (session n : ℕ) (cs : List Change) → IsSound s → transaction_of s.transactions.active session ≡ Some n
    → (with_changed (database s) session cs).active ≡ with_bases (put_at (Some n) cs s.transactions.active) s.bases
put_place s session n cs h e = own_put session cs s.transactions.active s.bases h.orderly.active
    ∙ ap (λ o. with_bases (put_at o cs s.transactions.active) s.bases) e

abbrev new_row_change : State → ℕ → List Value → Change
new_row_change s table vs = record { table = table; row = record { 0 = next_row s.transactions.touched table }; values = Some vs }

abbrev new_row : State → ℕ → ℕ → List Value → List Change
new_row s own table vs = with_change (new_row_change s table vs) (transaction_at s.transactions.active own).changes

-- the transaction that is found for a session is of this session
owner_is : (session : ℕ) (ws : List Working) (n : ℕ) → transaction_of ws session ≡ Some n → (transaction_at ws n).session ≡ session
owner_is session ws n e = eqb-true (transaction_at ws n).session session (own_passes session ws n e)

-- rivals are looked for among the same rows
rivals_same : (s : State) (session n table : ℕ) (new : List Change) → (transaction_at s.transactions.active n).session ≡ session
    → believed.no_rivals (database s) (own_of s.transactions.active s.bases n) table new ≡ step.no_rivals s session n table new
rivals_same s session n table new owner =
    let own = transaction_at s.transactions.active n in
    let theirs = ap (λ (who : ℕ). map {B = ℕ × List Change} (λ (u : Transaction). (u.number, u.changes)) (filter (λ (t : Transaction). not (t.session == who)) (with_bases s.transactions.active s.bases))) owner
    ∙ others_listed session s.transactions.active s.bases in
    ap (λ (others : List (ℕ × List Change)). all_alone (unique_over table s.schema.indexes)
    (neighbours table (with_changes new own.changes) (rows_at (slice_index_or s.bases n []) table) (rows_at s.rows table) (touched_by s.transactions.touched table) others)
    (rows_written table new)) theirs

insert_at : (s : State) (session table : ℕ) (vs : List Value) (n : ℕ) → IsSound s → transaction_of s.transactions.active session ≡ Some n
    → record (with_changed (database s) session (new_row s n table vs)) {
      next_row = λ other. if other == table then next_row s.transactions.touched table + 1 else next_row s.transactions.touched other;
    } ≡ database (changing.with_changed s n (new_row s n table vs) (with_number s.transactions.touched table))
insert_at s session table vs n h e = λ k. record (database s) {
  active = put_place s session n (new_row s n table vs) h e k;
  next_row = λ t. sym (number_next s.transactions.touched table t) k;
  written_by = λ t r. sym (number_touched s.transactions.touched table t r) k;
}

insert_on : (s : State) (session table : ℕ) (vs : List Value) → IsSound s → believed.insert (database s) session table vs ≡ outcome_of (changing.insert s session table vs)
insert_on s session table vs h = writer_then session s.transactions.active s.bases _ _ (λ n e.
    (λ k. refuse_if (nat_lt 999999 (next_row s.transactions.touched table)) (Limit which.Rows 1000000)
    >>= (λ u. refuse_if (nat_lt 99999 (length (transaction_at s.transactions.active n).changes)) (Limit which.Pending 100000)
    >>= (λ v. rivals_same s session n table (new_row_change s table vs ∷ []) (owner_is session s.transactions.active n e) k
    >>= (λ w. Ok (Inserted (record { 0 = next_row s.transactions.touched table }), insert_at s session table vs n h e k)))))
    ∙ sym (outcome_thrice (refuse_if (nat_lt 999999 (next_row s.transactions.touched table)) (Limit which.Rows 1000000))
    (refuse_if (nat_lt 99999 (length (transaction_at s.transactions.active n).changes)) (Limit which.Pending 100000))
    (step.no_rivals s session n table (new_row_change s table vs ∷ [])) (
      Inserted (record { 0 = next_row s.transactions.touched table }),
      changing.with_changed s n (new_row s n table vs) (with_number s.transactions.touched table),
    )))

pub insert_stands : (s : State) (session table : ℕ) (vs : List Value) → IsSound s
    → believed.insert (database s) session table vs ≡ outcome_of (step.inserted s session table vs)
insert_stands s session table vs h = insert_on s session table vs h ∙ ap outcome_of (insert_same s session table vs)

holder_same : (s : State) (session : ℕ) (c : Change) → believed.no_holder (database s) session c ≡ changing.no_holder s session c
holder_same s session c = others_pass session (λ (t : Transaction). refuse_if (has_change c.table c.row.0 t.changes) (Held c.row t.number))
    (λ (w : Working). refuse_if (has_change c.table c.row.0 w.changes) (Held c.row w.number)) (λ w b. refl) s.transactions.active s.bases

change_at : (s : State) (session n table : ℕ) (new : List Change) → IsSound s → transaction_of s.transactions.active session ≡ Some n
    → (few_changes (transaction_at s.transactions.active n).changes new
    >>= (λ u. all_pass (believed.no_later_commit (database s) (transaction_at s.transactions.active n).base) new
    >>= (λ v. all_pass (believed.no_holder (database s) session) new
    >>= (λ w. believed.no_rivals (database s) (own_of s.transactions.active s.bases n) table new
    >>= (λ x. Ok (Touched (length new), with_changed (database s) session (with_changes new (transaction_at s.transactions.active n).changes)))))))
    ≡ outcome_of (few_changes (transaction_at s.transactions.active n).changes new
    >>= (λ u. all_pass (changing.no_later_commit s (transaction_at s.transactions.active n).base) new
    >>= (λ v. all_pass (changing.no_holder s session) new
    >>= (λ w. step.no_rivals s session n table new
    >>= (λ x. Ok (Touched (length new), changing.with_changed s n (with_changes new (transaction_at s.transactions.active n).changes) s.transactions.touched))))))
change_at s session n table new h e =
    (λ k. few_changes (transaction_at s.transactions.active n).changes new
    >>= (λ u. all_pass (changing.no_later_commit s (transaction_at s.transactions.active n).base) new
    >>= (λ v. pass_same (believed.no_holder (database s) session) (changing.no_holder s session) (holder_same s session) new k
    >>= (λ w. rivals_same s session n table new (owner_is session s.transactions.active n e) k
    >>= (λ x. Ok (
      Touched (length new),
      record (database s) {
        active = put_place s session n (with_changes new (transaction_at s.transactions.active n).changes) h e k;
      },
    ))))))
    ∙ sym (outcome_four (few_changes (transaction_at s.transactions.active n).changes new)
    (all_pass (changing.no_later_commit s (transaction_at s.transactions.active n).base) new) (all_pass (changing.no_holder s session) new)
    (step.no_rivals s session n table new)
    (Touched (length new), changing.with_changed s n (with_changes new (transaction_at s.transactions.active n).changes) s.transactions.touched))

change_on : (s : State) (session table : ℕ) (sets : Option (List (ℕ × Value))) (only : List (List Atom)) → IsSound s
    → believed.change (database s) session table sets only ≡ outcome_of (changing.change s session table sets only)
change_on s session table sets only h = writer_then session s.transactions.active s.bases _ _
    (λ n e. change_at s session n table (changing.changes_by s n table sets only) h e)

pub change_stands : (s : State) (session table : ℕ) (sets : Option (List (ℕ × Value))) (only : List (List Atom)) → IsSound s
    → believed.change (database s) session table sets only ≡ outcome_of (step.changed s session table sets only)
change_stands s session table sets only h = change_on s session table sets only h ∙ ap outcome_of (change_same s session table sets only)

-- ---- COMMIT and ROLLBACK

drop_place : (s : State) (session n : ℕ) → IsSound s → transaction_of s.transactions.active session ≡ Some n
    → (without_session (database s) session).active ≡ with_bases (drop_at (Some n) s.transactions.active) (drop_at (Some n) s.bases)
drop_place s session n h e = own_dropped session s.transactions.active s.bases h.orderly.active
    ∙ ap (λ o. with_bases (drop_at o s.transactions.active) (drop_at o s.bases)) e

abbrev AreOf : ℕ → List Change → Type 0
AreOf m = AllByRecursion (λ (c : Change). c.table < m)

not_there : (t m n : ℕ) → n < m → m ≤ t → (b : Bool) → nat_eq n t ≡ b → b ≡ false
not_there t m n lt le true e = grind (arith, nat_tests)
not_there t m n lt le false e = refl

nothing_applied : (t m : ℕ) (cs : List Change) → AreOf m cs → m ≤ t → rows_with_changes t cs [] ≡ []
nothing_applied t m [] p le = refl
nothing_applied t m (c ∷ cs) p le =
    ap (λ b. rows_with_changes t cs (cond b (with_values c.row.0 c.values []) [])) (not_there t m c.table p.0 le (nat_eq c.table t) refl) ∙ nothing_applied t m cs p.1 le

changed_by : (f : ℕ → List Record) (n a t m : ℕ) → m ≡ a + t → (n ≤ t → f m ≡ [])
    → slice_index_or (map f (range_with_len a n)) t [] ≡ f m
changed_by f zero a t m e past = sym (past (omega arith))
changed_by f (suc n) a zero m e past = ap f (omega (arith, e))
changed_by f (suc n) a (suc t) m e past = changed_by f n (a + 1) t m (omega (arith, e)) (λ le. past (omega (arith, le)))

none_past : (rows : List (List Record)) (t : ℕ) → length rows ≤ t → rows_at rows t ≡ []
none_past [] t le = refl
none_past (r ∷ rows) zero le = absurd (omega (arith, le))
none_past (r ∷ rows) (suc t) le = none_past rows t (omega (arith, le))

abbrev rows_of : List Change → List (List Record) → ℕ → List Record
rows_of cs rows table = rows_with_changes table cs (rows_at rows table)

rows_after : (cs : List Change) (rows : List (List Record)) (t : ℕ) → AreOf (length rows) cs
    → rows_at (map (rows_of cs rows) (range_with_len 0 (length rows))) t ≡ rows_of cs rows t
rows_after cs rows t p = changed_by (rows_of cs rows) (length rows) 0 t t (omega arith)
    (λ le. ap (λ rs. rows_with_changes t cs rs) (none_past rows t le) ∙ nothing_applied t (length rows) cs p le)

are_there : (touched : List (List ℕ)) (n : ℕ) (cs : List Change) → ChangesTaken (next_row touched) cs → length touched ≤ n → AreOf n cs
are_there touched n [] p le = tt
are_there touched n (c ∷ cs) p le = ((let lt : c.table < length touched = within touched c.table c.row.0 p.0 in omega (arith, lt, le)), are_there touched n cs p.1 le)

abbrev done_of : Reply × State → Reply × Database
done_of done = (done.0, database done.1)

touched_rows : (s : State) → IsSound s → length s.transactions.touched ≤ length s.rows
touched_rows s h = let e = h.tables.rows in let le = h.tables.touched in omega (arith, e, le)

commit_by : (s : State) (session n base : ℕ) (cs : List Change) → IsSound s → transaction_of s.transactions.active session ≡ Some n
    → (transaction_at s.transactions.active n).base ≡ base → ChangesTaken (next_row s.transactions.touched) cs
    → transactions.commit_of (database s) session base cs ≡ done_of (state.commit_of s n session cs)
commit_by s session n base [] h e b p = λ k. (
  Committed (sym b k),
  record (database s) {
    active = drop_place s session n h e k;
    cursors = filter (λ (c : Cursor). not (c.session == session)) s.cursors;
  },
)
commit_by s session n base (c ∷ cs) h e b p = λ k. (
  Committed (s.last + 1),
  record (database s) {
    last = s.last + 1;
    rows = λ t. sym (rows_after (c ∷ cs) s.rows t (are_there s.transactions.touched (length s.rows) (c ∷ cs) p (touched_rows s h))) k;
    next_row = λ t. sym (touch_all_same (s.last + 1) (c ∷ cs) s.transactions.touched t) k;
    written_by = λ t r. sym (touch_all_by (s.last + 1) (c ∷ cs) s.transactions.touched t r p) k;
    active = drop_place s session n h e k;
    cursors = filter (λ (d : Cursor). not (d.session == session)) s.cursors;
  },
)

commit_on : (s : State) (session : ℕ) → IsSound s → transactions.commit (database s) session ≡ outcome_of (state.commit s session)
commit_on s session h = own_then session s.transactions.active s.bases _ _ (λ n e. ap (λ (done : Reply × Database). Ok done)
    (commit_by s session n (transaction_at s.transactions.active n).base (transaction_at s.transactions.active n).changes h e refl
    (own_taken (next_row s.transactions.touched) s.transactions.active n h.taken.changes)))

pub commit_stands : (s : State) (session : ℕ) → IsSound s → transactions.commit (database s) session ≡ outcome_of (step.committed s session)
commit_stands s session h = commit_on s session h ∙ ap outcome_of (commit_same s session)

rollback_on : (s : State) (session : ℕ) → IsSound s → transactions.rollback (database s) session ≡ outcome_of (state.rollback s session)
rollback_on s session h = own_then session s.transactions.active s.bases _ _ (λ n e k. Ok (
  RolledBack,
  record (database s) {
    active = drop_place s session n h e k;
    cursors = filter (λ (c : Cursor). not (c.session == session)) s.cursors;
  },
))

pub rollback_stands : (s : State) (session : ℕ) → IsSound s → transactions.rollback (database s) session ≡ outcome_of (step.rolled_back s session)
rollback_stands s session h = rollback_on s session h ∙ ap outcome_of (rollback_same s session)

-- ---- cursors

open_on : (s : State) (session : ℕ) (name : List ℕ) (q : Select) → cursors.open_cursor (database s) session name q ≡ outcome_of (opening.open_cursor s session name q)
open_on s session name q = own_then session s.transactions.active s.bases _ _ (λ n e.
    sym (outcome_twice (refuse_if (is_some (cursor_named s.cursors session name)) (CursorOpen name))
    (refuse_if (nat_lt 15 (length (filter (λ (c : Cursor). c.session == session) s.cursors))) (Limit which.Cursors 16))
    (Opened, record s { cursors = s.cursors ++ opening.new_cursor s n session name q ∷ [] })))

pub open_stands : (s : State) (session : ℕ) (name : List ℕ) (q : Select) → cursors.open_cursor (database s) session name q ≡ outcome_of (step.opened s session name q)
open_stands s session name q = open_on s session name q ∙ ap outcome_of (open_same s session name q)

close_by : (f : ℕ → State) (name : List ℕ) (o : Option ℕ)
    → (ok_or o (NoCursor name) >>= (λ place. Ok (Closed, database (f place)))) ≡ outcome_of (ok_or o (NoCursor name) >>= (λ place. Ok (Closed, f place)))
close_by f name None = refl
close_by f name (Some place) = refl

pub close_stands : (s : State) (session : ℕ) (name : List ℕ) → cursors.close_cursor (database s) session name ≡ outcome_of (step.closed s session name)
close_stands s session name = close_by _ name (cursor_named s.cursors session name) ∙ ap outcome_of (close_same s session name)
