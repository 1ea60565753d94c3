-- What is put into transactions is kept up with in their views, and what is frozen of them.
use Rattle.std.proofs.Common.{◌≡◌, ℕ, suc, ◌<◌, ◌≤◌, List, [], ◌∷◌, not, ◌==◌, Option, Some, None, IfSome, Result, Ok, Err, refl, ap, sym, ◌∙◌, subst, arith, length, map, option_map, filter}
use Rattle.std.specs.Prelude.{slice_get}
use Rattle.std.specs.List.{AllByRecursion}
use Rattle.std.proofs.lemmas.Bool.Decides.{nat_tests}
use Rattle.std.proofs.lemmas.Option.{slice_get_within, same_Some}
use Rattle.std.proofs.lemmas.Bool.{ltb-false}
use Rattle.rv_value.proofs.Lists.{all_filter, all_more}
use Rattle.rv_value.proofs.Places.{read_as}
use Rattle.rv_value.specs.declared.value.Value.{Value}
use Rattle.rv_value.specs.declared.record.Record.{Record}
use Rattle.rv_value.specs.declared.record.RowNo.{RowNo}
use Rattle.rv_rows.specs.declared.changes.Change.{Change}
use Rattle.rv_rows.specs.Changes.{rows_with_changes, with_changes}
use Rattle.rv_lang.specs.declared.reply.Refusal.{Refusal}
use Rattle.rv_lang.specs.declared.reply.Reply.TheVariants.{Inserted, Touched}
use Rattle.rv_restrict.specs.declared.atom.Atom.{Atom}
use Rattle.rv_restrict.specs.Truth.{qualifies}
use Rattle.rv_catalog.specs.declared.def.IndexDef.{IndexDef}
use Rattle.rv_catalog.specs.Answers.{◌>>=◌}
use Rattle.rv_catalog.specs.Schema.{Schema}
use Rattle.rv_reader.specs.Shown.{Shown, CanRead, IsSnapshot}
use Rattle.rv_reader.specs.Storing.{IsStored}
use Rattle.rv_model.specs.declared.state.State.{State}
use Rattle.rv_model.specs.declared.state.Cursor.{Cursor}
use Rattle.rv_model.specs.declared.transactions.Transaction.{Transaction}
use Rattle.rv_model.specs.declared.transactions.Transactions.{Transactions}
use Rattle.rv_model.specs.Database.{no_index}
use Rattle.rv_model.specs.Step.{changed, changes_met, inserted, no_rivals_of, row_alone, rows_alone, rows_viewed}
use Rattle.rv_model.specs.Transactions as calls
use Rattle.rv_model.specs.Transactions.{transaction_at, transaction_of}
use Rattle.rv_overlay.specs.declared.frozen.Frozen.{Frozen}
use Rattle.rv_view.specs.Making.{AreIndexes}
use Rattle.rv_own.specs.declared.views.OwnView.{OwnView}
use Rattle.rv_own.specs.Views.{AreOwn, AreViews, CanKeep, CanView, Freezes, others as other_views}
use Rattle.rv_own.proofs.Bases.{are_own, others_again}
use Rattle.rv_txn.specs.declared.txns.TxnFault.{TxnFault}
use Rattle.rv_txn.specs.declared.txns.TxnFault.TheVariants.{Refused, NoMemory}
use Rattle.rv_txn.specs.Calls.{IsFault, writing}
use Rattle.rv_txn.specs.Halves.{changing, changing_found, inserting, with_new, with_these}
use Rattle.rv_txn.proofs.Halving.{changed_by, changing_is, changing_met, changing_refused, inserted_by, inserting_refused}
use Rattle.rv_core.specs.Db.{HasIndex, IsOwn, IsTied, IsViewed, db_of}
use Rattle.rv_core.specs.Doing.{opening_base}
use Rattle.rv_core.specs.Storing.{changed_alone, changed_over, inserted_alone, lone_over}
use Rattle.rv_core.proofs.Calling.{opening_is, view_read}
use Rattle.rv_core.proofs.Databases.{own_is}
use Rattle.rv_core.proofs.Facts.{all_map}
use Rattle.rv_core.proofs.Standing.{IsRow, base_known, inserted_is, own_within, row_change, rows_same, seen_rows, writer_within}
use Rattle.rv_core.proofs.Tied.{own_changes}
use Rattle.rv_core.proofs.Images.{base_at}

-- ---- the session's transaction

-- what is given as the session's transaction is that in its place
pub record Owns (active : List Transaction) (session : ℕ) (t : Transaction) : Type 0 where
  pub place : ℕ
  pub at : transaction_of active session ≡ Some place
  pub here : transaction_at active place ≡ t
  pub owner : t.session ≡ session

owns_at : (active : List Transaction) (session : ℕ) (t : Transaction) (o : Option ℕ) → transaction_of active session ≡ o → Some t ≡ option_map (transaction_at active) o → Owns active session t
owns_at active session t None e is = cc
owns_at active session t (Some place) e is =
    let here : transaction_at active place ≡ t = sym (same_Some t (transaction_at active place) is) in
    let found = own_is active session place e in
    let owner : (transaction_at active place).session ≡ session = grind (arith, nat_tests) in
    record { place = place; at = e; here = here; owner = ap (λ (u : Transaction). u.session) (sym here) ∙ owner }

pub owns : (active : List Transaction) (session : ℕ) (t : Transaction) → Some t ≡ option_map (transaction_at active) (transaction_of active session) → Owns active session t
owns active session t is = owns_at active session t (transaction_of active session) refl is

-- it is found by its own session
pub own_at : (active : List Transaction) (session : ℕ) (t : Transaction) (own : Owns active session t) → transaction_of active t.session ≡ Some own.place
own_at active session t own = ap (transaction_of active) own.owner ∙ own.at

pub none_is : (active : List Transaction) (o : Option ℕ) → None ≡ option_map (transaction_at active) o → o ≡ None
none_is active None e = refl
none_is active (Some place) e = cc

-- a fact of the place of the session's transaction, where there is none
pub none_owned : (active : List Transaction) (session : ℕ) (P : ℕ → Type 0) → None ≡ option_map (transaction_at active) (transaction_of active session) → IfSome (transaction_of active session) P
none_owned active session P e = subst (λ (o : Option ℕ). IfSome o P) (sym (none_is active (transaction_of active session) e)) tt

pub none_viewed_rows : (s : State) (active : List Transaction) (o : Option ℕ) (table : ℕ) (rows : List Record) → rows ≡ [] → None ≡ option_map (transaction_at active) o → rows ≡ rows_viewed s o table
none_viewed_rows s active None table rows empty e = empty
none_viewed_rows s active (Some own) table rows empty e = cc

-- the same where it is given
pub some_owned : (active : List Transaction) (session : ℕ) (t : Transaction) (P : ℕ → Type 0) (own : Owns active session t) → P own.place → IfSome (transaction_of active session) P
some_owned active session t P own here = subst (λ (o : Option ℕ). IfSome o P) (sym own.at) here

own_base : (shown : Shown) (schema : Schema) (txns : Transactions) (session : ℕ) (t : Transaction) → IsTied shown schema txns → Owns txns.active session t → IsSnapshot shown t.base
own_base shown schema txns session t tied own = subst (λ (u : Transaction). IsSnapshot shown u.base) own.here (base_known shown txns.touched txns.active own.place (own_within txns.active session own.place own.at) tied.active)

pub own_read : (shown : Shown) (schema : Schema) (txns : Transactions) (session table : ℕ) (t : Transaction) → IsTied shown schema txns → table < length schema.tables → Owns txns.active session t → CanRead shown table t.base
own_read shown schema txns session table t tied there own = let count = tied.count in record { there = omega (arith, count, there); snapshot = own_base shown schema txns session t tied own }

own_made : (shown : Shown) (schema : Schema) (txns : Transactions) (session : ℕ) (t : Transaction) → IsTied shown schema txns → Owns txns.active session t → AllByRecursion (IsOwn shown txns.touched) t.changes
own_made shown schema txns session t tied own = subst (λ (u : Transaction). AllByRecursion (IsOwn shown txns.touched) u.changes) own.here (own_changes shown txns.touched txns.active own.place tied.active)

-- ---- what views are asked

all_from : {X : Type 0} (P : X → Type 0) (xs : List X) → ((i : ℕ) (x : X) → slice_get xs i ≡ Some x → P x) → AllByRecursion P xs
all_from P [] each = tt
all_from P (x ∷ xs) each = (each 0 x refl, all_from P xs (λ i y e. each (suc i) y e))

-- the indexes of the schema are those of the store
pub are_indexes : (shown : Shown) (schema : Schema) (txns : Transactions) → IsTied shown schema txns → IsStored shown → AreIndexes shown schema.indexes
are_indexes shown schema txns tied stored = record {
  count = tied.indexed;
  over = λ i d is. (has i d is).over ∙ ap (λ (x : IndexDef). x.table) (read_as schema.indexes i d no_index is);
  keys = λ i d is. (has i d is).keys ∙ ap (λ (x : IndexDef). x.columns) (read_as schema.indexes i d no_index is);
  columns = all_from (λ (d : IndexDef). (1 ≤ length d.columns) × (length d.columns ≤ 4)) schema.indexes (λ i d is.
      let count = tied.indexed in
      let low = slice_get_within schema.indexes i d is in
      let fits = (stored.over i (omega (arith, count, low))).columns in
      let same : shown.keys i ≡ d.columns = (has i d is).keys ∙ ap (λ (x : IndexDef). x.columns) (read_as schema.indexes i d no_index is) in
      let long = ap length same in
      let some = fits.some in
      let few = fits.few in
      (omega (arith, long, some), omega (arith, long, few)));
}
  where
    has : (i : ℕ) (d : IndexDef) → slice_get schema.indexes i ≡ Some d → HasIndex shown schema.indexes i
    has i d is = tied.each i (slice_get_within schema.indexes i d is)

pub can_keep : (shown : Shown) (schema : Schema) (txns : Transactions) (base : ℕ) (c : Change) → IsTied shown schema txns → IsSnapshot shown base → IsOwn shown txns.touched c → CanKeep shown base c
can_keep shown schema txns base c tied snap h =
    let taken = h.taken in
    let most = tied.few c.table in
    record { read = record { there = h.there; snapshot = snap }; low = omega (arith, taken, most) }

pub can_view : (shown : Shown) (schema : Schema) (txns : Transactions) (session : ℕ) (t : Transaction) (new : List Change) → IsTied shown schema txns → IsStored shown → Owns txns.active session t
    → IfSome (transaction_of txns.active session) (λ own. AllByRecursion (CanKeep shown (transaction_at txns.active own).base) new) → CanView shown schema.indexes t new
can_view shown schema txns session t new tied stored own kept =
    let snap = own_base shown schema txns session t tied own in
    let at : AllByRecursion (CanKeep shown (transaction_at txns.active own.place).base) new = subst (λ (o : Option ℕ). IfSome o (λ own. AllByRecursion (CanKeep shown (transaction_at txns.active own).base) new)) own.at kept in
    record {
      indexed = are_indexes shown schema txns tied stored;
      own = all_more (IsOwn shown txns.touched) (CanKeep shown t.base) (λ c k. can_keep shown schema txns t.base c tied snap k) t.changes (own_made shown schema txns session t tied own);
      new_ones = subst (λ (u : Transaction). AllByRecursion (CanKeep shown u.base) new) own.here at;
    }

pub nothing_new : (shown : Shown) (active : List Transaction) (o : Option ℕ) → IfSome o (λ own. AllByRecursion (CanKeep shown (transaction_at active own).base) [])
nothing_new shown active None = tt
nothing_new shown active (Some own) = tt

pub views_own : (shown : Shown) (active : List Transaction) (session : ℕ) (t : Transaction) (views : List OwnView) → Owns active session t → AreViews shown active views → AreOwn shown t views
views_own shown active session t views own all = are_own shown active own.place t views (own_at active session t own) own.here all

-- ---- kept up

-- with the changes put, what is kept for the session's transaction is what they make
pub kept_these : (shown : Shown) (txns : Transactions) (session : ℕ) (t : Transaction) (new : List Change) (old left : List OwnView) → Owns txns.active session t → AreViews shown txns.active old
    → ((active : List Transaction) (place : ℕ) → transaction_of active t.session ≡ Some place → transaction_at active place ≡ t → AreViews shown active old → AreViews shown (calls.with_own active place (with_changes new t.changes)) left)
    → AreViews shown (with_these txns (transaction_of txns.active session) new).active left
kept_these shown txns session t new old left own all kept =
    let made = kept txns.active own.place (own_at txns.active session t own) own.here all in
    let put : AreViews shown (calls.with_own txns.active own.place (with_changes new (transaction_at txns.active own.place).changes)) left =
    subst (λ (u : Transaction). AreViews shown (calls.with_own txns.active own.place (with_changes new u.changes)) left) (sym own.here) made in
    subst (λ (o : Option ℕ). AreViews shown (with_these txns o new).active left) (sym own.at) put

-- no transaction, and nothing changed
pub kept_none : (shown : Shown) (txns : Transactions) (session : ℕ) (new : List Change) (views : List OwnView) → None ≡ option_map (transaction_at txns.active) (transaction_of txns.active session) → AreViews shown txns.active views
    → AreViews shown (with_these txns (transaction_of txns.active session) new).active views
kept_none shown txns session new views e all = subst (λ (o : Option ℕ). AreViews shown (with_these txns o new).active views) (sym (none_is txns.active (transaction_of txns.active session) e)) all

-- the row that was put
new_is : (t : Transactions) (o : Option ℕ) (c : Change) → (with_new t o c).active ≡ (with_these t o (c ∷ [])).active
new_is t None c = refl
new_is t (Some own) c = refl

pub put_one : (shown : Shown) (txns new : Transactions) (session : ℕ) (c : Change) (these : List Change) (views : List OwnView) → these ≡ c ∷ [] → new ≡ with_new txns (transaction_of txns.active session) c
    → AreViews shown (with_these txns (transaction_of txns.active session) these).active views → AreViews shown new.active views
put_one shown txns new session c these views one is all =
    let active : (with_these txns (transaction_of txns.active session) these).active ≡ new.active =
    ap (λ (cs : List Change). (with_these txns (transaction_of txns.active session) cs).active) one ∙ sym (new_is txns (transaction_of txns.active session) c) ∙ ap (λ (t : Transactions). t.active) (sym is) in
    subst (λ (a : List Transaction). AreViews shown a views) active all

pub put_these : (shown : Shown) (txns new : Transactions) (session : ℕ) (items these : List Change) (views : List OwnView) → these ≡ items → new ≡ with_these txns (transaction_of txns.active session) items
    → AreViews shown (with_these txns (transaction_of txns.active session) these).active views → AreViews shown new.active views
put_these shown txns new session items these views same is all =
    let active : (with_these txns (transaction_of txns.active session) these).active ≡ new.active =
    ap (λ (cs : List Change). (with_these txns (transaction_of txns.active session) cs).active) same ∙ ap (λ (t : Transactions). t.active) (sym is) in
    subst (λ (a : List Transaction). AreViews shown a views) active all

-- the changes are not put after all, and the view goes
back_at : (shown : Shown) (txns : Transactions) (session : ℕ) (new : List Change) (views : List OwnView) (o : Option ℕ) → transaction_of txns.active session ≡ o → AreViews shown (with_these txns o new).active views → AreViews shown txns.active (other_views session views)
back_at shown txns session new views None e all = all_filter _ (λ (v : OwnView). not (v.session == session)) views all
back_at shown txns session new views (Some own) e all =
    let found = own_is txns.active session own e in
    let owner : (transaction_at txns.active own).session ≡ session = grind (arith, nat_tests) in
    others_again shown txns.active own session (with_changes new (transaction_at txns.active own).changes) views owner all

pub put_back : (shown : Shown) (txns left : Transactions) (session : ℕ) (new : List Change) (views gone : List OwnView) → left ≡ txns → gone ≡ other_views session views → AreViews shown (with_these txns (transaction_of txns.active session) new).active views → AreViews shown left.active gone
put_back shown txns left session new views gone same is all =
    subst (λ (t : Transactions). AreViews shown t.active gone) (sym same) (subst (AreViews shown txns.active) (sym is) (back_at shown txns session new views (transaction_of txns.active session) refl all))

-- ---- INSERT

-- the row that is due may be kept up with
pub insert_keeps : (shown : Shown) (schema : Schema) (txns : Transactions) (session table : ℕ) (values : List Value) (row : RowNo) (these : List Change) → IsTied shown schema txns → table < length schema.tables → inserting txns session table ≡ Ok row
    → these ≡ record { table = table; row = row; values = Some values } ∷ [] → IfSome (transaction_of txns.active session) (λ own. AllByRecursion (CanKeep shown (transaction_at txns.active own).base) these)
insert_keeps shown schema txns session table values row these tied there due is =
    let b = inserted_is txns session table values row _ (inserted_by txns session table values row due) in
    let low = ltb-false 999999 (calls.next_row txns.touched table) b.2 in
    let place : row.0 ≡ calls.next_row txns.touched table = ap (λ (r : RowNo). r.0) b.3 in
    by_place (transaction_of txns.active session) refl (omega (arith, low, place))
  where
    by_place : (o : Option ℕ) → transaction_of txns.active session ≡ o → row.0 < 4294967296 → IfSome o (λ own. AllByRecursion (CanKeep shown (transaction_at txns.active own).base) these)
    by_place None e low = tt
    by_place (Some own) e low =
        let count = tied.count in
        let snap = base_known shown txns.touched txns.active own (own_within txns.active session own e) tied.active in
        subst (AllByRecursion (CanKeep shown (transaction_at txns.active own).base)) (sym is) (record { read = record { there = omega (arith, count, there); snapshot = snap }; low = low }, tt)

-- a refusal of the first step of a chain is that of the chain
first_refused : {A B : Type 0} (r : Result A Refusal) (f : A → Result B Refusal) (e : Refusal) → r ≡ Err e → (r >>= f) ≡ Err e
first_refused r f e h = ap (λ x. x >>= f) h

-- so is that of its last test
last_refused : {A : Type 0} (r : Result A Refusal) (test : A → Result (Unit {0}) Refusal) (a : A) (e : Refusal) → r ≡ Ok a → test a ≡ Err e → (r >>= (λ x. test x >>= (λ u. Ok x))) ≡ Err e
last_refused r test a e is told = ap (λ x. x >>= (λ y. test y >>= (λ u. Ok y))) is ∙ ap (λ x. x >>= (λ u. Ok a)) told

-- a refusal stays one, whatever is answered where there is none
tested_as : {B C : Type 0} (r : Result (Unit {0}) Refusal) (b : B) (c : C) (e : Refusal) → (r >>= (λ u. Ok b)) ≡ Err e → (r >>= (λ u. Ok c)) ≡ Err e
tested_as (Ok u) b c e h = cc
tested_as (Err x) b c e h = let same : x ≡ e = cc in ap (λ y. Err y) same

refused_as : {A B C : Type 0} (r : Result A Refusal) (test : A → Result (Unit {0}) Refusal) (f : A → B) (g : A → C) (e : Refusal) → (r >>= (λ a. test a >>= (λ u. Ok (f a)))) ≡ Err e → (r >>= (λ a. test a >>= (λ u. Ok (g a)))) ≡ Err e
refused_as (Ok a) test f g e h = tested_as (test a) (f a) (g a) e h
refused_as (Err x) test f g e h = let same : x ≡ e = cc in ap (λ y. Err y) same

pub insert_fault : (shown : Shown) (schema : Schema) (t : Transactions) (session table : ℕ) (values : List Value) (fault : TxnFault) → IsFault (inserting t session table) fault → IsFault (inserted_alone shown schema t session table values) fault
insert_fault shown schema t session table values (Refused refusal) h = first_refused (calls.inserted t session table values) _ refusal (inserting_refused t session table values refusal h)
insert_fault shown schema t session table values NoMemory h = tt

-- what is tested of the row that is due
pub due_alone : (shown : Shown) (schema : Schema) (t : Transactions) (session table : ℕ) (values : List Value) (row : RowNo) (these : List Change) (r : Result (Unit {0}) Refusal) → these ≡ record { table = table; row = row; values = Some values } ∷ []
    → lone_over shown schema t session table these ≡ r → row_alone (db_of shown schema t []) session table values row ≡ r
due_alone shown schema t session table values row these r is h = ap (λ (cs : List Change). lone_over shown schema t session table cs) (sym is) ∙ h

pub rival_fault : (shown : Shown) (schema : Schema) (t : Transactions) (session table : ℕ) (values : List Value) (row : RowNo) (these : List Change) (fault : TxnFault) → these ≡ record { table = table; row = row; values = Some values } ∷ [] → inserting t session table ≡ Ok row
    → IsFault (lone_over shown schema t session table these) fault → IsFault (inserted_alone shown schema t session table values) fault
rival_fault shown schema t session table values row these (Refused refusal) is due h =
    last_refused (calls.inserted t session table values) (λ (more : RowNo × Transactions). row_alone (db_of shown schema t []) session table values more.0) _ refusal
    (inserted_by t session table values row due) (due_alone shown schema t session table values row these (Err refusal) is h)
rival_fault shown schema t session table values row these NoMemory is due h = tt

-- an INSERT that is refused over the store is refused by the database
pub insert_refused : (shown : Shown) (schema : Schema) (t : Transactions) (cursors : List Cursor) (session table : ℕ) (values : List Value) (refusal : Refusal) → inserted_alone shown schema t session table values ≡ Err refusal → inserted (db_of shown schema t cursors) session table values ≡ Err refusal
insert_refused shown schema t cursors session table values refusal h =
    refused_as (calls.inserted t session table values) (λ (more : RowNo × Transactions). row_alone (db_of shown schema t []) session table values more.0) (λ (more : RowNo × Transactions). more)
    (λ (more : RowNo × Transactions). (Inserted more.0, record (db_of shown schema t cursors) { transactions = more.1 })) refusal h

pub insert_done : (t new : Transactions) (session table : ℕ) (values : List Value) (row : RowNo) → inserting t session table ≡ Ok row → new ≡ with_new t (transaction_of t.active session) (record { table = table; row = row; values = Some values }) → calls.inserted t session table values ≡ Ok (row, new)
insert_done t new session table values row due is = inserted_by t session table values row due ∙ ap (λ (x : Transactions). Ok (row, x)) (sym is)

-- ---- UPDATE and DELETE

-- the changes of rows that were found are those of the rows that are met
pub found_due : (t : Transactions) (session table : ℕ) (only : List (List Atom)) (sets : Option (List (ℕ × Value))) (rows : ℕ → List Record) (own : Transaction) (found lent : List Record) (new : List Change) → writing t.active session ≡ Ok own → found ≡ calls.met own table only rows → lent ≡ found
    → changing_found t session table sets lent ≡ Ok new → changing t session table only sets rows ≡ Ok new
found_due t session table only sets rows own found lent new writes met same due = changing_met t session table only sets rows own lent writes (same ∙ met) ∙ due

pub found_fault : (t : Transactions) (session table : ℕ) (only : List (List Atom)) (sets : Option (List (ℕ × Value))) (rows : ℕ → List Record) (own : Transaction) (found lent : List Record) (fault : TxnFault) → writing t.active session ≡ Ok own → found ≡ calls.met own table only rows → lent ≡ found
    → IsFault (changing_found t session table sets lent) fault → IsFault (changing t session table only sets rows) fault
found_fault t session table only sets rows own found lent (Refused refusal) writes met same due = changing_met t session table only sets rows own lent writes (same ∙ met) ∙ due
found_fault t session table only sets rows own found lent NoMemory writes met same due = tt

-- the changes that are due may be kept up with
pub change_keeps : (shown : Shown) (schema : Schema) (txns : Transactions) (session table : ℕ) (only : List (List Atom)) (sets : Option (List (ℕ × Value))) (new these : List Change) → IsTied shown schema txns → IsStored shown → table < length schema.tables → changing txns session table only sets (shown.rows table) ≡ Ok new
    → these ≡ new → IfSome (transaction_of txns.active session) (λ own. AllByRecursion (CanKeep shown (transaction_at txns.active own).base) these)
change_keeps shown schema txns session table only sets new these tied stored there due is =
    let b = changing_is txns session table only sets (shown.rows table) new due in
    let t = transaction_at txns.active b.0 in
    let within = writer_within txns.active session b.0 b.1 in
    let count = tied.count in
    let here : table < shown.tables = omega (arith, count, there) in
    let met = calls.met t table only (shown.rows table) in
    let rows = all_filter (IsRow shown txns.touched table) (λ (r : Record). qualifies only r.values) (calls.seen t table (shown.rows table)) (seen_rows shown schema txns table b.0 tied stored there within) in
    let made = all_map (IsOwn shown txns.touched) (calls.change_of table sets) met (all_more (IsRow shown txns.touched table) (λ (r : Record). IsOwn shown txns.touched (calls.change_of table sets r)) (λ r a. row_change shown txns.touched table sets r here a) met rows) in
    let snap = base_known shown txns.touched txns.active b.0 within tied.active in
    let all : AllByRecursion (CanKeep shown t.base) (map (calls.change_of table sets) met) = all_more (IsOwn shown txns.touched) (CanKeep shown t.base) (λ c k. can_keep shown schema txns t.base c tied snap k) (map (calls.change_of table sets) met) made in
    subst (λ (o : Option ℕ). IfSome o (λ own. AllByRecursion (CanKeep shown (transaction_at txns.active own).base) these)) (sym b.3)
    (subst (AllByRecursion (CanKeep shown t.base)) (sym (is ∙ b.2)) all)

pub change_fault : (shown : Shown) (schema : Schema) (t : Transactions) (session table : ℕ) (only : List (List Atom)) (sets : Option (List (ℕ × Value))) (fault : TxnFault) → table < length schema.tables → IsFault (changing t session table only sets (shown.rows table)) fault → IsFault (changed_alone shown schema t session table sets only) fault
change_fault shown schema t session table only sets (Refused refusal) there h =
    first_refused (changed_over shown schema t session table sets only) _ refusal
    (rows_same shown schema t [] session table only sets (transaction_of t.active session) there refl ∙ changing_refused t session table only sets (shown.rows table) refusal h)
change_fault shown schema t session table only sets NoMemory there h = tt

-- the changes that are due are those of the rows that the session's transaction meets in the database
met_same : (shown : Shown) (schema : Schema) (t : Transactions) (table own : ℕ) (only : List (List Atom)) (sets : Option (List (ℕ × Value))) → table < length schema.tables → own < length t.active
    → changes_met (db_of shown schema t []) table sets only own ≡ map (calls.change_of table sets) (calls.met (transaction_at t.active own) table only (shown.rows table))
met_same shown schema t table own only sets there within =
    ap (λ (rows : List Record). map (calls.change_of table sets) (filter (λ (r : Record). qualifies only r.values) (rows_with_changes table (transaction_at t.active own).changes rows)))
    (base_at shown (length schema.tables) table t.active own within there)

-- what is tested of them
pub these_alone : (shown : Shown) (schema : Schema) (t : Transactions) (session table : ℕ) (only : List (List Atom)) (sets : Option (List (ℕ × Value))) (new these : List Change) (r : Result (Unit {0}) Refusal) → table < length schema.tables → these ≡ new
    → changing t session table only sets (shown.rows table) ≡ Ok new → lone_over shown schema t session table these ≡ r → rows_alone (db_of shown schema t []) session table sets only ≡ r
these_alone shown schema t session table only sets new these r there is due h =
    let b = changing_is t session table only sets (shown.rows table) new due in
    let same : changes_met (db_of shown schema t []) table sets only b.0 ≡ these = met_same shown schema t table b.0 only sets there (writer_within t.active session b.0 b.1) ∙ sym b.2 ∙ sym is in
    ap (λ (o : Option ℕ). no_rivals_of (db_of shown schema t []) session o table (changes_met (db_of shown schema t []) table sets only)) b.3
    ∙ ap (λ (cs : List Change). no_rivals_of (db_of shown schema t []) session (Some b.0) table (λ own. cs)) same
    ∙ ap (λ (o : Option ℕ). no_rivals_of (db_of shown schema t []) session o table (λ own. these)) (sym b.3)
    ∙ h

pub rivals_fault : (shown : Shown) (schema : Schema) (t : Transactions) (session table : ℕ) (only : List (List Atom)) (sets : Option (List (ℕ × Value))) (new these : List Change) (fault : TxnFault) → table < length schema.tables → these ≡ new
    → changing t session table only sets (shown.rows table) ≡ Ok new → IsFault (lone_over shown schema t session table these) fault → IsFault (changed_alone shown schema t session table sets only) fault
rivals_fault shown schema t session table only sets new these (Refused refusal) there is due h =
    last_refused (changed_over shown schema t session table sets only) (λ (done : ℕ × Transactions). rows_alone (db_of shown schema t []) session table sets only) _ refusal
    (rows_same shown schema t [] session table only sets (transaction_of t.active session) there refl ∙ changed_by t session table only sets (shown.rows table) new due)
    (these_alone shown schema t session table only sets new these (Err refusal) there is due h)
rivals_fault shown schema t session table only sets new these NoMemory there is due h = tt

-- so is an UPDATE or a DELETE
pub change_refused : (shown : Shown) (schema : Schema) (t : Transactions) (cursors : List Cursor) (session table : ℕ) (only : List (List Atom)) (sets : Option (List (ℕ × Value))) (refusal : Refusal) → changed_alone shown schema t session table sets only ≡ Err refusal → changed (db_of shown schema t cursors) session table sets only ≡ Err refusal
change_refused shown schema t cursors session table only sets refusal h =
    refused_as (changed_over shown schema t session table sets only) (λ (done : ℕ × Transactions). rows_alone (db_of shown schema t []) session table sets only) (λ (done : ℕ × Transactions). done)
    (λ (done : ℕ × Transactions). (Touched done.0, record (db_of shown schema t cursors) { transactions = done.1 })) refusal h

pub change_done : (t left : Transactions) (session table count : ℕ) (only : List (List Atom)) (sets : Option (List (ℕ × Value))) (rows : ℕ → List Record) (new : List Change) → changing t session table only sets rows ≡ Ok new → count ≡ length new → left ≡ with_these t (transaction_of t.active session) new
    → calls.changed t session table only sets rows ≡ Ok (count, left)
change_done t left session table count only sets rows new due long is = changed_by t session table only sets rows new due ∙ (λ i. Ok (sym long i, sym is i))

-- ---- OPEN

-- what is frozen of the session's transaction is what changes make that it may make
viewed_by : (shown : Shown) (schema : Schema) (txns : Transactions) (session base : ℕ) (t : Transaction) (frozen : Option Frozen) → t.base ≡ base → AllByRecursion (IsOwn shown txns.touched) t.changes → Freezes shown t frozen → IfSome frozen (IsViewed shown txns.touched base)
viewed_by shown schema txns session base t None at own h = tt
viewed_by shown schema txns session base t (Some f) at own h = record {
  base = h.base ∙ at;
  rows_written = h.written;
  keeps = h.keeps;
  changes = subst (AllByRecursion (IsOwn shown txns.touched)) (sym h.changes) own;
}

pub frozen_viewed : (shown : Shown) (schema : Schema) (txns : Transactions) (session base own : ℕ) (frozen : Option Frozen) → IsTied shown schema txns → transaction_of txns.active session ≡ Some own → (transaction_at txns.active own).base ≡ base
    → IfSome (transaction_of txns.active session) (λ own. Freezes shown (transaction_at txns.active own) frozen) → IfSome frozen (IsViewed shown txns.touched base)
frozen_viewed shown schema txns session base own frozen tied e at h =
    let here : Freezes shown (transaction_at txns.active own) frozen = subst (λ (o : Option ℕ). IfSome o (λ own. Freezes shown (transaction_at txns.active own) frozen)) e h in
    viewed_by shown schema txns session base (transaction_at txns.active own) frozen at (own_changes shown txns.touched txns.active own tied.active) here

pub frozen_owned : (shown : Shown) (active : List Transaction) (session : ℕ) (t : Transaction) (frozen : Option Frozen) → Owns active session t → Freezes shown t frozen → IfSome (transaction_of active session) (λ own. Freezes shown (transaction_at active own) frozen)
frozen_owned shown active session t frozen own h = some_owned active session t (λ own. Freezes shown (transaction_at active own) frozen) own (subst (λ (u : Transaction). Freezes shown u frozen) (sym own.here) h)

-- of a cursor that may be opened at the transaction's base
pub opens_viewed : (shown : Shown) (schema : Schema) (txns : Transactions) (cursors : List Cursor) (session base : ℕ) (name : List ℕ) (frozen : Option Frozen) → IsTied shown schema txns → opening_base txns.active cursors session name ≡ Ok base
    → IfSome (transaction_of txns.active session) (λ own. Freezes shown (transaction_at txns.active own) frozen) → IfSome frozen (IsViewed shown txns.touched base)
opens_viewed shown schema txns cursors session base name frozen tied h freezes =
    let o = opening_is txns.active cursors session base name h in
    frozen_viewed shown schema txns session base o.0 frozen tied o.2 o.3 freezes

-- the rows of a table in the transaction's view
pub read_owned : (shown : Shown) (schema : Schema) (txns : Transactions) (cursors : List Cursor) (session table : ℕ) (t : Transaction) (rows : List Record) → table < length schema.tables → Owns txns.active session t → rows ≡ calls.seen t table (shown.rows table)
    → rows ≡ rows_viewed (db_of shown schema txns cursors) (transaction_of txns.active session) table
read_owned shown schema txns cursors session table t rows there own is =
    view_read shown schema txns cursors session table own.place rows own.at there (subst (λ (u : Transaction). rows ≡ rows_with_changes table u.changes (shown.rows table u.base)) (sym own.here) is)
