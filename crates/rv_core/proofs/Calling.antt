-- What the methods of a database owe, from what the calls below them say.
use Rattle.std.proofs.Common.{◌≡◌, ℕ, ◌-◌, ◌<◌, ◌≤◌, List, [], ◌∷◌, ◌++◌, refl, ap, sym, ◌∙◌, subst, arith, length, length-append, Result, Ok, Err, IfSome, Option, Some, None, true, false, nat_lt, is_some}
use Rattle.std.specs.List.{AllByRecursion, list_all, slice_index_or}
use Rattle.std.proofs.lemmas.Bool.Decides.{nat_tests}
use Rattle.std.proofs.lemmas.Bool.{and_parts, ltb-true}
use Rattle.rv_value.specs.declared.record.Record.{Record}
use Rattle.rv_value.proofs.Tests.{some_at}
use Rattle.rv_rows.specs.declared.changes.Change.{Change}
use Rattle.rv_rows.specs.Changes.{Rise, rows_with_changes}
use Rattle.rv_overlay.specs.declared.frozen.Frozen.{Frozen}
use Rattle.rv_cursor.specs.declared.cursor.Open.{Open}
use Rattle.rv_cursor.specs.Left.{seen_at, seen_by}
use Rattle.rv_own.specs.Views.{Freezes}
use Rattle.rv_core.proofs.Plans.{reads_all}
use Rattle.rv_core.proofs.Viewing.{seen_view}
use Rattle.rv_lang.specs.declared.reply.Refusal.{Refusal}
use Rattle.rv_lang.specs.declared.reply.Refusal.TheVariants.{NoTransaction, CursorOpen, Limit}
use Rattle.rv_lang.specs.declared.reply.Which.TheVariants.{Cursors}
use Rattle.rv_lang.specs.declared.reply.Reply.{Reply}
use Rattle.rv_lang.specs.declared.reply.Reply.TheVariants.{Created, Committed, Opened, RolledBack, Refused}
use Rattle.rv_catalog.specs.declared.def.TableDef.{TableDef}
use Rattle.rv_catalog.specs.declared.def.Select.{Select}
use Rattle.rv_catalog.specs.Answers.{◌>>=◌, ok_or, refuse_if}
use Rattle.rv_catalog.proofs.Steps.{answer, bind_ok, ok_is, was_some}
use Rattle.rv_catalog.specs.Kept.{indexes_over}
use Rattle.rv_catalog.specs.Schema.{Schema}
use Rattle.rv_reader.specs.Shown.{Shown, CanRead, IsSnapshot}
use Rattle.rv_reader.specs.Storing.{IsSame, CanCommit, Created as CreatedIn}
use Rattle.rv_model.specs.declared.state.State.{State}
use Rattle.rv_model.specs.declared.state.Cursor.{Cursor}
use Rattle.rv_model.specs.declared.transactions.Transaction.{Transaction}
use Rattle.rv_model.specs.declared.transactions.Transactions.{Transactions}
use Rattle.rv_model.specs.Database.{cursor_named, rows_at}
use Rattle.rv_model.specs.Offering.{offers_over}
use Rattle.rv_catalog.specs.Fits.{is_column}
use Rattle.rv_model.specs.Offers.{offers_in_order}
use Rattle.rv_model.specs.Transactions.{transaction_of, transaction_at, done, lowest}
use Rattle.rv_model.specs.Step.{committed, created, opened, opening, other_cursors, own_cursors, rolled_back, rows_viewed, table_of, view_rows}
use Rattle.rv_txn.specs.Calls.{finished, rolled_back as undone}
use Rattle.rv_core.specs.Db.{bases_of, db_of, stand_of, view_at, IsOwn, IsTied}
use Rattle.rv_core.specs.Doing.{Does, opening_base}
use Rattle.rv_core.specs.Storing.{CommitsTo}
use Rattle.rv_core.proofs.Choosing.{offers_same}
use Rattle.rv_core.proofs.Images.{base_at}
use Rattle.rv_core.proofs.Tied.{changes_fit, own_changes, tied_committed, tied_created, tied_done, tied_same, tied_without}
use Rattle.rv_core.proofs.Standing.{base_known, db_committed, db_rolled_back, finished_is, own_within, rolled_is, stand_created, stand_same}

-- CREATE TABLE

-- a table that was added is taken away where no index is over it
pub undo_alone : (old new : Schema) (def : TableDef) → new ≡ record old { tables = old.tables ++ def ∷ [] } → indexes_over (length old.tables) old.indexes ≡ 0 → indexes_over (length new.tables - 1) new.indexes ≡ 0
undo_alone old new def is none =
    let count : length (old.tables ++ def ∷ []) - 1 ≡ length old.tables = last_place old.tables def in
    rw (is, count) none
  where
    last_place : {X : Type 0} (xs : List X) (x : X) → length (xs ++ x ∷ []) - 1 ≡ length xs
    last_place xs x = let e = length-append xs (x ∷ []) in omega arith

pub creates_tied : (old new : Shown) (schema left : Schema) (def : TableDef) (txns : Transactions) → lowest txns.active ≡ None → left ≡ record schema { tables = schema.tables ++ def ∷ [] } → CreatedIn old new (length def.columns) → IsTied old schema txns → IsTied new left txns
creates_tied old new schema left def txns idle is more tied = rw is (tied_created old new schema def txns idle more tied)

pub creates : (old new : Shown) (schema left : Schema) (def : TableDef) (txns : Transactions) (cursors : List Cursor) → lowest txns.active ≡ None → nat_lt 63 (length schema.tables) ≡ false → left ≡ record schema { tables = schema.tables ++ def ∷ [] } → CreatedIn old new (length def.columns) → IsTied old schema txns
    → Does (created (db_of old schema txns cursors) def) (stand_of old schema txns cursors) (Created, Created) (stand_of new left txns cursors)
creates old new schema left def txns cursors idle room is more tied =
    let stand = stand_created old new schema def txns cursors idle tied more in
    rw (idle, room, is, stand) (refl, refl, refl)

-- nothing was added
pub same_tied : (old new : Shown) (schema left : Schema) (txns : Transactions) → left ≡ schema → IsSame old new → IsTied old schema txns → IsTied new left txns
same_tied old new schema left txns is same tied = rw is (tied_same old new schema txns same tied)

pub same_stand : (old new : Shown) (schema left : Schema) (txns : Transactions) (cursors : List Cursor) → left ≡ schema → IsSame old new → IsTied old schema txns → stand_of new left txns cursors ≡ stand_of old schema txns cursors
same_stand old new schema left txns cursors is same tied = rw is (stand_same old new schema txns cursors tied same)

-- COMMIT

pub can_commit : (shown : Shown) (schema : Schema) (txns : Transactions) (session n base : ℕ) (changes : List Change) → IsTied shown schema txns → finished txns session ≡ Ok (n, base, changes) → Rise changes → CanCommit shown changes
can_commit shown schema txns session n base changes tied h rise =
    let f = finished_is txns session n base changes h in
    record { rise = rise; each = rw (← f.3) (changes_fit shown schema txns f.0 tied) }

pub commits_tied : (old new : Shown) (schema : Schema) (txns left : Transactions) (session n base c : ℕ) (changes : List Change) → IsTied old schema txns → finished txns session ≡ Ok (n, base, changes) → CommitsTo old new base changes c → IfSome (transaction_of txns.active session) (λ own. left ≡ done txns own c) → IsTied new schema left
commits_tied old new schema txns left session n base c changes tied h told is =
    let f = finished_is txns session n base changes h in
    let at = some_at (λ own. left ≡ done txns own c) (transaction_of txns.active session) f.0 f.1 is in
    let owns = own_changes old txns.touched txns.active f.0 tied.active in
    rw at (tied_done new schema txns f.0 c (by_changes changes (rw f.3 at owns) told))
  where
    by_changes : (cs : List Change) → AllByRecursion (IsOwn old txns.touched) cs → CommitsTo old new base cs c → IsTied new schema txns
    by_changes [] owns told = rw told.0 tied
    by_changes (x ∷ xs) owns told = tied_committed old new schema txns (x ∷ xs) owns told.0 tied

pub commits_does : (old new : Shown) (schema : Schema) (txns left : Transactions) (cursors others : List Cursor) (session n base c : ℕ) (changes : List Change) → IsTied old schema txns → finished txns session ≡ Ok (n, base, changes) → CommitsTo old new base changes c → IfSome (transaction_of txns.active session) (λ own. left ≡ done txns own c) → others ≡ other_cursors cursors session
    → Does (committed (db_of old schema txns cursors) session) (stand_of old schema txns cursors) (Committed c, Committed c) (stand_of new schema left others)
commits_does old new schema txns left cursors others session n base c changes tied h told is kept =
    let f = finished_is txns session n base changes h in
    let at = some_at (λ own. left ≡ done txns own c) (transaction_of txns.active session) f.0 f.1 is in
    rw (at, kept) (db_committed old new schema txns cursors session f.0 base c changes tied f.1 f.3 f.2 told)

-- ROLLBACK

pub rolls_tied : (shown : Shown) (schema : Schema) (txns left : Transactions) (session : ℕ) → undone txns session ≡ Ok left → IsTied shown schema txns → IsTied shown schema left
rolls_tied shown schema txns left session h tied = let r = rolled_is txns left session h in rw r.2 (tied_without shown schema txns r.0 tied)

pub rolls_does : (shown : Shown) (schema : Schema) (txns left : Transactions) (cursors others : List Cursor) (session : ℕ) → undone txns session ≡ Ok left → others ≡ other_cursors cursors session
    → Does (rolled_back (db_of shown schema txns cursors) session) (stand_of shown schema txns cursors) (RolledBack, RolledBack) (stand_of shown schema left others)
rolls_does shown schema txns left cursors others session h kept =
    let r = rolled_is txns left session h in
    rw (r.2, kept) (db_rolled_back shown schema txns cursors session r.0 r.1)

-- OPEN

-- the session's transaction in a place may open, and this is its base
pub opening_is : (active : List Transaction) (cursors : List Cursor) (session base : ℕ) (name : List ℕ) → opening_base active cursors session name ≡ Ok base
    → (own : ℕ) × (opening active cursors session name ≡ Ok own) × (transaction_of active session ≡ Some own) × ((transaction_at active own).base ≡ base)
opening_is active cursors session base name h =
    let o = bind_ok (opening active cursors session name) _ base h in
    let t = bind_ok (ok_or (transaction_of active session) NoTransaction) _ o.0 o.1 in
    let free = bind_ok (refuse_if (is_some (cursor_named cursors session name)) (CursorOpen name)) _ o.0 t.2 in
    let room = bind_ok (refuse_if (nat_lt 15 (length (own_cursors cursors session))) (Limit Cursors 16)) _ o.0 free.2 in
    let same : t.0 ≡ o.0 = ok_is t.0 o.0 room.2 in
    let found : transaction_of active session ≡ Some o.0 = was_some (transaction_of active session) NoTransaction t.0 t.1 ∙ ap (λ (n : ℕ). Some n) same in
    (o.0, o.1, found, ok_is (transaction_at active o.0).base base o.2)

opening_err : (r : Result ℕ Refusal) (f : ℕ → ℕ) (refusal : Refusal) → (r >>= (λ n. answer (f n))) ≡ Err refusal → r ≡ Err refusal
opening_err (Ok n) f refusal h = cc
opening_err (Err e) f refusal h = let same : e ≡ refusal = cc in rw same refl

pub opens_err : (s : State) (session : ℕ) (name : List ℕ) (select : Select) (refusal : Refusal) → opening_base s.transactions.active s.cursors session name ≡ Err refusal → opened s session name select ≡ Err refusal
opens_err s session name select refusal h =
    let e = opening_err (opening s.transactions.active s.cursors session name) (λ own. (transaction_at s.transactions.active own).base) refusal h in
    rw e refl

pub opens_refused : (shown : Shown) (schema : Schema) (txns : Transactions) (cursors : List Cursor) (session : ℕ) (name : List ℕ) (select : Select) (refusal : Refusal) (replies : Reply × Reply) → opening_base txns.active cursors session name ≡ Err refusal → (replies.0 ≡ Refused refusal) × (replies.1 ≡ Refused refusal)
    → Does (opened (db_of shown schema txns cursors) session name select) (stand_of shown schema txns cursors) replies (stand_of shown schema txns cursors)
opens_refused shown schema txns cursors session name select refusal replies h made =
    let e = opens_err (db_of shown schema txns cursors) session name select refusal h in
    rw e (made.1 ∙ sym made.0, made.0, refl)

pub opening_snapshot : (shown : Shown) (schema : Schema) (txns : Transactions) (cursors : List Cursor) (session base : ℕ) (name : List ℕ) → IsTied shown schema txns → opening_base txns.active cursors session name ≡ Ok base → IsSnapshot shown base
opening_snapshot shown schema txns cursors session base name tied h =
    let o = opening_is txns.active cursors session base name h in
    rw (← o.3) (base_known shown txns.touched txns.active o.0 (own_within txns.active session o.0 o.2) tied.active)

-- the rows of tables at the base of a transaction
rows_agree : (shown : Shown) (count own base : ℕ) (active : List Transaction) (tables : List ℕ) → own < length active → (transaction_at active own).base ≡ base → list_all (is_column count) tables ≡ true → AllByRecursion (λ (t : ℕ). rows_at (slice_index_or (bases_of shown count active) own []) t ≡ shown.rows t base) tables
rows_agree shown count own base active [] within at there = tt
rows_agree shown count own base active (t ∷ ts) within at there =
    let parts = and_parts (is_column count t) (list_all (is_column count) ts) there in
    (base_at shown count t active own within (ltb-true t count parts.0) ∙ ap (λ (b : ℕ). shown.rows t b) at, rows_agree shown count own base active ts within at parts.1)

-- the view of a transaction is what was frozen of it over the store's rows
frozen_rows : (shown : Shown) (base table : ℕ) (t : Transaction) (frozen : Option Frozen) (rows : List Record) → rows ≡ shown.rows table base → Freezes shown t frozen → rows_with_changes table t.changes rows ≡ view_at shown base frozen table
frozen_rows shown base table t None rows e none = ap (λ (cs : List Change). rows_with_changes table cs rows) none ∙ e
frozen_rows shown base table t (Some f) rows e is = ap (λ (cs : List Change). rows_with_changes table cs rows) (sym is.changes) ∙ ap (rows_with_changes table f.changes) e

view_agree : (shown : Shown) (count own base : ℕ) (active : List Transaction) (frozen : Option Frozen) (tables : List ℕ) → own < length active → (transaction_at active own).base ≡ base → Freezes shown (transaction_at active own) frozen → list_all (is_column count) tables ≡ true
    → AllByRecursion (λ (t : ℕ). rows_with_changes t (transaction_at active own).changes (rows_at (slice_index_or (bases_of shown count active) own []) t) ≡ view_at shown base frozen t) tables
view_agree shown count own base active frozen tables within at freezes there = all_each tables (rows_agree shown count own base active tables within at there)
  where
    all_each : (ts : List ℕ) → AllByRecursion (λ (t : ℕ). rows_at (slice_index_or (bases_of shown count active) own []) t ≡ shown.rows t base) ts
        → AllByRecursion (λ (t : ℕ). rows_with_changes t (transaction_at active own).changes (rows_at (slice_index_or (bases_of shown count active) own []) t) ≡ view_at shown base frozen t) ts
    all_each [] a = tt
    all_each (t ∷ ts) a = (frozen_rows shown base t (transaction_at active own) frozen (rows_at (slice_index_or (bases_of shown count active) own []) t) a.0 freezes, all_each ts a.1)

frozen_base : (shown : Shown) (base : ℕ) (t : Transaction) (frozen : Option Frozen) → t.base ≡ base → Freezes shown t frozen → IfSome frozen (λ (f : Frozen). f.base ≡ base)
frozen_base shown base t None e h = tt
frozen_base shown base t (Some f) e h = h.base ∙ e

sees_view : (shown : Shown) (schema : Schema) (txns : Transactions) (cursors : List Cursor) (base own : ℕ) (frozen : Option Frozen) (ts : List ℕ) → IfSome frozen (λ (f : Frozen). f.base ≡ base)
    → AllByRecursion (λ (t : ℕ). view_rows (db_of shown schema txns cursors) own t ≡ view_at shown base frozen t) ts → AllByRecursion (λ (t : ℕ). CanRead shown t base) ts
    → AllByRecursion (λ (t : ℕ). (seen_at shown base frozen).rows t base ≡ view_rows (db_of shown schema txns cursors) own t) ts
sees_view shown schema txns cursors base own frozen [] at a can = tt
sees_view shown schema txns cursors base own frozen (t ∷ ts) at a can = (seen_view shown base t frozen can.0 at ∙ sym a.0, sees_view shown schema txns cursors base own frozen ts at a.1 can.1)

-- what the session sees of tables in the view of its transaction
pub opened_rows : (shown : Shown) (schema : Schema) (txns : Transactions) (cursors : List Cursor) (session base : ℕ) (name tables : List ℕ) (frozen : Option Frozen) (c : Open) → IsTied shown schema txns → opening_base txns.active cursors session name ≡ Ok base → c.snap ≡ base → c.frozen ≡ frozen → IfSome (transaction_of txns.active session) (λ (own : ℕ). Freezes shown (transaction_at txns.active own) frozen) → list_all (is_column (length schema.tables)) tables ≡ true
    → AllByRecursion (λ (t : ℕ). (seen_by shown c).rows t c.snap ≡ rows_viewed (db_of shown schema txns cursors) (transaction_of txns.active session) t) tables
opened_rows shown schema txns cursors session base name tables frozen c tied h at over freezes there =
    let db = db_of shown schema txns cursors in
    let o = opening_is txns.active cursors session base name h in
    let own_freezes : Freezes shown (transaction_at txns.active o.0) frozen = subst (λ (p : Option ℕ). IfSome p (λ (own : ℕ). Freezes shown (transaction_at txns.active own) frozen)) o.2 freezes in
    let agree = view_agree shown (length schema.tables) o.0 base txns.active frozen tables (own_within txns.active session o.0 o.2) o.3 own_freezes there in
    let reads = reads_all shown schema txns base tables tied there (opening_snapshot shown schema txns cursors session base name tied h) in
    let sees = sees_view shown schema txns cursors base o.0 frozen tables (frozen_base shown base (transaction_at txns.active o.0) frozen o.3 own_freezes) agree reads in
    subst (λ (f : Option Frozen). AllByRecursion (λ (t : ℕ). (seen_at shown c.snap f).rows t c.snap ≡ rows_viewed db (transaction_of txns.active session) t) tables) (sym over)
    (subst (λ (n : ℕ). AllByRecursion (λ (t : ℕ). (seen_at shown n frozen).rows t n ≡ rows_viewed db (transaction_of txns.active session) t) tables) (sym at)
    (subst (λ (p : Option ℕ). AllByRecursion (λ (t : ℕ). (seen_at shown base frozen).rows t base ≡ rows_viewed db p t) tables) (sym o.2) sees))

pub opens_does : (shown : Shown) (schema : Schema) (txns : Transactions) (cursors more : List Cursor) (session base : ℕ) (name : List ℕ) (select : Select) (frozen : Option Frozen) → opening_base txns.active cursors session name ≡ Ok base → list_all (is_column (length schema.tables)) select.tables ≡ true
    → IfSome (transaction_of txns.active session) (λ (own : ℕ). Freezes shown (transaction_at txns.active own) frozen)
    → more ≡ cursors ++ record { session = session; name = name; table = table_of select; offers = offers_in_order (offers_over select (view_at shown base frozen)) } ∷ []
    → Does (opened (db_of shown schema txns cursors) session name select) (stand_of shown schema txns cursors) (Opened, Opened) (stand_of shown schema txns more)
opens_does shown schema txns cursors more session base name select frozen h there freezes pushed =
    let o = opening_is txns.active cursors session base name h in
    let own_freezes : Freezes shown (transaction_at txns.active o.0) frozen = subst (λ (p : Option ℕ). IfSome p (λ (own : ℕ). Freezes shown (transaction_at txns.active own) frozen)) o.2 freezes in
    let agree = view_agree shown (length schema.tables) o.0 base txns.active frozen select.tables (own_within txns.active session o.0 o.2) o.3 own_freezes there in
    let same : offers_over select (view_rows (db_of shown schema txns cursors) o.0) ≡ offers_over select (view_at shown base frozen) = offers_same select (view_rows (db_of shown schema txns cursors) o.0) (view_at shown base frozen) agree in
    rw (pushed, o.1, same) (refl, refl, refl)

pub low_room : (n m : ℕ) → m ≡ n → m ≤ 63 → nat_lt 63 n ≡ false
low_room n m e h = grind (arith, nat_tests)

-- what the session's transaction reads

pub view_read : (shown : Shown) (schema : Schema) (txns : Transactions) (cursors : List Cursor) (session table : ℕ) (own : ℕ) (rows : List Record) → transaction_of txns.active session ≡ Some own → table < length schema.tables → rows ≡ rows_with_changes table (transaction_at txns.active own).changes (shown.rows table (transaction_at txns.active own).base)
    → rows ≡ rows_viewed (db_of shown schema txns cursors) (transaction_of txns.active session) table
view_read shown schema txns cursors session table own rows e there read =
    let at = base_at shown (length schema.tables) table txns.active own (own_within txns.active session own e) there in
    rw e (read ∙ ap (rows_with_changes table (transaction_at txns.active own).changes) (sym at))
