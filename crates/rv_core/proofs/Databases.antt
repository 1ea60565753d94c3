-- What the calls below a database's methods leave of all that it keeps.
use Rattle.std.proofs.Common.{◌≡◌, ℕ, ◌+◌, ◌<◌, List, [], ◌∷◌, ◌++◌, ◌==◌, refl, ap, sym, ◌∙◌, subst, Bool, true, false, not, filter, length, remove, Ok, IfSome, Option, Some, None, nat_lt, slice_get, slice_set}
use Rattle.std.specs.List.{AllByRecursion}
use Rattle.std.proofs.lemmas.List.Quantifiers.{position-Some}
use Rattle.rv_value.proofs.Lists.{all_append, all_filter, all_got, all_more, all_remove}
use Rattle.rv_value.specs.declared.value.Value.{Value}
use Rattle.rv_value.specs.declared.record.RowNo.{RowNo}
use Rattle.rv_value.proofs.Tests.{some_at}
use Rattle.rv_value.proofs.Places.{get_there}
use Rattle.rv_rows.specs.declared.changes.Change.{Change}
use Rattle.rv_judge.specs.declared.events.Trace.{Trace as RanTrace}
use Rattle.rv_judge.specs.Runs.{Allowed}
use Rattle.rv_lang.specs.declared.reply.Reply.{Reply}
use Rattle.rv_lang.specs.declared.reply.Reply.TheVariants.{Created, Committed, Opened, Refused, RolledBack, Trace}
use Rattle.rv_lang.specs.declared.reply.Refusal.{Refusal}
use Rattle.rv_lang.specs.declared.reply.Shown.{Shown as Told}
use Rattle.rv_model.specs.Database.{cursor_named}
use Rattle.rv_model.specs.Showing.{ShowsTrace, shown_trace}
use Rattle.rv_catalog.specs.declared.def.Select.{Select}
use Rattle.rv_join.specs.Asking.{IsAsked, indexes_from, item_at}
use Rattle.rv_join.specs.Plans.{PlanFits, PlanStays, Planned, numbers_of, plan_trace}
use Rattle.rv_cursor.specs.Left.{CursorFits, SameCursor, Stays as CursorStays, seen_by}
use Rattle.rv_cursor.proofs.Holding.{piece_stays}
use Rattle.rv_core.proofs.Showing.{shows_trace}
use Rattle.rv_catalog.specs.declared.def.IndexDef.{IndexDef}
use Rattle.rv_catalog.specs.declared.def.TableDef.{TableDef}
use Rattle.rv_catalog.specs.Kept.{indexes_over}
use Rattle.rv_catalog.specs.Schema.{Schema, width}
use Rattle.rv_reader.specs.Shown.{Shown}
use Rattle.rv_reader.specs.Storing.{IsSame, IsStored, Stays, Swept, Created as CreatedIn, Indexed as IndexedIn}
use Rattle.rv_model.specs.declared.state.Cursor.{Cursor}
use Rattle.rv_model.specs.declared.transactions.Transaction.{Transaction}
use Rattle.rv_model.specs.declared.transactions.Transactions.{Transactions}
use Rattle.rv_model.specs.Transactions as calls
use Rattle.rv_model.specs.Transactions.{done, horizon, lowest, no_transaction, no_transactions, transaction_at, transaction_of, with_own}
use Rattle.rv_model.specs.Step.{committed, created, indexed, rolled_back, rows_differ, rows_seen}
use Rattle.rv_txn.specs.Calls.{finished, rolled_back as undone}
use Rattle.rv_cursor.specs.declared.cursor.Open.{Open}
use Rattle.rv_core.specs.Db.{base_of, own_opens, AreListed, IsOpen, IsStanding, IsTied, db_of, seen, stand_of, whole_of}
use Rattle.rv_core.specs.Doing.{Does, Shows, opening_base}
use Rattle.rv_core.specs.Obeying.{SeesSame, TellsPlan}
use Rattle.rv_own.proofs.Bases.{base_found}
use Rattle.rv_core.specs.Storing.{CommitsTo, changed_over}
use Rattle.rv_restrict.specs.declared.atom.Atom.{Atom}
use Rattle.rv_core.proofs.Calling.{commits_does, commits_tied, creates, creates_tied, opening_is, rolls_does, rolls_tied, same_stand}
use Rattle.rv_core.proofs.Indexing.{indexes_does, indexes_tied}
use Rattle.rv_core.proofs.Keeping.{Kept, SameBases, all_seen, begun_bases, kept_committed, kept_same, kept_swept, none_open, opens_over, opens_stay, others_bases, same_bases, sees_kept, sees_none, with_bases}
use Rattle.rv_core.proofs.Numbering.{listed_filter, listed_push, listed_remove, listed_set, none_listed}
use Rattle.rv_core.proofs.Opens.{at_seen, opens_at, others_seen}
use Rattle.rv_core.proofs.Standing.{begun_is, finished_is, inserted_is, rolled_is, stand_swept, tied_began, tied_inserted, calls_made, changed_is, fresh_tied}
use Rattle.rv_core.proofs.Tied.{none_lowest, tied_same, tied_swept}

abbrev others : List Open → ℕ → List Open
others cs session = filter (λ (c : Open). not (c.session == session)) cs

-- no table, no commit, no transaction, no cursor
pub fresh_standing : (shown : Shown) → shown.tables ≡ 0 → IsStored shown → IsStanding shown (record { tables = []; indexes = [] }) no_transactions [] 1
fresh_standing shown none stored = record { tied = fresh_tied shown none stored; opens = tt; listed = none_listed }

-- A store that shows the same.

pub standing_same : (old new : Shown) (schema left : Schema) (txns : Transactions) (cs : List Open) (n : ℕ) → left ≡ schema → IsSame old new → IsStanding old schema txns cs n → IsStanding new left txns cs n
standing_same old new schema left txns cs n is same h =
    let after = tied_same old new schema txns same h.tied in
    rw is record {
      tied = after;
      opens = opens_stay old new schema txns txns cs (kept_same old new same) h.tied after (same_bases txns.active cs) h.opens;
      listed = h.listed;
    }

pub stand_again : (old new : Shown) (schema left : Schema) (txns : Transactions) (cs : List Open) (n : ℕ) → left ≡ schema → IsSame old new → IsStanding old schema txns cs n → stand_of new left txns (seen new cs) ≡ stand_of old schema txns (seen old cs)
stand_again old new schema left txns cs n is same h =
    let after = tied_same old new schema txns same h.tied in
    let again = all_seen old new schema txns txns cs (kept_same old new same) h.tied after (same_bases txns.active cs) h.opens in
    rw again (same_stand old new schema left txns (seen old cs) is same h.tied)

pub sees_again : (old new : Shown) (schema : Schema) (txns : Transactions) (cs : List Open) (n : ℕ) → IsSame old new → IsStanding old schema txns cs n → SeesSame old new cs
sees_again old new schema txns cs n same h = sees_kept old new schema schema txns txns cs (kept_same old new same) h.tied (tied_same old new schema txns same h.tied) (same_bases txns.active cs) h.opens

-- Where no transaction is active no cursor is open.

pub idle_sees : (old new : Shown) (schema : Schema) (txns : Transactions) (cs : List Open) (n : ℕ) → lowest txns.active ≡ None → IsStanding old schema txns cs n → SeesSame old new cs
idle_sees old new schema txns cs n idle h = sees_none old new cs (none_open old schema txns.active cs (none_lowest txns.active idle) h.opens)

idle_opens : (old new : Shown) (schema left : Schema) (active : List Transaction) (cs : List Open) → lowest active ≡ None → AllByRecursion (IsOpen old schema active) cs → AllByRecursion (IsOpen new left active) cs
idle_opens old new schema left active cs idle h =
    let none : cs ≡ [] = none_open old schema active cs (none_lowest active idle) h in
    rw none tt

idle_seen : (old new : Shown) (schema : Schema) (active : List Transaction) (cs : List Open) → lowest active ≡ None → AllByRecursion (IsOpen old schema active) cs → seen new cs ≡ seen old cs
idle_seen old new schema active cs idle h =
    let none : cs ≡ [] = none_open old schema active cs (none_lowest active idle) h in
    rw none refl

pub creates_standing : (old new : Shown) (schema left : Schema) (def : TableDef) (txns : Transactions) (cs : List Open) (n : ℕ) → lowest txns.active ≡ None → left ≡ record schema { tables = schema.tables ++ def ∷ [] } → CreatedIn old new (length def.columns) → IsStanding old schema txns cs n → IsStanding new left txns cs n
creates_standing old new schema left def txns cs n idle is more h = record {
  tied = creates_tied old new schema left def txns idle is more h.tied;
  opens = idle_opens old new schema left txns.active cs idle h.opens;
  listed = h.listed;
}

pub creates_all : (old new : Shown) (schema left : Schema) (def : TableDef) (txns : Transactions) (cs : List Open) (n : ℕ) → lowest txns.active ≡ None → nat_lt 63 (length schema.tables) ≡ false → left ≡ record schema { tables = schema.tables ++ def ∷ [] } → CreatedIn old new (length def.columns) → IsStanding old schema txns cs n
    → Does (created (db_of old schema txns (seen old cs)) def) (stand_of old schema txns (seen old cs)) (Created, Created) (stand_of new left txns (seen new cs))
creates_all old new schema left def txns cs n idle room is more h =
    let again = idle_seen old new schema txns.active cs idle h.opens in
    rw again (creates old new schema left def txns (seen old cs) idle room is more h.tied)

pub indexes_standing : (old new : Shown) (schema left : Schema) (def : IndexDef) (txns : Transactions) (cs : List Open) (n : ℕ) → lowest txns.active ≡ None → def.table < length schema.tables → nat_lt 7 (indexes_over def.table schema.indexes) ≡ false → left ≡ record schema { indexes = schema.indexes ++ def ∷ [] } → IndexedIn old new def.table def.columns → IsStanding old schema txns cs n → IsStanding new left txns cs n
indexes_standing old new schema left def txns cs n idle there room is more h = record {
  tied = indexes_tied old new schema left def txns there room is more h.tied;
  opens = idle_opens old new schema left txns.active cs idle h.opens;
  listed = h.listed;
}

pub indexes_all : (old new : Shown) (schema left : Schema) (def : IndexDef) (txns : Transactions) (cs : List Open) (n : ℕ) → lowest txns.active ≡ None → nat_lt 7 (indexes_over def.table schema.indexes) ≡ false → left ≡ record schema { indexes = schema.indexes ++ def ∷ [] } → IndexedIn old new def.table def.columns → rows_differ (db_of old schema txns (seen old cs)) def ≡ Ok tt → IsStanding old schema txns cs n
    → Does (indexed (db_of old schema txns (seen old cs)) def) (stand_of old schema txns (seen old cs)) (Created, Created) (stand_of new left txns (seen new cs))
indexes_all old new schema left def txns cs n idle room is more differ h =
    let again = idle_seen old new schema txns.active cs idle h.opens in
    rw again (indexes_does old new schema left def txns (seen old cs) idle room is more differ h.tied)

-- Calls on the transactions.

-- others are active, and each cursor's transaction has its base
pub standing_over : (shown : Shown) (schema : Schema) (txns new : Transactions) (cs : List Open) (n : ℕ) → IsTied shown schema new → SameBases txns.active new.active cs → IsStanding shown schema txns cs n → IsStanding shown schema new cs n
standing_over shown schema txns new cs n tied bases h = record { tied = tied; opens = opens_over shown schema txns.active new.active cs bases h.opens; listed = h.listed }

pub begins_standing : (shown : Shown) (schema : Schema) (txns new : Transactions) (cs : List Open) (n session : ℕ) (read_only : Bool) (k : ℕ) → calls.began txns session read_only shown.newest ≡ Ok (k, new) → IsStanding shown schema txns cs n → IsStanding shown schema new cs n
begins_standing shown schema txns new cs n session read_only k did h =
    let b = begun_is txns session read_only shown.newest k new did in
    let t : Transaction = record { number = txns.next; session = session; read_only = read_only; base = shown.newest; changes = [] } in
    let active : new.active ≡ txns.active ++ t ∷ [] = ap (λ (x : Transactions). x.active) b.1 in
    let bases : SameBases txns.active new.active cs = subst (λ (a : List Transaction). SameBases txns.active a cs) (sym active) (begun_bases shown schema txns.active t cs h.opens) in
    standing_over shown schema txns new cs n (tied_began shown schema txns new session read_only k h.tied did) bases h

pub inserts_standing : (shown : Shown) (schema : Schema) (txns new : Transactions) (cs : List Open) (n session table : ℕ) (values : List Value) (row : RowNo) → table < length schema.tables → length values ≡ width schema.tables table → calls.inserted txns session table values ≡ Ok (row, new) → IsStanding shown schema txns cs n → IsStanding shown schema new cs n
inserts_standing shown schema txns new cs n session table values row there wide did h =
    let b = inserted_is txns session table values row new did in
    let bases : SameBases txns.active (calls.with_row txns b.0 table values row).active cs = with_bases txns.active b.0 _ cs in
    standing_over shown schema txns new cs n (tied_inserted shown schema txns new session table values row h.tied there wide did) (subst (λ (t : Transactions). SameBases txns.active t.active cs) (sym b.4) bases) h

pub changes_standing : (shown : Shown) (schema : Schema) (txns new : Transactions) (cs : List Open) (n session table : ℕ) (only : List (List Atom)) (sets : Option (List (ℕ × Value))) (k : ℕ) → IsTied shown schema new → changed_over shown schema txns session table sets only ≡ Ok (k, new) → IsStanding shown schema txns cs n → IsStanding shown schema new cs n
changes_standing shown schema txns new cs n session table only sets k tied did h =
    let rows = λ (base : ℕ). rows_seen (db_of shown schema txns []) (transaction_of txns.active session) table in
    let b = changed_is txns session table only sets rows k new did in
    let active : new.active ≡ with_own txns.active b.0 (calls_made txns table only sets rows b.0) = ap (λ (t : Transactions). t.active) b.2 in
    standing_over shown schema txns new cs n tied (subst (λ (a : List Transaction). SameBases txns.active a cs) (sym active) (with_bases txns.active b.0 (calls_made txns table only sets rows b.0) cs)) h

-- COMMIT and ROLLBACK

stays_itself : (shown : Shown) → Stays shown shown
stays_itself shown = record { columns = λ t h. refl; over = λ i h. refl; keys = λ i h. refl; rows = λ t s h k. refl; pages = λ t s h k. refl; entries = λ i s h k. refl; cuts = λ i s h k. refl; estimates = λ i s r h k. refl }

kept_itself : (old new : Shown) → new ≡ old → Kept old new
kept_itself old new e = rw e record { tables = refl; indexes = refl; stays = stays_itself old }

pub commits_kept : (old new : Shown) (base c : ℕ) (changes : List Change) → CommitsTo old new base changes c → Kept old new
commits_kept old new base c [] told = kept_itself old new told.0
commits_kept old new base c (x ∷ xs) told = kept_committed old new (x ∷ xs) told.0

-- the transaction in the place of the session's is the session's
pub own_is : (active : List Transaction) (session own : ℕ) → transaction_of active session ≡ Some own → ((transaction_at active own).session == session) ≡ true
own_is active session own e = (position-Some _ active own no_transaction e).1

-- the cursors of other sessions, where a session's transaction is gone
gone_bases : (txns left : Transactions) (own session : ℕ) (cs : List Open) → left.active ≡ remove txns.active own → transaction_of txns.active session ≡ Some own → SameBases txns.active left.active (others cs session)
gone_bases txns left own session cs is e = subst (λ (a : List Transaction). SameBases txns.active a (others cs session)) (sym is) (others_bases txns.active own session cs (own_is txns.active session own e))

-- what a commit has to do with the session's transaction
pub commit_own : (txns left : Transactions) (session k base c : ℕ) (changes : List Change) → finished txns session ≡ Ok (k, base, changes) → IfSome (transaction_of txns.active session) (λ own. left ≡ done txns own c)
    → (own : ℕ) × (transaction_of txns.active session ≡ Some own) × (left.active ≡ remove txns.active own)
commit_own txns left session k base c changes did is =
    let f = finished_is txns session k base changes did in
    let at = some_at (λ own. left ≡ done txns own c) (transaction_of txns.active session) f.0 f.1 is in
    (f.0, f.1, ap (λ (t : Transactions). t.active) at)

pub commits_standing : (old new : Shown) (schema : Schema) (txns left : Transactions) (cs kept : List Open) (n session k base c : ℕ) (changes : List Change) → finished txns session ≡ Ok (k, base, changes) → CommitsTo old new base changes c → IfSome (transaction_of txns.active session) (λ own. left ≡ done txns own c) → kept ≡ filter (λ (c : Open). not (c.session == session)) cs → IsStanding old schema txns cs n → IsStanding new schema left kept n
commits_standing old new schema txns left cs kept n session k base c changes did told is same h =
    let after = commits_tied old new schema txns left session k base c changes h.tied did told is in
    let own = commit_own txns left session k base c changes did is in
    let bases = gone_bases txns left own.0 session cs own.2 own.1 in
    rw same record {
      tied = after;
      opens = opens_stay old new schema txns left (others cs session) (commits_kept old new base c changes told) h.tied after bases (all_filter (IsOpen old schema txns.active) (λ (c : Open). not (c.session == session)) cs h.opens);
      listed = listed_filter (λ (c : Open). not (c.session == session)) n cs h.listed;
    }

pub commits_sees : (old new : Shown) (schema : Schema) (txns left : Transactions) (cs kept : List Open) (n session k base c : ℕ) (changes : List Change) → finished txns session ≡ Ok (k, base, changes) → CommitsTo old new base changes c → IfSome (transaction_of txns.active session) (λ own. left ≡ done txns own c) → kept ≡ filter (λ (c : Open). not (c.session == session)) cs → IsStanding old schema txns cs n → SeesSame old new kept
commits_sees old new schema txns left cs kept n session k base c changes did told is same h =
    let after = commits_tied old new schema txns left session k base c changes h.tied did told is in
    let own = commit_own txns left session k base c changes did is in
    let bases = gone_bases txns left own.0 session cs own.2 own.1 in
    rw same (sees_kept old new schema schema txns left (others cs session) (commits_kept old new base c changes told) h.tied after bases (all_filter (IsOpen old schema txns.active) (λ (c : Open). not (c.session == session)) cs h.opens))

pub commits_all : (old new : Shown) (schema : Schema) (txns left : Transactions) (cs kept : List Open) (n session k base c : ℕ) (changes : List Change) → finished txns session ≡ Ok (k, base, changes) → CommitsTo old new base changes c → IfSome (transaction_of txns.active session) (λ own. left ≡ done txns own c) → kept ≡ filter (λ (c : Open). not (c.session == session)) cs → IsStanding old schema txns cs n
    → Does (committed (db_of old schema txns (seen old cs)) session) (stand_of old schema txns (seen old cs)) (Committed c, Committed c) (stand_of new schema left (seen new kept))
commits_all old new schema txns left cs kept n session k base c changes did told is same h =
    let after = commits_tied old new schema txns left session k base c changes h.tied did told is in
    let own = commit_own txns left session k base c changes did is in
    let bases = gone_bases txns left own.0 session cs own.2 own.1 in
    let again = all_seen old new schema txns left (others cs session) (commits_kept old new base c changes told) h.tied after bases (all_filter (IsOpen old schema txns.active) (λ (c : Open). not (c.session == session)) cs h.opens) in
    rw same (commits_does old new schema txns left (seen old cs) (seen new (others cs session)) session k base c changes h.tied did told is (again ∙ others_seen old cs session))

pub rolls_standing : (shown : Shown) (schema : Schema) (txns left : Transactions) (cs kept : List Open) (n session : ℕ) → undone txns session ≡ Ok left → kept ≡ filter (λ (c : Open). not (c.session == session)) cs → IsStanding shown schema txns cs n → IsStanding shown schema left kept n
rolls_standing shown schema txns left cs kept n session did same h =
    let r = rolled_is txns left session did in
    let bases = gone_bases txns left r.0 session cs (ap (λ (t : Transactions). t.active) r.2) r.1 in
    rw same record {
      tied = rolls_tied shown schema txns left session did h.tied;
      opens = opens_over shown schema txns.active left.active (others cs session) bases (all_filter (IsOpen shown schema txns.active) (λ (c : Open). not (c.session == session)) cs h.opens);
      listed = listed_filter (λ (c : Open). not (c.session == session)) n cs h.listed;
    }

pub rolls_all : (shown : Shown) (schema : Schema) (txns left : Transactions) (cs kept : List Open) (session : ℕ) → undone txns session ≡ Ok left → kept ≡ filter (λ (c : Open). not (c.session == session)) cs
    → Does (rolled_back (db_of shown schema txns (seen shown cs)) session) (stand_of shown schema txns (seen shown cs)) (RolledBack, RolledBack) (stand_of shown schema left (seen shown kept))
rolls_all shown schema txns left cs kept session did same = rolls_does shown schema txns left (seen shown cs) (seen shown kept) session did (ap (λ (xs : List Open). seen shown xs) same ∙ others_seen shown cs session)

-- CLOSE

pub closes_standing : (shown : Shown) (schema : Schema) (txns : Transactions) (cs kept : List Open) (n place : ℕ) → kept ≡ remove cs place → IsStanding shown schema txns cs n → IsStanding shown schema txns kept n
closes_standing shown schema txns cs kept n place is h = rw is record { tied = h.tied; opens = all_remove (IsOpen shown schema txns.active) cs place h.opens; listed = listed_remove n cs place h.listed }

-- OPEN

-- the new cursor stands at the base of the session's transaction
pub fresh_open : (shown : Shown) (schema : Schema) (txns : Transactions) (cursors : List Cursor) (session base : ℕ) (name : List ℕ) (c : Open) → opening_base txns.active cursors session name ≡ Ok base → c.session ≡ session → c.snap ≡ base → CursorFits shown c → (item_at c.plan.asked 0).indexes ≡ indexes_from (item_at c.plan.asked 0).table 0 schema.indexes → IsOpen shown schema txns.active c
fresh_open shown schema txns cursors session base name c h own at fits over =
    let o = opening_is txns.active cursors session base name h in
    record {
      base = ap (λ (s : ℕ). base_of txns.active s) own ∙ base_found txns.active session o.0 o.2 ∙ ap (λ (n : ℕ). Some n) (o.3 ∙ sym at);
      fits = fits;
      over = over;
    }

pub opens_standing : (shown : Shown) (schema : Schema) (txns : Transactions) (cs more : List Open) (c : Open) (n : ℕ) → more ≡ cs ++ c ∷ [] → c.number ≡ n → c.session < 256 → length (own_opens cs c.session) < 16 → IsOpen shown schema txns.active c → IsStanding shown schema txns cs n → IsStanding shown schema txns more (n + 1)
opens_standing shown schema txns cs more c n is at own room fresh h = rw is record {
  tied = h.tied;
  opens = all_append (IsOpen shown schema txns.active) cs (c ∷ []) h.opens (fresh, tt);
  listed = listed_push n cs c at own room h.listed;
}

-- A sweep.

pub sweeps_standing : (old new : Shown) (schema : Schema) (txns : Transactions) (cs : List Open) (n newest low : ℕ) → newest ≡ old.newest → low ≡ horizon txns.active newest → Swept old new low → IsStanding old schema txns cs n → IsStanding new schema txns cs n
sweeps_standing old new schema txns cs n newest low is at swept h =
    let after = tied_swept old new schema txns newest low is at swept h.tied in
    record { tied = after; opens = opens_stay old new schema txns txns cs (kept_swept old new low swept) h.tied after (same_bases txns.active cs) h.opens; listed = h.listed }

pub sweeps_all : (old new : Shown) (schema : Schema) (txns : Transactions) (cs : List Open) (n newest low : ℕ) → newest ≡ old.newest → low ≡ horizon txns.active newest → Swept old new low → IsStanding old schema txns cs n → stand_of new schema txns (seen new cs) ≡ record (stand_of old schema txns (seen old cs)) { horizon = horizon txns.active old.newest }
sweeps_all old new schema txns cs n newest low is at swept h =
    let after = tied_swept old new schema txns newest low is at swept h.tied in
    let again = all_seen old new schema txns txns cs (kept_swept old new low swept) h.tied after (same_bases txns.active cs) h.opens in
    rw again (stand_swept old new schema txns (seen old cs) newest low is at h.tied swept)

pub sweeps_sees : (old new : Shown) (schema : Schema) (txns : Transactions) (cs : List Open) (n newest low : ℕ) → newest ≡ old.newest → low ≡ horizon txns.active newest → Swept old new low → IsStanding old schema txns cs n → SeesSame old new cs
sweeps_sees old new schema txns cs n newest low is at swept h = sees_kept old new schema schema txns txns cs (kept_swept old new low swept) h.tied (tied_swept old new schema txns newest low is at swept h.tied) (same_bases txns.active cs) h.opens

-- Calls on the plan of one cursor.

pub opens_fit : (shown : Shown) (schema : Schema) (active : List Transaction) (cs : List Open) → AllByRecursion (IsOpen shown schema active) cs → AllByRecursion (CursorFits shown) cs
opens_fit shown schema active cs h = all_more (IsOpen shown schema active) (CursorFits shown) (λ c o. o.fits) cs h

pub standing_at : (shown : Shown) (schema : Schema) (txns : Transactions) (cs more : List Open) (n : ℕ) → ((s : Schema) (active : List Transaction) → AllByRecursion (IsOpen shown s active) cs → AllByRecursion (IsOpen shown s active) more) → ((next : ℕ) → AreListed next cs → AreListed next more) → IsStanding shown schema txns cs n → IsStanding shown schema txns more n
standing_at shown schema txns cs more n opens listed h = record { tied = h.tied; opens = opens schema txns.active h.opens; listed = listed n h.listed }

-- the cursor in a place, which stays open with what it was opened with
pub standing_set : (shown : Shown) (schema : Schema) (txns : Transactions) (cs : List Open) (n place : ℕ) (c new : Open) → slice_get cs place ≡ Some c → CursorFits shown new → SameCursor c new → IsStanding shown schema txns cs n → IsStanding shown schema txns (slice_set cs place new) n
standing_set shown schema txns cs n place c new at fits same h = record {
  tied = h.tied;
  opens = opens_at shown schema txns.active cs place c new at fits same h.opens;
  listed = listed_set n cs place c new at same.number same.session h.listed;
}

-- a piece was given to the plan of the cursor in a place

pub given_stays : (shown : Shown) (c : Open) (p : Planned) → ((s : Shown) → PlanFits s c.plan → PlanFits s p) → ((s : Shown) → PlanFits s c.plan → PlanStays s c.plan p) → CursorFits shown c → CursorStays shown c (record c { plan = p })
given_stays shown c p fits stays h = piece_stays shown c p h (fits (seen_by shown c) h.plan) (stays (seen_by shown c) h.plan)

-- SHOW
pub shows_plan : (shown : Shown) (schema : Schema) (txns : Transactions) (cs : List Open) (n session : ℕ) (name : List ℕ) (place : ℕ) (t : RanTrace) (told : Told) (replies : Reply × Reply) → IsStanding shown schema txns cs n → place < length cs → cursor_named (seen shown cs) session name ≡ Some place → IfSome (slice_get cs place) (λ c. Allowed t (numbers_of (item_at c.plan.asked 0).indexes)) → told ≡ shown_trace schema.indexes t → (replies.0 ≡ Trace told) × (replies.1 ≡ Trace told) → Shows (stand_of shown schema txns (seen shown cs)) session name replies
shows_plan shown schema txns cs n session name place t told replies h within named allowed is made =
    let there = get_there cs place within in
    let o = all_got (IsOpen shown schema txns.active) cs place there.0 h.opens there.1 in
    let k : Allowed t (numbers_of (item_at there.0.plan.asked 0).indexes) = subst (λ (x : Option Open). IfSome x (λ c. Allowed t (numbers_of (item_at c.plan.asked 0).indexes))) there.1 allowed in
    let here = at_seen shown cs place there.0 there.1 in
    let shows : ShowsTrace schema.indexes (item_at there.0.plan.asked 0).table told = rw is (shows_trace schema.indexes (item_at there.0.plan.asked 0).table t (item_at there.0.plan.asked 0).indexes o.over k) in
    (made.1 ∙ sym made.0, rw (named, here, made.0) shows)

pub tells_plan : (cs : List Open) (indexes : List IndexDef) (place : ℕ) (o : Option ℕ) (t : RanTrace) (told : Told) (reply : Reply) → o ≡ Some place → IfSome (slice_get cs place) (λ c. t ≡ plan_trace c.plan) → told ≡ shown_trace indexes t → reply ≡ Trace told → TellsPlan o indexes cs reply
tells_plan cs indexes place o t told reply named is names made = rw named (by_cursor (slice_get cs place) is)
  where
    by_cursor : (x : Option Open) → IfSome x (λ c. t ≡ plan_trace c.plan) → IfSome x (λ c. reply ≡ Trace (shown_trace indexes (plan_trace c.plan)))
    by_cursor None k = tt
    by_cursor (Some c) k = made ∙ ap (λ (x : Told). Trace x) (names ∙ ap (shown_trace indexes) k)

-- a refusal opens no cursor
pub refused_adds : (r : Reply) (refusal : Refusal) (P : Type 0) → r ≡ Refused refusal → r ≡ Opened → P
refused_adds r refusal P is e = absurd (apart (sym is ∙ e))
  where
    apart : Refused refusal ≡ Opened → ⊥
    apart k = cc

-- what a plan is asked, by the cursor's own number and snapshot
pub opened_asked : (s : Select) (indexes : List IndexDef) (snap number : ℕ) (c : Open) → c.snap ≡ snap → c.number ≡ number → IsAsked s indexes snap number c.plan.asked → IsAsked s indexes c.snap c.number c.plan.asked
opened_asked s indexes snap number c at own h = subst (λ (n : ℕ). IsAsked s indexes n c.number c.plan.asked) (sym at) (subst (λ (n : ℕ). IsAsked s indexes snap n c.plan.asked) (sym own) h)

-- other cursors that are seen as these
pub whole_opens : {S : Type 0} (store : S) (shown : Shown) (schema : Schema) (txns : Transactions) (cs more : List Open) (n : ℕ) → seen shown more ≡ seen shown cs → whole_of store shown schema txns more n ≡ record (whole_of store shown schema txns cs n) { opens = more }
whole_opens store shown schema txns cs more n e = rw e refl
