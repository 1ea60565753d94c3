-- What the statements do where the cursors are others.
use Rattle.std.proofs.Common.{◌≡◌, ◌↔◌, ℕ, List, [], ◌∷◌, ◌++◌, refl, sym, ap, ◌∙◌, subst, Bool, true, false, IsTrue, Option, Some, None, Result, Ok, Err, IfOk, if◌then◌else◌, nat_lt, length}
use Rattle.rv_value.specs.declared.duplicate.NoMemory.{NoMemory}
use Rattle.rv_value.specs.declared.value.Value.{Value}
use Rattle.rv_value.specs.declared.record.Record.{Record}
use Rattle.rv_value.specs.declared.record.RowNo.{RowNo}
use Rattle.rv_restrict.specs.declared.atom.Atom.{Atom}
use Rattle.rv_rows.specs.declared.changes.Change.{Change}
use Rattle.rv_lang.specs.declared.reply.Reply.{Reply}
use Rattle.rv_lang.specs.declared.reply.Reply.TheVariants.{Created, Began, Inserted, Touched, RolledBack}
use Rattle.rv_lang.specs.declared.reply.Refusal.{Refusal}
use Rattle.rv_lang.specs.declared.reply.Refusal.TheVariants.{Busy, NoTransaction, Limit}
use Rattle.rv_lang.specs.declared.reply.Which.TheVariants.{Tables, Indexes}
use Rattle.rv_catalog.specs.declared.def.TableDef.{TableDef}
use Rattle.rv_catalog.specs.declared.def.IndexDef.{IndexDef}
use Rattle.rv_catalog.specs.Kept.{indexes_over}
use Rattle.rv_catalog.specs.Answers.{◌>>=◌, ok_or, refuse_if}
use Rattle.rv_model.specs.declared.state.Cursor.{Cursor}
use Rattle.rv_model.specs.declared.state.State.{State}
use Rattle.rv_model.specs.declared.transactions.Transactions.{Transactions}
use Rattle.rv_model.specs.Step.{Outcome, began, changed, changes_met, committed, committed_with, created, ended, indexed, inserted, new_change, no_rivals_of, other_cursors, reply_of, rolled_back, row_alone, rows_alone, rows_differ, rows_seen, state_of}
use Rattle.rv_model.specs.Transactions as transactions
use Rattle.rv_model.specs.Transactions.{lowest, refuse_at, transaction_at, transaction_of}
use Rattle.rv_core.specs.Db.{Stand}
use Rattle.rv_core.specs.Doing.{Does}
use Rattle.rv_replay.specs.Judging.{Compares, Done, Judges, is_refused, kept_after, with_cursors}

-- the same outcome with other cursors
abbrev pub outcome_with : List Cursor → Outcome → Outcome
outcome_with c (Ok done) = Ok (done.0, with_cursors done.1 c)
outcome_with c (Err refusal) = Err refusal

-- what is done over other cursors, is done
pub done_with : (o over : Outcome) (old new : Stand) (replies : Reply × Reply) (c : List Cursor) → over ≡ outcome_with c o → Does o old replies new → Done over (with_cursors old.db c) replies.0 (with_cursors new.db c)
done_with (Ok done) over old new replies c e does = rw e (does.1, ap (λ (s : Stand). with_cursors s.db c) does.2)
done_with (Err refusal) over old new replies c e does = rw e (does.1, ap (λ (s : Stand). with_cursors s.db c) does.2)

abbrev outcome_of : Reply × State → Outcome
outcome_of done = Ok done

-- ---- statements that leave the cursors

abbrev pub creates : State → TableDef → Option ℕ → Bool → Outcome
creates s def busy full = do
  idle ← refuse_at busy Busy
  room ← refuse_if full (Limit Tables 64)
  Ok (Created, record s { schema = record s.schema { tables = s.schema.tables ++ def ∷ [] }; rows = s.rows ++ [] ∷ [] })

created_by : (s : State) (c : List Cursor) (def : TableDef) (busy : Option ℕ) (full : Bool) → creates (with_cursors s c) def busy full ≡ outcome_with c (creates s def busy full)
created_by s c def (Some n) full = refl
created_by s c def None true = refl
created_by s c def None false = refl

pub created_with : (s : State) (c : List Cursor) (def : TableDef) → created (with_cursors s c) def ≡ outcome_with c (created s def)
created_with s c def = created_by s c def (lowest s.transactions.active) (nat_lt 63 (length s.schema.tables))

abbrev pub indexes : State → IndexDef → Option ℕ → Bool → Result (Unit {0}) Refusal → Outcome
indexes s def busy full differ = do
  idle ← refuse_at busy Busy
  room ← refuse_if full (Limit Indexes 8)
  different ← differ
  Ok (Created, record s { schema = record s.schema { indexes = s.schema.indexes ++ def ∷ [] } })

indexed_by : (s : State) (c : List Cursor) (def : IndexDef) (busy : Option ℕ) (full : Bool) (differ : Result (Unit {0}) Refusal) → indexes (with_cursors s c) def busy full differ ≡ outcome_with c (indexes s def busy full differ)
indexed_by s c def (Some n) full differ = refl
indexed_by s c def None true differ = refl
indexed_by s c def None false (Ok u) = refl
indexed_by s c def None false (Err e) = refl

indexed_with : (s : State) (c : List Cursor) (def : IndexDef) → indexed (with_cursors s c) def ≡ outcome_with c (indexed s def)
indexed_with s c def = indexed_by s c def (lowest s.transactions.active) (nat_lt 7 (indexes_over def.table s.schema.indexes)) (rows_differ s def)

-- CREATE INDEX after a sweep
pub indexed_done : (old mid new : Stand) (replies : Reply × Reply) (c : List Cursor) (def : IndexDef) → mid.db ≡ old.db → Does (indexed mid.db def) mid replies new → Done (indexed (with_cursors old.db c) def) (with_cursors old.db c) replies.0 (with_cursors new.db c)
indexed_done old mid new replies c def same does = subst (λ (s : State). Done (indexed (with_cursors s c) def) (with_cursors s c) replies.0 (with_cursors new.db c)) same (done_with (indexed mid.db def) (indexed (with_cursors mid.db c) def) mid new replies c (indexed_with mid.db c def) does)

abbrev pub begins : State → Result (ℕ × Transactions) Refusal → Outcome
begins s r = do
  begun ← r
  Ok (Began begun.0, record s { transactions = begun.1; bases = s.bases ++ s.rows ∷ [] })

began_by : (s : State) (c : List Cursor) (r : Result (ℕ × Transactions) Refusal) → begins (with_cursors s c) r ≡ outcome_with c (begins s r)
began_by s c (Ok begun) = refl
began_by s c (Err e) = refl

pub began_with : (s : State) (c : List Cursor) (session : ℕ) (read_only : Bool) → began (with_cursors s c) session read_only ≡ outcome_with c (began s session read_only)
began_with s c session read_only = began_by s c (transactions.began s.transactions session read_only s.last)

-- a last test, and what follows it
tested_with : (s : State) (c : List Cursor) (alone : Result (Unit {0}) Refusal) (reply : Reply) (new : Transactions)
    → (alone >>= (λ u. Ok (reply, record (with_cursors s c) { transactions = new }))) ≡ outcome_with c (alone >>= (λ u. Ok (reply, record s { transactions = new })))
tested_with s c (Ok u) reply new = refl
tested_with s c (Err e) reply new = refl

-- cursors are no rivals
rivals_with : (s : State) (c : List Cursor) (session table : ℕ) (new : ℕ → List Change) (own : Option ℕ) → no_rivals_of (with_cursors s c) session own table new ≡ no_rivals_of s session own table new
rivals_with s c session table new None = refl
rivals_with s c session table new (Some own) = refl

abbrev pub inserts : State → Result (RowNo × Transactions) Refusal → (RowNo → Result (Unit {0}) Refusal) → Outcome
inserts s r alone = do
  more ← r
  lone ← alone more.0
  Ok (Inserted more.0, record s { transactions = more.1 })

inserted_by : (s : State) (c : List Cursor) (r : Result (RowNo × Transactions) Refusal) (alone : RowNo → Result (Unit {0}) Refusal) → inserts (with_cursors s c) r alone ≡ outcome_with c (inserts s r alone)
inserted_by s c (Ok more) alone = tested_with s c (alone more.0) (Inserted more.0) more.1
inserted_by s c (Err e) alone = refl

pub inserted_with : (s : State) (c : List Cursor) (session table : ℕ) (values : List Value) → inserted (with_cursors s c) session table values ≡ outcome_with c (inserted s session table values)
inserted_with s c session table values =
    (λ i. inserts (with_cursors s c) (transactions.inserted s.transactions session table values)
    (λ (row : RowNo). rivals_with s c session table (λ own. new_change table row values ∷ []) (transaction_of s.transactions.active session) i))
    ∙ inserted_by s c (transactions.inserted s.transactions session table values) (row_alone s session table values)

abbrev pub changes : State → Result (ℕ × Transactions) Refusal → Result (Unit {0}) Refusal → Outcome
changes s r alone = do
  done ← r
  lone ← alone
  Ok (Touched done.0, record s { transactions = done.1 })

changed_by : (s : State) (c : List Cursor) (r : Result (ℕ × Transactions) Refusal) (alone : Result (Unit {0}) Refusal) → changes (with_cursors s c) r alone ≡ outcome_with c (changes s r alone)
changed_by s c (Ok done) alone = tested_with s c alone (Touched done.0) done.1
changed_by s c (Err e) alone = refl

seen_with : (s : State) (c : List Cursor) (own : Option ℕ) (table : ℕ) → rows_seen (with_cursors s c) own table ≡ rows_seen s own table
seen_with s c None table = refl
seen_with s c (Some own) table = refl

pub changed_with : (s : State) (c : List Cursor) (session table : ℕ) (sets : Option (List (ℕ × Value))) (only : List (List Atom)) → changed (with_cursors s c) session table sets only ≡ outcome_with c (changed s session table sets only)
changed_with s c session table sets only =
    (λ i. changes (with_cursors s c) (transactions.changed s.transactions session table only sets (λ base. seen_with s c (transaction_of s.transactions.active session) table i))
    (rivals_with s c session table (changes_met s table sets only) (transaction_of s.transactions.active session) i))
    ∙ changed_by s c (transactions.changed s.transactions session table only sets (λ base. rows_seen s (transaction_of s.transactions.active session) table)) (rows_alone s session table sets only)

-- ---- COMMIT and ROLLBACK, which close the session's cursors

-- the reply to what was done is no refusal
IsMade : Outcome → Type 0
IsMade (Ok done) = is_refused done.0 ≡ false
IsMade (Err refusal) = Unit {0}

ended_with : (o over : Outcome) (old new : Stand) (replies : Reply × Reply) (c others : List Cursor) → IsMade o → over ≡ outcome_with others o → Does o old replies new → Done over (with_cursors old.db c) replies.0 (with_cursors new.db (if is_refused replies.0 then c else others))
unfolding IsMade
ended_with (Ok done) over old new replies c others made e does =
    let answered : is_refused replies.0 ≡ false = ap is_refused does.1 ∙ made in
    rw (e, answered) (does.1, ap (λ (s : Stand). with_cursors s.db others) does.2)
ended_with (Err refusal) over old new replies c others made e does =
    let answered : is_refused replies.0 ≡ true = ap is_refused does.1 in
    rw (e, answered) (does.1, ap (λ (s : Stand). with_cursors s.db c) does.2)

commits_by : (changes : List Change) (s : State) (c : List Cursor) (session own : ℕ) → outcome_of (committed_with changes (with_cursors s c) session own) ≡ outcome_with (other_cursors c session) (outcome_of (committed_with changes s session own))
commits_by [] s c session own = refl
commits_by (x ∷ xs) s c session own = refl

commits_made : (changes : List Change) (s : State) (session own : ℕ) → is_refused (committed_with changes s session own).0 ≡ false
commits_made [] s session own = refl
commits_made (x ∷ xs) s session own = refl

abbrev pub commits : State → ℕ → Option ℕ → Outcome
commits s session place = do
  own ← ok_or place NoTransaction
  Ok (committed_with (transaction_at s.transactions.active own).changes s session own)

commit_over : (s : State) (c : List Cursor) (session : ℕ) (place : Option ℕ) → commits (with_cursors s c) session place ≡ outcome_with (other_cursors c session) (commits s session place)
commit_over s c session None = refl
commit_over s c session (Some own) = commits_by (transaction_at s.transactions.active own).changes s c session own

commit_made : (s : State) (session : ℕ) (place : Option ℕ) → IsMade (commits s session place)
unfolding IsMade
commit_made s session None = tt
commit_made s session (Some own) = commits_made (transaction_at s.transactions.active own).changes s session own

pub committed_done : (s : Stand) (c : List Cursor) (session : ℕ) (replies : Reply × Reply) (new : Stand) → Does (committed s.db session) s replies new → Done (committed (with_cursors s.db c) session) (with_cursors s.db c) replies.0 (with_cursors new.db (kept_after replies.0 c session))
committed_done s c session replies new does =
    let place = transaction_of s.db.transactions.active session in
    ended_with (commits s.db session place) (commits (with_cursors s.db c) session place) s new replies c (other_cursors c session) (commit_made s.db session place) (commit_over s.db c session place) does

abbrev pub rolls : State → ℕ → Option ℕ → Outcome
rolls s session place = do
  own ← ok_or place NoTransaction
  Ok (RolledBack, ended s own session (transactions.without s.transactions own))

roll_over : (s : State) (c : List Cursor) (session : ℕ) (place : Option ℕ) → rolls (with_cursors s c) session place ≡ outcome_with (other_cursors c session) (rolls s session place)
roll_over s c session None = refl
roll_over s c session (Some own) = refl

roll_made : (s : State) (session : ℕ) (place : Option ℕ) → IsMade (rolls s session place)
unfolding IsMade
roll_made s session None = tt
roll_made s session (Some own) = refl

pub rolled_done : (s : Stand) (c : List Cursor) (session : ℕ) (replies : Reply × Reply) (new : Stand) → Does (rolled_back s.db session) s replies new → Done (rolled_back (with_cursors s.db c) session) (with_cursors s.db c) replies.0 (with_cursors new.db (kept_after replies.0 c session))
rolled_done s c session replies new does =
    let place = transaction_of s.db.transactions.active session in
    ended_with (rolls s.db session place) (rolls (with_cursors s.db c) session place) s new replies c (other_cursors c session) (roll_made s.db session place) (roll_over s.db c session place) does

-- ---- what was done is compared with the reply that is given

pub judged : (o : Outcome) (old new : State) (made : Result Reply NoMemory) (given : Reply) (result : Result Bool NoMemory) → Compares made given result → IfOk made (λ (reply : Reply). Done o old reply new) → IfOk result (λ (b : Bool). Judges b (given ≡ reply_of o) (new ≡ state_of o old))
judged o old new (Ok reply) given (Ok true) same done = (sym (same.0 refl) ∙ done.0, done.1)
judged o old new (Ok reply) given (Ok false) same done = λ e. let wrong : false ≡ true = same.1 (done.0 ∙ sym e) in cc
judged o old new (Ok reply) given (Err e) same done = tt
judged o old new (Err e) given (Ok b) same done = absurd same
judged o old new (Err e) given (Err f) same done = tt

-- a refusal is compared with the reply that is given
pub judged_refusal : (b : Bool) (expected given : Reply) (s : State) → IsTrue b ↔ (expected ≡ given) → Judges b (given ≡ expected) (s ≡ s)
judged_refusal true expected given s same = (sym (same.0 refl), refl)
judged_refusal false expected given s same = λ e. let wrong : false ≡ true = same.1 (sym e) in cc
