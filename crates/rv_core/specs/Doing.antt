-- What the calls of a database do: two equal replies, and the next state. The store's horizon stays.
use Rattle.std.specs.Prelude.{◌≡◌, ◌≤◌, ℕ, List, Option, Some, None, Result, Ok, Err, length, slice_set}
use Rattle.rv_lang.specs.declared.statement.Statement.{Statement}
use Rattle.rv_lang.specs.declared.reply.Refusal.{Refusal}
use Rattle.rv_lang.specs.declared.reply.Reply.{Reply}
use Rattle.rv_catalog.specs.declared.def.Resolved.{Resolved}
use Rattle.rv_catalog.specs.declared.def.Resolved.TheVariants as asks
use Rattle.rv_catalog.specs.Answers.{◌>>=◌}
use Rattle.rv_model.specs.declared.state.Cursor.{Cursor}
use Rattle.rv_model.specs.declared.transactions.Transaction.{Transaction}
use Rattle.rv_model.specs.Database.{cursor_at, cursor_named}
use Rattle.rv_model.specs.Transactions.{transaction_at}
use Rattle.rv_model.specs.Step.{Outcome, reply_of, state_of, Allows, AllowsAsked, AllowsFetch, AllowsShow, AllowsStep, next, next_asked, fetched, Offers, offers_after, opening}
use Rattle.rv_core.specs.Db.{Stand}

-- Two equal replies, and a new state, are those of the outcome.
abbrev pub Does : Outcome → Stand → Reply × Reply → Stand → Type 0
Does outcome old replies new =
    (replies.1 ≡ replies.0) × (replies.0 ≡ reply_of outcome) × (new ≡ record old { db = state_of outcome old.db })

-- the same of FETCH
abbrev pub Fetches : Stand → ℕ → List ℕ → Reply × Reply → Stand → Type 0
Fetches old session name replies new =
    (replies.1 ≡ replies.0)
    × AllowsFetch (cursor_named old.db.cursors session name) old.db name replies.0
    × (new ≡ record old { db = fetched (cursor_named old.db.cursors session name) old.db replies.0 })

-- the same of the cursor in a place
abbrev pub TakesAt : ℕ → List Cursor → Reply × Reply → List Cursor → Type 0
TakesAt place old replies new =
    (replies.1 ≡ replies.0)
    × Offers (cursor_at old place).offers replies.0
    × (new ≡ slice_set old place
    (record (cursor_at old place) { offers = offers_after (cursor_at old place).offers replies.0 }))

-- STEP: how many background steps there were, and nothing changed
abbrev pub StepsOn : Stand → ℕ → List ℕ → ℕ → Reply × Reply → Stand → Type 0
StepsOn old session name most replies new =
    (replies.1 ≡ replies.0) × AllowsStep (cursor_named old.db.cursors session name) name most replies.0 × (new ≡ old)

-- SHOW
abbrev pub Shows : Stand → ℕ → List ℕ → Reply × Reply → Type 0
Shows old session name replies =
    (replies.1 ≡ replies.0) × AllowsShow (cursor_named old.db.cursors session name) old.db name replies.0

-- one turn's part of a call: it is answered, or it works on
abbrev pub PartIs : {R : Type 0} → (R → Type 0) → Type 0 → Option R → Type 0
PartIs answered works None = works
PartIs answered works (Some replies) = answered replies

abbrev pub parted : {R E : Type 0} → Result R E → Result (Option R) E
parted (Ok replies) = Ok (Some replies)
parted (Err fault) = Err fault

-- The base of the session's transaction, where it may open the cursor.
abbrev pub opening_base : List Transaction → List Cursor → ℕ → List ℕ → Result ℕ Refusal
opening_base active cursors session name = do
  own ← opening active cursors session name
  Ok (transaction_at active own).base

-- Two equal replies are allowed to what is asked, and the state is the one after them.
abbrev pub DoesAsked : Result Resolved Refusal → Stand → ℕ → Reply × Reply → Stand → Type 0
DoesAsked asked old session replies new =
    (replies.1 ≡ replies.0) × AllowsAsked asked old.db session replies.0
    × (new ≡ record old { db = next_asked asked old.db session replies.0 })

-- the same of the statement of a text, where there is one
abbrev pub Executes : Stand → ℕ → Option Statement → Reply × Reply → Stand → Type 0
Executes old session statement replies new =
    (replies.1 ≡ replies.0) × Allows old.db session statement replies.0
    × (new ≡ record old { db = next old.db session statement replies.0 })

-- A new index has a column, and a query has a FROM item.
abbrev pub IsWhole : Resolved → Type 0
IsWhole (asks.CreateIndex def) = 1 ≤ length def.columns
IsWhole (asks.Open cursor select) = 1 ≤ length select.tables
IsWhole asked = Unit {0}
