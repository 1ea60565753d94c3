-- WHAT A CALL DOES TO THE PLANS OF THE OPEN CURSORS, and what it tells of them.
use Rattle.std.specs.Prelude.{◌≡◌, ◌⊎◌, ◌<◌, ◌≤◌, ◌+◌, ◌==◌, ℕ, Bool, true, false, List, [], ◌∷◌, ◌++◌, Option, Some, None, Result, Ok, Err, IfSome, IsSome, not, filter, remove, slice_get, slice_set}
use Rattle.std.specs.List.{AllByRecursion}
use Rattle.rv_judge.specs.declared.counting.Counts.{Counts}
use Rattle.rv_judge.specs.declared.judging.Facts.{Facts}
use Rattle.rv_judge.specs.Verdicts.{Ruling}
use Rattle.rv_judge.specs.Counting.{no_counts, reads}
use Rattle.rv_restrict.specs.declared.atom.Atom.{Atom}
use Rattle.rv_lang.specs.declared.statement.Statement.{Statement}
use Rattle.rv_lang.specs.declared.reply.Refusal.{Refusal}
use Rattle.rv_lang.specs.declared.reply.Reply.{Reply}
use Rattle.rv_lang.specs.declared.reply.Reply.TheVariants.{Opened, Refused, Stepped, Touched, Trace}
use Rattle.rv_catalog.specs.declared.def.IndexDef.{IndexDef}
use Rattle.rv_catalog.specs.declared.def.Resolved.{Resolved}
use Rattle.rv_catalog.specs.declared.def.Resolved.TheVariants as asks
use Rattle.rv_catalog.specs.declared.def.Select.{Select}
use Rattle.rv_reader.specs.Shown.{Shown}
use Rattle.rv_model.specs.declared.state.State.{State}
use Rattle.rv_model.specs.declared.transactions.Transaction.{Transaction}
use Rattle.rv_model.specs.Showing.{shown_trace}
use Rattle.rv_model.specs.Step.{rows_viewed, understood}
use Rattle.rv_model.specs.Transactions.{transaction_of}
use Rattle.rv_txn.specs.Calls.{writing}
use Rattle.rv_overlay.specs.declared.frozen.Frozen.{Frozen}
use Rattle.rv_own.specs.Views.{Freezes}
use Rattle.rv_view.specs.Sights.{LaysSome}
use Rattle.rv_view.specs.Alone.{alone}
use Rattle.rv_choice.specs.Asked.{CanAsk}
use Rattle.rv_access.specs.Accesses.{Settled, fetches_left, query_of}
use Rattle.rv_retrieval.specs.Short.{has_short}
use Rattle.rv_search.specs.Searching.{Ran, RanFetched, any_narrows, search_of}
use Rattle.rv_join.specs.Alone.{plan_effort, plan_life}
use Rattle.rv_join.specs.Asking.{IsAsked, indexes_from, lives_of}
use Rattle.rv_join.specs.Pieces.{counted_up, plan_awaited, plan_pieces}
use Rattle.rv_join.specs.Plans.{LeadsWith, Planned, plan_trace, plan_work, stage_of}
use Rattle.rv_join.specs.Work.{row_cost}
use Rattle.rv_cursor.specs.declared.cursor.Open.{Open}
use Rattle.rv_cursor.specs.Left.{CursorFits, SameCursor, seen_at, seen_by}
use Rattle.rv_cursor.specs.Moves.{FetchMoves, Moves, Ruled, StepsBacks, TurnMoves, ruled}
use Rattle.rv_core.specs.declared.settings.Settings.{Settings}
use Rattle.rv_core.specs.Db.{Whole, base_of, open_named}

-- WHAT A CALL IS MADE UNDER: what the store shows, what the judge would rule, and what was set: how many background
-- steps may follow each foreground step of a FETCH, and whether indexes may race
pub record Under : Type 0 where
  pub store : Shown
  pub would : ℕ → Facts → Ruling
  pub settings : Settings

abbrev pub under : Shown → (ℕ → Facts → Ruling) → Settings → Under
under store would settings = record { store = store; would = would; settings = settings }

-- THE PLANS: the open cursors, the number of the next, and where the judge stands that rules on their scans
pub record Plans : Type 0 where
  pub opens : List Open
  pub opened : ℕ
  pub judge : ℕ

abbrev pub plans_of : {S : Type 0} → Whole S → ℕ → Plans
plans_of w judge = record { opens = w.opens; opened = w.opened; judge = judge }

-- WHAT THE OPEN CURSORS SEE STAYS: at the snapshot of each the store shows the rows, pages, entries, cuts and
-- estimates that it showed before
pub record SeesSame (old new : Shown) (opens : List Open) : Type 0 where
  pub each : AllByRecursion (λ (c : Open). seen_by new c ≡ seen_by old c) opens

-- the plan of the cursor in a place moved in some way, and no other
pub record MovesAt (way : Open → Shown → Ruled → Ruled → Type 0) (shown : Shown) (place judge ruled_to : ℕ)
    (old new : List Open) : Type 0 where
  pub before : Open
  pub after : Open
  pub here : slice_get old place ≡ Some before
  pub set : new ≡ slice_set old place after
  pub same : SameCursor before after
  pub moved : way before (seen_by shown before) (ruled before judge) (ruled after ruled_to)

-- the same of the cursor of a name, where one is open
abbrev pub MovesNamed : (Open → Shown → Ruled → Ruled → Type 0) → Shown → Option ℕ → Plans → Plans → Type 0
MovesNamed way shown None old new = new ≡ old
MovesNamed way shown (Some place) old new =
    (new.opened ≡ old.opened) × MovesAt way shown place old.judge new.judge old.opens new.opens

-- the ways in which a cursor's plan moves: by calls of the plan alone; by a FETCH, which leaves it where a row is in
-- hand; and by one turn of a FETCH, which makes a reply or works on
abbrev pub AnyOf : (ℕ → Facts → Ruling) → Open → Shown → Ruled → Ruled → Type 0
AnyOf would c shown old new = Moves would shown old new

pub record FetchOf (most : ℕ) (would : ℕ → Facts → Ruling) (c : Open) (shown : Shown) (old new : Ruled) : Type 0 where
  pub turns : FetchMoves c.hand most would shown old new
  pub held : IsSome c.hand → new ≡ old

abbrev pub TurnOf : Option (Reply × Reply) → ℕ → (ℕ → Facts → Ruling) → Open → Shown → Ruled → Ruled → Type 0
TurnOf part most would c shown old new = TurnMoves c.hand part most would shown old new

-- THE BOUNDS WITH WHICH A PLAN BEGINS. It has read leaves alone. These reads and the effort of the first FROM item are
-- together at most a number of the store's pages, cuts and entries where a retrieval or a race reads it, and where a
-- union does that number for each branch that the groups may have. The work left of all items is bounded likewise.
-- Where a restricted index of the first item has an exact estimate of at most 20, the background is over, and at most
-- 20 records are left to be fetched.
pub record BeginsWithin (shown : Shown) (s : Select) (indexes : List IndexDef) (snap : ℕ) (p : Planned) : Type 0 where
  pub work : plan_work shown p ≤ row_cost (lives_of p.asked.only) shown snap p.asked.items
  pub life : reads p.reads + plan_effort shown p ≤ plan_life s indexes shown snap p
  pub pages : p.reads.pages ≡ 0
  pub records : p.reads.records ≡ 0
  pub short : has_short (query_of p.stack.at.here) shown ≡ true → Settled p.stack.at.here
      × (fetches_left p.stack.at.here shown ≤ 20)

-- OPEN adds a cursor last, under the next number, at the base of the session's transaction, whose plan is that of its
-- select: drawn from what the store shows there with the transaction's changes, which is its view, with the strategy
-- and the scans that the five rules choose by the store's own estimates, with a race where one is asked and two of
-- these scans can race, with a union where the table would be read and a group has members, and with the bounds of
-- such a plan.
pub record OpensPlan (race : Bool) (shown : Shown) (s : Select) (db : State) (session : ℕ) (name : List ℕ)
    (old new : Plans) : Type 0 where
  pub cursor : Open
  pub added : new ≡ record old { opens = old.opens ++ cursor ∷ []; opened = old.opened + 1 }
  pub owner : cursor.session ≡ session
  pub called : cursor.name ≡ name
  pub number : cursor.number ≡ old.opened
  pub base : base_of db.transactions.active session ≡ Some cursor.snap
  pub asked : IsAsked s db.schema.indexes cursor.snap cursor.number cursor.plan.asked
  pub raced : cursor.plan.asked.race ≡ race
  pub rows : AllByRecursion
      (λ (t : ℕ). (seen_by shown cursor).rows t cursor.snap
      ≡ rows_viewed db (transaction_of db.transactions.active session) t)
      s.tables
  pub fits : CursorFits shown cursor
  pub leads : LeadsWith (seen_by shown cursor) cursor.plan
  pub stage : cursor.plan.stage ≡ stage_of s db.schema.indexes
  pub bounds : BeginsWithin (seen_by shown cursor) s db.schema.indexes cursor.snap cursor.plan

-- STEP: so many background steps, and fewer than asked only where no piece is awaited then
pub record StepOf (would : ℕ → Facts → Ruling) (done most : ℕ) (c : Open) (shown : Shown)
    (old new : Ruled) : Type 0 where
  pub steps : StepsBacks done would shown old new
  pub counted : plan_pieces new.plan ≡ counted_up (plan_pieces old.plan) done
  pub fewer : done < most → plan_awaited new.plan ≡ None

abbrev pub StepsTold : Under → ℕ → Option ℕ → Reply → Plans → Plans → Type 0
StepsTold u most None reply old new = new ≡ old
StepsTold u most (Some place) (Stepped done) old new =
    MovesNamed (StepOf u.would done most) u.store (Some place) old new
StepsTold u most (Some place) reply old new = ⊥

-- SHOW: the trace of that cursor's plan, with the names of indexes
abbrev pub TellsPlan : Option ℕ → List IndexDef → List Open → Reply → Type 0
TellsPlan None indexes opens reply = Unit {0}
TellsPlan (Some place) indexes opens reply =
    IfSome (slice_get opens place) (λ c. reply ≡ Trace (shown_trace indexes (plan_trace c.plan)))

-- COMMIT and ROLLBACK close the session's cursors, where they are not refused
abbrev pub ended_by : Reply → ℕ → List Open → List Open
ended_by (Refused refusal) session opens = opens
ended_by reply session opens = filter (λ (c : Open). not (c.session == session)) opens

-- CLOSE closes the cursor of a name, where one is open
abbrev pub closed_in : Option ℕ → List Open → List Open
closed_in None opens = opens
closed_in (Some place) opens = remove opens place

-- a search may ask the judge, and leaves the plans of all cursors
abbrev pub AsksJudge : Plans → Plans → Type 0
AsksJudge old new = new ≡ record old { judge = new.judge }

-- in a view of the transaction no range that WHERE gives one of these indexes has an exact estimate of at most 20, and
-- the judge stands where the steps of one retrieval leave it, which was opened over that view for the search
pub record IsLong (would : ℕ → Facts → Ruling) (state after : ℕ) (shown : Shown) (own : Transaction) (table : ℕ)
    (only : List (List Atom)) (indexes : List (ℕ × List ℕ)) : Type 0 where
  pub view : Option Frozen
  pub frozen : Freezes shown own view
  pub ran : Ran would state after (seen_at shown own.base view) (search_of table own.base only indexes)
  pub none_short : has_short (search_of table own.base only indexes) (seen_at shown own.base view) ≡ false

-- WHERE AN UPDATE OR DELETE MAY ASK THE JUDGE: the session's transaction may write, and WHERE gives an index of the
-- table a range, but none with an exact estimate of at most 20
pub record MayAsk (would : ℕ → Facts → Ruling) (state after : ℕ) (shown : Shown) (indexes : List IndexDef)
    (active : List Transaction) (session table : ℕ) (only : List (List Atom)) : Type 0 where
  pub own : Transaction
  pub writes : writing active session ≡ Ok own
  pub narrows : any_narrows only (indexes_from table 0 indexes) ≡ true
  pub long : IsLong would state after shown own table only (indexes_from table 0 indexes)

-- WHERE A SEARCH FOR THE ROWS OF AN UPDATE OR DELETE CAN BE MADE: over this view of the transaction, which can be asked
pub record CanSearch (shown : Shown) (own : Transaction) (view : Option Frozen) (table : ℕ) (only : List (List Atom))
    (indexes : List (ℕ × List ℕ)) : Type 0 where
  pub frozen : Freezes shown own view
  pub lays : LaysSome (alone shown own.base) view
  pub can : CanAsk (search_of table own.base only indexes) (seen_at shown own.base view)

-- a search was opened over a view of the transaction and made to its end: the judge stands where its steps leave it, and
-- each row found was fetched
pub record HasSearched (would : ℕ → Facts → Ruling) (state after : ℕ) (shown : Shown) (own : Transaction) (table : ℕ)
    (only : List (List Atom)) (indexes : List (ℕ × List ℕ)) : Type 0 where
  pub view : Option Frozen
  pub frozen : Freezes shown own view
  pub found : ℕ
  pub counts : Counts
  pub ran : RanFetched found would state after (seen_at shown own.base view) no_counts counts (search_of table own.base only indexes)

-- WHERE AN UPDATE OR DELETE HAS SEARCHED: if the session's transaction may write, and WHERE gives an index of the table a
-- range
abbrev pub FindsRows : (ℕ → Facts → Ruling) → ℕ → ℕ → Shown → List IndexDef → List Transaction → ℕ → ℕ → List (List Atom) → Type 0
FindsRows would state after shown indexes active session table only =
    (own : Transaction) → writing active session ≡ Ok own → any_narrows only (indexes_from table 0 indexes) ≡ true
    → HasSearched would state after shown own table only (indexes_from table 0 indexes)

-- UPDATE AND DELETE SEARCH: the plans of all cursors stay, and so does the judge, but where it may be asked
abbrev pub Searches : Under → State → ℕ → ℕ → List (List Atom) → Plans → Plans → Type 0
Searches u db session table only old new =
    (new ≡ old)
    ⊎ (AsksJudge old new
    × MayAsk u.would old.judge new.judge u.store db.schema.indexes db.transactions.active session table only)

-- one that told how many rows it touched found them so
abbrev pub Touches : Under → State → ℕ → ℕ → List (List Atom) → Reply → Plans → Plans → Type 0
Touches u db session table only reply old new =
    Searches u db session table only old new
    × ((count : ℕ) → reply ≡ Touched count
    → FindsRows u.would old.judge new.judge u.store db.schema.indexes db.transactions.active session table only)

-- WHAT AN ANSWERED CALL DOES TO THE PLANS, by what it asks
abbrev pub Handles : Under → Result Resolved Refusal → State → ℕ → Reply → Plans → Plans → Type 0
Handles u (Ok (asks.Open name s)) db session reply old new =
    reply ≡ Opened → OpensPlan u.settings.race u.store s db session name old new
Handles u (Ok (asks.Fetch name)) db session reply old new =
    MovesNamed (FetchOf u.settings.steps u.would) u.store (open_named old.opens session name) old new
Handles u (Ok (asks.Step name n)) db session reply old new =
    StepsTold u n (open_named old.opens session name) reply old new
Handles u (Ok (asks.Update table sets only)) db session reply old new = Touches u db session table only reply old new
Handles u (Ok (asks.Delete table only)) db session reply old new = Touches u db session table only reply old new
Handles u (Ok (asks.Show name)) db session reply old new =
    TellsPlan (open_named old.opens session name) db.schema.indexes old.opens reply × (new ≡ old)
Handles u (Ok asks.Commit) db session reply old new = new ≡ record old { opens = ended_by reply session old.opens }
Handles u (Ok asks.Rollback) db session reply old new = new ≡ record old { opens = ended_by reply session old.opens }
Handles u (Ok (asks.Close name)) db session reply old new =
    new ≡ record old { opens = closed_in (open_named old.opens session name) old.opens }
Handles u (Ok other) db session reply old new = new ≡ old
Handles u (Err refusal) db session reply old new = new ≡ old

-- WHAT A REFUSED CALL DOES TO THE PLANS: nothing, but that UPDATE and DELETE may have searched before they were refused
abbrev pub Refuses : Result Resolved Refusal → Plans → Plans → Type 0
Refuses (Ok (asks.Update table sets only)) old new = AsksJudge old new
Refuses (Ok (asks.Delete table only)) old new = AsksJudge old new
Refuses (Ok other) old new = new ≡ old
Refuses (Err refusal) old new = new ≡ old

-- the same of the statement of a text, where there is one; and what a refused call leaves
pub record HandlesText (u : Under) (statement : Option Statement) (db : State) (session : ℕ) (reply : Reply)
    (old new : Plans) : Type 0 where
  pub asked : Handles u (understood db.schema statement) db session reply old new
  pub refused : (refusal : Refusal) → reply ≡ Refused refusal → Refuses (understood db.schema statement) old new

-- WHAT ONE TURN'S PART OF A CALL DOES WHERE IT WORKS ON: the call is a FETCH of an open cursor, whose plan's step
-- answered Working
abbrev pub Works : Under → Result Resolved Refusal → ℕ → Plans → Plans → Type 0
Works u (Ok (asks.Fetch name)) session old new =
    IsSome (open_named old.opens session name)
    × MovesNamed (TurnOf None u.settings.steps u.would) u.store (open_named old.opens session name) old new
Works u (Ok other) session old new = ⊥
Works u (Err refusal) session old new = ⊥

pub record WorksText (u : Under) (statement : Option Statement) (db : State) (session : ℕ)
    (old new : Plans) : Type 0 where
  pub works : Works u (understood db.schema statement) session old new

abbrev pub is_fetch : Resolved → Bool
is_fetch (asks.Fetch name) = true
is_fetch other = false

-- what it does where it is answered: of a FETCH one turn at most
abbrev pub Turns : Under → Result Resolved Refusal → ℕ → Reply → Plans → Plans → Type 0
Turns u (Ok (asks.Fetch name)) session reply old new =
    MovesNamed (TurnOf (Some (reply, reply)) u.settings.steps u.would) u.store
    (open_named old.opens session name) old new
Turns u (Ok other) session reply old new = Unit {0}
Turns u (Err refusal) session reply old new = Unit {0}

pub record TurnsText (u : Under) (statement : Option Statement) (db : State) (session : ℕ) (reply : Reply)
    (old new : Plans) : Type 0 where
  pub turn : Turns u (understood db.schema statement) session reply old new

-- WHAT A CALL DOES TO THE PLANS FOR WHICH NO MEMORY WAS FOUND: FETCH and STEP may have moved their cursor's plan,
-- UPDATE and DELETE may have searched, and no other call does anything
abbrev pub Leaves : Under → Result Resolved Refusal → State → ℕ → Plans → Plans → Type 0
Leaves u (Ok (asks.Fetch name)) db session old new =
    MovesNamed (AnyOf u.would) u.store (open_named old.opens session name) old new
Leaves u (Ok (asks.Step name n)) db session old new =
    MovesNamed (AnyOf u.would) u.store (open_named old.opens session name) old new
Leaves u (Ok (asks.Update table sets only)) db session old new = Searches u db session table only old new
Leaves u (Ok (asks.Delete table only)) db session old new = Searches u db session table only old new
Leaves u (Ok other) db session old new = new ≡ old
Leaves u (Err refusal) db session old new = new ≡ old

pub record LeavesText (u : Under) (statement : Option Statement) (db : State) (session : ℕ)
    (old new : Plans) : Type 0 where
  pub left : Leaves u (understood db.schema statement) db session old new
