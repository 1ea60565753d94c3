-- Bridge: on the database for which a state stands a statement does what the two functions of the working definition say,
-- allowed replies and the next state.
use Rattle.std.proofs.Common.{◌≡◌, ℕ, List, Option, Some, None, Result, Ok, Err, IsSome, refl, sym, ap, ◌∙◌, subst, remove}
use Rattle.rv_lang.specs.declared.reply.Refusal.{Refusal}
use Rattle.rv_lang.specs.declared.reply.Reply.{Reply}
use Rattle.rv_lang.specs.declared.reply.Reply.TheVariants.{Created, Began, Inserted, Touched, Committed, RolledBack, Opened, Row, End, Closed, Stepped, Trace, Refused}
use Rattle.rv_catalog.specs.declared.def.Resolved.{Resolved}
use Rattle.rv_catalog.specs.declared.def.Resolved.TheVariants as asked
use Rattle.rv_model.specs.declared.state.State.{State}
use Rattle.rv_model.specs.declared.state.Offer.{Offer}
use Rattle.rv_model.specs.Database.{cursor_at, cursor_named}
use Rattle.rv_model.specs.Offers.{place_of, without}
use Rattle.rv_model.specs.Step.{Outcome, AllowsAsked, AllowsFetch, AllowsShow, AllowsStep, next_asked, reply_of, state_of, created, indexed, began, inserted, changed, committed, rolled_back, opened, closed, fetched}
use Rattle.rv_believed.specs.Changing.{change, insert}
use Rattle.rv_believed.specs.Cursors.{close_cursor, open_cursor}
use Rattle.rv_believed.specs.Database.{Database}
use Rattle.rv_believed.specs.Standing.{IsSound, database, outcome_of}
use Rattle.rv_believed.specs.Transactions as transactions
use Rattle.rv_believed.specs.Transactions.{begin, commit, create_index, create_table, rollback}
use Rattle.rv_believed.specs.Step.{ComesTo, with_offers, Fetches, StepsBy, ShowsTo, OfCursor, DoesAsked}
use Rattle.rv_believed.proofs.StatementsStand.{begin_stands, change_stands, close_stands, commit_stands, index_stands, insert_stands, open_stands, rollback_stands, table_stands}
use Rattle.rv_believed.proofs.ShowsSame.{shows_from, shows_to}

-- allowed by the working definition, with the database of the state that comes of it
abbrev pub Works : State → ℕ → Result Resolved Refusal → Reply → Database → Type 0
Works s session r reply new = AllowsAsked r s session reply × (new ≡ database (next_asked r s session reply))

outcome_to : (o : Outcome) (s : State) (reply : Reply) (new : Database) → reply ≡ reply_of o → new ≡ database (state_of o s)
    → ComesTo (outcome_of o) (database s) reply new
outcome_to (Ok done) s reply new p q = (p, q)
outcome_to (Err refusal) s reply new p q = (p, q)

outcome_from : (o : Outcome) (s : State) (reply : Reply) (new : Database) → ComesTo (outcome_of o) (database s) reply new
    → (reply ≡ reply_of o) × (new ≡ database (state_of o s))
outcome_from (Ok done) s reply new c = (c.0, c.1)
outcome_from (Err refusal) s reply new c = (c.0, c.1)

-- the same, where the outcome is that of a working definition
same_to : (mine : transactions.Outcome) (o : Outcome) (s : State) (reply : Reply) (new : Database) → mine ≡ outcome_of o → reply ≡ reply_of o
    → new ≡ database (state_of o s) → ComesTo mine (database s) reply new
same_to mine o s reply new e p q = subst (λ (it : transactions.Outcome). ComesTo it (database s) reply new) (sym e) (outcome_to o s reply new p q)

same_from : (mine : transactions.Outcome) (o : Outcome) (s : State) (reply : Reply) (new : Database) → mine ≡ outcome_of o → ComesTo mine (database s) reply new
    → (reply ≡ reply_of o) × (new ≡ database (state_of o s))
same_from mine o s reply new e c = outcome_from o s reply new (subst (λ (it : transactions.Outcome). ComesTo it (database s) reply new) e c)

abbrev FetchWorks : Option ℕ → State → List ℕ → Reply → Database → Type 0
FetchWorks o s name reply new = AllowsFetch o s name reply × (new ≡ database (fetched o s reply))

abbrev FetchDoes : Option ℕ → State → List ℕ → Reply → Database → Type 0
FetchDoes o s name reply new = OfCursor o (database s) name (λ place. Fetches (database s) place (cursor_at s.cursors place).offers reply new) reply new

-- a row is taken from the place where it is found
taken_to : (s : State) (place : ℕ) (offers : List Offer) (new : Database) (o : Option ℕ) → IsSome o → new ≡ with_offers (database s) place (without o offers)
    → (n : ℕ) × (o ≡ Some n) × (new ≡ with_offers (database s) place (remove offers n))
taken_to s place offers new None some e = absurd (cc some)
taken_to s place offers new (Some n) some e = (n, refl, e)

abbrev TakenFrom : State → ℕ → List Offer → Database → Option ℕ → Type 0
TakenFrom s place offers new o = IsSome o × (new ≡ with_offers (database s) place (without o offers))

taken_from : (s : State) (place : ℕ) (offers : List Offer) (new : Database) (o : Option ℕ) (n : ℕ) → o ≡ Some n
    → new ≡ with_offers (database s) place (remove offers n) → TakenFrom s place offers new o
taken_from s place offers new o n p e = subst (TakenFrom s place offers new) (sym p) (refl, e)

fetch_to : (o : Option ℕ) (s : State) (name : List ℕ) (reply : Reply) (new : Database) → FetchWorks o s name reply new → FetchDoes o s name reply new
fetch_to None s name reply new w = (w.0, w.1)
fetch_to (Some place) s name (Row values) new w = let offers = (cursor_at s.cursors place).offers in
    taken_to s place offers new (place_of offers values) w.0 w.1
fetch_to (Some place) s name End new w = (w.0, w.1 ∙ ap (with_offers (database s) place) w.0)
fetch_to (Some place) s name Created new w = absurd w.0
fetch_to (Some place) s name (Began n) new w = absurd w.0
fetch_to (Some place) s name (Inserted row) new w = absurd w.0
fetch_to (Some place) s name (Touched n) new w = absurd w.0
fetch_to (Some place) s name (Committed n) new w = absurd w.0
fetch_to (Some place) s name RolledBack new w = absurd w.0
fetch_to (Some place) s name Opened new w = absurd w.0
fetch_to (Some place) s name Closed new w = absurd w.0
fetch_to (Some place) s name (Stepped n) new w = absurd w.0
fetch_to (Some place) s name (Trace shown) new w = absurd w.0
fetch_to (Some place) s name (Refused refusal) new w = absurd w.0

fetch_from : (o : Option ℕ) (s : State) (name : List ℕ) (reply : Reply) (new : Database) → FetchDoes o s name reply new → FetchWorks o s name reply new
fetch_from None s name reply new d = (d.0, d.1)
fetch_from (Some place) s name (Row values) new d = let offers = (cursor_at s.cursors place).offers in
    taken_from s place offers new (place_of offers values) d.0 d.1 d.2
fetch_from (Some place) s name End new d = (d.0, d.1 ∙ ap (with_offers (database s) place) (sym d.0))
fetch_from (Some place) s name Created new d = absurd d
fetch_from (Some place) s name (Began n) new d = absurd d
fetch_from (Some place) s name (Inserted row) new d = absurd d
fetch_from (Some place) s name (Touched n) new d = absurd d
fetch_from (Some place) s name (Committed n) new d = absurd d
fetch_from (Some place) s name RolledBack new d = absurd d
fetch_from (Some place) s name Opened new d = absurd d
fetch_from (Some place) s name Closed new d = absurd d
fetch_from (Some place) s name (Stepped n) new d = absurd d
fetch_from (Some place) s name (Trace shown) new d = absurd d
fetch_from (Some place) s name (Refused refusal) new d = absurd d

stepped_to : (o : Option ℕ) (s : State) (name : List ℕ) (n : ℕ) (reply : Reply) (new : Database) → AllowsStep o name n reply → new ≡ database s
    → OfCursor o (database s) name (λ place. StepsBy n reply × (new ≡ database s)) reply new
stepped_to None s name n reply new w q = (w, q)
stepped_to (Some place) s name n (Stepped m) new w q = (w, q)
stepped_to (Some place) s name n Created new w q = absurd w
stepped_to (Some place) s name n (Began m) new w q = absurd w
stepped_to (Some place) s name n (Inserted row) new w q = absurd w
stepped_to (Some place) s name n (Touched m) new w q = absurd w
stepped_to (Some place) s name n (Committed m) new w q = absurd w
stepped_to (Some place) s name n RolledBack new w q = absurd w
stepped_to (Some place) s name n Opened new w q = absurd w
stepped_to (Some place) s name n (Row values) new w q = absurd w
stepped_to (Some place) s name n End new w q = absurd w
stepped_to (Some place) s name n Closed new w q = absurd w
stepped_to (Some place) s name n (Trace shown) new w q = absurd w
stepped_to (Some place) s name n (Refused refusal) new w q = absurd w

stepped_from : (o : Option ℕ) (s : State) (name : List ℕ) (n : ℕ) (reply : Reply) (new : Database)
    → OfCursor o (database s) name (λ place. StepsBy n reply × (new ≡ database s)) reply new → AllowsStep o name n reply × (new ≡ database s)
stepped_from None s name n reply new d = (d.0, d.1)
stepped_from (Some place) s name n (Stepped m) new d = (d.0, d.1)
stepped_from (Some place) s name n Created new d = absurd d.0
stepped_from (Some place) s name n (Began m) new d = absurd d.0
stepped_from (Some place) s name n (Inserted row) new d = absurd d.0
stepped_from (Some place) s name n (Touched m) new d = absurd d.0
stepped_from (Some place) s name n (Committed m) new d = absurd d.0
stepped_from (Some place) s name n RolledBack new d = absurd d.0
stepped_from (Some place) s name n Opened new d = absurd d.0
stepped_from (Some place) s name n (Row values) new d = absurd d.0
stepped_from (Some place) s name n End new d = absurd d.0
stepped_from (Some place) s name n Closed new d = absurd d.0
stepped_from (Some place) s name n (Trace shown) new d = absurd d.0
stepped_from (Some place) s name n (Refused refusal) new d = absurd d.0

abbrev ShowDoes : Option ℕ → State → List ℕ → Reply → Database → Type 0
ShowDoes o s name reply new = OfCursor o (database s) name (λ place. ShowsTo (database s) (cursor_at s.cursors place) reply × (new ≡ database s)) reply new

show_to : (o : Option ℕ) (s : State) (name : List ℕ) (reply : Reply) (new : Database) → AllowsShow o s name reply → new ≡ database s → ShowDoes o s name reply new
show_to None s name reply new w q = (w, q)
show_to (Some place) s name (Trace shown) new w q = (shows_to s.schema.indexes (cursor_at s.cursors place).table shown w, q)
show_to (Some place) s name Created new w q = absurd w
show_to (Some place) s name (Began m) new w q = absurd w
show_to (Some place) s name (Inserted row) new w q = absurd w
show_to (Some place) s name (Touched m) new w q = absurd w
show_to (Some place) s name (Committed m) new w q = absurd w
show_to (Some place) s name RolledBack new w q = absurd w
show_to (Some place) s name Opened new w q = absurd w
show_to (Some place) s name (Row values) new w q = absurd w
show_to (Some place) s name End new w q = absurd w
show_to (Some place) s name Closed new w q = absurd w
show_to (Some place) s name (Stepped m) new w q = absurd w
show_to (Some place) s name (Refused refusal) new w q = absurd w

show_from : (o : Option ℕ) (s : State) (name : List ℕ) (reply : Reply) (new : Database) → ShowDoes o s name reply new → AllowsShow o s name reply × (new ≡ database s)
show_from None s name reply new d = (d.0, d.1)
show_from (Some place) s name (Trace shown) new d = (shows_from s.schema.indexes (cursor_at s.cursors place).table shown d.0, d.1)
show_from (Some place) s name Created new d = absurd d.0
show_from (Some place) s name (Began m) new d = absurd d.0
show_from (Some place) s name (Inserted row) new d = absurd d.0
show_from (Some place) s name (Touched m) new d = absurd d.0
show_from (Some place) s name (Committed m) new d = absurd d.0
show_from (Some place) s name RolledBack new d = absurd d.0
show_from (Some place) s name Opened new d = absurd d.0
show_from (Some place) s name (Row values) new d = absurd d.0
show_from (Some place) s name End new d = absurd d.0
show_from (Some place) s name Closed new d = absurd d.0
show_from (Some place) s name (Stepped m) new d = absurd d.0
show_from (Some place) s name (Refused refusal) new d = absurd d.0

pub does_to : (r : Result Resolved Refusal) (s : State) (session : ℕ) (reply : Reply) (new : Database) → IsSound s → Works s session r reply new
    → DoesAsked (database s) session r reply new
does_to (Err refusal) s session reply new h w = (w.0, w.1)
does_to (Ok (asked.CreateTable def)) s session reply new h w = same_to (create_table (database s) def) (created s def) s reply new (table_stands s def h) w.0 w.1
does_to (Ok (asked.CreateIndex def)) s session reply new h w = same_to (create_index (database s) def) (indexed s def) s reply new (index_stands s def h) w.0 w.1
does_to (Ok (asked.Begin read_only)) s session reply new h w = same_to (begin (database s) session read_only) (began s session read_only) s reply new (begin_stands s session read_only h) w.0 w.1
does_to (Ok (asked.Insert t vs)) s session reply new h w = same_to (insert (database s) session t vs) (inserted s session t vs) s reply new (insert_stands s session t vs h) w.0 w.1
does_to (Ok (asked.Update t sets only)) s session reply new h w = same_to (change (database s) session t (Some sets) only) (changed s session t (Some sets) only) s reply new (change_stands s session t (Some sets) only h) w.0 w.1
does_to (Ok (asked.Delete t only)) s session reply new h w = same_to (change (database s) session t None only) (changed s session t None only) s reply new (change_stands s session t None only h) w.0 w.1
does_to (Ok asked.Commit) s session reply new h w = same_to (commit (database s) session) (committed s session) s reply new (commit_stands s session h) w.0 w.1
does_to (Ok asked.Rollback) s session reply new h w = same_to (rollback (database s) session) (rolled_back s session) s reply new (rollback_stands s session h) w.0 w.1
does_to (Ok (asked.Open name q)) s session reply new h w = same_to (open_cursor (database s) session name q) (opened s session name q) s reply new (open_stands s session name q) w.0 w.1
does_to (Ok (asked.Close name)) s session reply new h w = same_to (close_cursor (database s) session name) (closed s session name) s reply new (close_stands s session name) w.0 w.1
does_to (Ok (asked.Fetch name)) s session reply new h w = fetch_to (cursor_named s.cursors session name) s name reply new (w.0, w.1)
does_to (Ok (asked.Step name n)) s session reply new h w = stepped_to (cursor_named s.cursors session name) s name n reply new w.0 w.1
does_to (Ok (asked.Show name)) s session reply new h w = show_to (cursor_named s.cursors session name) s name reply new w.0 w.1

pub does_from : (r : Result Resolved Refusal) (s : State) (session : ℕ) (reply : Reply) (new : Database) → IsSound s → DoesAsked (database s) session r reply new
    → Works s session r reply new
does_from (Err refusal) s session reply new h d = (d.0, d.1)
does_from (Ok (asked.CreateTable def)) s session reply new h d = same_from (create_table (database s) def) (created s def) s reply new (table_stands s def h) d
does_from (Ok (asked.CreateIndex def)) s session reply new h d = same_from (create_index (database s) def) (indexed s def) s reply new (index_stands s def h) d
does_from (Ok (asked.Begin read_only)) s session reply new h d = same_from (begin (database s) session read_only) (began s session read_only) s reply new (begin_stands s session read_only h) d
does_from (Ok (asked.Insert t vs)) s session reply new h d = same_from (insert (database s) session t vs) (inserted s session t vs) s reply new (insert_stands s session t vs h) d
does_from (Ok (asked.Update t sets only)) s session reply new h d = same_from (change (database s) session t (Some sets) only) (changed s session t (Some sets) only) s reply new (change_stands s session t (Some sets) only h) d
does_from (Ok (asked.Delete t only)) s session reply new h d = same_from (change (database s) session t None only) (changed s session t None only) s reply new (change_stands s session t None only h) d
does_from (Ok asked.Commit) s session reply new h d = same_from (commit (database s) session) (committed s session) s reply new (commit_stands s session h) d
does_from (Ok asked.Rollback) s session reply new h d = same_from (rollback (database s) session) (rolled_back s session) s reply new (rollback_stands s session h) d
does_from (Ok (asked.Open name q)) s session reply new h d = same_from (open_cursor (database s) session name q) (opened s session name q) s reply new (open_stands s session name q) d
does_from (Ok (asked.Close name)) s session reply new h d = same_from (close_cursor (database s) session name) (closed s session name) s reply new (close_stands s session name) d
does_from (Ok (asked.Fetch name)) s session reply new h d = fetch_from (cursor_named s.cursors session name) s name reply new d
does_from (Ok (asked.Step name n)) s session reply new h d = stepped_from (cursor_named s.cursors session name) s name n reply new d
does_from (Ok (asked.Show name)) s session reply new h d = show_from (cursor_named s.cursors session name) s name reply new d
