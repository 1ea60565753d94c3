-- Believed: what a statement does: the reply that is given to a session, and the database after it.
use Rattle.std.specs.Prelude.{◌≡◌, ◌≤◌, ℕ, List, [], Option, Some, None, Result, Ok, Err, remove, slice_set}
use Rattle.rv_lang.specs.declared.reply.Refusal.{Refusal}
use Rattle.rv_lang.specs.declared.reply.Refusal.TheVariants.{NoCursor}
use Rattle.rv_lang.specs.declared.reply.Reply.{Reply}
use Rattle.rv_lang.specs.declared.reply.Reply.TheVariants.{Row, End, Stepped, Trace, Refused}
use Rattle.rv_catalog.specs.declared.def.Resolved.{Resolved}
use Rattle.rv_catalog.specs.declared.def.Resolved.TheVariants as asked
use Rattle.rv_model.specs.declared.state.Cursor.{Cursor}
use Rattle.rv_model.specs.declared.state.Offer.{Offer}
use Rattle.rv_model.specs.Database.{cursor_at, cursor_named}
use Rattle.rv_model.specs.Offers.{place_of}
use Rattle.rv_believed.specs.Changing.{change, insert}
use Rattle.rv_believed.specs.Cursors.{close_cursor, open_cursor}
use Rattle.rv_believed.specs.Database.{Database}
use Rattle.rv_believed.specs.Runs.{Shows}
use Rattle.rv_believed.specs.Transactions.{Outcome, begin, commit, create_index, create_table, rollback}

-- the outcome comes to this reply and this database; after a refusal the database is as it was
abbrev pub ComesTo : Outcome → Database → Reply → Database → Type 0
ComesTo (Ok done) d reply new = (reply ≡ done.0) × (new ≡ done.1)
ComesTo (Err refusal) d reply new = (reply ≡ Refused refusal) × (new ≡ d)

-- with other offers of the cursor in a place
abbrev pub with_offers : Database → ℕ → List Offer → Database
with_offers d n left =
    record d { cursors = slice_set d.cursors n (record (cursor_at d.cursors n) { offers = left }) }

-- FETCH: a row is taken out of the cursor's offers, or there is none left.
abbrev pub Fetches : Database → ℕ → List Offer → Reply → Database → Type 0
Fetches d place offers (Row values) new =
    (n : ℕ) × (place_of offers values ≡ Some n) × (new ≡ with_offers d place (remove offers n))
Fetches d place offers End new = (offers ≡ []) × (new ≡ with_offers d place [])
Fetches d place offers reply new = ⊥

-- STEP: so many background steps were made, at most as many as are asked.
abbrev pub StepsBy : ℕ → Reply → Type 0
StepsBy n (Stepped m) = m ≤ n
StepsBy n reply = ⊥

-- SHOW: a trace that is allowed for the indexes over the cursor's table.
abbrev pub ShowsTo : Database → Cursor → Reply → Type 0
ShowsTo d c (Trace shown) = Shows d.indexes c.table shown
ShowsTo d c reply = ⊥

-- so of the place of a session's cursor, where there is one of this name; else the call is refused
abbrev pub OfCursor : Option ℕ → Database → List ℕ → (ℕ → Type 0) → Reply → Database → Type 0
OfCursor None d name P reply new = (reply ≡ Refused (NoCursor name)) × (new ≡ d)
OfCursor (Some place) d name P reply new = P place

-- WHAT A STATEMENT DOES
abbrev pub Does : Database → ℕ → Resolved → Reply → Database → Type 0
Does d session (asked.CreateTable def) reply new = ComesTo (create_table d def) d reply new
Does d session (asked.CreateIndex def) reply new = ComesTo (create_index d def) d reply new
Does d session (asked.Begin read_only) reply new = ComesTo (begin d session read_only) d reply new
Does d session (asked.Insert t values) reply new = ComesTo (insert d session t values) d reply new
Does d session (asked.Update t sets only) reply new =
    ComesTo (change d session t (Some sets) only) d reply new
Does d session (asked.Delete t only) reply new = ComesTo (change d session t None only) d reply new
Does d session asked.Commit reply new = ComesTo (commit d session) d reply new
Does d session asked.Rollback reply new = ComesTo (rollback d session) d reply new
Does d session (asked.Open name q) reply new = ComesTo (open_cursor d session name q) d reply new
Does d session (asked.Close name) reply new = ComesTo (close_cursor d session name) d reply new
Does d session (asked.Fetch name) reply new = OfCursor (cursor_named d.cursors session name) d name
    (λ place. Fetches d place (cursor_at d.cursors place).offers reply new) reply new
Does d session (asked.Step name n) reply new = OfCursor (cursor_named d.cursors session name) d name
    (λ place. StepsBy n reply × (new ≡ d)) reply new
Does d session (asked.Show name) reply new = OfCursor (cursor_named d.cursors session name) d name
    (λ place. ShowsTo d (cursor_at d.cursors place) reply × (new ≡ d)) reply new

-- what is asked is done, or the statement is refused by its limits or names
abbrev pub DoesAsked : Database → ℕ → Result Resolved Refusal → Reply → Database → Type 0
DoesAsked d session (Ok asked) reply new = Does d session asked reply new
DoesAsked d session (Err refusal) reply new = (reply ≡ Refused refusal) × (new ≡ d)
