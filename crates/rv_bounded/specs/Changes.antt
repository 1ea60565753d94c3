-- HOW MUCH AN UPDATE OR DELETE OF A CORE READS TO FIND ITS ROWS, under a judge that is bounded.
use Rattle.std.specs.Prelude.{◌≡◌, ℕ, ◌+◌, ◌*◌, ◌^◌, ◌<◌, ◌≤◌, true, false, List, length, Ok}
use Rattle.rv_judge.specs.declared.events.Strategy.TheVariants.{BackgroundOnly}
use Rattle.rv_judge.specs.declared.judging.Facts.{Facts}
use Rattle.rv_judge.specs.Counting.{reads}
use Rattle.rv_judge.specs.Verdicts.{Ruling}
use Rattle.rv_restrict.specs.declared.atom.Atom.{Atom}
use Rattle.rv_lang.specs.declared.reply.Reply.{Reply}
use Rattle.rv_lang.specs.declared.reply.Reply.TheVariants.{Touched}
use Rattle.rv_reader.specs.Shown.{Shown}
use Rattle.rv_model.specs.declared.state.State.{State}
use Rattle.rv_model.specs.declared.transactions.Transaction.{Transaction}
use Rattle.rv_txn.specs.Calls.{writing}
use Rattle.rv_retrieval.specs.Short.{has_short}
use Rattle.rv_search.specs.Searching.{any_narrows, search_of}
use Rattle.rv_join.specs.Asking.{indexes_from}
use Rattle.rv_cursor.specs.Left.{seen_at}
use Rattle.rv_core.specs.Obeying.{HasSearched, Plans, Touches, Under}
use Rattle.skew_judges.specs.Guard.{IsBounded}

-- A SEARCH KEEPS TO ITS BOUND where it is background-only and no index is short: twice the pages of the table, as the
-- transaction sees it, two leaves for each planned scan, 48 records, and one for each row that was found, which is
-- fetched
abbrev pub SearchKeeps : {would : ℕ → Facts → Ruling} {state after : ℕ} (shown : Shown) (own : Transaction) (table : ℕ)
    (only : List (List Atom)) (indexes : List (ℕ × List ℕ))
    → HasSearched would state after shown own table only indexes → Type 0
SearchKeeps shown own table only indexes searched =
    has_short (search_of table own.base only indexes) (seen_at shown own.base searched.view) ≡ false
    → searched.ran.ran.begun.strategy ≡ BackgroundOnly
    → (seen_at shown own.base searched.view).pages table own.base < 2 ^ 63
    → reads searched.counts
    ≤ 2 * (seen_at shown own.base searched.view).pages table own.base
    + 2 * length searched.ran.ran.begun.joint.plans + 48 + searched.found

-- LAW: the search of an UPDATE or DELETE that told how many rows it touched does, where its WHERE gives an index of the
-- table a range, and the table has at most eight indexes
abbrev pub ChangesAreBounded : Type 0
ChangesAreBounded =
    (u : Under) (db : State) (session table count : ℕ) (only : List (List Atom)) (reply : Reply) (old new : Plans)
    (own : Transaction) (touches : Touches u db session table only reply old new) (told : reply ≡ Touched count)
    (writes : writing db.transactions.active session ≡ Ok own)
    (narrows : any_narrows only (indexes_from table 0 db.schema.indexes) ≡ true)
    → IsBounded u.would → length (indexes_from table 0 db.schema.indexes) ≤ 8
    → SearchKeeps u.store own table only (indexes_from table 0 db.schema.indexes)
    (touches.1 count told own writes narrows)
