-- CREATE INDEX: what it asks of the store, and what it makes of the database.
use Rattle.std.proofs.Common.{◌≡◌, ℕ, ◌<◌, ◌≤◌, List, [], ◌∷◌, ◌++◌, refl, ap, sym, ◌∙◌, arith, length, Option, Some, None, Ok, Err, true, false, not, ◌==◌, nat_eq, nat_lt}
use Rattle.std.specs.List.{AllByRecursion, IsDistinct, list_any, list_all, slice_index_or}
use Rattle.std.proofs.Math.Seq.{get_or-append_seam}
use Rattle.std.proofs.lemmas.Bool.Decides.{nat_tests}
use Rattle.std.proofs.lemmas.Map.Keys.{IsDistinct-cons}
use Rattle.rv_lang.specs.declared.reply.Reply.{Reply}
use Rattle.rv_lang.specs.declared.reply.Reply.TheVariants.{Created, Refused}
use Rattle.rv_lang.specs.declared.reply.Refusal.{Refusal}
use Rattle.rv_catalog.specs.declared.def.IndexDef.{IndexDef}
use Rattle.rv_catalog.specs.Fits.{IsNewIndex, all_different, is_column}
use Rattle.rv_catalog.specs.Kept.{indexes_over}
use Rattle.rv_catalog.specs.Schema.{Schema, width}
use Rattle.rv_reader.specs.Shown.{Shown, CanRead}
use Rattle.rv_reader.specs.Storing.{AreColumns, Indexed}
use Rattle.std.specs.Option.{option_map}
use Rattle.std.proofs.lemmas.Bool.{not-true, ltb-true}
use Rattle.std.specs.Cmp.{first_so, second_so}
use Rattle.rv_value.proofs.Tests.{left_false, right_false}
use Rattle.rv_value.specs.declared.record.Record.{Record}
use Rattle.rv_value.specs.declared.record.RowNo.{RowNo}
use Rattle.rv_lang.specs.declared.reply.Refusal.TheVariants.{Duplicate}
use Rattle.rv_lang.specs.declared.reply.Rival.TheVariants.{View}
use Rattle.rv_model.specs.Transactions.{refuse_at}
use Rattle.rv_model.specs.declared.state.Cursor.{Cursor}
use Rattle.rv_model.specs.declared.state.State.{State}
use Rattle.rv_model.specs.declared.transactions.Transaction.{Transaction}
use Rattle.rv_model.specs.declared.transactions.Transactions.{Transactions}
use Rattle.rv_model.specs.Transactions.{lowest, horizon}
use Rattle.rv_model.specs.Rivals.{first_equal}
use Rattle.rv_model.specs.Step.{Outcome, indexed, reply_of, rows_differ, state_of}
use Rattle.rv_model.specs.Database.{no_index}
use Rattle.rv_core.specs.Db.{Stand, db_of, stand_of, IsTied}
use Rattle.rv_core.specs.Doing.{Does}
use Rattle.rv_core.proofs.Tied.{none_lowest, tied_indexed}
use Rattle.rv_core.proofs.Standing.{stand_indexed}
use Rattle.rv_core.proofs.Images.{image_at}

turned : (c d : ℕ) → (d == c) ≡ false → nat_eq c d ≡ false
turned c d h = grind (arith, nat_tests)

none_distinct : IsDistinct nat_eq []
unfolding IsDistinct
none_distinct = tt

apart : (c : ℕ) (ds : List ℕ) → list_any (λ d. d == c) ds ≡ false → AllByRecursion (λ (d : ℕ). nat_eq c d ≡ false) ds
apart c [] h = tt
apart c (d ∷ ds) h = (turned c d (left_false (d == c) (list_any (λ e. e == c) ds) h), apart c ds (right_false (d == c) (list_any (λ e. e == c) ds) h))

distinct : (cs : List ℕ) → all_different cs ≡ true → IsDistinct nat_eq cs
distinct [] h = none_distinct
distinct (c ∷ cs) h =
    let first = not-true (list_any (λ d. d == c) cs) (first_so (not (list_any (λ d. d == c) cs)) (all_different cs) h) in
    IsDistinct-cons nat_eq c cs (apart c cs first) (distinct cs (second_so (not (list_any (λ d. d == c) cs)) (all_different cs) h))

all_there : (width : ℕ) (cs : List ℕ) → list_all (is_column width) cs ≡ true → AllByRecursion (λ (c : ℕ). c < width) cs
all_there width [] h = tt
all_there width (c ∷ cs) h = (ltb-true c width (first_so (is_column width c) (list_all (is_column width) cs) h), all_there width cs (second_so (is_column width c) (list_all (is_column width) cs) h))

-- the columns of a new index are those of one of the store
pub index_columns : (shown : Shown) (schema : Schema) (txns : Transactions) (def : IndexDef) → IsTied shown schema txns → IsNewIndex schema def → 1 ≤ length def.columns → AreColumns (shown.columns def.table) def.columns
index_columns shown schema txns def tied new some = record {
  some = some;
  few = new.few;
  different = distinct def.columns new.different;
  there = rw (tied.columns def.table new.there) (all_there (width schema.tables def.table) def.columns new.columns);
}

-- the table can be read at the last commit
pub newest_read : (shown : Shown) (schema : Schema) (txns : Transactions) (table : ℕ) → IsTied shown schema txns → table < length schema.tables → CanRead shown table shown.newest
newest_read shown schema txns table tied there =
    let count = tied.count in
    record { there = omega (arith, count, there); snapshot = record { kept = tied.standing; known = omega arith } }

-- without a transaction the newest commit is the only snapshot
pub index_alone : (shown : Shown) (active : List Transaction) → shown.horizon ≡ horizon active shown.newest → lowest active ≡ None → shown.horizon ≡ shown.newest
index_alone shown active swept idle = swept ∙ ap (λ (ts : List Transaction). horizon ts shown.newest) (none_lowest active idle)

-- the index that was added last
pub added_last : (indexes : List IndexDef) (def : IndexDef) → slice_index_or (indexes ++ def ∷ []) (length indexes) no_index ≡ def
added_last indexes def = get_or-append_seam indexes def [] no_index

pub indexes_tied : (old new : Shown) (schema left : Schema) (def : IndexDef) (txns : Transactions) → def.table < length schema.tables → nat_lt 7 (indexes_over def.table schema.indexes) ≡ false → left ≡ record schema { indexes = schema.indexes ++ def ∷ [] } → Indexed old new def.table def.columns → IsTied old schema txns → IsTied new left txns
indexes_tied old new schema left def txns there room is more tied = rw is (tied_indexed old new schema def txns there (low (indexes_over def.table schema.indexes) room) more tied)
  where
    low : (n : ℕ) → nat_lt 7 n ≡ false → n ≤ 7
    low n h = grind (arith, nat_tests)

pub few_room : (n m : ℕ) → m ≡ n → m ≤ 7 → nat_lt 7 n ≡ false
few_room n m e h = grind (arith, nat_tests)

pub indexes_does : (old new : Shown) (schema left : Schema) (def : IndexDef) (txns : Transactions) (cursors : List Cursor) → lowest txns.active ≡ None → nat_lt 7 (indexes_over def.table schema.indexes) ≡ false → left ≡ record schema { indexes = schema.indexes ++ def ∷ [] } → Indexed old new def.table def.columns → rows_differ (db_of old schema txns cursors) def ≡ Ok tt → IsTied old schema txns
    → Does (indexed (db_of old schema txns cursors) def) (stand_of old schema txns cursors) (Created, Created) (stand_of new left txns cursors)
indexes_does old new schema left def txns cursors idle room is more differ tied =
    let stand = stand_indexed old new schema def txns cursors tied more in
    rw (idle, room, differ, is, stand) (refl, refl, refl)

-- whether the rows of the table differ in the index is what is found in the store
differ_by : (def : IndexDef) (rows : List Record) (o : Option Record) → first_equal def rows ≡ o → None ≡ option_map (λ (r : Record). r.row) o → refuse_at (first_equal def rows) (λ (r : Record). Duplicate r.row View) ≡ Ok tt
differ_by def rows None e none = ap (λ (o : Option Record). refuse_at o (λ (r : Record). Duplicate r.row View)) e
differ_by def rows (Some r) e none = cc

equal_by : (def : IndexDef) (rows : List Record) (row : RowNo) (o : Option Record) → first_equal def rows ≡ o → Some row ≡ option_map (λ (r : Record). r.row) o → refuse_at (first_equal def rows) (λ (r : Record). Duplicate r.row View) ≡ Err (Duplicate row View)
equal_by def rows row None e some = cc
equal_by def rows row (Some r) e some = let same : row ≡ r.row = cc in ap (λ (o : Option Record). refuse_at o (λ (r : Record). Duplicate r.row View)) e ∙ ap (λ (n : RowNo). Err (Duplicate n View)) (sym same)

pub rows_are_different : (shown : Shown) (schema : Schema) (txns : Transactions) (cursors : List Cursor) (def : IndexDef) → def.table < length schema.tables → None ≡ option_map (λ (r : Record). r.row) (first_equal def (shown.rows def.table shown.newest))
    → rows_differ (db_of shown schema txns cursors) def ≡ Ok tt
rows_are_different shown schema txns cursors def there none =
    ap (λ (rows : List Record). refuse_at (first_equal def rows) (λ (r : Record). Duplicate r.row View)) (image_at shown (length schema.tables) shown.newest def.table there)
    ∙ differ_by def (shown.rows def.table shown.newest) (first_equal def (shown.rows def.table shown.newest)) refl none

pub rows_are_equal : (shown : Shown) (schema : Schema) (txns : Transactions) (cursors : List Cursor) (def : IndexDef) (row : RowNo) → def.table < length schema.tables → Some row ≡ option_map (λ (r : Record). r.row) (first_equal def (shown.rows def.table shown.newest))
    → rows_differ (db_of shown schema txns cursors) def ≡ Err (Duplicate row View)
rows_are_equal shown schema txns cursors def row there some =
    ap (λ (rows : List Record). refuse_at (first_equal def rows) (λ (r : Record). Duplicate r.row View)) (image_at shown (length schema.tables) shown.newest def.table there)
    ∙ equal_by def (shown.rows def.table shown.newest) row (first_equal def (shown.rows def.table shown.newest)) refl some

-- an index in which two rows are equal is refused
pub equal_refused : (s : State) (def : IndexDef) (refusal : Refusal) → lowest s.transactions.active ≡ None → nat_lt 7 (indexes_over def.table s.schema.indexes) ≡ false → rows_differ s def ≡ Err refusal → indexed s def ≡ Err refusal
equal_refused s def refusal idle room equal = rw (idle, room, equal) refl

pub refused_does : (outcome : Outcome) (stand : Stand) (refusal : Refusal) (replies : Reply × Reply) → outcome ≡ Err refusal → (replies.0 ≡ Refused refusal) × (replies.1 ≡ Refused refusal) → Does outcome stand replies stand
refused_does outcome stand refusal replies is told =
    (told.1 ∙ sym told.0, told.0 ∙ ap reply_of (sym is), ap (λ (o : Outcome). record stand { db = state_of o stand.db }) (sym is))
