-- What each of the three places gives, put together of what was looked up.
use Rattle.std.proofs.Common.{◌≡◌, ℕ, List, [], Bool, not, ◌&&◌, ◌||◌, Option, Some, None, ap, sym, subst, ◌∙◌, arith, length}
use Rattle.std.specs.Option.{option_map}
use Rattle.rv_reader.proofs.Rows.{applied_ascends}
use Rattle.rv_value.specs.declared.value.Value.{Value}
use Rattle.rv_value.specs.declared.record.Record.{Record}
use Rattle.rv_value.specs.declared.record.RowNo.{RowNo}
use Rattle.rv_value.specs.declared.record.IndexEntry.{IndexEntry}
use Rattle.rv_rows.specs.declared.changes.Change.{Change}
use Rattle.rv_rows.specs.Changes.{Rise, has_change, rows_with_changes, with_changes}
use Rattle.rv_rows.specs.Rows.{Ascend}
use Rattle.rv_reader.specs.Shown.{Shown, IsSnapshot}
use Rattle.rv_reader.specs.Storing.{IsStored}
use Rattle.rv_model.specs.declared.transactions.Transaction.{Transaction}
use Rattle.rv_model.specs.Rivals.{has_key, rows_left, rows_written}
use Rattle.rv_overlay.specs.declared.frozen.Frozen.{Frozen}
use Rattle.rv_own.specs.Views.{Freezes}
use Rattle.rv_rivals.specs.Lookups.{AreEntries, HaveRows, IsStatement, entries_written, lower_row, other_than}
use Rattle.rv_rivals.specs.Points.{lowest_with}
use Rattle.rv_rivals.proofs.Finding.{find_same}
use Rattle.rv_rivals.proofs.Numbers.{left_lowest, view_lowest, written_lowest}

-- the last commit is a snapshot
pub newest_at : (shown : Shown) → IsStored shown → IsSnapshot shown shown.newest
newest_at shown stored = record { kept = stored.standing; known = omega arith }

-- the changes of a transaction rise, as its view tells
pub rise_of : (shown : Shown) (t : Transaction) (view : Option Frozen) → Freezes shown t view → Rise t.changes
rise_of shown t None freezes = (let none : t.changes ≡ [] = freezes in subst Rise (sym none) tt)
rise_of shown t (Some f) freezes = subst Rise freezes.changes freezes.keeps.rise

lowest_same : (columns : List ℕ) (key : List Value) (p q : ℕ → Bool) (rows : List Record) → ((n : ℕ) → p n ≡ q n) → lowest_with columns key p rows ≡ lowest_with columns key q rows
lowest_same columns key p q rows same =
    ap (option_map (λ (r : Record). r.row)) (find_same (λ (r : Record). has_key columns key r && p r.row.0) (λ r. has_key columns key r && q r.row.0) rows (λ r. ap (λ b. has_key columns key r && b) (same r.row.0)))

-- the entries of a statement's rows are those of rows
pub statement_rows : (table : ℕ) (columns : List ℕ) (entries : List IndexEntry) (new : List Change) → entries ≡ entries_written columns table new → HaveRows columns entries
statement_rows table columns entries new is = record { rows = rows_written table new; ascend = applied_ascends table new [] tt; are = is }

pub are_entries : (columns : List ℕ) (key : List Value) (entries : List IndexEntry) → HaveRows columns entries → length key ≡ length columns → AreEntries key entries
are_entries columns key entries have long = record { columns = columns; rows = have.rows; ascend = have.ascend; are = have.are; long = long }

pub in_view_is : (shown : Shown) (own : Transaction) (view : Option Frozen) (table row : ℕ) (columns : List ℕ) (key : List Value) (base : List Record) (told new : List Change) (entries : List IndexEntry) (found other result : Option RowNo)
    → Ascend base → Freezes shown own view → IsStatement table row told columns entries new
    → found ≡ lowest_with columns key (λ n. not (has_change table n told)) (rows_with_changes table own.changes base)
    → other ≡ lowest_with columns key (other_than row) (rows_written table new) → result ≡ lower_row found other
    → result ≡ lowest_with columns key (other_than row) (rows_with_changes table (with_changes new own.changes) base)
in_view_is shown own view table row columns key base told new entries found other result ascend freezes st first second is =
    let seen = rows_with_changes table own.changes base in
    let unchanged = lowest_same columns key (λ n. not (has_change table n told)) (λ n. not (has_change table n new)) seen (λ n. ap not (st.same n)) in
    is ∙ (λ i. lower_row ((first ∙ unchanged) i) (second i))
    ∙ sym (view_lowest columns key table row new own.changes base ascend (rise_of shown own view freezes) st.rise st.has)

pub at_commit_is : (table row : ℕ) (columns : List ℕ) (key : List Value) (last : List Record) (own told new : List Change) (entries : List IndexEntry) (found : Option RowNo)
    → IsStatement table row told columns entries new → found ≡ lowest_with columns key (λ n. not (has_change table n own || has_change table n told)) last
    → found ≡ lowest_with columns key (other_than row) (rows_left table (with_changes new own) last)
at_commit_is table row columns key last own told new entries found st is =
    is ∙ lowest_same columns key (λ n. not (has_change table n own || has_change table n told)) (λ n. not (has_change table n own || has_change table n new)) last (λ n. ap (λ b. not (has_change table n own || b)) (st.same n))
    ∙ sym (left_lowest columns key table row new own last st.has)

pub in_other_is : (shown : Shown) (t : Transaction) (view : Option Frozen) (table row : ℕ) (columns : List ℕ) (key : List Value) (base : List Record) (found : Option RowNo) → Ascend base → Freezes shown t view
    → found ≡ lowest_with columns key (λ n. has_change table n t.changes && other_than row n) (rows_with_changes table t.changes base) → found ≡ lowest_with columns key (other_than row) (rows_written table t.changes)
in_other_is shown t view table row columns key base found ascend freezes is = is ∙ sym (written_lowest columns key table row t.changes base ascend (rise_of shown t view freezes))
