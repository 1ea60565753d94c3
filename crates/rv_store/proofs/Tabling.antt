-- Tables through the changes of a commit.
use Rattle.std.proofs.Common.{◌≡◌, ℕ, ◌+◌, ◌<◌, List, [], ◌∷◌, ◌++◌, true, false, ◌==◌, cond, refl, ap, sym, ◌∙◌, inl, inr, arith, length, zero, suc, get_or, length-set}
use Rattle.std.proofs.lemmas.Bool.{cases_lt}
use Rattle.std.proofs.lemmas.Bool.Decides.{nat_tests}
use Rattle.std.proofs.lemmas.List.{get_or_past}
use Rattle.std.specs.List.{slice_set, AllByRecursion}
use Rattle.rv_value.specs.declared.record.Record.{Record}
use Rattle.rv_rows.specs.declared.changes.Change.{Change}
use Rattle.rv_rows.specs.Changes.{rows_with_changes}
use Rattle.rv_rows.specs.Rows.{with_values}
use Rattle.rv_reader.specs.Storing.{pages_with, pages_after}
use Rattle.rv_records.specs.Pages.{Kept, IsBelow, IsSame, IsPut, rows_at, pages_at}
use Rattle.rv_versions.proofs.Values.{put_each}
use Rattle.rv_store.specs.declared.tables.Table.{Table}
use Rattle.rv_store.specs.Tables.{no_table, table_at, rows_in, pages_in, AreOpen, AreSameBelow, AreChanged}

pub all_at : {X : Type 0} (P : X → Type 0) (xs : List X) (i : ℕ) (d : X) → i < length xs → AllByRecursion P xs → P (get_or xs i d)
all_at P [] i d h all = absurd (omega arith)
all_at P (x ∷ xs) zero d h all = all.0
all_at P (x ∷ xs) (suc i) d h all = all_at P xs i d (omega arith) all.1

same_itself : (k : Kept) (snap : ℕ) → IsSame k snap k snap
same_itself k snap = record { rows = refl; pages = refl }

same_trans : (a b c : Kept) (snap : ℕ) → IsSame a snap b snap → IsSame b snap c snap → IsSame a snap c snap
same_trans a b c snap one two = record { rows = two.rows ∙ one.rows; pages = two.pages ∙ one.pages }

pub same_below_itself : (commit : ℕ) (tables : List Table) → AreSameBelow commit tables tables
same_below_itself commit tables = record {
  count = refl;
  width = λ t. refl;
  horizon = λ t. refl;
  older = λ t snap h. same_itself (table_at tables t).records snap;
}

pub same_below_trans : (commit : ℕ) (a b c : List Table) → AreSameBelow commit a b → AreSameBelow commit b c → AreSameBelow commit a c
same_below_trans commit a b c one two = record {
  count = two.count ∙ one.count;
  width = λ t. two.width t ∙ one.width t;
  horizon = λ t. two.horizon t ∙ one.horizon t;
  older = λ t snap h. same_trans (table_at a t).records (table_at b t).records (table_at c t).records snap (one.older t snap h) (two.older t snap h);
}

-- One table's records take another's place.

-- what a put or an abandon at a commit leaves
pub record IsKeptBelow (commit : ℕ) (old new : Kept) : Type 0 where
  pub horizon : new.horizon ≡ old.horizon
  pub older : (snap : ℕ) → snap < commit → IsSame old snap new snap

pub set_same : (commit t : ℕ) (tables : List Table) (new : Table) → t < length tables → new.width ≡ (table_at tables t).width → IsKeptBelow commit (table_at tables t).records new.records → AreSameBelow commit tables (slice_set tables t new)
set_same commit t tables new there width kept = record {
  count = length-set tables t new;
  width = put_each (λ k x. x.width ≡ (table_at tables k).width) tables t new no_table there width (λ k other. refl);
  horizon = put_each (λ k x. x.records.horizon ≡ (table_at tables k).records.horizon) tables t new no_table there kept.horizon (λ k other. refl);
  older = λ table snap h. put_each (λ k x. IsSame (table_at tables k).records snap x.records snap) tables t new no_table there (kept.older snap h) (λ k other. same_itself (table_at tables k).records snap) table;
}

pub set_open : (commit t : ℕ) (tables : List Table) (new : Table) → t < length tables → AreOpen commit tables → new.records.horizon < commit → IsBelow (commit + 1) new.records → AreOpen commit (slice_set tables t new)
set_open commit t tables new there open_ later newest = record {
  later = put_each (λ k x. x.records.horizon < commit) tables t new no_table there later (λ k other. open_.later k);
  newest = put_each (λ k x. IsBelow (commit + 1) x.records) tables t new no_table there newest (λ k other. open_.newest k);
}

pub set_changed : (commit : ℕ) (c : Change) (tables : List Table) (new : Table) → c.table < length tables → IsPut c.row.0 c.values commit (table_at tables c.table).records new.records → AreChanged commit (c ∷ []) tables (slice_set tables c.table new)
set_changed commit c tables new there put = record {
  rows = λ table snap h. put_each (λ k x. rows_at x.records snap ≡ rows_with_changes k (c ∷ []) (rows_in tables k snap)) tables c.table new no_table there
      (let own : c.table == c.table ≡ true = grind (arith, nat_tests) in rw own (put.rows snap h))
      (λ k other. let apart : c.table == k ≡ false = grind (arith, nat_tests) in rw apart refl) table;
  pages = λ table snap h. put_each (λ k x. pages_at x.records snap ≡ pages_after k (c ∷ []) (pages_in tables k snap)) tables c.table new no_table there
      (let own : c.table == c.table ≡ true = grind (arith, nat_tests) in rw own (put.pages snap h))
      (λ k other. let apart : c.table == k ≡ false = grind (arith, nat_tests) in rw apart refl) table;
}

-- One change after others.

pub applied-append : (table : ℕ) (cs ds : List Change) (rows : List Record) → rows_with_changes table (cs ++ ds) rows ≡ rows_with_changes table ds (rows_with_changes table cs rows)
applied-append table [] ds rows = refl
applied-append table (c ∷ cs) ds rows = applied-append table cs ds (cond (c.table == table) (with_values c.row.0 c.values rows) rows)

pub pages_after-append : (table : ℕ) (cs ds : List Change) (count : ℕ) → pages_after table (cs ++ ds) count ≡ pages_after table ds (pages_after table cs count)
pages_after-append table [] ds count = refl
pages_after-append table (c ∷ cs) ds count = pages_after-append table cs ds (pages_with table c count)

pub changed_none : (commit : ℕ) (tables : List Table) → AreChanged commit [] tables tables
changed_none commit tables = record { rows = λ t snap h. refl; pages = λ t snap h. refl }

pub changed_more : (commit : ℕ) (cs : List Change) (c : Change) (a b d : List Table) → AreChanged commit cs a b → AreChanged commit (c ∷ []) b d → AreChanged commit (cs ++ c ∷ []) a d
changed_more commit cs c a b d one two = record {
  rows = λ t snap h. two.rows t snap h ∙ ap (rows_with_changes t (c ∷ [])) (one.rows t snap h) ∙ sym (applied-append t cs (c ∷ []) (rows_in a t snap));
  pages = λ t snap h. two.pages t snap h ∙ ap (pages_after t (c ∷ [])) (one.pages t snap h) ∙ sym (pages_after-append t cs (c ∷ []) (pages_in a t snap));
}

pub set_below : (commit t : ℕ) (tables : List Table) (new : Table) → t < length tables → ((k : ℕ) → k < t → IsBelow commit (table_at tables k).records) → IsBelow commit new.records → (k : ℕ) → k < t + 1 → IsBelow commit (table_at (slice_set tables t new) k).records
set_below commit t tables new there before here k h = put_each (λ n x. n < t + 1 → IsBelow commit x.records) tables t new no_table there (λ _. here) (λ n other l. before n (omega arith)) k h

-- all places from the number of tables on are empty
pub all_below : (commit : ℕ) (tables : List Table) → ((k : ℕ) → k < length tables → IsBelow commit (table_at tables k).records) → (k : ℕ) → IsBelow commit (table_at tables k).records
all_below commit tables each k = elim (cases_lt k (length tables)) [
  | inl l ↦ each k l
  | inr h ↦ rw (get_or_past tables k no_table h) (record { pages = λ id. tt; sizes = λ id. tt })
]
