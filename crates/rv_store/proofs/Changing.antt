-- An index through the changes of its table's rows.
use Rattle.std.proofs.Common.{◌≡◌, ℕ, List, [], ◌∷◌, ◌++◌, Bool, true, false, not, ◌&&◌, ◌||◌, ◌==◌, refl, ap, sym, ◌∙◌, inl, inr, arith, subst, length, filter, nat_lt, Option, Some, None}
use Rattle.std.proofs.lemmas.Bool.{cases_Bool, cases_lt, and_parts}
use Rattle.std.proofs.lemmas.Bool.Decides.{nat_tests}
use Rattle.std.specs.List.{list_all}
use Rattle.std.proofs.lemmas.List.{length-map}
use Rattle.rv_reader.proofs.Rows.{find_back, find_front, find_kept, find_left}
use Rattle.rv_value.specs.declared.value.Value.{Value}
use Rattle.rv_value.specs.declared.record.Record.{Record}
use Rattle.rv_value.specs.declared.record.IndexEntry.{IndexEntry}
use Rattle.rv_rows.specs.declared.changes.Change.{Change}
use Rattle.rv_rows.specs.Changes.{is_before, rows_with_changes}
use Rattle.rv_rows.specs.Rows.{comes_below, with_values, without_row, Ascend}
use Rattle.rv_reader.specs.Tables.{row_at}
use Rattle.rv_reader.specs.Entries.{comes_before, entry_of, column_of, entry_at}
use Rattle.rv_reader.specs.Entries as rows_entries
use Rattle.rv_reader.specs.Storing.{AreKeys}
use Rattle.rv_reader.proofs.Filters.{all_filter}
use Rattle.rv_reader.proofs.Sorting.{entries_keys, equal_entries}
use Rattle.rv_node.specs.Trees.{differs}
use Rattle.rv_node.specs.Sound.{Absent}
use Rattle.rv_index.specs.Index.{Nodes, tree_of, entries_of, cuts_of, IsSound}
use Rattle.rv_index.proofs.Facts.{other_row}
use Rattle.rv_store.specs.declared.indexes.Index.{Index}
use Rattle.rv_store.specs.Indexes.{IsPassed, IsSameIndex}
use Rattle.rv_store.specs.Indexing.{row_with, taken_out, put_in, stays, entries_after, tree_after, tree_with, tree_through, Passes, IsAbsent, IsTakenOut, IsPutIn, IsTreeChanged, IsIndexed}
use Rattle.rv_store.proofs.Tabling.{applied-append}
use Rattle.rv_store.proofs.Indexing.{is_others, change_is, change_none, taken_is, others_all}

-- One change.

all_taken : (test : IndexEntry → Bool) (e : Option IndexEntry) (es : List IndexEntry) → list_all test es ≡ true → list_all test (taken_out e es) ≡ true
all_taken test None es all = all
all_taken test (Some e) es all = all_filter test (differs comes_before e) es all

pub tree_changed : (commit : ℕ) (before after : Option IndexEntry) (old mid new : Nodes) → stays before after ≡ false → IsTakenOut commit before old mid → IsPutIn commit after mid new → IsTreeChanged commit before after old new
tree_changed commit before after old mid new differ out put = record {
  sound = put.sound;
  tree = rw differ (put.tree ∙ ap (tree_with after) out.tree);
  entries = rw differ (put.entries ∙ ap (put_in after) out.entries);
  cuts = λ test passes cuts entries. put.cuts test passes (rw (out.cuts) cuts) (rw (out.entries) (all_taken test before (entries_of old commit) entries));
}

pub tree_stays : (commit : ℕ) (before after : Option IndexEntry) (nodes : Nodes) → stays before after ≡ true → IsSound nodes commit → IsTreeChanged commit before after nodes nodes
tree_stays commit before after nodes equal sound = record {
  sound = sound;
  tree = rw equal refl;
  entries = rw equal refl;
  cuts = λ test passes cuts entries. cuts;
}

stays_is : (before after : Option IndexEntry) → stays before after ≡ true → after ≡ before
stays_is None after e = cc
stays_is (Some a) None e = cc
stays_is (Some a) (Some b) e = ap (λ x. Some x) (sym (equal_entries a b e))

-- Keys of entries.

abbrev pub has_key : ℕ → IndexEntry → Bool
has_key n e = length e.key == n

pub keys_all : (n : ℕ) (es : List IndexEntry) → AreKeys n es → list_all (has_key n) es ≡ true
keys_all n [] keys = refl
keys_all n (e ∷ es) keys =
    let first = keys.0 in
    let here : length e.key == n ≡ true = grind (arith, nat_tests) in
    rw here (keys_all n es keys.1)

pub all_keys : (n : ℕ) (es : List IndexEntry) → list_all (has_key n) es ≡ true → AreKeys n es
all_keys n [] all = tt
all_keys n (e ∷ es) all =
    let parts = and_parts (has_key n e) (list_all (has_key n) es) all in
    let first = parts.0 in
    let here : length e.key ≡ n = grind (arith, nat_tests) in
    (here, all_keys n es parts.1)

pub key_of_row : (columns : List ℕ) (r : Record) → has_key (length columns) (entry_of columns r) ≡ true
key_of_row columns r =
    let count = length-map columns (column_of r.values) in
    grind (arith, nat_tests)

passes_key : (columns : List ℕ) (row : Option Record) → Passes (has_key (length columns)) (entry_at columns row)
passes_key columns None = tt
passes_key columns (Some r) = key_of_row columns r

entries_step : (columns : List ℕ) (number : ℕ) (values : Option (List Value)) (old : Option Record) (rows : List Record) → Ascend rows → old ≡ row_at rows number
    → entries_after (entry_at columns old) (entry_at columns (row_with number values)) (rows_entries.entries_of columns rows) ≡ rows_entries.entries_of columns (with_values number values rows)
entries_step columns number values old rows ascend found =
    elim (cases_Bool (stays (entry_at columns old) (entry_at columns (row_with number values)))) [
      | inl t ↦ rw t (change_none columns number old values rows ascend found (stays_is (entry_at columns old) (entry_at columns (row_with number values)) t))
      | inr f ↦ rw f (change_is columns number old values rows ascend found)
    ]

pub indexed_change : (commit : ℕ) (columns : List ℕ) (number : ℕ) (values : Option (List Value)) (old : Option Record) (rows : List Record) (nodes new : Nodes) → Ascend rows → old ≡ row_at rows number
    → IsIndexed columns rows commit nodes → IsTreeChanged commit (entry_at columns old) (entry_at columns (row_with number values)) nodes new → IsIndexed columns (with_values number values rows) commit new
indexed_change commit columns number values old rows nodes new ascend found indexed changed =
    let n = length columns in
    record {
      sound = changed.sound;
      entries = changed.entries ∙ ap (entries_after (entry_at columns old) (entry_at columns (row_with number values))) indexed.entries ∙ entries_step columns number values old rows ascend found;
      cuts = all_keys n (cuts_of new commit) (changed.cuts (has_key n) (passes_key columns (row_with number values)) (keys_all n (cuts_of nodes commit) indexed.cuts)
          (rw (indexed.entries) (keys_all n (rows_entries.entries_of columns rows) (entries_keys columns rows))));
    }

-- The entry that is put in is not there.

pub absent_all : (e : IndexEntry) (es : List IndexEntry) → list_all (is_others e.row.0) es ≡ true → Absent comes_before e es
absent_all e [] all = tt
absent_all e (x ∷ es) all =
    let parts = and_parts (is_others e.row.0 x) (list_all (is_others e.row.0) es) all in
    let first = parts.0 in
    (other_row e x (λ same_row. clash x.row.0 e.row.0 same_row first), absent_all e es parts.1)
  where
    clash : (a b : ℕ) → a ≡ b → not (a == b) ≡ true → ⊥
    clash a b e h =
        let t : a == b ≡ true = grind (arith, nat_tests) in
        let no : not true ≡ true = rw t at h in
        cc

pub absent_new : (commit : ℕ) (columns : List ℕ) (number : ℕ) (values : Option (List Value)) (old : Option Record) (rows : List Record) (nodes : Nodes) → Ascend rows → old ≡ row_at rows number
    → IsIndexed columns rows commit nodes → IsAbsent (entry_at columns (row_with number values)) (taken_out (entry_at columns old) (entries_of nodes commit))
absent_new commit columns number None old rows nodes ascend found indexed = tt
absent_new commit columns number (Some vs) old rows nodes ascend found indexed =
    let e = entry_of columns (record { row = record { 0 = number }; values = vs }) in
    subst (λ es. Absent comes_before e es) (sym (ap (taken_out (entry_at columns old)) indexed.entries ∙ taken_is columns number old rows ascend found))
    (absent_all e (rows_entries.entries_of columns (without_row number rows)) (others_all columns number rows))

-- Changes before one are of other rows.

row_with_other : (number other : ℕ) (values : Option (List Value)) (rows : List Record) → (other ≡ number → ⊥) → row_at (with_values number values rows) other ≡ row_at rows other
row_with_other number other None rows apart = find_kept (λ (r : Record). not (r.row.0 == number)) other (λ r t. grind (arith, nat_tests)) rows
row_with_other number other (Some vs) rows apart =
    let new : Record = record { row = record { 0 = number }; values = vs } in
    let front = filter (λ (r : Record). comes_below r new) rows in
    let back = filter (λ (r : Record). comes_below new r) rows in
    let here : number == other ≡ false = grind (arith, nat_tests) in
    elim (cases_lt other number) [
      | inl low ↦
          let none : row_at back other ≡ None = find_left (λ (r : Record). comes_below new r) other (λ r t. grind (arith, nat_tests)) rows in
          find_front front (new ∷ back) other (rw here none) ∙ find_kept (λ (r : Record). comes_below r new) other (λ r t. grind (arith, nat_tests)) rows
      | inr high ↦
          let none : row_at front other ≡ None = find_left (λ (r : Record). comes_below r new) other (λ r t. grind (arith, nat_tests)) rows in
          find_back front (new ∷ back) other none ∙ rw here (find_kept (λ (r : Record). comes_below new r) other (λ r t. grind (arith, nat_tests)) rows)
    ]

pub row_applied : (c : Change) (cs : List Change) (rows : List Record) → list_all (λ (d : Change). is_before d c) cs ≡ true → row_at (rows_with_changes c.table cs rows) c.row.0 ≡ row_at rows c.row.0
row_applied c [] rows all = refl
row_applied c (d ∷ ds) rows all =
    let parts = and_parts (is_before d c) (list_all (λ (x : Change). is_before x c) ds) all in
    let first = parts.0 in
    elim (cases_Bool (d.table == c.table)) [
      | inl t ↦
          let apart : c.row.0 ≡ d.row.0 → ⊥ = λ e. absurd (later d.table c.table d.row.0 c.row.0 first t e) in
          rw t (row_applied c ds (with_values d.row.0 d.values rows) parts.1 ∙ row_with_other d.row.0 c.row.0 d.values rows apart)
      | inr f ↦ rw f (row_applied c ds rows parts.1)
    ]
  where
    later : (t u m n : ℕ) → (nat_lt t u || ((t == u) && nat_lt m n)) ≡ true → t == u ≡ true → n ≡ m → ⊥
    later t u m n h e s = grind (arith, nat_tests)

-- the row of a change is as it was before the changes in front of it
pub row_before : (table : ℕ) (c : Change) (cs : List Change) (rows : List Record) → c.table ≡ table → list_all (λ (d : Change). is_before d c) cs ≡ true → row_at rows c.row.0 ≡ row_at (rows_with_changes table cs rows) c.row.0
row_before table c cs rows e all = subst (λ t. row_at rows c.row.0 ≡ row_at (rows_with_changes t cs rows) c.row.0) e (sym (row_applied c cs rows all))

-- A change is passed.

different : (a b : ℕ) → a ≡ b → a == b ≡ false → ⊥
different a b e f =
    let t : a == b ≡ true = grind (arith, nat_tests) in
    let no : true ≡ false = rw t at f in
    cc

pub same_index_itself : (commit : ℕ) (index : Index) → IsSameIndex commit index index
same_index_itself commit index = record { table = refl; columns = refl; grows = omega arith; older = λ snap h. refl }

pub same_index_trans : (commit : ℕ) (a b c : Index) → IsSameIndex commit a b → IsSameIndex commit b c → IsSameIndex commit a c
same_index_trans commit a b c one two =
    let first = one.grows in
    let second = two.grows in
    record {
      table = two.table ∙ one.table;
      columns = two.columns ∙ one.columns;
      grows = omega arith;
      older = λ snap h. two.older snap h ∙ one.older snap h;
    }

own_changed : (commit : ℕ) (columns : List ℕ) (table : ℕ) (c : Change) (before : Option Record) (old new : Index) → old.table ≡ table → old.columns ≡ columns → IsPassed commit c before old new → c.table ≡ table
    → IsTreeChanged commit (entry_at columns before) (entry_at columns (row_with c.row.0 c.values)) old.tree new.tree
own_changed commit columns table c before old new t e passed own =
    subst (λ cs. IsTreeChanged commit (entry_at cs before) (entry_at cs (row_with c.row.0 c.values)) old.tree new.tree) e (passed.own (own ∙ sym t))

pub pass_indexed : (commit : ℕ) (columns : List ℕ) (table : ℕ) (c : Change) (before : Option Record) (rows : List Record) (old new : Index) → old.table ≡ table → old.columns ≡ columns → Ascend rows → (c.table ≡ table → before ≡ row_at rows c.row.0)
    → IsIndexed columns rows commit old.tree → IsPassed commit c before old new → IsIndexed columns (rows_with_changes table (c ∷ []) rows) commit new.tree
pass_indexed commit columns table c before rows old new t e ascend found indexed passed = elim (cases_Bool (c.table == table)) [
  | inl same_table ↦
      let own : c.table ≡ table = grind (arith, nat_tests) in
      rw same_table (indexed_change commit columns c.row.0 c.values before rows old.tree new.tree ascend (found own) indexed (own_changed commit columns table c before old new t e passed own))
  | inr apart ↦
      let other : c.table ≡ old.table → ⊥ = λ h. different c.table table (h ∙ t) apart in
      rw apart (subst (λ nodes. IsIndexed columns rows commit nodes) (sym (passed.other other)) indexed)
]

pub pass_tree : (commit : ℕ) (columns : List ℕ) (table : ℕ) (c : Change) (cs : List Change) (before : Option Record) (rows : List Record) (old new : Index) → old.table ≡ table → old.columns ≡ columns → (c.table ≡ table → before ≡ row_at rows c.row.0)
    → IsPassed commit c before old new → tree_through columns table cs (rows_with_changes table (c ∷ []) rows) (tree_of new.tree commit) ≡ tree_through columns table (c ∷ cs) rows (tree_of old.tree commit)
pass_tree commit columns table c cs before rows old new t e found passed = elim (cases_Bool (c.table == table)) [
  | inl same_table ↦
      let own : c.table ≡ table = grind (arith, nat_tests) in
      let changed = own_changed commit columns table c before old new t e passed own in
      let after = entry_at columns (row_with c.row.0 c.values) in
      rw same_table (ap (tree_through columns table cs (with_values c.row.0 c.values rows)) (changed.tree ∙ ap (λ r. tree_after (entry_at columns r) after (tree_of old.tree commit)) (found own)))
  | inr apart ↦
      let other : c.table ≡ old.table → ⊥ = λ h. different c.table table (h ∙ t) apart in
      rw apart (ap (λ nodes. tree_through columns table cs rows (tree_of nodes commit)) (passed.other other))
]

-- one change more
pub applied_more : (table : ℕ) (cs : List Change) (c : Change) (all : List Change) (rows : List Record) → all ≡ cs ++ c ∷ [] → rows_with_changes table all rows ≡ rows_with_changes table (c ∷ []) (rows_with_changes table cs rows)
applied_more table cs c all rows e = ap (λ ds. rows_with_changes table ds rows) e ∙ applied-append table cs (c ∷ []) rows
