-- Lists of indexes through a commit, and a new index.
use Rattle.std.proofs.Common.{◌≡◌, ℕ, ◌+◌, ◌<◌, ◌≤◌, List, [], ◌∷◌, ◌++◌, Bool, true, not, ◌==◌, refl, ap, sym, ◌∙◌, inl, inr, arith, subst, length, zero, suc, take, drop, map, append_assoc, append-nil, length-set}
use Rattle.std.proofs.lemmas.Bool.{cases_eq, cases_lt, and_parts}
use Rattle.std.proofs.lemmas.Bool.Decides.{nat_tests}
use Rattle.std.proofs.lemmas.List.{drop_more, get_or_past, take-append-drop}
use Rattle.std.specs.List.{list_all, slice_index_or, slice_set}
use Rattle.rv_value.specs.declared.record.Record.{Record}
use Rattle.rv_rows.specs.declared.changes.Change.{Change}
use Rattle.rv_rows.specs.Changes.{rows_with_changes}
use Rattle.rv_rows.specs.Rows.{comes_below, Ascend}
use Rattle.rv_reader.specs.Entries as rows_entries
use Rattle.rv_reader.specs.Entries.{comes_before, entry_of, sorted, sorted_in}
use Rattle.rv_reader.specs.Storing.{AreKeys}
use Rattle.rv_reader.proofs.Sorting.{all_sorted, entries_keys}
use Rattle.rv_versions.specs.Chains.{AllChainsBelow}
use Rattle.rv_versions.proofs.Values.{put_each, chains_more}
use Rattle.rv_records.specs.Pages.{rows_at, rows_of}
use Rattle.rv_node.specs.Sound.{Absent}
use Rattle.rv_node.specs.Trees.{Whole, inserted}
use Rattle.rv_value.specs.declared.record.IndexEntry.{IndexEntry}
use Rattle.rv_index.specs.Index.{Nodes, tree_of, entries_of, cuts_of, IsNew, IsInserted}
use Rattle.rv_store.specs.declared.tables.Table.{Table}
use Rattle.rv_store.specs.declared.indexes.Index.{Index}
use Rattle.rv_store.specs.Tables.{table_at}
use Rattle.rv_store.specs.Indexes.{no_index, index_at, AreFew, AreIndexesBelow, AreSameIndexes, IsSameIndex, IsThrough}
use Rattle.rv_store.specs.Indexing.{tree_over, tree_through, IsIndexed}
use Rattle.rv_store.proofs.Indexing.{is_others, sorted_middle}
use Rattle.rv_store.proofs.Changing.{absent_all, has_key, keys_all, all_keys, key_of_row, same_index_trans}

-- One index takes another's place.

pub same_indexes_trans : (commit : ℕ) (a b c : List Index) → AreSameIndexes commit a b → AreSameIndexes commit b c → AreSameIndexes commit a c
same_indexes_trans commit a b c one two = record {
  count = two.count ∙ one.count;
  each = λ i. same_index_trans commit (index_at a i) (index_at b i) (index_at c i) (one.each i) (two.each i);
}

pub set_index : (commit at : ℕ) (old indexes : List Index) (new : Index) → at < length indexes → AreSameIndexes commit old indexes → IsSameIndex commit (index_at indexes at) new → AreSameIndexes commit old (slice_set indexes at new)
set_index commit at old indexes new there same_all same_one = record {
  count = length-set indexes at new ∙ same_all.count;
  each = put_each (λ k x. IsSameIndex commit (index_at old k) x) indexes at new no_index there
      (same_index_trans commit (index_at old at) (index_at indexes at) new (same_all.each at) same_one) (λ k other. same_all.each k);
}

pub set_newest : (top at : ℕ) (indexes : List Index) (new : Index) → at < length indexes → AreIndexesBelow top indexes → AllChainsBelow top new.tree → AreIndexesBelow top (slice_set indexes at new)
set_newest top at indexes new there all one = put_each (λ k x. AllChainsBelow top x.tree) indexes at new no_index there one (λ k other. all k)

pub set_first : (Q : ℕ → Index → Type 0) (at : ℕ) (indexes : List Index) (new : Index) → at < length indexes → ((k : ℕ) → k < at → Q k (index_at indexes k)) → Q at new → (k : ℕ) → k < at + 1 → Q k (index_at (slice_set indexes at new) k)
set_first Q at indexes new there before here k h = put_each (λ n x. n < at + 1 → Q n x) indexes at new no_index there (λ _. here) (λ n other l. before n (omega arith)) k h

pub set_left : (at : ℕ) (old indexes : List Index) (new : Index) → at < length indexes → ((k : ℕ) → at ≤ k → index_at indexes k ≡ index_at old k) → (k : ℕ) → at + 1 ≤ k → index_at (slice_set indexes at new) k ≡ index_at old k
set_left at old indexes new there left k h = put_each (λ n x. at + 1 ≤ n → x ≡ index_at old n) indexes at new no_index there (λ l. absurd (omega arith)) (λ n other l. left n (omega arith)) k h

pub through_one : (commit : ℕ) (changes : List Change) (tables : List Table) (first old : Index) (table : Table) (new : Index) → old ≡ first → table ≡ table_at tables old.table
    → IsIndexed old.columns (rows_with_changes old.table changes (rows_at table.records commit)) commit new.tree
    → tree_of new.tree commit ≡ tree_through old.columns old.table changes (rows_at table.records commit) (tree_of old.tree commit) → length new.tree ≤ 4294967296
    → IsThrough commit changes tables first new
through_one commit changes tables first old table new e t indexed tree few =
    let here : IsThrough commit changes tables old new = record {
      indexed = subst (λ (x : Table). IsIndexed old.columns (rows_with_changes old.table changes (rows_at x.records commit)) commit new.tree) t indexed;
      tree = subst (λ (x : Table). tree_of new.tree commit ≡ tree_through old.columns old.table changes (rows_at x.records commit) (tree_of old.tree commit)) t tree;
      few = few;
    } in
    subst (λ x. IsThrough commit changes tables x new) e here

-- all places from the number of indexes on are empty
pub all_indexes : (top : ℕ) (indexes : List Index) → ((k : ℕ) → k < length indexes → AllChainsBelow top (index_at indexes k).tree) → AreIndexesBelow top indexes
all_indexes top indexes each k = elim (cases_lt k (length indexes)) [
  | inl l ↦ each k l
  | inr h ↦ rw (get_or_past indexes k no_index h) (λ id. tt)
]

pub all_few : (indexes : List Index) → ((k : ℕ) → k < length indexes → length (index_at indexes k).tree ≤ 4294967296) → AreFew indexes
all_few indexes each k = elim (cases_lt k (length indexes)) [
  | inl l ↦ each k l
  | inr h ↦ rw (get_or_past indexes k no_index h) (omega arith)
]

-- A new index.

pub new_indexed : (columns : List ℕ) (snap : ℕ) (nodes : Nodes) → IsNew nodes → IsIndexed columns [] snap nodes
new_indexed columns snap nodes fresh = record {
  sound = fresh.sound snap;
  entries = fresh.entries snap;
  cuts = subst (λ es. AreKeys (length columns) es) (sym (fresh.cuts snap)) tt;
}

pub new_newest : (snap : ℕ) (nodes : Nodes) → IsNew nodes → AllChainsBelow (snap + 1) nodes
new_newest snap nodes fresh = chains_more 1 (snap + 1) nodes fresh.newest (omega arith)

entries_push : (columns : List ℕ) (rows : List Record) (r : Record) → rows_entries.entries_of columns (rows ++ r ∷ []) ≡ sorted_in (entry_of columns r) (rows_entries.entries_of columns rows)
entries_push columns rows r =
    ap sorted (apart rows) ∙ sorted_middle (map (entry_of columns) rows) [] (entry_of columns r)
    ∙ ap (λ es. sorted_in (entry_of columns r) (sorted es)) (append-nil (map (entry_of columns) rows))
  where
    apart : (rs : List Record) → map (entry_of columns) (rs ++ r ∷ []) ≡ map (entry_of columns) rs ++ entry_of columns r ∷ []
    apart [] = refl
    apart (x ∷ rs) = ap (λ es. entry_of columns x ∷ es) (apart rs)

pub row_pushed : (columns : List ℕ) (snap : ℕ) (rows : List Record) (r : Record) (nodes new : Nodes) → IsIndexed columns rows snap nodes → IsInserted snap (entry_of columns r) nodes new → IsIndexed columns (rows ++ r ∷ []) snap new
row_pushed columns snap rows r nodes new indexed inserted =
    let n = length columns in
    record {
      sound = inserted.sound;
      entries = inserted.entries ∙ ap (sorted_in (entry_of columns r)) indexed.entries ∙ sym (entries_push columns rows r);
      cuts = all_keys n (cuts_of new snap) (inserted.cuts (has_key n) (key_of_row columns r) (keys_all n (cuts_of nodes snap) indexed.cuts)
          (rw (indexed.entries) (keys_all n (rows_entries.entries_of columns rows) (entries_keys columns rows))));
    }

-- rows in front of another one are of lower numbers
others_front : (columns : List ℕ) (front : List Record) (r : Record) (back : List Record) → Ascend (front ++ r ∷ back) → list_all (is_others r.row.0) (map (entry_of columns) front) ≡ true
others_front columns [] r back ascend = refl
others_front columns (x ∷ front) r back ascend =
    let below = in_all front ascend.0 in
    let here : not (x.row.0 == r.row.0) ≡ true = grind (arith, nat_tests) in
    rw here (others_front columns front r back ascend.1)
  where
    in_all : (xs : List Record) → list_all (comes_below x) (xs ++ r ∷ back) ≡ true → comes_below x r ≡ true
    in_all [] all = (and_parts (comes_below x r) (list_all (comes_below x) back) all).0
    in_all (y ∷ xs) all = in_all xs (and_parts (comes_below x y) (list_all (comes_below x) (xs ++ r ∷ back)) all).1

pub absent_pushed : (columns : List ℕ) (snap : ℕ) (front : List Record) (r : Record) (back : List Record) (nodes : Nodes) → Ascend (front ++ r ∷ back) → IsIndexed columns front snap nodes → Absent comes_before (entry_of columns r) (entries_of nodes snap)
absent_pushed columns snap front r back nodes ascend indexed =
    subst (λ es. Absent comes_before (entry_of columns r) es) (sym indexed.entries)
    (absent_all (entry_of columns r) (rows_entries.entries_of columns front) (all_sorted (is_others r.row.0) (map (entry_of columns) front) (others_front columns front r back ascend)))

-- the first rows ascend
list_all_front : (p : Record → Bool) (xs ys : List Record) → list_all p (xs ++ ys) ≡ true → list_all p xs ≡ true
list_all_front p [] ys all = refl
list_all_front p (x ∷ xs) ys all =
    let parts = and_parts (p x) (list_all p (xs ++ ys)) all in
    rw (parts.0) (list_all_front p xs ys parts.1)

ascend_front : (xs ys : List Record) → Ascend (xs ++ ys) → Ascend xs
ascend_front [] ys ascend = tt
ascend_front (x ∷ xs) ys ascend = (list_all_front (comes_below x) xs ys ascend.0, ascend_front xs ys ascend.1)

ascend_pages : (page : ℕ → List Record) (k n : ℕ) → n < k → Ascend (rows_of page k) → Ascend (rows_of page (suc n))
ascend_pages page zero n h ascend = absurd (omega arith)
ascend_pages page (suc k) n h ascend = elim (cases_eq n k) [
  | inl e ↦ rw e ascend
  | inr other ↦ ascend_pages page k n (omega arith) (ascend_front (rows_of page k) (page k) ascend)
]

-- the rows of the pages before one, those of it up to one, it, and those behind
pub page_apart : (page : ℕ → List Record) (k n i : ℕ) (r d : Record) → n < k → i < length (page n) → r ≡ slice_index_or (page n) i d → Ascend (rows_of page k) → Ascend ((rows_of page n ++ take i (page n)) ++ r ∷ drop (i + 1) (page n))
page_apart page k n i r d h l e ascend =
    let rest : drop i (page n) ≡ r ∷ drop (i + 1) (page n) = drop_more (page n) i d l ∙ ap (λ (x : Record). x ∷ drop (i + 1) (page n)) (sym e) in
    let all : page n ≡ take i (page n) ++ r ∷ drop (i + 1) (page n) = sym (take-append-drop i (page n)) ∙ ap (λ ys. take i (page n) ++ ys) rest in
    let joined = append_assoc (rows_of page n) (take i (page n)) (r ∷ drop (i + 1) (page n)) in
    subst Ascend (ap (λ ys. rows_of page n ++ ys) all ∙ sym joined) (ascend_pages page k n h ascend)

-- The entries of more rows are put into the tree of those of the rows before them.
pub tree_over_more : (columns : List ℕ) (rows more : List Record) (tree : Whole IndexEntry) → tree_over columns (rows ++ more) tree ≡ tree_over columns more (tree_over columns rows tree)
tree_over_more columns [] more tree = refl
tree_over_more columns (r ∷ rows) more tree = tree_over_more columns rows more (inserted comes_before (entry_of columns r) tree)

pub rows_more : (page : ℕ → List Record) (n : ℕ) → rows_of page (n + 1) ≡ rows_of page n ++ page n
rows_more page n = let e : n + 1 ≡ suc n = omega arith in ap (rows_of page) e
