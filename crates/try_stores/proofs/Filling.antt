-- A filled tree, with the entry of the next row.
use Rattle.std.proofs.Common.{ℕ, true, false, inl, inr, ◌+◌, ◌<◌, ◌≤◌, ◌≡◌, List, [], ◌∷◌, length, eqb, Bool, cond, sym, subst, arith}
use Rattle.std.specs.Prelude.{◌||◌, slice_index_or}
use Rattle.std.specs.List.{AllByRecursion, list_all}
use Rattle.std.proofs.lemmas.Bool.{cases_eq, eq-eqb, ne_eqb}
use Rattle.rv_value.proofs.Lists.{all_more}
use Rattle.rv_value.specs.declared.record.IndexEntry.{IndexEntry}
use Rattle.rv_value.specs.declared.range.Range.{Range}
use Rattle.rv_reader.specs.Entries.{comes_before, sorted_in, AreLong}
use Rattle.rv_reader.specs.Storing.{AreKeys}
use Rattle.rv_reader.proofs.Suiting.{long_keys}
use Rattle.rv_reader.proofs.Sorting.{all_in}
use Rattle.rv_versions.specs.declared.chain.Version.{Version}
use Rattle.rv_versions.specs.Chains.{AllBelow, AllChainsBelow}
use Rattle.rv_node.specs.Sound.{Absent}
use Rattle.rv_node.proofs.Rising.{All-of, list_all-of}
use Rattle.rv_index.specs.Index.{Nodes, entries_of, cuts_of, IsNew, IsInserted}
use Rattle.rv_index.proofs.Facts.{other_row}
use Rattle.rv_loading.specs.Laid.{IsNarrow}
use Rattle.try_stores.specs.Filled.{IsFilled}

sorted_length : (e : IndexEntry) (es : List IndexEntry) (n : ℕ) → length es ≡ n → length (sorted_in e es) ≡ n + 1
sorted_length e [] n l = omega arith
sorted_length e (x ∷ xs) n l = let more = sorted_length e xs (length xs) (λ i. length xs) in elim (comes_before x e) as (λ b. length (cond b (x ∷ sorted_in e xs) (e ∷ x ∷ xs)) ≡ n + 1) [ true ↦ omega arith | false ↦ omega arith ]

abbrev one_value : IndexEntry → Bool
one_value e = eqb (length e.key) 1

one_of : (e : IndexEntry) → length e.key ≡ 1 → one_value e ≡ true
one_of e l = eq-eqb (length e.key) 1 l

of_one : (e : IndexEntry) → one_value e ≡ true → length e.key ≡ 1
of_one e h = elim (cases_eq (length e.key) 1) [ inl l ↦ l | inr ne ↦ let no = ne_eqb (length e.key) 1 ne in cc ]

ones : (es : List IndexEntry) → AreKeys 1 es → list_all one_value es ≡ true
ones es keys = list_all-of one_value es (all_more (λ e. length e.key ≡ 1) (λ e. one_value e ≡ true) one_of es keys)

keys_of : (es : List IndexEntry) → list_all one_value es ≡ true → AreKeys 1 es
keys_of es all = all_more (λ e. one_value e ≡ true) (λ e. length e.key ≡ 1) of_one es (All-of one_value es all)

pub absent_next : (row : ℕ) (e : IndexEntry) (tree : Nodes) → IsFilled row tree → e.row.0 ≡ row → Absent comes_before e (entries_of tree 1)
absent_next row e tree filled is = all_more (λ x. x.row.0 < row) (λ x. (comes_before x e || comes_before e x) ≡ true) (λ x l. other_row e x (λ same. absurd (omega arith))) (entries_of tree 1) filled.rows

pub filled_next : (row : ℕ) (e : IndexEntry) (old new : Nodes) → IsFilled row old → e.row.0 ≡ row → length e.key ≡ 1 → IsInserted 1 e old new → AllChainsBelow 2 new → IsFilled (row + 1) new
filled_next row e old new filled is one put below = record {
  sound = put.sound;
  newest = below;
  number = subst (λ es. length es ≡ row + 1) (sym put.entries) (sorted_length e (entries_of old 1) row filled.number);
  rows = subst (AllByRecursion (λ x. x.row.0 < row + 1)) (sym put.entries) (all_in (λ x. x.row.0 < row + 1) e (entries_of old 1) (omega arith) (all_more (λ x. x.row.0 < row) (λ x. x.row.0 < row + 1) (λ x l. omega arith) (entries_of old 1) filled.rows));
  keys = subst (AreKeys 1) (sym put.entries) (all_in (λ x. length x.key ≡ 1) e (entries_of old 1) one filled.keys);
  cuts = keys_of (cuts_of new 1) (put.cuts one_value (one_of e one) (ones (cuts_of old 1) filled.cuts) (ones (entries_of old 1) filled.keys));
}

below_more : {T : Type 0} (high more : ℕ) (vs : List (Version T)) → high ≤ more → AllBelow high vs → AllBelow more vs
below_more high more [] l all = tt
below_more high more (v ∷ vs) l all = let below = all.0 in (omega arith, below_more high more vs l all.1)

pub filled_none : (tree : Nodes) → IsNew tree → IsFilled 0 tree
filled_none tree new = record {
  sound = new.sound 1;
  newest = λ id. below_more 1 2 (slice_index_or tree id []) (omega arith) (new.newest id);
  number = subst (λ es. length es ≡ 0) (sym (new.entries 1)) (λ i. 0);
  rows = subst (AllByRecursion (λ x. x.row.0 < 0)) (sym (new.entries 1)) tt;
  keys = subst (AreKeys 1) (sym (new.entries 1)) tt;
  cuts = subst (AreKeys 1) (sym (new.cuts 1)) tt;
}

pub long_entries : (count : ℕ) (tree : Nodes) (range : Range) → IsFilled count tree → IsNarrow range → AreLong range (entries_of tree 1)
long_entries count tree range filled narrow = long_keys 1 range (entries_of tree 1) narrow.low narrow.high filled.keys

pub long_cuts : (count : ℕ) (tree : Nodes) (range : Range) → IsFilled count tree → IsNarrow range → AreLong range (cuts_of tree 1)
long_cuts count tree range filled narrow = long_keys 1 range (cuts_of tree 1) narrow.low narrow.high filled.cuts
