-- The first entry of a run that passes a test, leaf by leaf, and the lowest row that has a key.
use Rattle.std.proofs.Common.{◌≡◌, ℕ, zero, suc, List, [], ◌∷◌, ◌++◌, Bool, true, false, ◌&&◌, ◌==◌, cond, Option, Some, None, inl, inr, refl, ap, sym, ◌∙◌, find, filter, map, take, length, arith}
use Rattle.std.specs.Prelude.{min}
use Rattle.std.proofs.lemmas.Bool.{cases_Bool, and_parts}
use Rattle.std.proofs.lemmas.Bool.Decides.{nat_tests}
use Rattle.std.specs.List.{list_all}
use Rattle.std.specs.Option.{option_map}
use Rattle.rv_value.specs.declared.value.Value.{Value}
use Rattle.rv_value.specs.declared.range.Range.{Range}
use Rattle.rv_value.specs.declared.record.Record.{Record}
use Rattle.rv_value.specs.declared.record.RowNo.{RowNo}
use Rattle.rv_value.specs.declared.record.IndexEntry.{IndexEntry}
use Rattle.rv_rows.specs.Rows.{Ascend, comes_below}
use Rattle.rv_rows.proofs.Puts.{rising_filter}
use Rattle.rv_reader.specs.Entries.{AreLong, entries_of, entry_of, run}
use Rattle.rv_reader.specs.Leaves.{run_after, run_from}
use Rattle.rv_reader.specs.Shown.{Shown, Suits}
use Rattle.rv_reader.specs.Storing.{AreKeys}
use Rattle.rv_reader.proofs.Sorting.{entries_keys}
use Rattle.rv_model.specs.Rivals.{has_key}
use Rattle.rv_rivals.specs.Lookups.{Tells, other_than}
use Rattle.rv_rivals.specs.Points.{first_row, lowest_with, point}
use Rattle.rv_rivals.proofs.Points.{point_runs}

-- Leaf by leaf.

front : (keep : IndexEntry → Bool) (xs ys : List IndexEntry) (row : RowNo) → Some row ≡ option_map (λ (e : IndexEntry). e.row) (find keep xs) → find keep (xs ++ ys) ≡ find keep xs
front keep [] ys row h = cc
front keep (x ∷ xs) ys row h = elim (cases_Bool (keep x)) [ inl t ↦ rw t refl | inr f ↦ rw f (front keep xs ys row (rw f at h)) ]

behind : (keep : IndexEntry → Bool) (xs ys : List IndexEntry) → None ≡ option_map (λ (e : IndexEntry). e.row) (find keep xs) → find keep (xs ++ ys) ≡ find keep ys
behind keep [] ys h = refl
behind keep (x ∷ xs) ys h = elim (cases_Bool (keep x)) [ inl t ↦ let no : None ≡ Some x.row = rw t at h in cc | inr f ↦ rw f (behind keep xs ys (rw f at h)) ]

pub found : (keep : IndexEntry → Bool) (xs ys left whole : List IndexEntry) (row : RowNo) → Some row ≡ option_map (λ (e : IndexEntry). e.row) (find keep xs) → left ≡ xs ++ ys → find keep left ≡ find keep whole → Some row ≡ option_map (λ (e : IndexEntry). e.row) (find keep whole)
found keep xs ys left whole row h parts inv = h ∙ ap (option_map (λ (e : IndexEntry). e.row)) (sym (front keep xs ys row h) ∙ ap (find keep) (sym parts) ∙ inv)

further : (keep : IndexEntry → Bool) (xs ys left whole : List IndexEntry) → None ≡ option_map (λ (e : IndexEntry). e.row) (find keep xs) → left ≡ xs ++ ys → find keep left ≡ find keep whole → find keep ys ≡ find keep whole
further keep xs ys left whole h parts inv = sym (behind keep xs ys h) ∙ ap (find keep) (sym parts) ∙ inv

-- the next leaf begins at the cut that follows
pub next_leaf : (keep : IndexEntry → Bool) (entries xs whole left : List IndexEntry) (range : Range) (next : Option IndexEntry) (cut : IndexEntry) → next ≡ Some cut → None ≡ option_map (λ (e : IndexEntry). e.row) (find keep xs) → left ≡ xs ++ run_after entries range next → find keep left ≡ find keep whole
    → find keep (run_from entries range (Some cut)) ≡ find keep whole
next_leaf keep entries xs whole left range next cut is h parts inv = further keep xs (run_after entries range (Some cut)) left whole h (parts ∙ ap (λ n. xs ++ run_after entries range n) is) inv

-- no leaf follows
pub none_left : (keep : IndexEntry → Bool) (entries xs whole left : List IndexEntry) (range : Range) (next : Option IndexEntry) → next ≡ None → None ≡ option_map (λ (e : IndexEntry). e.row) (find keep xs) → left ≡ xs ++ run_after entries range next → find keep left ≡ find keep whole
    → None ≡ option_map (λ (e : IndexEntry). e.row) (find keep whole)
none_left keep entries xs whole left range next is h parts inv = ap (option_map (λ (e : IndexEntry). e.row)) (further keep xs [] left whole h (parts ∙ ap (λ n. xs ++ run_after entries range n) is) inv)

-- From entries to rows.

pub first_mapped : (columns : List ℕ) (keeps : ℕ → Bool) (rows : List Record) → first_row keeps (map (entry_of columns) rows) ≡ option_map (λ (r : Record). r.row) (find (λ (r : Record). keeps r.row.0) rows)
first_mapped columns keeps [] = refl
first_mapped columns keeps (r ∷ rows) = elim (cases_Bool (keeps r.row.0)) [ inl t ↦ rw t refl | inr f ↦ rw f (first_mapped columns keeps rows) ]

pub find_filtered : {X : Type 0} (p q : X → Bool) (xs : List X) → find p (filter q xs) ≡ find (λ x. q x && p x) xs
find_filtered p q [] = refl
find_filtered p q (x ∷ xs) =
    let rest = find_filtered p q xs in
    elim (cases_Bool (q x)) [
      | inl t ↦ rw t (elim (p x) as (λ b. cond b (Some x) (find p (filter q xs)) ≡ cond b (Some x) (find (λ y. q y && p y) xs)) [ true ↦ refl | false ↦ rest ])
      | inr f ↦ rw f rest
    ]

pub find_same : {X : Type 0} (p q : X → Bool) (xs : List X) → ((x : X) → p x ≡ q x) → find p xs ≡ find q xs
find_same p q [] same = refl
find_same p q (x ∷ xs) same = rw (same x, find_same p q xs same) refl

-- in entries of rows the first of a key is the lowest row that has it
in_rows : (columns : List ℕ) (key : List Value) (keeps : ℕ → Bool) (rows : List Record) → Ascend rows → length key ≡ length columns → first_row keeps (run (entries_of columns rows) (point key)) ≡ lowest_with columns key keeps rows
in_rows columns key keeps rows ascend long =
    ap (first_row keeps) (point_runs columns key rows ascend long) ∙ first_mapped columns keeps (filter (has_key columns key) rows)
    ∙ ap (option_map (λ (r : Record). r.row)) (find_filtered (λ (r : Record). keeps r.row.0) (has_key columns key) rows)

pub lowest_is : (shown : Shown) (index snap : ℕ) (key : List Value) (keeps : ℕ → Bool) (range : Range) (row : Option RowNo) → range ≡ point key → row ≡ first_row keeps (run (shown.entries index snap) range) → (columns : List ℕ) (rows : List Record) → Tells shown index snap columns rows → length key ≡ length columns
    → row ≡ lowest_with columns key keeps rows
lowest_is shown index snap key keeps range row at is columns rows tells long =
    is ∙ ap (λ r. first_row keeps (run (shown.entries index snap) r)) at ∙ ap (λ es. first_row keeps (run es (point key))) tells.entries ∙ in_rows columns key keeps rows tells.ascend long

-- The range of a key suits an index whose keys are as long.

long_all : (n : ℕ) (key : List Value) (entries : List IndexEntry) → length key ≡ n → AreKeys n entries → AreLong (point key) entries
long_all n key [] same keys = refl
long_all n key (e ∷ es) same keys =
    let rest = long_all n key es same keys.1 in
    let own = keys.0 in
    grind (arith, nat_tests)

pub suits : (shown : Shown) (index snap : ℕ) (columns : List ℕ) (rows : List Record) (key : List Value) → Tells shown index snap columns rows → length key ≡ length columns → Suits shown index snap (point key)
suits shown index snap columns rows key tells long = record {
  entries = long_all (length columns) key (shown.entries index snap) long (rw tells.entries (entries_keys columns rows));
  cuts = long_all (length columns) key (shown.cuts index snap) long tells.cuts;
}

pub entries_long : (columns : List ℕ) (rows : List Record) (key : List Value) → length key ≡ length columns → AreLong (point key) (entries_of columns rows)
entries_long columns rows key long = long_all (length columns) key (entries_of columns rows) long (entries_keys columns rows)

-- Two entries are enough to find one of another row.

pub take_few : {X : Type 0} (n : ℕ) (xs : List X) → take (min n 2) xs ≡ take 2 (take n xs)
take_few zero xs = (let none : min zero 2 ≡ zero = omega arith in ap (λ k. take k xs) none)
take_few (suc zero) [] = (let one : min (suc zero) 2 ≡ suc zero = omega arith in ap (λ k. take k []) one)
take_few (suc zero) (x ∷ xs) = (let one : min (suc zero) 2 ≡ suc zero = omega arith in ap (λ k. take k (x ∷ xs)) one)
take_few (suc (suc n)) [] = (let two : min (suc (suc n)) 2 ≡ 2 = omega arith in ap (λ k. take k []) two)
take_few (suc (suc n)) (x ∷ []) = (let two : min (suc (suc n)) 2 ≡ 2 = omega arith in ap (λ k. take k (x ∷ [])) two)
take_few (suc (suc n)) (x ∷ y ∷ xs) = (let two : min (suc (suc n)) 2 ≡ 2 = omega arith in ap (λ k. take k (x ∷ y ∷ xs)) two)

two_enough : (columns : List ℕ) (row : ℕ) (rows : List Record) → Ascend rows → first_row (other_than row) (take 2 (map (entry_of columns) rows)) ≡ first_row (other_than row) (map (entry_of columns) rows)
two_enough columns row [] ascend = refl
two_enough columns row (a ∷ []) ascend = refl
two_enough columns row (a ∷ b ∷ rows) ascend = elim (cases_Bool (a.row.0 == row)) [
  | inl t ↦
      let parts = and_parts (comes_below a b) (list_all (comes_below a) rows) ascend.0 in
      let apart : (b.row.0 == row) ≡ false = (let below = parts.0 in grind (arith, nat_tests)) in
      rw (t, apart) refl
  | inr f ↦ rw f refl
]

pub other_is : (columns : List ℕ) (key : List Value) (row count : ℕ) (rows : List Record) (found seen rest entries : List IndexEntry) → Ascend rows → length key ≡ length columns → entries ≡ entries_of columns rows
    → take count rest ≡ run entries (point key) → found ≡ take (min count 2) rest → seen ≡ found
    → first_row (other_than row) seen ≡ lowest_with columns key (other_than row) rows
other_is columns key row count rows found seen rest entries ascend long is taken got same =
    let whole : run entries (point key) ≡ map (entry_of columns) (filter (has_key columns key) rows) = ap (λ es. run es (point key)) is ∙ point_runs columns key rows ascend long in
    ap (first_row (other_than row)) (same ∙ got ∙ take_few count rest ∙ ap (take 2) (taken ∙ whole))
    ∙ two_enough columns row (filter (has_key columns key) rows) (rising_filter comes_below (has_key columns key) rows ascend)
    ∙ sym (ap (first_row (other_than row)) (point_runs columns key rows ascend long)) ∙ in_rows columns key (other_than row) rows ascend long
