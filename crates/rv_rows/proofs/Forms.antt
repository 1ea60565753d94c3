-- The changes of a transaction in a list, or as the entries of a map.
use Rattle.std.proofs.Common.{◌≡◌, ◌≤◌, ◌<◌, ◌+◌, ◌-◌, ℕ, zero, suc, List, [], ◌∷◌, ◌++◌, Option, Bool, true, false, not, ◌==◌, nat_lt, refl, sym, ap, ◌∙◌, subst, inl, inr, arith, length, map, filter, take, drop, remove, append-nil}
use Rattle.std.specs.List.{list_all, slice_index_or, slice_set}
use Rattle.std.specs.List.Sorted.{IsPartitionedBy}
use Rattle.std.specs.BTreeMap.{insert_entry, is_at}
use Rattle.std.specs.Map.{lookup}
use Rattle.std.proofs.lemmas.Bool.{cases_Bool, and_parts}
use Rattle.std.proofs.lemmas.Bool.Decides.{nat_tests}
use Rattle.std.proofs.lemmas.List.{map-append, take-append-drop, take_more}
use Rattle.std.proofs.lemmas.List.Elements.{filter_agree}
use Rattle.rv_value.specs.declared.value.Value.{Value}
use Rattle.rv_value.proofs.Lists.{all_true}
use Rattle.rv_rows.specs.declared.changes.Change.{Change}
use Rattle.rv_rows.specs.declared.changes.RowKey.{RowKey}
use Rattle.rv_rows.specs.declared.changes.Undo.{Undo}
use Rattle.rv_rows.specs.Changes.{Rise, change_at, has_change, is_before, is_from, is_last_before, is_of, key_cmp, touches, undone, with_change, with_new, with_old, with_these, without_change}
use Rattle.rv_rows.specs.Kept.{IsGathered, IsKept, begins_at, begins_in, comes_before, kept_changes}
use Rattle.rv_rows.proofs.Among.{set_is}
use Rattle.rv_rows.proofs.Chains.{by_row, change_last, change_pushed, change_rises}
use Rattle.rv_rows.proofs.Cuts.{partitioned, rising_ahead, rising_drop, rising_take}
use Rattle.rv_rows.proofs.Keys.{Entry, insert_is, is_same, none_above, not_of_later}
use Rattle.rv_rows.proofs.Puts.{put_behind}
use Rattle.rv_rows.proofs.Undoing.{AreOthers, same_with, undo_is, undone_rises}

-- ---- ascending changes before a row, and from it on

abbrev pub from_row : ℕ → ℕ → List Change → List Change
from_row table row = filter (λ (c : Change). not (comes_before table row c))

before_goes : (table row : ℕ) (x y : Change) → is_before x y ≡ true → comes_before table row y ≡ true → comes_before table row x ≡ true
before_goes table row x y h k = grind (arith, nat_tests)

pub changes_partitioned : (table row : ℕ) (cs : List Change) → Rise cs → IsPartitionedBy (comes_before table row) cs
changes_partitioned table row cs rise = partitioned is_before (λ (c : Change). true) (comes_before table row) (λ x y h a b. before_goes table row x y h) cs rise (all_true cs)

-- behind one that does not come before a row there is none of it
later_others : (table row : ℕ) (c : Change) (cs : List Change) → comes_before table row c ≡ false → list_all (is_before c) cs ≡ true → AreOthers table row cs
later_others table row c [] low all = refl
later_others table row c (d ∷ ds) low all =
    let parts = and_parts (is_before c d) (list_all (is_before c) ds) all in
    let first = parts.0 in
    let other : is_of table row d ≡ false = grind (arith, nat_tests) in
    rw other (later_others table row c ds low parts.1)

none_has : (table row : ℕ) (cs : List Change) → AreOthers table row cs → has_change table row cs ≡ false
none_has table row [] others = refl
none_has table row (c ∷ cs) others = elim (cases_Bool (is_of table row c)) [
  | inl t ↦ let wrong = rw t at others in cc
  | inr f ↦ let more = rw f at others in rw f (none_has table row cs more)
]

-- the first from a row on tells whether the row is changed
pub has_listed : (table row : ℕ) (cs : List Change) → Rise cs → begins_at table row (from_row table row cs) ≡ has_change table row cs
has_listed table row [] rise = refl
has_listed table row (c ∷ cs) rise = elim (cases_Bool (comes_before table row c)) [
  | inl low ↦
      let other : is_of table row c ≡ false = grind (arith, nat_tests) in
      rw (low, other) (has_listed table row cs rise.1)
  | inr from ↦ elim (cases_Bool (is_of table row c)) [
    | inl here ↦ rw (from, here) refl
    | inr other ↦ rw (from, other) (sym (none_has table row cs (later_others table row c cs from rise.0)))
  ]
]

-- where it is none of the row, none is
pub first_others : (table row : ℕ) (cs : List Change) → Rise cs → begins_at table row (from_row table row cs) ≡ false → AreOthers table row cs
first_others table row [] rise none = refl
first_others table row (c ∷ cs) rise none = elim (cases_Bool (comes_before table row c)) [
  | inl low ↦
      let other : is_of table row c ≡ false = grind (arith, nat_tests) in
      let more = rw low at none in
      rw other (first_others table row cs rise.1 more)
  | inr from ↦
      let other : is_of table row c ≡ false = rw from at none in
      rw other (later_others table row c cs from rise.0)
]

-- ---- and from a table on

least_row : (table : ℕ) (c : Change) → not (comes_before table 0 c) ≡ is_from table c
least_row table c = elim (cases_Bool (nat_lt c.table table)) [
  | inl low ↦ rw low refl
  | inr from ↦ let none : comes_before table 0 c ≡ false = grind (arith, nat_tests) in rw (none, from) refl
]

pub from_least_row : (table : ℕ) (cs : List Change) → from_row table 0 cs ≡ filter (is_from table) cs
from_least_row table cs = filter_agree (λ (c : Change). not (comes_before table 0 c)) (is_from table) (least_row table) cs

-- the first of them tells whether the table is touched
pub touches_listed : (table : ℕ) (cs : List Change) → Rise cs → begins_in table (filter (is_from table) cs) ≡ touches table cs
touches_listed table [] rise = refl
touches_listed table (c ∷ cs) rise = elim (cases_Bool (nat_lt c.table table)) [
  | inl low ↦
      let other : c.table == table ≡ false = grind (arith, nat_tests) in
      rw (low, other) (touches_listed table cs rise.1)
  | inr from ↦ elim (cases_Bool (c.table == table)) [
    | inl here ↦ rw (from, here) refl
    | inr other ↦
        let above : nat_lt table c.table ≡ true = grind (arith, nat_tests) in
        rw (from, other) (sym (none_above table c cs above rise.0))
  ]
]

-- ---- the change of a row in a place of the list

pub inside : (table row : ℕ) (cs : List Change) (i : ℕ) → begins_at table row (drop i cs) ≡ true → i < length cs
inside table row [] zero h = absurd cc
inside table row [] (suc i) h = absurd cc
inside table row (c ∷ cs) zero h = omega arith
inside table row (c ∷ cs) (suc i) h = let rest = inside table row cs i h in omega arith

-- what comes before all is of another row
another : (table row : ℕ) (x : Change) (cs : List Change) (i : ℕ) → list_all (is_before x) cs ≡ true → begins_at table row (drop i cs) ≡ true → is_of table row x ≡ false
another table row x [] zero all h = absurd cc
another table row x [] (suc i) all h = absurd cc
another table row x (c ∷ cs) zero all h =
    let first = (and_parts (is_before x c) (list_all (is_before x) cs) all).0 in
    let here : is_of table row c ≡ true = h in
    grind (arith, nat_tests)
another table row x (c ∷ cs) (suc i) all h = another table row x cs i (and_parts (is_before x c) (list_all (is_before x) cs) all).1 h

-- the last one is taken out
pub last_taken : (table row : ℕ) (cs : List Change) → Rise cs → begins_at table row (drop (length cs - 1) cs) ≡ true → remove cs (length cs - 1) ≡ without_change table row cs
last_taken table row [] rise h = absurd cc
last_taken table row (x ∷ []) rise h = let here : is_of table row x ≡ true = h in rw here refl
last_taken table row (x ∷ y ∷ ys) rise h =
    let e : length (x ∷ y ∷ ys) - 1 ≡ suc (length ys) = omega arith in
    let d : length (y ∷ ys) - 1 ≡ length ys = omega arith in
    let last : begins_at table row (drop (length (y ∷ ys) - 1) (y ∷ ys)) ≡ true = rw d (rw e at h) in
    let other = another table row x (y ∷ ys) (length (y ∷ ys) - 1) rise.0 last in
    let rest = last_taken table row (y ∷ ys) rise.1 last in
    rw (e, other) (ap (λ (cs : List Change). x ∷ cs) (sym (ap (remove (y ∷ ys)) d) ∙ rest))

-- the last one, where it was put behind all others
last_out : (cs : List Change) (c : Change) → Rise (cs ++ c ∷ []) → without_change c.table c.row.0 (cs ++ c ∷ []) ≡ cs
last_out [] c rise = rw (is_same c.table c.row.0 c.table c.row.0 refl refl) refl
last_out (d ∷ ds) c rise =
    let other = not_of_later c.table c.row.0 d.table d.row.0 (last_passes (is_before d) ds c rise.0) in
    rw other (ap (λ (cs : List Change). d ∷ cs) (last_out ds c rise.1))
  where
    last_passes : (p : Change → Bool) (xs : List Change) (x : Change) → list_all p (xs ++ x ∷ []) ≡ true → p x ≡ true
    last_passes p [] x h = (and_parts (p x) true h).0
    last_passes p (y ∷ ys) x h = last_passes p ys x (and_parts (p y) (list_all p (ys ++ x ∷ [])) h).1

-- other values of the change in a place
others_ahead : (table row : ℕ) (cs : List Change) (i : ℕ) → Rise cs → begins_at table row (drop i cs) ≡ true → AreOthers table row (take i cs)
others_ahead table row [] zero rise h = refl
others_ahead table row [] (suc i) rise h = refl
others_ahead table row (c ∷ cs) zero rise h = refl
others_ahead table row (c ∷ cs) (suc i) rise h =
    let other = another table row c cs i rise.0 h in
    rw other (others_ahead table row cs i rise.1 h)

set_first : (table row : ℕ) (v : Option (List Value)) (cs : List Change) → Rise cs → begins_at table row cs ≡ true → with_new table row v cs ≡ record { table = table; row = record { 0 = row }; values = v } ∷ drop 1 cs
set_first table row v [] rise h = absurd cc
set_first table row v (c ∷ cs) rise h =
    let here : is_of table row c ≡ true = h in
    let from : comes_before table row c ≡ false = grind (arith, nat_tests) in
    let t : c.table ≡ table = grind (arith, nat_tests) in
    let r : c.row.0 ≡ row = grind (arith, nat_tests) in
    let others = later_others table row c cs from rise.0 in
    rw here (ap (λ (ds : List Change). record c { values = v } ∷ ds) (same_with table row v cs others) ∙ ap (λ (x : ℕ × ℕ). change_at (record { table = x.0; row = record { 0 = x.1 } }, v) ∷ cs) (λ i. (t i, r i)))

pub set_place : (table row : ℕ) (v : Option (List Value)) (cs : List Change) (i : ℕ) → Rise cs → begins_at table row (drop i cs) ≡ true → slice_set cs i (record { table = table; row = record { 0 = row }; values = v }) ≡ with_new table row v cs
set_place table row v cs i rise h =
    let new : Change = record { table = table; row = record { 0 = row }; values = v } in
    let front = same_with table row v (take i cs) (others_ahead table row cs i rise h) in
    let back = set_first table row v (drop i cs) (rising_drop is_before i cs rise) h in
    let parts : take i cs ++ drop i cs ≡ cs = take-append-drop i cs in
    set_is cs i new (inside table row cs i h)
    ∙ (λ j. sym front j ++ sym back j)
    ∙ sym (map-append (with_these table row v) (take i cs) (drop i cs))
    ∙ ap (with_new table row v) parts

-- ---- the two forms

pub none_kept : (l : List Change) (es : List Entry) → l ≡ [] → es ≡ [] → IsKept l es
none_kept l es a b = record { rise = rw (a, b) tt; one = λ some. b }

pub kept_rise : (l : List Change) (es : List Entry) (now : List Change) → IsKept l es → kept_changes l es ≡ now → Rise now
kept_rise l es now k is = subst Rise is k.rise

pub all_mapped : (l : List Change) (es : List Entry) → (length l == 0) ≡ true → map change_at es ≡ kept_changes l es
all_mapped [] es e = refl
all_mapped (c ∷ cs) es e = let none : length (c ∷ cs) ≡ 0 = grind (arith, nat_tests) in absurd (omega (arith, none))

listed_alone : (l : List Change) (es : List Entry) → es ≡ [] → l ≡ kept_changes l es
listed_alone l es none = sym (append-nil l) ∙ ap (λ (xs : List Entry). l ++ map change_at xs) (sym none)

some_listed : (l : List Change) → (length l == 0) ≡ false → 1 ≤ length l
some_listed l e = grind (arith, nat_tests)

pub all_listed : (l : List Change) (es : List Entry) → IsKept l es → (length l == 0) ≡ false → l ≡ kept_changes l es
all_listed l es k e = listed_alone l es (k.one (some_listed l e))

pub rise_listed : (l : List Change) (es : List Entry) → IsKept l es → Rise l
rise_listed [] es k = tt
rise_listed (c ∷ cs) es k = subst Rise (sym (listed_alone (c ∷ cs) es (k.one (omega arith)))) k.rise

pub rise_mapped : (l : List Change) (es : List Entry) → IsKept l es → (length l == 0) ≡ true → Rise (map change_at es)
rise_mapped l es k e = subst Rise (sym (all_mapped l es e)) k.rise

-- ---- a change put behind all others

module _ (l more : List Change) (es : List Entry) (c : Change) (k : IsKept l es) (none : es ≡ []) (last : is_last_before l c ≡ true) (grown : more ≡ l ++ c ∷ []) where
  pushed_alone : kept_changes more es ≡ l ++ c ∷ []
  pushed_alone = ap (λ (xs : List Change). xs ++ map change_at es) grown ∙ sym (listed_alone (l ++ c ∷ []) es none)

  pushed_rises : Rise (l ++ c ∷ [])
  pushed_rises = change_pushed c l (rise_listed l es k) last

  pub pushed_kept : IsKept more es
  pushed_kept = record { rise = subst Rise (sym pushed_alone) pushed_rises; one = λ some. none }

  pub pushed_is : kept_changes more es ≡ with_change c (kept_changes l es)
  pushed_is = pushed_alone ∙ sym (change_last c l (rise_listed l es k) last) ∙ ap (with_change c) (listed_alone l es none)

  pub pushed_undone : without_change c.table c.row.0 (kept_changes more es) ≡ kept_changes l es
  pushed_undone = ap (without_change c.table c.row.0) pushed_alone ∙ last_out l c pushed_rises ∙ listed_alone l es none

-- ---- all changes in the map

pub gathered_same : (l : List Change) (es : List Entry) (left : List Change) (all : List Entry) → IsGathered l es left all → kept_changes left all ≡ kept_changes l es
gathered_same l es left all g = ap (λ (xs : List Change). xs ++ map change_at all) g.none ∙ g.same

none_left : (left : List Change) (all : List Entry) → left ≡ [] → 1 ≤ length left → all ≡ []
none_left left all none some = let size : length left ≡ 0 = ap (λ (xs : List Change). length xs) none in absurd (omega (arith, size, some))

pub gathered_kept : (l : List Change) (es : List Entry) (left : List Change) (all : List Entry) → IsKept l es → IsGathered l es left all → IsKept left all
gathered_kept l es left all k g = record { rise = subst Rise (sym (gathered_same l es left all g)) k.rise; one = none_left left all g.none }

pub gathered_mapped : (l : List Change) (es : List Entry) → (length l == 0) ≡ true → IsGathered l es l es
gathered_mapped [] es e = record { none = refl; same = refl }
gathered_mapped (c ∷ cs) es e = let none : length (c ∷ cs) ≡ 0 = grind (arith, nat_tests) in absurd (omega (arith, none))

-- a list as entries, up to a place

pub mapped_more : (cs : List Change) (i : ℕ) (c : Change) (es more : List Entry) (k : RowKey) (v : Option (List Value)) → Rise cs → i < length cs → c ≡ slice_index_or cs i c → change_at (k, v) ≡ c → more ≡ insert_entry key_cmp es k v → map change_at es ≡ take i cs → map change_at more ≡ take (i + 1) cs
mapped_more cs i c es more k v rise within is at grown so_far =
    let ahead : list_all (λ (d : Change). is_before d c) (take i cs) ≡ true = subst (λ (x : Change). list_all (λ (d : Change). is_before d x) (take i cs) ≡ true) (sym is) (rising_ahead is_before cs i c within rise) in
    ap (map change_at) grown
    ∙ insert_is es k v (subst Rise (sym so_far) (rising_take is_before i cs rise))
    ∙ ap (λ (d : Change). with_change d (map change_at es)) at
    ∙ ap (with_change c) so_far
    ∙ put_behind is_before by_row c (take i cs) ahead
    ∙ ap (λ (d : Change). take i cs ++ d ∷ []) is
    ∙ sym (take_more cs i c within)

-- ---- a change put into the map

module _ (l left : List Change) (es all more : List Entry) (key : RowKey) (v : Option (List Value)) (k : IsKept l es) (g : IsGathered l es left all) (grown : more ≡ insert_entry key_cmp all key v) where
  mapped_rises : Rise (map change_at all)
  mapped_rises = subst Rise (sym g.same) k.rise

  pub mapped_is : kept_changes left more ≡ with_change (change_at (key, v)) (kept_changes l es)
  mapped_is =
      ap (λ (xs : List Change). xs ++ map change_at more) g.none
      ∙ ap (map change_at) grown
      ∙ insert_is all key v mapped_rises
      ∙ ap (with_change (change_at (key, v))) g.same

  pub mapped_kept : IsKept left more
  mapped_kept = record { rise = subst Rise (sym mapped_is) (change_rises (change_at (key, v)) (kept_changes l es) k.rise); one = none_left left more g.none }

  pub mapped_undone : (old : Option (Option (List Value))) → old ≡ lookup (is_at (key_cmp key)) all → with_old key.table key.row.0 old (kept_changes left more) ≡ kept_changes l es
  mapped_undone old is =
      ap (with_old key.table key.row.0 old) (ap (λ (xs : List Change). xs ++ map change_at more) g.none ∙ ap (map change_at) grown)
      ∙ ap (λ (o : Option (Option (List Value))). with_old key.table key.row.0 o (map change_at (insert_entry key_cmp all key v))) is
      ∙ undo_is all key v mapped_rises
      ∙ g.same

-- ---- a change taken back

pub undone_mapped : (undo : Undo) (l : List Change) (es left : List Entry) → (length l == 0) ≡ true → map change_at left ≡ undone undo (map change_at es) → kept_changes l left ≡ undone undo (kept_changes l es)
undone_mapped undo l es left e is = sym (all_mapped l left e) ∙ is ∙ ap (undone undo) (all_mapped l es e)

pub undone_mapped_kept : (undo : Undo) (l : List Change) (es left : List Entry) → IsKept l es → (length l == 0) ≡ true → map change_at left ≡ undone undo (map change_at es) → IsKept l left
undone_mapped_kept undo l es left k e is = record {
  rise = undone_rises undo (kept_changes l es) (kept_changes l left) k.rise (undone_mapped undo l es left e is);
  one = λ some. let none : length l ≡ 0 = grind (arith, nat_tests) in absurd (omega (arith, none, some));
}

pub undone_listed : (undo : Undo) (l left : List Change) (es : List Entry) → IsKept l es → (length l == 0) ≡ false → left ≡ undone undo l → kept_changes left es ≡ undone undo (kept_changes l es)
undone_listed undo l left es k e is =
    let none : es ≡ [] = k.one (some_listed l e) in
    sym (listed_alone left es none) ∙ is ∙ ap (undone undo) (listed_alone l es none)

pub undone_listed_kept : (undo : Undo) (l left : List Change) (es : List Entry) → IsKept l es → (length l == 0) ≡ false → left ≡ undone undo l → IsKept left es
undone_listed_kept undo l left es k e is = record {
  rise = undone_rises undo (kept_changes l es) (kept_changes left es) k.rise (undone_listed undo l left es k e is);
  one = λ some. k.one (some_listed l e);
}
