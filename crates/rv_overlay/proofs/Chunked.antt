-- A leaf of the view is what a chunk says.
use Rattle.std.proofs.Common.{◌≡◌, ℕ, zero, suc, ◌+◌, ◌≤◌, List, [], ◌∷◌, ◌++◌, Bool, true, false, not, nat_eq, ◌&&◌, cond, Option, Some, None, IfSome, inl, inr, refl, ap, sym, subst, ◌∙◌, filter, length, arith}
use Rattle.std.proofs.lemmas.Bool.{cases_Bool, and_parts}
use Rattle.std.proofs.lemmas.Bool.Decides.{nat_tests}
use Rattle.std.specs.List.{list_all}
use Rattle.rv_value.proofs.Lists.{filter_length, all_true}
use Rattle.rv_value.specs.declared.value.Value.{Value}
use Rattle.rv_value.specs.declared.record.IndexEntry.{IndexEntry}
use Rattle.rv_value.specs.declared.range.Bound.{Bound}
use Rattle.rv_value.specs.declared.range.Range.{Range}
use Rattle.rv_rows.specs.Rising.{put_in}
use Rattle.rv_rows.proofs.Puts.{rising_filter}
use Rattle.rv_reader.specs.declared.reader.Chunk.{Chunk}
use Rattle.rv_reader.specs.Entries.{comes_before, is_in, reaches, Ascend, AreLong}
use Rattle.rv_reader.specs.Leaves.{is_passed, is_wanted, within, Leaf, leaf_at, leaf_entries, from_on, run_from, IsChunk}
use Rattle.rv_reader.specs.Leaves.{is_below, is_taken}
use Rattle.rv_reader.specs.Storing.{AreKeys}
use Rattle.rv_reader.proofs.Filters.{filter_same, filter_twice, all_filter}
use Rattle.rv_reader.proofs.Chunks.{is_long}
use Rattle.rv_reader.proofs.Chunks.{is_chunk, leaf_read, taken_within}
use Rattle.rv_reader.proofs.Orders.{one_way, follows, below_through}
use Rattle.rv_overlay.specs.declared.frozen.Part.{Part}
use Rattle.rv_overlay.specs.Laying.{first_not, has, laid, lesser, marks, sixteenths, with_all, without}
use Rattle.rv_reader.specs.Shown.{Shown, CanScan}
use Rattle.rv_overlay.specs.declared.frozen.Frozen.{Frozen}
use Rattle.rv_overlay.specs.Overlaid.{Lays, LaysIndex, fits, is_short, overlaid, part_at}
use Rattle.rv_overlay.proofs.Placing.{filter_with, with_ascends}
use Rattle.rv_overlay.proofs.Following.{all_with, leaf_next, next_with, passes_down, within_lesser}
use Rattle.rv_overlay.proofs.Sixteens.{few_added}

-- How many there are.

put_count : (e : IndexEntry) (xs : List IndexEntry) → length (put_in comes_before e xs) ≤ suc (length xs)
put_count e xs = rw (joined_count (filter (λ x. comes_before x e) xs) (e ∷ filter (λ x. comes_before e x) xs)) (let few = both_count xs in omega (arith, few))
  where
    joined_count : (xs ys : List IndexEntry) → length (xs ++ ys) ≡ length xs + length ys
    joined_count [] ys = omega arith
    joined_count (x ∷ xs) ys = let rest = joined_count xs ys in omega (arith, rest)

    both_count : (xs : List IndexEntry) → length (filter (λ x. comes_before x e) xs) + length (filter (λ x. comes_before e x) xs) ≤ length xs
    both_count [] = omega arith
    both_count (x ∷ xs) =
        let rest = both_count xs in
        elim (cases_Bool (comes_before x e)) [
          | inl t ↦ rw (t, one_way x e t) (omega (arith, rest))
          | inr f ↦ elim (cases_Bool (comes_before e x)) [ inl u ↦ rw (f, u) (omega (arith, rest)) | inr v ↦ rw (f, v) (omega (arith, rest)) ]
        ]

pub with_count : (es xs : List IndexEntry) → length (with_all es xs) ≤ length es + length xs
with_count [] xs = omega arith
with_count (e ∷ es) xs =
    let rest = with_count es (put_in comes_before e xs) in
    let here = put_count e xs in
    omega (arith, rest, here)

-- no more where a sharper test agrees on all that pass another one
fewer_on : (q p r : IndexEntry → Bool) (xs : List IndexEntry) → list_all q xs ≡ true → ((x : IndexEntry) → q x ≡ true → p x ≡ true → r x ≡ true) → length (filter p xs) ≤ length (filter r xs)
fewer_on q p r [] all sharper = omega arith
fewer_on q p r (x ∷ xs) all sharper =
    let parts = and_parts (q x) (list_all q xs) all in
    let rest = fewer_on q p r xs parts.1 sharper in
    elim (cases_Bool (p x)) [
      | inl t ↦ rw (t, sharper x parts.0 t) (omega (arith, rest))
      | inr f ↦ elim (cases_Bool (r x)) [ inl u ↦ rw (f, u) (omega (arith, rest)) | inr v ↦ rw (f, v) (omega (arith, rest)) ]
    ]

-- What is before the lesser of two cuts is before both.

below_first : (a b : Option IndexEntry) (e : IndexEntry) → is_below (lesser a b) e ≡ true → is_below a e ≡ true
below_first None b e h = refl
below_first (Some x) None e h = h
below_first (Some x) (Some y) e h = elim (cases_Bool (comes_before y x)) [
  | inl t ↦ follows e y x (rw t at h) t
  | inr f ↦ rw f at h
]

below_second : (a b : Option IndexEntry) (e : IndexEntry) → is_below (lesser a b) e ≡ true → is_below b e ≡ true
below_second None b e h = h
below_second (Some x) None e h = refl
below_second (Some x) (Some y) e h = elim (cases_Bool (comes_before y x)) [
  | inl t ↦ rw t at h
  | inr f ↦ below_through e x y (rw f at h) f
]

-- A filter of a filter, where one bound is nearer than the other.

nearer : (w near far kept : Bool) → (near ≡ true → far ≡ true) → ((w && far) && (near && kept)) ≡ (kept && (w && near))
nearer true true true true f = refl
nearer true true true false f = refl
nearer true true false kept f = let no : false ≡ true = f refl in cc
nearer true false true true f = refl
nearer true false true false f = refl
nearer true false false true f = refl
nearer true false false false f = refl
nearer false near far true f = refl
nearer false near far false f = refl

left_is : (range : Range) (start next other : Option IndexEntry) (taken entries : List IndexEntry)
    → filter (λ e. is_below (lesser next other) e && not (has taken e)) (filter (is_taken range start next) entries) ≡ filter (is_taken range start (lesser next other)) (without taken entries)
left_is range start next other taken entries =
    filter_twice (λ e. is_below (lesser next other) e && not (has taken e)) (is_taken range start next) entries
    ∙ filter_same (λ (e : IndexEntry). true) (λ e. is_taken range start next e && (is_below (lesser next other) e && not (has taken e))) (λ e. not (has taken e) && is_taken range start (lesser next other) e) entries (all_true entries)
    (λ e t. nearer (is_wanted range start e) (is_below (lesser next other) e) (is_below next e) (not (has taken e)) (below_first next other e))
    ∙ sym (filter_twice (is_taken range start (lesser next other)) (λ e. not (has taken e)) entries)

-- Keys of one length.

reaches_width : (width : ℕ) (bound : Option Bound) (key : List Value) → is_short width bound ≡ true → length key ≡ width → reaches bound key ≡ true
reaches_width width None key short long = refl
reaches_width width (Some b) key short long = grind (arith, nat_tests)

pub all_long : (width : ℕ) (range : Range) (entries : List IndexEntry) → fits width range ≡ true → AreKeys width entries → AreLong range entries
all_long width range [] fit keys = refl
all_long width range (e ∷ entries) fit keys =
    let parts = and_parts (is_short width range.low) (is_short width range.high) fit in
    rw (reaches_width width range.low e.key parts.0 keys.0, reaches_width width range.high e.key parts.1 keys.0) (all_long width range entries fit keys.1)

pub marks_all : (q : IndexEntry → Bool) (left : ℕ) (es : List IndexEntry) → list_all q es ≡ true → list_all q (marks left es) ≡ true
marks_all q left [] all = refl
marks_all q zero (e ∷ es) all = let parts = and_parts (q e) (list_all q es) all in rw parts.0 (marks_all q 15 es parts.1)
marks_all q (suc left) (e ∷ es) all = let parts = and_parts (q e) (list_all q es) all in marks_all q left es parts.1

pub marks_ascend : (left : ℕ) (es : List IndexEntry) → Ascend es → Ascend (marks left es)
marks_ascend left [] ascend = tt
marks_ascend zero (e ∷ es) ascend = (marks_all (comes_before e) 15 es ascend.0, marks_ascend 15 es ascend.1)
marks_ascend (suc left) (e ∷ es) ascend = marks_ascend left es ascend.1

first_long : (q passes : IndexEntry → Bool) (cs : List IndexEntry) → list_all q cs ≡ true → IfSome (first_not passes cs) (λ c. q c ≡ true)
first_long q passes [] all = tt
first_long q passes (c ∷ cs) all =
    let parts = and_parts (q c) (list_all q cs) all in
    elim (passes c) as (λ b. IfSome (cond b (first_not passes cs) (Some c)) (λ c. q c ≡ true)) [ true ↦ first_long q passes cs parts.1 | false ↦ parts.0 ]

-- a leaf is short
from_fewer : (start : Option IndexEntry) (xs : List IndexEntry) → length (from_on start xs) ≤ length xs
from_fewer None xs = omega arith
from_fewer (Some s) xs = filter_length (λ e. not (comes_before e s)) xs

leaf_short : (entries : List IndexEntry) (range : Range) (start : Option IndexEntry) (leaf : Leaf) → length (leaf_entries leaf entries) ≤ 32 → length (run_from (leaf_entries leaf entries) range start) ≤ 32
leaf_short entries range start leaf short =
    let few = from_fewer start (leaf_entries leaf entries) in
    let fewer = filter_length (is_in range) (from_on start (leaf_entries leaf entries)) in
    omega (arith, few, fewer)

own_taken : (range : Range) (start next own : Option IndexEntry) (e : IndexEntry) → is_long range e ≡ true → IfSome own (λ c. is_long range c ≡ true) → is_taken range start (lesser next (within range own)) e ≡ true → (is_wanted range start e && is_below own e) ≡ true
own_taken range start next own e long l h =
    let parts = and_parts (is_wanted range start e) (is_below (lesser next (within range own)) e) h in
    let second = below_second next (within range own) e parts.1 in
    let both_true : is_taken range start (within range own) e ≡ true = rw (parts.0, second) refl in
    sym (taken_within range start own e long l) ∙ both_true

-- the first fact of a chunk, of the view's leaf
pub laid_leaf : (entries cuts : List IndexEntry) (part : Part) (range : Range) (start : Option IndexEntry) (leaf : Chunk) (all : List IndexEntry) (next : Option IndexEntry)
    → LaysIndex entries cuts part → fits part.width range ≡ true → IsChunk entries cuts range start leaf
    → next ≡ lesser leaf.next (within range (first_not (is_passed start range) (sixteenths part.added)))
    → all ≡ with_all (filter (is_taken range start next) part.added) (filter (λ e. is_below next e && not (has part.taken e)) leaf.entries)
    → (chunk : Chunk) → chunk.entries ≡ all → chunk.next ≡ next → IsChunk (laid part.taken part.added entries) (with_all (sixteenths part.added) cuts) range start chunk
laid_leaf entries cuts part range start leaf all next lays fit is next_is all_is chunk here following =
    let passes = is_passed start range in
    let long = all_long part.width range entries fit lays.keys in
    let long_cuts = all_long part.width range cuts fit lays.cut_keys in
    let long_added = all_long part.width range part.added fit lays.added_keys in
    let long_marks = marks_all (is_long range) 0 part.added long_added in
    let rest = without part.taken entries in
    let ascend_rest = rising_filter comes_before (λ e. not (has part.taken e)) entries lays.index.ascend in
    let view = laid part.taken part.added entries in
    let view_cuts = with_all (sixteenths part.added) cuts in
    let view_ascends = with_ascends part.added rest ascend_rest in
    let view_long : AreLong range view = all_with (is_long range) part.added rest long_added (all_filter (is_long range) (λ e. not (has part.taken e)) entries long) in
    let cuts_long : AreLong range view_cuts = all_with (is_long range) (sixteenths part.added) cuts long_marks long_cuts in
    let own = first_not passes (sixteenths part.added) in
    let store = first_not passes cuts in
    let store_is : leaf.next ≡ within range store = is.following ∙ ap (within range) (leaf_next passes None cuts) in
    let view_next : (leaf_at view_cuts start range).next ≡ lesser store own = leaf_next passes None view_cuts ∙ next_with (is_long range) passes (passes_down range start) (sixteenths part.added) cuts long_marks long_cuts (marks_ascend 0 part.added lays.added) lays.index.apart in
    let own_long : IfSome own (λ c. is_long range c ≡ true) = first_long (is_long range) passes (sixteenths part.added) long_marks in
    let store_long : IfSome store (λ c. is_long range c ≡ true) = first_long (is_long range) passes cuts long_cuts in
    let next_within : next ≡ within range (lesser store own) = next_is ∙ ap (λ n. lesser n (within range own)) store_is ∙ sym (within_lesser range store own store_long own_long) in
    let next_so : next ≡ within range (leaf_at view_cuts start range).next = next_within ∙ ap (within range) (sym view_next) in
    let leaf_is : leaf.entries ≡ filter (is_taken range start leaf.next) entries = is.found ∙ leaf_read entries cuts range start long long_cuts ∙ ap (λ n. filter (is_taken range start n) entries) (sym is.following) in
    let other = within range own in
    let near : next ≡ lesser leaf.next other = next_is in
    let left : filter (λ e. is_below next e && not (has part.taken e)) leaf.entries ≡ filter (is_taken range start next) rest =
    ap (filter (λ e. is_below next e && not (has part.taken e))) leaf_is
    ∙ subst (λ n. filter (λ e. is_below n e && not (has part.taken e)) (filter (is_taken range start leaf.next) entries) ≡ filter (is_taken range start n) rest) (sym near) (left_is range start leaf.next other part.taken entries) in
    let all_taken : all ≡ filter (is_taken range start next) view = all_is ∙ ap (with_all (filter (is_taken range start next) part.added)) left ∙ sym (filter_with (is_taken range start next) part.added rest ascend_rest) in
    let found : chunk.entries ≡ run_from (leaf_entries (leaf_at view_cuts start range) view) range start =
    here ∙ all_taken ∙ ap (λ n. filter (is_taken range start n) view) next_so ∙ sym (leaf_read view view_cuts range start view_long cuts_long) in
    let store_few = leaf_short entries range start (leaf_at cuts start range) (lays.short (is_passed start range)) in
    let left_few = filter_length (λ e. is_below next e && not (has part.taken e)) leaf.entries in
    let added_few = few_added range start part.added long_added lays.added in
    let sharper = fewer_on (is_long range) (is_taken range start next) (λ e. is_wanted range start e && is_below own e) part.added long_added
    (λ e l h. own_taken range start leaf.next own e l own_long (subst (λ n. is_taken range start n e ≡ true) near h)) in
    let most = with_count (filter (is_taken range start next) part.added) (filter (λ e. is_below next e && not (has part.taken e)) leaf.entries) in
    let short : length chunk.entries ≤ 48 = rw (here, all_is) (let size = ap length is.found in omega (arith, store_few, left_few, added_few, sharper, most, size)) in
    is_chunk view view_cuts range start chunk view_ascends view_long cuts_long found (following ∙ next_so) short

-- Where a bound is longer than the keys there is no entry.

keys_reach : (width : ℕ) (bound : Option Bound) (key : List Value) → reaches bound key ≡ true → nat_eq (length key) width ≡ true → is_short width bound ≡ true
keys_reach width None key long h = refl
keys_reach width (Some b) key long h = grind (arith, nat_tests)

pub none_long : (width : ℕ) (range : Range) (entries : List IndexEntry) → fits width range ≡ false → list_all (λ (e : IndexEntry). nat_eq (length e.key) width) entries ≡ true → AreLong range entries → entries ≡ []
none_long width range [] fit keys long = refl
none_long width range (e ∷ entries) fit keys long =
    let key = (and_parts (nat_eq (length e.key) width) (list_all (λ (x : IndexEntry). nat_eq (length x.key) width) entries) keys).0 in
    let reach = and_parts (reaches range.low e.key) (reaches range.high e.key) (and_parts (reaches range.low e.key && reaches range.high e.key) (list_all (is_long range) entries) long).0 in
    let no : true ≡ false = sym (rw (keys_reach width range.low e.key reach.0 key, keys_reach width range.high e.key reach.1 key) refl) ∙ fit in
    cc

pub keys_test : (width : ℕ) (entries : List IndexEntry) → AreKeys width entries → list_all (λ (e : IndexEntry). nat_eq (length e.key) width) entries ≡ true
keys_test width [] keys = refl
keys_test width (e ∷ entries) keys = let here : nat_eq (length e.key) width ≡ true = (let same = keys.0 in grind (arith, nat_tests)) in rw here (keys_test width entries keys.1)

pub no_leaf : (entries cuts : List IndexEntry) (part : Part) (range : Range) (start : Option IndexEntry) (chunk : Chunk)
    → LaysIndex entries cuts part → fits part.width range ≡ false → AreLong range (laid part.taken part.added entries) → AreLong range (with_all (sixteenths part.added) cuts)
    → chunk.entries ≡ [] → chunk.next ≡ None → IsChunk (laid part.taken part.added entries) (with_all (sixteenths part.added) cuts) range start chunk
no_leaf entries cuts part range start chunk lays fit long long_cuts none last =
    let test : IndexEntry → Bool = λ e. nat_eq (length e.key) part.width in
    let rest = without part.taken entries in
    let view_none = none_long part.width range (laid part.taken part.added entries) fit (all_with test part.added rest (keys_test part.width part.added lays.added_keys) (all_filter test (λ e. not (has part.taken e)) entries (keys_test part.width entries lays.keys))) long in
    let cuts_none = none_long part.width range (with_all (sixteenths part.added) cuts) fit (all_with test (sixteenths part.added) cuts (marks_all test 0 part.added (keys_test part.width part.added lays.added_keys)) (keys_test part.width cuts lays.cut_keys)) long_cuts in
    rw (view_none, cuts_none) (is_chunk [] [] range start chunk tt refl refl (none ∙ sym (leaf_read [] [] range start refl refl)) last (rw none (omega arith)))

-- what was read of a leaf ascends
pub leaf_ascends : (entries cuts : List IndexEntry) (part : Part) (range : Range) (start : Option IndexEntry) (leaf : Chunk) → LaysIndex entries cuts part → fits part.width range ≡ true → IsChunk entries cuts range start leaf → Ascend leaf.entries
leaf_ascends entries cuts part range start leaf lays fit is =
    let long = all_long part.width range entries fit lays.keys in
    let long_cuts = all_long part.width range cuts fit lays.cut_keys in
    rw (is.found ∙ leaf_read entries cuts range start long long_cuts) (rising_filter comes_before (is_taken range start (within range (leaf_at cuts start range).next)) entries lays.index.ascend)

-- what was frozen of an index fits the reader at the base
pub lays_at : (shown : Shown) (f : Frozen) (index snap : ℕ) (part : Part) → Lays shown f → CanScan (overlaid shown f) index snap → snap ≡ f.base → part ≡ part_at f.parts index → LaysIndex (shown.entries index snap) (shown.cuts index snap) part
lays_at shown f index snap part lays can at is =
    let here : CanScan shown index f.base = subst (λ s. CanScan shown index s) at (record { there = can.there; snapshot = record { kept = can.snapshot.kept; known = can.snapshot.known } }) in
    subst (LaysIndex (shown.entries index snap) (shown.cuts index snap)) (sym is) (subst (λ s. LaysIndex (shown.entries index s) (shown.cuts index s) (part_at f.parts index)) (sym at) (lays.each index here))
