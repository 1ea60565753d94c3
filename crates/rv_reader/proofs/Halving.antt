-- Searches by halves among entries that ascend: what they find, and how many entries are in a range.
use Rattle.std.proofs.Common.{◌≡◌, ℕ, ℤ, zero, suc, ◌+◌, ◌-◌, ◌<◌, ◌≤◌, List, [], ◌∷◌, Bool, true, false, not, ◌&&◌, ap, refl, subst, sym, ◌∙◌, inl, inr, arith, drop, length, Option, Some, None}
use Rattle.std.proofs.lemmas.Bool.{and_parts, cases_Bool, not-true}
use Rattle.std.proofs.lemmas.List.{get_or_read}
use Rattle.std.specs.List.{AllWithin, list_all, slice_index_or}
use Rattle.std.specs.List.Sorted.{IsPartitionedBy}
use Rattle.rv_value.specs.declared.record.IndexEntry.{IndexEntry}
use Rattle.rv_value.specs.declared.range.Range.{Range}
use Rattle.rv_value.specs.declared.range.Side.{Side}
use Rattle.rv_value.specs.declared.range.Side.TheVariants.{Before, In, After}
use Rattle.rv_value.specs.Numbers.{closed_at}
use Rattle.rv_value.specs.Ranges.{in_side, is_under, place}
use Rattle.rv_rows.proofs.Cuts.{partitioned, rising_drop}
use Rattle.rv_reader.specs.Entries.{AreLong, Ascend, comes_before, run}
use Rattle.rv_reader.specs.Halves.{PassesTo, is_before, is_not_after}
use Rattle.rv_reader.specs.Leaves.{after_side, before_side, is_passed}
use Rattle.rv_reader.proofs.Chunks.{is_long}
use Rattle.rv_reader.proofs.Orders.{key_not, one_way, order}
use Rattle.rv_reader.proofs.Sides.{after_along, before_along, under_before}

-- a place up to which a test holds and from which it fails
pub passes_to : {X : Type 0} (p : X → Bool) (xs : List X) (i : ℕ) → i ≤ length xs → AllWithin (λ y. p y ≡ true) xs 0 i → AllWithin (λ y. p y ≡ false) xs i (length xs) → PassesTo p i xs
passes_to p [] i h front back = tt
passes_to p (x ∷ xs) zero h front back =
    (back 0 x (omega arith) (omega arith), passes_to p xs zero (omega arith) (λ k d l u. absurd (omega arith)) (λ k d l u. back (suc k) d (omega arith) (omega arith)))
passes_to p (x ∷ xs) (suc i) h front back =
    (front 0 x (omega arith) (omega arith), passes_to p xs i (omega arith) (λ k d l u. front (suc k) d (omega arith) (omega arith)) (λ k d l u. back (suc k) d (omega arith) (omega arith)))

-- what a test says of an item that was read at a place
pub read_says : {X : Type 0} (p : X → Bool) (xs : List X) (i : ℕ) (x : X) (b : Bool) → i < length xs → x ≡ slice_index_or xs i x → p x ≡ b → (d : X) → p (slice_index_or xs i d) ≡ b
read_says p xs i x b within is says d = ap p (sym (get_or_read xs i x within is d)) ∙ says

-- a place before which a test holds and at which it fails, where it fails of all that comes after one of which it fails
pub passes_between : {X : Type 0} (p : X → Bool) (xs : List X) (i : ℕ) → IsPartitionedBy p xs → i ≤ length xs → ((d : X) → 0 < i → p (slice_index_or xs (i - 1) d) ≡ true) → ((d : X) → i < length xs → p (slice_index_or xs i d) ≡ false) → PassesTo p i xs
passes_between p xs i parted h front back =
    passes_to p xs i h (λ k d l u. parted k (i - 1) d (omega arith) (omega arith) (front d (omega arith)))
    (λ k d l u. elim (cases_Bool (p (slice_index_or xs k d))) [
      | inl t ↦ let yes : p (slice_index_or xs i d) ≡ true = parted i k d l u t in let no : p (slice_index_or xs i d) ≡ false = back d (omega arith) in absurd cc
      | inr f ↦ f
    ])

-- Tests that, once they fail, fail of all that comes after.

pub before_goes : (range : Range) (x y : IndexEntry) → comes_before x y ≡ true → is_long range x ≡ true → is_long range y ≡ true → is_before range y ≡ true → is_before range x ≡ true
before_goes range x y h lx ly p = before_along range x.key y.key (key_not x y (one_way x y h)) lx ly p

pub before_parted : (range : Range) (es : List IndexEntry) → Ascend es → AreLong range es → IsPartitionedBy (is_before range) es
before_parted range es ascend long = partitioned comes_before (is_long range) (is_before range) (before_goes range) es ascend long

-- an entry that is less than a number
abbrev pub is_lower : ℤ → IndexEntry → Bool
is_lower low e = is_under e.key (Some (closed_at low))

-- where the low bound is that number, it is one before the range
pub from_number : (range : Range) (low : ℤ) → range.low ≡ Some (closed_at low) → is_lower low ≡ is_before range
from_number range low is = λ i e. (ap (is_under e.key) (sym is) ∙ under_before range e.key) i

not_after_goes : (range : Range) (x y : IndexEntry) → comes_before x y ≡ true → is_long range x ≡ true → is_long range y ≡ true → is_not_after range y ≡ true → is_not_after range x ≡ true
not_after_goes range x y h lx ly p = elim (cases_Bool (after_side (place range x.key))) [
  | inl t ↦
      let after = after_along range x.key y.key (key_not x y (one_way x y h)) lx ly t in
      let no : not (after_side (place range y.key)) ≡ false = rw after refl in
      cc
  | inr f ↦ rw f refl
]

pub not_after_parted : (range : Range) (es : List IndexEntry) → Ascend es → AreLong range es → IsPartitionedBy (is_not_after range) es
not_after_parted range es ascend long = partitioned comes_before (is_long range) (is_not_after range) (not_after_goes range) es ascend long

pub passed_goes : (range : Range) (start : Option IndexEntry) (x y : IndexEntry) → comes_before x y ≡ true → is_long range x ≡ true → is_long range y ≡ true → is_passed start range y ≡ true → is_passed start range x ≡ true
passed_goes range None x y h lx ly p = before_goes range x y h lx ly p
passed_goes range (Some s) x y h lx ly p = rw (order.chain s y x (not-true (comes_before s y) p) (one_way x y h)) refl

pub passed_parted : (range : Range) (start : Option IndexEntry) (es : List IndexEntry) → Ascend es → AreLong range es → IsPartitionedBy (is_passed start range) es
passed_parted range start es ascend long = partitioned comes_before (is_long range) (is_passed start range) (passed_goes range start) es ascend long

sides : (s : Side) → (before_side s ≡ true → not (after_side s) ≡ true) × (in_side s ≡ (not (after_side s) && not (before_side s)))
sides Before = (λ h. refl, refl)
sides In = (λ h. refl, refl)
sides After = (λ h. cc, refl)

-- where none is before the range, those up to the first that is after it
counted : (range : Range) (m : ℕ) (es : List IndexEntry) → PassesTo (is_before range) 0 es → PassesTo (is_not_after range) m es → m ≤ length es → m ≡ length (run es range)
counted range m [] p q k = omega arith
counted range zero (e ∷ es) p q k =
    let rest = counted range zero es p.1 q.1 (omega arith) in
    rw ((sides (place range e.key)).1, q.0) rest
counted range (suc m) (e ∷ es) p q k =
    let rest = counted range m es p.1 q.1 (omega arith) in
    rw ((sides (place range e.key)).1, q.0, p.0) (omega arith)

-- those behind the ones before the range, up to the first that is after it
pub count_behind : (range : Range) (n m : ℕ) (es : List IndexEntry) → PassesTo (is_before range) n es → n ≤ length es → PassesTo (is_not_after range) m (drop n es) → m ≤ length (drop n es) → m ≡ length (run es range)
count_behind range zero m es p h q k = counted range m es p q k
count_behind range (suc n) m [] p h q k = absurd (omega arith)
count_behind range (suc n) m (e ∷ es) p h q k =
    let rest = count_behind range n m es p.1 (omega arith) q k in
    rw ((sides (place range e.key)).1, (sides (place range e.key)).0 p.0, p.0) rest

-- those that are not after it, by those before it and those behind them
pub passes_further : (range : Range) (n m k : ℕ) (es : List IndexEntry) → k ≡ n + m → PassesTo (is_before range) n es → PassesTo (is_not_after range) m (drop n es) → PassesTo (is_not_after range) k es
passes_further range zero m k es is p q =
    let same : m ≡ k = omega (arith, is) in
    subst (λ (i : ℕ). PassesTo (is_not_after range) i es) same q
passes_further range (suc n) m k [] is p q = tt
passes_further range (suc n) m zero (e ∷ es) is p q = absurd (omega (arith, is))
passes_further range (suc n) m (suc k) (e ∷ es) is p q =
    ((sides (place range e.key)).0 p.0, passes_further range n m k es (omega (arith, is)) p.1 q)

-- A part behind.

all_drop : {X : Type 0} (q : X → Bool) (n : ℕ) (xs : List X) → list_all q xs ≡ true → list_all q (drop n xs) ≡ true
all_drop q zero xs all = all
all_drop q (suc n) [] all = refl
all_drop q (suc n) (x ∷ xs) all = all_drop q n xs (and_parts (q x) (list_all q xs) all).1

pub ascend_behind : (n : ℕ) (es rest : List IndexEntry) → rest ≡ drop n es → Ascend es → Ascend rest
ascend_behind n es rest is ascend = subst Ascend (sym is) (rising_drop comes_before n es ascend)

pub long_behind : (range : Range) (n : ℕ) (es rest : List IndexEntry) → rest ≡ drop n es → AreLong range es → AreLong range rest
long_behind range n es rest is long = subst (AreLong range) (sym is) (all_drop (is_long range) n es long)
