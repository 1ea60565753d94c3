-- How many entries of the view are in a range.
use Rattle.std.proofs.Common.{◌≡◌, ℕ, zero, suc, ◌+◌, ◌-◌, ◌≤◌, List, [], ◌∷◌, Bool, true, false, not, nat_eq, ◌&&◌, cond, inl, inr, refl, ap, sym, subst, filter, length, arith}
use Rattle.std.proofs.lemmas.Bool.{cases_Bool, and_parts, not-true}
use Rattle.std.specs.List.{list_all}
use Rattle.std.specs.Ordering.{is_eq, is_lt}
use Rattle.std.specs.declared.cmp.Ordering.{Ordering}
use Rattle.std.specs.declared.cmp.Ordering.TheVariants.{Less, Equal, Greater}
use Rattle.rv_value.specs.declared.record.IndexEntry.{IndexEntry}
use Rattle.rv_value.specs.declared.range.Range.{Range}
use Rattle.rv_value.specs.Entries.{entry_cmp}
use Rattle.rv_rows.specs.Rising.{put_in}
use Rattle.rv_rows.proofs.Puts.{rising_filter}
use Rattle.rv_reader.specs.declared.reader.Estimate.{Estimate}
use Rattle.rv_reader.specs.Entries.{comes_before, is_in, run, Ascend, AreLong}
use Rattle.rv_reader.specs.Shown.{IsEstimate, IsIndex}
use Rattle.rv_value.specs.Orders.{entry_cmp_total}
use Rattle.std.specs.Cmp.{tied_itself}
use Rattle.std.proofs.lemmas.List.{length-append}
use Rattle.std.proofs.lemmas.List.Filters.{length-filter_both}
use Rattle.rv_reader.proofs.Sorting.{same, all_behind, equal_entries}
use Rattle.rv_reader.proofs.Filters.{filter_same, filter_twice, all_filter}
use Rattle.rv_reader.proofs.Orders.{one_way}
use Rattle.rv_overlay.specs.declared.frozen.Part.{Part}
use Rattle.rv_overlay.specs.Laying.{has, laid, marks, sixteenths, with_all, without}
use Rattle.rv_overlay.specs.Overlaid.{LaysIndex, counted, fits}
use Rattle.rv_overlay.proofs.Placing.{before_found, filter_with, not_among, with_ascends}
use Rattle.rv_overlay.proofs.Following.{all_put, all_with}
use Rattle.rv_overlay.proofs.Chunked.{keys_test, none_long, with_count}

-- an entry is another one than each of these
abbrev other : IndexEntry → IndexEntry → Bool
other e x = not (is_eq (entry_cmp x e))

lt_other : (x e : IndexEntry) → comes_before x e ≡ true → is_eq (entry_cmp x e) ≡ false
lt_other x e h = by (entry_cmp x e) h
  where
    by : (o : Ordering) → is_lt o ≡ true → is_eq o ≡ false
    by Less h = refl
    by Equal h = cc
    by Greater h = cc

-- New entries.

behind_same : (e : IndexEntry) (xs : List IndexEntry) → list_all (other e) xs ≡ true → filter (λ x. not (comes_before x e)) xs ≡ filter (λ x. comes_before e x) xs
behind_same e xs all = filter_same (other e) (λ x. not (comes_before x e)) (λ x. comes_before e x) xs all (λ x h. apart e x h)
  where
    apart : (e x : IndexEntry) → other e x ≡ true → not (comes_before x e) ≡ comes_before e x
    apart e x h = elim (cases_Bool (comes_before x e)) [
      | inl t ↦ rw (t, one_way x e t) refl
      | inr f ↦ elim (cases_Bool (comes_before e x)) [
        | inl u ↦ rw (f, u) refl
        | inr g ↦ let is : x ≡ e = same x e f g in let no : other e e ≡ true = subst (λ y. other e y ≡ true) is h in let none : other e e ≡ false = rw (tied_itself entry_cmp_total e) refl in cc
      ]
    ]

put_more : (e : IndexEntry) (xs : List IndexEntry) → list_all (other e) xs ≡ true → length (put_in comes_before e xs) ≡ suc (length xs)
put_more e xs all =
    let two = length-filter_both (λ x. comes_before x e) (λ x. not (comes_before x e)) (λ x. refl) xs in
    let back = ap length (behind_same e xs all) in
    rw (length-append (filter (λ x. comes_before x e) xs) (e ∷ filter (λ x. comes_before e x) xs)) (omega (arith, two, back))

-- each entry is another one than all of a list
abbrev pub AreNew : List IndexEntry → List IndexEntry → Type 0
AreNew [] xs = Unit {0}
AreNew (e ∷ es) xs = (list_all (other e) xs ≡ true) × AreNew es xs

new_put : (e : IndexEntry) (es xs : List IndexEntry) → list_all (comes_before e) es ≡ true → AreNew es xs → AreNew es (put_in comes_before e xs)
new_put e [] xs all new = tt
new_put e (d ∷ es) xs all new =
    let parts = and_parts (comes_before e d) (list_all (comes_before e) es) all in
    (all_put (other d) e xs (rw (lt_other e d parts.0) refl) new.0, new_put e es xs parts.1 new.1)

with_more : (es xs : List IndexEntry) → Ascend es → AreNew es xs → length (with_all es xs) ≡ length es + length xs
with_more [] xs ascend new = omega arith
with_more (e ∷ es) xs ascend new =
    let rest = with_more es (put_in comes_before e xs) ascend.1 (new_put e es xs ascend.0 new.1) in
    let here = put_more e xs new.0 in
    omega (arith, rest, here)

new_filter : (p q : IndexEntry → Bool) (es xs : List IndexEntry) → list_all (λ (e : IndexEntry). not (has xs e)) es ≡ true → AreNew (filter p es) (filter q xs)
new_filter p q [] xs all = tt
new_filter p q (e ∷ es) xs all =
    let parts = and_parts (not (has xs e)) (list_all (λ (x : IndexEntry). not (has xs x)) es) all in
    let here = all_filter (other e) q xs (not_among e xs (not-true (has xs e) parts.0)) in
    let rest = new_filter p q es xs parts.1 in
    elim (p e) as (λ b. AreNew (cond b (e ∷ filter p es) (filter p es)) (filter q xs)) [ true ↦ (here, rest) | false ↦ rest ]

-- Entries taken away.

pub not_there : (e : IndexEntry) (ts : List IndexEntry) → list_all (comes_before e) ts ≡ true → has ts e ≡ false
not_there e [] all = refl
not_there e (t ∷ ts) all =
    let parts = and_parts (comes_before e t) (list_all (comes_before e) ts) all in
    elim (cases_Bool (is_eq (entry_cmp t e))) [
      | inl u ↦ let no : comes_before e e ≡ true = subst (λ y. comes_before e y ≡ true) (equal_entries t e u) parts.0 in let not_so = one_way e e no in cc
      | inr f ↦ rw f (not_there e ts parts.1)
    ]

there_rest : (e : IndexEntry) (es ts : List IndexEntry) → list_all (comes_before e) ts ≡ true → list_all (has (e ∷ es)) ts ≡ true → list_all (has es) ts ≡ true
there_rest e es [] all there = refl
there_rest e es (t ∷ ts) all there =
    let parts = and_parts (comes_before e t) (list_all (comes_before e) ts) all in
    let found = and_parts (has (e ∷ es) t) (list_all (has (e ∷ es)) ts) there in
    rw (rw (lt_other e t parts.0) at found.0) (there_rest e es ts parts.1 found.1)

without_first : (p : IndexEntry → Bool) (e : IndexEntry) (ts es : List IndexEntry) → list_all (comes_before e) es ≡ true → filter p (without (e ∷ ts) es) ≡ filter p (without ts es)
without_first p e ts es all = ap (filter p) (filter_same (comes_before e) (λ x. not (has (e ∷ ts) x)) (λ x. not (has ts x)) es all (λ x h. rw (lt_other e x h) refl))

pub itself_true : (e : IndexEntry) → is_eq (entry_cmp e e) ≡ true
itself_true e = rw (tied_itself entry_cmp_total e) refl

counted_first : (b : Bool) (x : IndexEntry) (xs ys zs : List IndexEntry) → length xs + length ys ≡ length zs → length xs + length (cond b (x ∷ ys) ys) ≡ length (cond b (x ∷ zs) zs)
counted_first true x xs ys zs h = omega arith
counted_first false x xs ys zs h = h

counted_left : (b : Bool) (x : IndexEntry) (xs ys zs : List IndexEntry) → length xs + length ys ≡ length zs → length (cond b (x ∷ xs) xs) + length ys ≡ length (cond b (x ∷ zs) zs)
counted_left true x xs ys zs h = omega arith
counted_left false x xs ys zs h = h

pub without_count : (p : IndexEntry → Bool) (ts es : List IndexEntry) → Ascend ts → Ascend es → list_all (has es) ts ≡ true → length (filter p (without ts es)) + length (filter p ts) ≡ length (filter p es)
without_count p [] [] at ae there = omega arith
without_count p (t ∷ ts) [] at ae there = cc
without_count p [] (e ∷ es) at ae there =
    counted_left (p e) e (filter p (without [] es)) [] (filter p es) (without_count p [] es tt ae.1 refl)
without_count p (t ∷ ts) (e ∷ es) at ae there =
    let found = and_parts (has (e ∷ es) t) (list_all (has (e ∷ es)) ts) there in
    elim (cases_Bool (is_eq (entry_cmp e t))) [
      | inl u ↦
          let is : e ≡ t = equal_entries e t u in
          subst (λ (d : IndexEntry). length (filter p (without (d ∷ ts) (e ∷ es))) + length (filter p (d ∷ ts)) ≡ length (filter p (e ∷ es))) is
          (let above : list_all (comes_before e) ts ≡ true = subst (λ (d : IndexEntry). list_all (comes_before d) ts ≡ true) (sym is) at.0 in
          let rest = without_count p ts es at.1 ae.1 (there_rest e es ts above found.1) in
          rw (itself_true e, without_first p e ts es ae.0) (counted_first (p e) e (filter p (without ts es)) (filter p ts) (filter p es) rest))
      | inr f ↦
          let below : comes_before e t ≡ true = before_found e t es ae.0 (rw f at found.0) in
          let above = all_behind e t ts below at.0 in
          let all : list_all (comes_before e) (t ∷ ts) ≡ true = rw (below, above) refl in
          let rest = without_count p (t ∷ ts) es at ae.1 (there_rest e es (t ∷ ts) all there) in
          rw (not_there e (t ∷ ts) all) (counted_left (p e) e (filter p (without (t ∷ ts) es)) (filter p (t ∷ ts)) (filter p es) rest)
    ]

-- The view's entries in a range.

pub view_count : (entries cuts : List IndexEntry) (part : Part) (range : Range) → LaysIndex entries cuts part → length (run (laid part.taken part.added entries) range) + length (run part.taken range) ≡ length (run part.added range) + length (run entries range)
view_count entries cuts part range lays =
    let rest = without part.taken entries in
    let ascend_rest = rising_filter comes_before (λ e. not (has part.taken e)) entries lays.index.ascend in
    let laid_is = ap length (filter_with (is_in range) part.added rest ascend_rest) in
    let new_rest = new_filter (is_in range) (λ x. not (has part.taken x) && is_in range x) part.added entries lays.apart in
    let same_rest = filter_twice (is_in range) (λ e. not (has part.taken e)) entries in
    let more = with_more (filter (is_in range) part.added) (filter (is_in range) rest) (rising_filter comes_before (is_in range) part.added lays.added) (subst (AreNew (filter (is_in range) part.added)) (sym same_rest) new_rest) in
    let left = without_count (is_in range) part.taken entries lays.taken lays.index.ascend lays.taken_there in
    omega (arith, laid_is, more, left)

pub view_estimate : (entries cuts : List IndexEntry) (part : Part) (range : Range) (e : Estimate) → LaysIndex entries cuts part → IsEstimate entries range e → IsEstimate (laid part.taken part.added entries) range (counted part range e)
view_estimate entries cuts part range e lays is = record { exact = by e.exact refl }
  where
    by : (b : Bool) → b ≡ e.exact → (counted part range e).exact ≡ true → (counted part range e).value ≡ length (run (laid part.taken part.added entries) range)
    by true here h = rw (sym here) (let count = view_count entries cuts part range lays in let whole = is.exact (sym here) in let left = without_count (is_in range) part.taken entries lays.taken lays.index.ascend lays.taken_there in omega (arith, count, whole, left))
    by false here h = let no : false ≡ true = (rw (sym here) at h) in cc

marks_count : (left : ℕ) (es : List IndexEntry) → length (marks left es) ≤ length es
marks_count left [] = omega arith
marks_count zero (e ∷ es) = let rest = marks_count 15 es in omega (arith, rest)
marks_count (suc left) (e ∷ es) = let rest = marks_count left es in omega (arith, rest)

pub view_index : (entries cuts : List IndexEntry) (part : Part) → LaysIndex entries cuts part → IsIndex (laid part.taken part.added entries) (with_all (sixteenths part.added) cuts)
view_index entries cuts part lays = record {
  ascend = with_ascends part.added (without part.taken entries) (rising_filter comes_before (λ e. not (has part.taken e)) entries lays.index.ascend);
  apart = with_ascends (sixteenths part.added) cuts lays.index.apart;
  few = let most = with_count (sixteenths part.added) cuts in let few = marks_count 0 part.added in let room = lays.few in omega (arith, most, few, room);
}

pub no_view : (entries cuts : List IndexEntry) (part : Part) (range : Range) → LaysIndex entries cuts part → fits part.width range ≡ false → AreLong range (laid part.taken part.added entries) → IsEstimate (laid part.taken part.added entries) range (record { value = 0; exact = true })
no_view entries cuts part range lays fit long =
    let test : IndexEntry → Bool = λ e. nat_eq (length e.key) part.width in
    let rest = without part.taken entries in
    let none = none_long part.width range (laid part.taken part.added entries) fit (all_with test part.added rest (keys_test part.width part.added lays.added_keys) (all_filter test (λ e. not (has part.taken e)) entries (keys_test part.width entries lays.keys))) long in
    rw none (record { exact = λ h. refl })
