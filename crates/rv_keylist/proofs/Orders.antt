-- Keys in ascending order.
use Rattle.std.proofs.Common.{◌≡◌, ℕ, ◌+◌, ◌<◌, ◌≤◌, ◌++◌, ◌∷◌, [], List, length, Bool, true, false, refl, sym, ap, subst, ◌∙◌, inl, inr, arith, IsPermutation, Option, Some, None, IfSome, IsSome, drop, ◌⊎◌, ◌-◌, length-append}
use Rattle.std.specs.List.{refill}
use Rattle.std.specs.List.Sorted.{IsSorted, IsNonDecreasing}
use Rattle.std.specs.Ordering.{nat_cmp}
use Rattle.std.proofs.Math.Seq.{take-append_seam}
use Rattle.std.proofs.lemmas.Bool.{cases_eq}
use Rattle.std.proofs.lemmas.List.{append-nil, nil_from_length}
use Rattle.std.proofs.lemmas.List.Sorted.{length_permutation, IsPermutation-append, IsNonDecreasingBy-from_sort}
use Rattle.std.proofs.lemmas.Map.Keys.{IsStrictlyIncreasing-from_distinct}
use Rattle.rv_keylist.specs.Keys.{has_key, Once}
use Rattle.rv_keylist.proofs.Onces.{Once-nil, Once-push, Once-IsPermutation}
use Rattle.rv_keylist.specs.Marks.{Marks}
use Rattle.rv_keylist.specs.Whole.{Placed, Whole}
use Rattle.rv_keylist.proofs.Bits.{Marks-IsPermutation}

-- what a sort writes back through a slice
pub refilled : (n : ℕ) (xs ws : List ℕ) → n ≡ length ws → refill n xs ws ≡ ws
refilled n xs ws same = rw same (take-append_seam ws (drop (length ws) xs))

pub sorted_refill : (n : ℕ) (xs ws : List ℕ) → n ≡ length ws → IsSorted nat_cmp ws → IsNonDecreasing (refill n xs ws)
sorted_refill n xs ws same sorted =
    subst (λ (ys : List ℕ). IsNonDecreasing ys) (sym (refilled n xs ws same)) (IsNonDecreasingBy-from_sort (λ x. x) ws sorted)

-- nothing stands in the vector, or nothing in the buffer
one_is_empty : (few many : List ℕ) → Placed few many → (many ≡ []) ⊎ (few ≡ [])
one_is_empty few many placed = elim (cases_eq (length many) 0) [
  | inl none ↦ inl (nil_from_length many none)
  | inr some ↦ inr (placed.moved (omega arith))
]

no_more : (xs ys : List ℕ) → IsPermutation xs ys → xs ≡ [] → ys ≡ []
no_more xs ys moved none = nil_from_length ys (length_permutation xs ys moved ∙ ap length none)

pub sorted_apart :
    (few many few' many' : List ℕ)
    → Placed few many → IsPermutation few few' → IsNonDecreasing few' → IsPermutation many many' → IsNonDecreasing many'
    → IsNonDecreasing (few' ++ many')
sorted_apart few many few' many' placed moved_few rise_few moved_many rise_many = elim (one_is_empty few many placed) [
  | inl none ↦ subst (λ (ys : List ℕ). IsNonDecreasing ys)
      (sym (append-nil few') ∙ ap (λ (ys : List ℕ). few' ++ ys) (sym (no_more many many' moved_many none))) rise_few
  | inr none ↦ subst (λ (ys : List ℕ). IsNonDecreasing ys)
      (ap (λ (ys : List ℕ). ys ++ many') (sym (no_more few few' moved_few none))) rise_many
]

pub Placed-IsPermutation :
    (few many few' many' : List ℕ)
    → Placed few many → IsPermutation few few' → IsPermutation many many' → Placed few' many'
Placed-IsPermutation few many few' many' placed moved_few moved_many =
    let count : length many' ≡ length many = length_permutation many many' moved_many in record {
      moved = λ some. no_more few few' moved_few (placed.moved (omega arith));
      spilled = λ some. let more : 20 < length many = placed.spilled (omega arith) in omega arith;
    }

-- finished keys
pub finished :
    (few many few' many' : List ℕ) (capacity capacity' : ℕ) (filter : Option (List ℕ)) (spare : ℕ) (before : Bool)
    → Whole few many capacity filter spare before
    → IsPermutation few few' → IsNonDecreasing few' → IsPermutation many many' → IsNonDecreasing many'
    → capacity' ≡ capacity
    → Whole few' many' capacity' filter spare true
finished few many few' many' capacity capacity' filter spare before whole moved_few rise_few moved_many rise_many same =
    let moved : IsPermutation (few ++ many) (few' ++ many') = IsPermutation-append few few' many many' moved_few moved_many in
    let count : length (few' ++ many') ≡ length (few ++ many) = length_permutation (few ++ many) (few' ++ many') moved in
    let once : Once (few' ++ many') = Once-IsPermutation (few ++ many) (few' ++ many') moved whole.once in record {
      placed = Placed-IsPermutation few many few' many' whole.placed moved_few moved_many;
      once = once;
      room = λ some. rw (count, same) (whole.room (rw count at some));
      filtered = λ some. whole.filtered (rw count at some);
      marks = marked filter whole.marks moved;
      ascends = λ _. IsStrictlyIncreasing-from_distinct (few' ++ many')
          (sorted_apart few many few' many' whole.placed moved_few rise_few moved_many rise_many) once;
    }
  where
    marked : (filter : Option (List ℕ)) → IfSome filter (λ words. Marks words (few ++ many))
        → IsPermutation (few ++ many) (few' ++ many') → IfSome filter (λ words. Marks words (few' ++ many'))
    marked None marks moved = tt
    marked (Some words) marks moved = Marks-IsPermutation words (few ++ many) (few' ++ many') moved marks

pub Whole-new : (few many : List ℕ) (capacity : ℕ) → few ≡ [] → many ≡ [] → Whole few many capacity None 0 false
Whole-new few many capacity no_few no_many =
    subst (λ (xs : List ℕ). Whole xs many capacity None 0 false) (sym no_few)
    (subst (λ (xs : List ℕ). Whole [] xs capacity None 0 false) (sym no_many) empty)
  where
    empty : Whole [] [] capacity None 0 false
    empty = record {
      placed = record { moved = λ _. refl; spilled = λ some. absurd (omega arith) };
      once = Once-nil;
      room = λ some. absurd (omega arith);
      filtered = λ some. absurd (omega arith);
      marks = tt;
      ascends = λ done. cc;
    }

-- one key more, in a place that was made
pub added :
    (few many few' many' : List ℕ) (capacity capacity' : ℕ) (filter filter' : Option (List ℕ)) (spare key : ℕ) (done : Bool)
    → Whole few many capacity filter spare done
    → few' ++ many' ≡ few ++ many ++ key ∷ [] → Placed few' many' → capacity ≤ capacity'
    → (IsSome filter → IsSome filter')
    → ((keys : List ℕ) → IfSome filter (λ words. Marks words keys) → IfSome filter' (λ words. Marks words (keys ++ key ∷ [])))
    → 0 < spare → done ≡ false → has_key key (few ++ many) ≡ false
    → Whole few' many' capacity' filter' (spare - 1) done
added few many few' many' capacity capacity' filter filter' spare key done whole keys placed grows kept marks room unfinished fresh =
    let count : length (few' ++ many') ≡ length (few ++ many) + 1
    = ap length keys ∙ length-append (few ++ many) (key ∷ []) in
    let places : length (few' ++ many') + (spare - 1) ≡ length (few ++ many) + spare = omega arith in record {
      placed = placed;
      once = rw keys (Once-push (few ++ many) key whole.once fresh);
      room = λ some. let before : length (few ++ many) + spare ≤ capacity = whole.room (rw places at some) in omega arith;
      filtered = λ some. kept (whole.filtered (rw places at some));
      marks = rw keys (marks (few ++ many) whole.marks);
      ascends = λ now. cc;
    }
