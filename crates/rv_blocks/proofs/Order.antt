-- Where an item is put into a rising list, or taken out of it.
use Rattle.std.proofs.Common.{◌≡◌, ℕ, ◌<◌, ◌≤◌, ◌-◌, List, [], ◌∷◌, refl, ap, sym, ◌∙◌, arith, length, zero, suc, Bool, true, false, insert, remove, Option, Some, None}
use Rattle.std.specs.Prelude.{slice_index_or, slice_set, slice_get}
use Rattle.std.specs.List.{list_all}
use Rattle.std.proofs.lemmas.List.{length-set}
use Rattle.std.proofs.lemmas.List.Edits.{length-insert, length-remove}
use Rattle.rv_blocks.specs.Flat.{Turns, flat, AreSized}
use Rattle.rv_blocks.specs.Kept.{Kept}
use Rattle.std.specs.Cmp.{IsStrictWeakOrder}
use Rattle.std.proofs.lemmas.Bool.{and_parts, not-false, not-true}
use Rattle.std.proofs.lemmas.Option.{same_Some}
use Rattle.rv_value.proofs.Lists.{passes_at}
use Rattle.rv_rows.specs.Rising.{Rising, put_in}
use Rattle.rv_rows.proofs.Puts.{all_behind, filter_all, none_before, put_first, put_same, put_more, rising_put}
use Rattle.rv_blocks.specs.Taking.{take_from, standing, is_level}
use Rattle.rv_blocks.proofs.Places.{chain_of, alike}

turns_tail : {X : Type 0} (p : X → Bool) (x : X) (xs : List X) (k : ℕ) → Turns p (x ∷ xs) (suc k) → Turns p xs k
turns_tail p x xs zero t = record {
  within = omega arith;
  before = λ d h. absurd (omega arith);
  here = λ d h. t.here d (omega arith);
}
turns_tail p x xs (suc k) t =
    let within = t.within in
    let one : suc (suc k) - 1 ≡ suc k = omega arith in
    let two : suc k - 1 ≡ k = omega arith in
    record {
      within = omega arith;
      before = λ d h. rw two (rw one at t.before d (omega arith));
      here = λ d h. t.here d (omega arith);
    }

module _ {X : Type 0} (before : X → X → Bool) (weak : IsStrictWeakOrder before) where
  first_before : (new x : X) (xs : List X) (k : ℕ) → Rising before (x ∷ xs) → Turns (λ y. before y new) (x ∷ xs) (suc k) → before x new ≡ true
  first_before new x xs zero rising t =
      t.before x (omega arith)
  first_before new x xs (suc m) rising t =
      let within = t.within in
      let one : suc (suc m) - 1 ≡ suc m = omega arith in
      let last : before (slice_index_or xs m x) new ≡ true = rw one at t.before x (omega arith) in
      (chain_of before weak).follows x (slice_index_or xs m x) new (passes_at (before x) xs m x (omega arith) rising.0) last

  all_alike : (x y : X) (xs : List X) → before x y ≡ false → before y x ≡ false → list_all (before x) xs ≡ true → list_all (before y) xs ≡ true
  all_alike x y [] h k all = refl
  all_alike x y (z ∷ zs) h k all =
      let parts = and_parts (before x z) (list_all (before x) zs) all in
      rw (alike before weak x y z h k parts.0) (all_alike x y zs h k parts.1)

  none_standing : (new : X) (xs : List X) → list_all (before new) xs ≡ true → standing before new xs ≡ None
  none_standing new [] all = refl
  none_standing new (x ∷ xs) all =
      let parts = and_parts (before new x) (list_all (before new) xs) all in
      rw (parts.0, weak.one_way new x parts.0) (none_standing new xs parts.1)

  pub put_over : (new y : X) (xs : List X) (r : ℕ) → Rising before xs → Turns (λ x. before x new) xs r → slice_get xs r ≡ Some y → is_level before new (Some y) ≡ true → (slice_set xs r new ≡ put_in before new xs) × (remove xs r ≡ take_from before new xs) × (standing before new xs ≡ Some y)
  put_over new y [] r rising t got level = cc
  put_over new y (x ∷ xs) zero rising t got level =
      let same : x ≡ y = same_Some x y got in
      let early : before x new ≡ false = t.here x (omega arith) in
      let late : before new x ≡ false = ap (before new) same ∙ not-true (before new y) level in
      let all = all_alike x new xs early late rising.0 in (
        sym (put_same before (chain_of before weak) new x xs late early all),
        rw (early, late, none_before before (chain_of before weak) new xs all, filter_all (λ z. before new z) xs all) refl,
        rw (early, late) got,
      )
  put_over new y (x ∷ xs) (suc k) rising t got level =
      let first = first_before new x xs k rising t in
      let rest = put_over new y xs k rising.1 (turns_tail (λ z. before z new) x xs k t) got level in (
        ap (λ zs. x ∷ zs) rest.0 ∙ sym (put_more before (chain_of before weak) new x xs first),
        rw (first, weak.one_way x new first) (ap (λ zs. x ∷ zs) rest.1),
        rw first rest.2,
      )

  pub put_new : (new : X) (xs : List X) (r : ℕ) → Rising before xs → Turns (λ x. before x new) xs r → is_level before new (slice_get xs r) ≡ false → (insert xs r new ≡ put_in before new xs) × (xs ≡ take_from before new xs) × (standing before new xs ≡ None)
  put_new new [] zero rising t level = (refl, refl, refl)
  put_new new [] (suc k) rising t level = let within = t.within in absurd (omega arith)
  put_new new (x ∷ xs) zero rising t level =
      let early : before x new ≡ false = t.here x (omega arith) in
      let late : before new x ≡ true = not-false (before new x) level in
      let all = all_behind before (chain_of before weak) new x xs late rising.0 in (
        sym (put_first before (chain_of before weak) new x xs late rising.0),
        rw (early, late, none_before before (chain_of before weak) new xs all, filter_all (λ z. before new z) xs all) refl,
        rw (early, late) (none_standing new xs all),
      )
  put_new new (x ∷ xs) (suc k) rising t level =
      let first = first_before new x xs k rising t in
      let rest = put_new new xs k rising.1 (turns_tail (λ z. before z new) x xs k t) level in (
        ap (λ zs. x ∷ zs) rest.0 ∙ sym (put_more before (chain_of before weak) new x xs first),
        rw (first, weak.one_way x new first) (ap (λ zs. x ∷ zs) rest.1),
        rw first rest.2,
      )

  all_removed : (p : X → Bool) (xs : List X) (r : ℕ) → list_all p xs ≡ true → list_all p (remove xs r) ≡ true
  all_removed p [] zero all = refl
  all_removed p [] (suc r) all = refl
  all_removed p (x ∷ xs) zero all = (and_parts (p x) (list_all p xs) all).1
  all_removed p (x ∷ xs) (suc r) all =
      let parts = and_parts (p x) (list_all p xs) all in
      rw (parts.0, all_removed p xs r parts.1) refl

  -- what is taken out leaves a list that rises
  pub rising_remove : (xs : List X) (r : ℕ) → Rising before xs → Rising before (remove xs r)
  rising_remove [] zero rising = tt
  rising_remove [] (suc r) rising = tt
  rising_remove (x ∷ xs) zero rising = rising.1
  rising_remove (x ∷ xs) (suc r) rising = (all_removed (before x) xs r rising.0, rising_remove xs r rising.1)

  -- the place of an item, where one stands in it
  pub over : (new y : X) (xs : List X) (r : ℕ) → Rising before xs → Turns (λ x. before x new) xs r → slice_get xs r ≡ Some y → is_level before new (slice_get xs r) ≡ true → (slice_set xs r new ≡ put_in before new xs) × (remove xs r ≡ take_from before new xs) × (standing before new xs ≡ Some y)
  over new y xs r rising turns got level = put_over new y xs r rising turns got (ap (is_level before new) (sym got) ∙ level)

  -- what stands at the place of an item, where it is level with it
  pub stands : (new : X) (xs : List X) (r : ℕ) → Rising before xs → Turns (λ x. before x new) xs r → is_level before new (slice_get xs r) ≡ true → slice_get xs r ≡ standing before new xs
  stands new xs r rising turns level = by (slice_get xs r) refl
    where
      by : (found : Option X) → slice_get xs r ≡ found → slice_get xs r ≡ standing before new xs
      by None got = let no : false ≡ true = ap (is_level before new) (sym got) ∙ level in cc
      by (Some y) got = got ∙ sym (over new y xs r rising turns got level).2

  pub kept_insert : (new : X) (count n : ℕ) (bs cs : List (List X)) (r : ℕ) → Kept before count bs → r ≤ length (flat bs) → AreSized cs → n ≡ suc count → flat cs ≡ insert (flat bs) r new → flat cs ≡ put_in before new (flat bs) → Kept before n cs
  kept_insert new count n bs cs r kept within sized next is put =
      let more = length-insert (flat bs) r new within in
      let len = ap length is in
      let had = kept.counted in
      record {
        sized = sized;
        counted = omega arith;
        rises = rw put (rising_put before (chain_of before weak) new (flat bs) kept.rises);
      }

  pub kept_replace : (new : X) (count : ℕ) (bs cs : List (List X)) (r : ℕ) → Kept before count bs → AreSized cs → flat cs ≡ slice_set (flat bs) r new → flat cs ≡ put_in before new (flat bs) → Kept before count cs
  kept_replace new count bs cs r kept sized is put =
      let same = length-set (flat bs) r new in
      let len = ap length is in
      let had = kept.counted in
      record {
        sized = sized;
        counted = omega arith;
        rises = rw put (rising_put before (chain_of before weak) new (flat bs) kept.rises);
      }

  pub kept_remove : (count : ℕ) (bs cs : List (List X)) (r : ℕ) → Kept before count bs → r < length (flat bs) → AreSized cs → flat cs ≡ remove (flat bs) r → Kept before (count - 1) cs
  kept_remove count bs cs r kept within sized is =
      let less = length-remove (flat bs) r within in
      let len = ap length is in
      let had = kept.counted in
      record {
        sized = sized;
        counted = omega arith;
        rises = rw is (rising_remove (flat bs) r kept.rises);
      }
