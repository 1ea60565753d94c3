-- An exact estimate is the number of entries in the range.
use Rattle.std.proofs.Common.{ℕ, zero, suc, true, false, inl, inr, ◌+◌, ◌<◌, ◌≡◌, ◌⊎◌, List, [], ◌∷◌, ◌++◌, length, take, map, eqb, Option, Some, None, Bool, cond, refl, ap, sym, ◌∙◌, subst, arith, append-nil, append_assoc}
use Rattle.std.specs.Prelude.{flat_map}
use Rattle.std.specs.List.{AllByRecursion}
use Rattle.std.proofs.lemmas.Bool.{cases_Bool, eqb-true, not-false}
use Rattle.std.proofs.lemmas.List.Elements.{filter-append}
use Rattle.std.proofs.lemmas.Grind.{flat_map-append}
use Rattle.std.proofs.lemmas.List.{length-map}
use Rattle.rv_value.proofs.Lists.{all_more}
use Rattle.rv_value.specs.declared.record.IndexEntry.{IndexEntry}
use Rattle.rv_value.specs.declared.range.Range.{Range}
use Rattle.rv_value.specs.Ranges.{place, is_empty}
use Rattle.rv_reader.specs.declared.reader.Estimate.{Estimate}
use Rattle.rv_reader.specs.Entries.{comes_before, is_in, run, AreLong}
use Rattle.rv_reader.specs.Leaves.{after_side}
use Rattle.rv_reader.specs.Shown.{IsEstimate}
use Rattle.rv_reader.proofs.Chunks.{is_long, after_out, before_out}
use Rattle.rv_reader.proofs.Orders.{order, one_way, key_not}
use Rattle.rv_reader.proofs.Sides.{before_along, after_along}
use Rattle.rv_reader.specs.Halves.{is_before, is_not_after}
use Rattle.rv_node.specs.Children.{last_place, first_child, last_child}
use Rattle.rv_node.specs.Trees.{Tree, Whole, entries_in, entries_all, cuts_in, cuts_all, cuts_under}
use Rattle.rv_node.specs.Sound.{AtLeast, Below, Kids, KidsFrom, IsTree, IsWhole}
use Rattle.rv_node.proofs.Bounds.{entries_within, kids_within}
use Rattle.rv_node.proofs.Kept.{KidsFrom-split}
use Rattle.rv_node.proofs.Lists.{All-left, All-right, filter-none}
use Rattle.rv_node.proofs.Rising.{All-of}
use Rattle.rv_index.specs.Estimates.{estimate, estimate_in, estimate_by, in_child, exactly}
use Rattle.rv_index.proofs.Empty.{empty_none}

-- Which child is found.

record IsLast (E T : Type 0) (p : E → Bool) (at place : ℕ) (kids front : List (E × T)) (kid : E × T) (back : List (E × T)) : Type 0 where
  pub parts : kids ≡ front ++ kid ∷ back
  pub passes : p kid.0 ≡ true
  pub behind : AllByRecursion (λ k. p k.0 ≡ false) back
  pub there : place ≡ at + length front

place_step : {E : Type 0} (p : E → Bool) (at best : ℕ) (x : E) (xs : List E) (b : Bool) → p x ≡ b → last_place p at best (x ∷ xs) ≡ last_place p (at + 1) (cond b at best) xs
place_step p at best x xs b e = ap (λ c. last_place p (at + 1) (cond c at best) xs) e

last_of : {E T : Type 0} (p : E → Bool) (at best : ℕ) (kids : List (E × T))
    → ((last_place p at best (map (λ k. k.0) kids) ≡ best) × AllByRecursion (λ k. p k.0 ≡ false) kids)
    ⊎ ((front : List (E × T)) × ((kid : E × T) × ((back : List (E × T)) × IsLast E T p at (last_place p at best (map (λ k. k.0) kids)) kids front kid back)))
last_of p at best [] = inl (refl, tt)
last_of {E} {T} p at best (k ∷ kids) = elim (cases_Bool (p k.0)) [
  | inl t ↦ elim (last_of p (at + 1) at kids) [
    | inl none ↦
        let zero_more : at ≡ at + 0 = omega arith in
        inr ([], (k, (kids, record { parts = refl; passes = t; behind = none.1; there = place_step p at best k.0 (map (λ k. k.0) kids) true t ∙ none.0 ∙ zero_more })))
    | inr w ↦ inr (more w.0 w.1.0 w.1.1.0 at (place_step p at best k.0 (map (λ k. k.0) kids) true t) w.1.1.1)
  ]
  | inr f ↦ elim (last_of p (at + 1) best kids) [
    | inl none ↦ inl (place_step p at best k.0 (map (λ k. k.0) kids) false f ∙ none.0, (f, none.1))
    | inr w ↦ inr (more w.0 w.1.0 w.1.1.0 best (place_step p at best k.0 (map (λ k. k.0) kids) false f) w.1.1.1)
  ]
]
  where
    more : (front : List (E × T)) (kid : E × T) (back : List (E × T)) (b : ℕ) → last_place p at best (map (λ k. k.0) (k ∷ kids)) ≡ last_place p (at + 1) b (map (λ k. k.0) kids) → IsLast E T p (at + 1) (last_place p (at + 1) b (map (λ k. k.0) kids)) kids front kid back
        → (front : List (E × T)) × ((kid : E × T) × ((back : List (E × T)) × IsLast E T p at (last_place p at best (map (λ k. k.0) (k ∷ kids))) (k ∷ kids) front kid back))
    more front kid back b e w =
        let longer : (at + 1) + length front ≡ at + length (k ∷ front) = omega arith in
        (k ∷ front, (kid, (back, record { parts = ap (λ ks. k ∷ ks) w.parts; passes = w.passes; behind = w.behind; there = e ∙ w.there ∙ longer })))

-- the last of a list is found only where it passes
last_passes : {E : Type 0} (p : E → Bool) (at best : ℕ) (front : List E) (x : E) → best < at → last_place p at best (front ++ x ∷ []) ≡ at + length front → p x ≡ true
last_passes p at best [] x low e = elim (cases_Bool (p x)) [
  | inl t ↦ t
  | inr f ↦ let no : best ≡ at + 0 = sym (place_step p at best x [] false f) ∙ e in absurd (omega arith)
]
last_passes p at best (y ∷ ys) x low e =
    let longer : at + length (y ∷ ys) ≡ (at + 1) + length ys = omega arith in
    elim (cases_Bool (p y)) [
      | inl t ↦ last_passes p (at + 1) at ys x (omega arith) (sym (place_step p at best y (ys ++ x ∷ []) true t) ∙ e ∙ longer)
      | inr n ↦ last_passes p (at + 1) best ys x (omega arith) (sym (place_step p at best y (ys ++ x ∷ []) false n) ∙ e ∙ longer)
    ]

take_front : {E T : Type 0} (front : List (E × T)) (kid : E × T) (back : List (E × T)) → take (suc (length front)) (map (λ k. k.0) (front ++ kid ∷ back)) ≡ map (λ k. k.0) front ++ kid.0 ∷ []
take_front [] kid back = refl
take_front (k ∷ front) kid back = ap (λ xs. k.0 ∷ xs) (take_front front kid back)

child_at : {E T X : Type 0} (f : T → X) (none : X) (front : List (E × T)) (kid : E × T) (back : List (E × T)) → in_child f none (length front) (front ++ kid ∷ back) ≡ f kid.1
child_at f none [] kid back = refl
child_at f none (k ∷ front) kid back = child_at f none front kid back

-- What is beside the child is not in the range.

module _ (range : Range) where
  abbrev Long : IndexEntry → Type 0
  Long e = is_long range e ≡ true

  before_none : (k : IndexEntry) (es : List IndexEntry) → Long k → is_before range k ≡ true → AllByRecursion Long es → AllByRecursion (λ x. comes_before x k ≡ true) es → run es range ≡ []
  before_none k es lk b long below = filter-none (is_in range) es (out es long below)
    where
      out : (xs : List IndexEntry) → AllByRecursion Long xs → AllByRecursion (λ x. comes_before x k ≡ true) xs → AllByRecursion (λ x. is_in range x ≡ false) xs
      out [] long below = tt
      out (x ∷ xs) long below = (before_out (place range x.key) (before_along range x.key k.key (key_not x k (one_way x k below.0)) long.0 lk b), out xs long.1 below.1)

  after_none : (k : IndexEntry) (es : List IndexEntry) → Long k → is_not_after range k ≡ false → AllByRecursion Long es → AllByRecursion (λ x. comes_before x k ≡ false) es → run es range ≡ []
  after_none k es lk a long from = filter-none (is_in range) es (out es long from)
    where
      out : (xs : List IndexEntry) → AllByRecursion Long xs → AllByRecursion (λ x. comes_before x k ≡ false) xs → AllByRecursion (λ x. is_in range x ≡ false) xs
      out [] long from = tt
      out (x ∷ xs) long from = (after_out (place range x.key) (after_along range k.key x.key (key_not k x from.0) lk long.0 (not-false (after_side (place range k.key)) a)), out xs long.1 from.1)

  module _ {T : Type 0} (P : Option IndexEntry → Option IndexEntry → T → Type 0) (ent cuts : T → List IndexEntry) (f : T → Estimate)
      (each : (low high : Option IndexEntry) (t : T) → P low high t → AllByRecursion (λ x. AtLeast comes_before low x × Below comes_before x high) (ent t))
      (step : (low high : Option IndexEntry) (t : T) → P low high t → AllByRecursion Long (ent t) → AllByRecursion Long (cuts t) → (f t).exact ≡ true → (f t).value ≡ length (run (ent t) range)) where
    abbrev spread : List (IndexEntry × T) → List IndexEntry
    spread kids = flat_map (λ k. ent k.1) kids

    abbrev further : List (IndexEntry × T) → List IndexEntry
    further kids = flat_map (λ k. k.0 ∷ cuts k.1) kids

    -- of a child and those behind it, where these begin after the range
    rest_out : (low high : Option IndexEntry) (t : T) (kids : List (IndexEntry × T)) → KidsFrom comes_before P low high t kids → AllByRecursion Long (spread kids) → AllByRecursion Long (further kids) → AllByRecursion (λ k. is_not_after range k.0 ≡ false) kids
        → run (ent t ++ spread kids) range ≡ run (ent t) range
    rest_out low high t [] k long long_cuts after = ap (λ es. run es range) (append-nil (ent t))
    rest_out low high t (kid ∷ kids) k long long_cuts after =
        let rest = ent kid.1 ++ spread kids in
        let from = all_more (λ x. AtLeast comes_before (Some kid.0) x × Below comes_before x high) (λ x. comes_before x kid.0 ≡ false) (λ x w. w.0) rest (kids_within comes_before order P ent each (Some kid.0) high kid.1 kids k.3) in
        let none = after_none kid.0 rest long_cuts.0 after.0 long from in
        filter-append (is_in range) (ent t) rest ∙ ap (λ es. run (ent t) range ++ es) none ∙ append-nil (run (ent t) range)

    exact_at : (low high : Option IndexEntry) (t : T) (kids : List (IndexEntry × T)) (low0 : IndexEntry) (first last : ℕ) → KidsFrom comes_before P low high t kids → AllByRecursion Long (ent t ++ spread kids) → AllByRecursion Long (cuts t ++ further kids)
        → first ≡ last → last ≡ last_place (is_not_after range) 1 0 (map (λ k. k.0) kids) → first ≡ last_place (is_before range) 1 0 (take last (map (λ k. k.0) kids))
        → (in_child f (exactly 0) first ((low0, t) ∷ kids)).exact ≡ true → (in_child f (exactly 0) first ((low0, t) ∷ kids)).value ≡ length (run (ent t ++ spread kids) range)
    exact_at low high t kids low0 first last k long long_cuts same last_is first_is exact = elim (last_of (is_not_after range) 1 0 kids) [
      | inl none ↦ none_case none.0 none.1
      | inr w ↦ some_case w.0 w.1.0 w.1.1.0 w.1.1.1
    ]
      where
        none_case : last_place (is_not_after range) 1 0 (map (λ k. k.0) kids) ≡ 0 → AllByRecursion (λ k. is_not_after range k.0 ≡ false) kids → (in_child f (exactly 0) first ((low0, t) ∷ kids)).value ≡ length (run (ent t ++ spread kids) range)
        none_case zero_is after =
            let z : first ≡ 0 = same ∙ last_is ∙ zero_is in
            let here : (f t).exact ≡ true = ap (λ n. (in_child f (exactly 0) n ((low0, t) ∷ kids)).exact) (sym z) ∙ exact in
            let high0 = first_high kids k in
            ap (λ n. (in_child f (exactly 0) n ((low0, t) ∷ kids)).value) z
            ∙ step low high0.0 t high0.1 (All-left Long (ent t) (spread kids) long) (All-left Long (cuts t) (further kids) long_cuts) here
            ∙ ap length (sym (rest_out low high t kids k (All-right Long (ent t) (spread kids) long) (All-right Long (cuts t) (further kids) long_cuts) after))
          where
            first_high : (ks : List (IndexEntry × T)) → KidsFrom comes_before P low high t ks → (h : Option IndexEntry) × P low h t
            first_high [] w = (high, w)
            first_high (q ∷ qs) w = (Some q.0, w.0)

        some_case : (front : List (IndexEntry × T)) (kid : IndexEntry × T) (back : List (IndexEntry × T)) → IsLast IndexEntry T (is_not_after range) 1 (last_place (is_not_after range) 1 0 (map (λ k. k.0) kids)) kids front kid back
            → (in_child f (exactly 0) first ((low0, t) ∷ kids)).value ≡ length (run (ent t ++ spread kids) range)
        some_case front kid back w =
            let n : first ≡ suc (length front) = same ∙ last_is ∙ w.there ∙ omega arith in
            let m : last ≡ suc (length front) = sym same ∙ n in
            let taken : take last (map (λ k. k.0) kids) ≡ map (λ k. k.0) front ++ kid.0 ∷ [] = (λ i. take (m i) (map (λ k. k.0) (w.parts i))) ∙ take_front front kid back in
            let long_front = length-map front (λ k. k.0) in
            let found : last_place (is_before range) 1 0 (map (λ k. k.0) front ++ kid.0 ∷ []) ≡ 1 + length (map (λ k. k.0) front) = sym (ap (last_place (is_before range) 1 0) taken) ∙ sym first_is ∙ n ∙ omega arith in
            let before = last_passes (is_before range) 1 0 (map (λ k. k.0) front) kid.0 (omega arith) found in
            let k' = rw w.parts at k in
            let split = KidsFrom-split comes_before order P low high t front kid back k' in
            let spread_is : ent t ++ spread kids ≡ (ent t ++ spread front) ++ (ent kid.1 ++ spread back) =
            ap (λ ks. ent t ++ spread ks) w.parts ∙ ap (λ es. ent t ++ es) (flat_map-append (λ q. ent q.1) front (kid ∷ back)) ∙ sym (append_assoc (ent t) (spread front) (spread (kid ∷ back))) in
            let cuts_is : cuts t ++ further kids ≡ (cuts t ++ further front) ++ (kid.0 ∷ cuts kid.1 ++ further back) =
            ap (λ ks. cuts t ++ further ks) w.parts ∙ ap (λ es. cuts t ++ es) (flat_map-append (λ q. q.0 ∷ cuts q.1) front (kid ∷ back)) ∙ sym (append_assoc (cuts t) (further front) (further (kid ∷ back))) in
            let long' = subst (AllByRecursion Long) spread_is long in
            let long_cuts' = subst (AllByRecursion Long) cuts_is long_cuts in
            let long_front_part = All-left Long (ent t ++ spread front) (ent kid.1 ++ spread back) long' in
            let long_back_part = All-right Long (ent t ++ spread front) (ent kid.1 ++ spread back) long' in
            let cuts_back_part = All-right Long (cuts t ++ further front) (kid.0 ∷ cuts kid.1 ++ further back) long_cuts' in
            let below = all_more (λ x. AtLeast comes_before low x × Below comes_before x (Some kid.0)) (λ x. comes_before x kid.0 ≡ true) (λ x v. v.1) (ent t ++ spread front) (kids_within comes_before order P ent each low (Some kid.0) t front split.0) in
            let front_none = before_none kid.0 (ent t ++ spread front) cuts_back_part.0 before long_front_part below in
            let back_is = rest_out (Some kid.0) high kid.1 back split.3 (All-right Long (ent kid.1) (spread back) long_back_part) (All-right Long (cuts kid.1) (further back) cuts_back_part.1) w.behind in
            let child : in_child f (exactly 0) first ((low0, t) ∷ kids) ≡ f kid.1 = (λ i. in_child f (exactly 0) (n i) ((low0, t) ∷ w.parts i)) ∙ child_at f (exactly 0) front kid back in
            let here : (f kid.1).exact ≡ true = ap (λ (e : Estimate). e.exact) (sym child) ∙ exact in
            let high0 = first_high back split.3 in
            ap (λ (e : Estimate). e.value) child
            ∙ step (Some kid.0) high0.0 kid.1 high0.1 (All-left Long (ent kid.1) (spread back) long_back_part) (All-left Long (cuts kid.1) (further back) cuts_back_part.1) here
            ∙ ap length (sym (ap (λ es. run es range) spread_is ∙ filter-append (is_in range) (ent t ++ spread front) (ent kid.1 ++ spread back) ∙ (λ i. front_none i ++ back_is i)))
          where
            first_high : (ks : List (IndexEntry × T)) → KidsFrom comes_before P (Some kid.0) high kid.1 ks → (h : Option IndexEntry) × P (Some kid.0) h kid.1
            first_high [] v = (high, v)
            first_high (q ∷ qs) v = (Some q.0, v.0)

    all_exact : (level : ℕ) (low high : Option IndexEntry) (kids : List (IndexEntry × T)) → Kids comes_before P low high kids → AllByRecursion Long (spread kids) → AllByRecursion Long (cuts_under cuts kids)
        → (estimate_by f level range (map (λ k. k.0) kids) kids).exact ≡ true → (estimate_by f level range (map (λ k. k.0) kids) kids).value ≡ length (run (spread kids) range)
    all_exact level low high [] k long long_cuts exact = absurd k
    all_exact level low high (kid ∷ kids) k long long_cuts exact =
        let lows = map (λ q. q.0) (kid ∷ kids) in
        elim (cases_Bool (eqb (first_child range lows) (last_child range lows))) [
          | inl t ↦ rw t (exact_at low high kid.1 kids kid.0 (first_child range lows) (last_child range lows) k long long_cuts (eqb-true (first_child range lows) (last_child range lows) t) refl refl (rw t at exact))
          | inr f ↦ let no : false ≡ true = rw f at exact in cc
        ]

  exact_in : (level : ℕ) (low high : Option IndexEntry) (t : Tree IndexEntry level) → IsTree level comes_before low high t → AllByRecursion Long (entries_in level t) → AllByRecursion Long (cuts_in level t)
      → (estimate_in level range t).exact ≡ true → (estimate_in level range t).value ≡ length (run (entries_in level t) range)
  exact_in zero low high t k long long_cuts exact = refl
  exact_in (suc level) low high t k long long_cuts exact = all_exact (IsTree level comes_before) (entries_in level) (cuts_in level) (estimate_in level range) (entries_within comes_before order level) (exact_in level) (suc level) low high t k.0 long long_cuts exact

  empty_run : (es : List IndexEntry) → is_empty range ≡ true → AllByRecursion Long es → run es range ≡ []
  empty_run es e long = filter-none (is_in range) es (all_more Long (λ x. is_in range x ≡ false) (λ x l. empty_none range x.key e l) es long)

  pub exact_estimate : (w : Whole IndexEntry) → IsWhole comes_before w → AreLong range (entries_all w) → AreLong range (cuts_all w) → (estimate w range).exact ≡ true → (estimate w range).value ≡ length (run (entries_all w) range)
  exact_estimate w k long long_cuts exact = elim (cases_Bool (is_empty range)) [
    | inl t ↦ rw t (ap length (sym (empty_run (entries_all w) t (All-of (is_long range) (entries_all w) long))))
    | inr f ↦ rw f (exact_in w.0 None None w.1 k (All-of (is_long range) (entries_all w) long) (All-of (is_long range) (cuts_all w) long_cuts) (rw f at exact))
  ]

  pub is_estimate : (w : Whole IndexEntry) (result : Estimate) → result ≡ estimate w range → IsWhole comes_before w → AreLong range (entries_all w) → AreLong range (cuts_all w) → IsEstimate (entries_all w) range result
  is_estimate w result e k long long_cuts = record { exact = λ x. ap (λ (r : Estimate). r.value) e ∙ exact_estimate w k long long_cuts (ap (λ (r : Estimate). r.exact) (sym e) ∙ x) }

  pub estimate_empty : (w : Whole IndexEntry) → is_empty range ≡ true → exactly 0 ≡ estimate w range
  estimate_empty w t = rw t refl

  pub estimate_other : (w : Whole IndexEntry) → is_empty range ≡ false → estimate_in w.0 range w.1 ≡ estimate w range
  estimate_other w f = rw f refl
