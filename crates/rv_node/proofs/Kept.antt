-- An insertion keeps a tree sound.
use Rattle.std.proofs.Common.{ℕ, zero, suc, true, false, inl, inr, ◌+◌, ◌<◌, ◌≤◌, ◌≡◌, ◌⊎◌, List, [], ◌∷◌, ◌++◌, length, take, drop, Option, Some, None, Bool, cond, leb, refl, ap, sym, ◌∙◌, arith, append-nil, take-append-drop, length-append, length-take}
use Rattle.std.specs.Prelude.{flat_map, ◌||◌}
use Rattle.std.proofs.lemmas.Bool.{cases_Bool, leb-false, leb-true}
use Rattle.std.specs.Cmp.{IsStrictWeakOrder}
use Rattle.rv_node.specs.Trees.{Tree, entries_in, placed, halves, change, change_from, up_to, grow}
use Rattle.rv_node.specs.Sound.{AtLeast, Above, Below, Precedes, LeafIn, Kids, KidsFrom, IsTree, Absent}
use Rattle.rv_node.proofs.Lists.{All-left, All-right}
use Rattle.rv_node.proofs.Orders.{Above-more, Below-weaker, le_lt, lt_trans, irrefl}

-- a list is whole, or cut after its first 16
pub record IsCut (E X : Type 0) (low : X → E) (xs : List X) (x : X) (front : List X) (c : X) (back : List X) : Type 0 where
  pub parts : xs ≡ (x ∷ front) ++ c ∷ back
  pub halves : halves low xs ≡ (x ∷ front, (low c, c ∷ back) ∷ [])
  pub first : length front ≡ 15

cut_parts : {X : Type 0} (n : ℕ) (xs : List X) → n < length xs → (c : X) × ((back : List X) × (drop n xs ≡ c ∷ back))
cut_parts n [] l = absurd (omega arith)
cut_parts zero (x ∷ xs) l = (x, (xs, refl))
cut_parts (suc n) (x ∷ xs) l = cut_parts n xs (omega arith)

pub halves_cases : {E X : Type 0} (low : X → E) (xs : List X) → ((length xs ≤ 32) × (halves low xs ≡ (xs, []))) ⊎ ((x : X) × ((front : List X) × ((c : X) × ((back : List X) × IsCut E X low xs x front c back))))
halves_cases {E} {X} low xs = elim (cases_Bool (leb (length xs) 32)) [
  | inl small ↦ inl (leb-true (length xs) 32 small, rw small refl)
  | inr big ↦ inr (cut_big xs (leb-false (length xs) 32 big) big)
]
  where
    cut_big : (xs : List X) → 32 < length xs → leb (length xs) 32 ≡ false → (x : X) × ((front : List X) × ((c : X) × ((back : List X) × IsCut E X low xs x front c back)))
    cut_big [] l big = absurd (omega arith)
    cut_big (x ∷ xs) l big =
        let p = cut_parts 15 xs (omega arith) in
        let h : drop 15 xs ≡ p.0 ∷ p.1.0 = p.1.1 in (
          x,
          (
            take 15 xs,
            (
              p.0,
              (
                p.1.0,
                record {
                  parts = ap (λ ys. x ∷ ys) (sym (take-append-drop 15 xs)) ∙ ap (λ ys. (x ∷ take 15 xs) ++ ys) h;
                  halves = rw (big, h) refl;
                  first = omega (arith, length-take 15 xs);
                },
              ),
            ),
          ),
        )

module _ {E : Type 0} (lt : E → E → Bool) (o : IsStrictWeakOrder lt) where
  Precedes-put : (x e : E) (xs : List E) → Precedes lt x xs → lt x e ≡ true → Precedes lt x (placed lt e xs)
  Precedes-put x e [] p l = l
  Precedes-put x e (y ∷ ys) p l = elim (lt y e) as (λ b. Precedes lt x (cond b (y ∷ placed lt e ys) (e ∷ y ∷ ys))) [ true ↦ p | false ↦ l ]

  above_other : (a b : Bool) → (a || b) ≡ true → a ≡ false → b ≡ true
  above_other true b h f = cc
  above_other false b h f = h

  LeafIn-put : (e : E) (low high : Option E) (es : List E) → LeafIn lt low high es → AtLeast lt low e → Below lt e high → Absent lt e es → LeafIn lt low high (placed lt e es)
  LeafIn-put e low high [] l a b n = (a, b, tt, tt)
  LeafIn-put e low high (x ∷ xs) l a b n = elim (cases_Bool (lt x e)) [
    | inl past ↦ rw past (l.0, l.1, Precedes-put x e xs l.2 past, LeafIn-put e low high xs l.3 a b n.1)
    | inr here ↦ rw here (a, b, above_other (lt x e) (lt e x) n.0 here, l)
  ]

  length-put : (e : E) (es : List E) → length (placed lt e es) ≡ length es + 1
  length-put e [] = refl
  length-put e (x ∷ xs) = let more = length-put e xs in elim (lt x e) as (λ b. length (cond b (x ∷ placed lt e xs) (e ∷ x ∷ xs)) ≡ length (x ∷ xs) + 1) [ true ↦ omega arith | false ↦ omega arith ]

  LeafIn-raise : (c : E) (low high : Option E) (ys : List E) → Precedes lt c ys → LeafIn lt low high ys → LeafIn lt (Some c) high ys
  LeafIn-raise c low high [] p l = tt
  LeafIn-raise c low high (y ∷ []) p l = (o.one_way c y p, l.1, tt, tt)
  LeafIn-raise c low high (y ∷ z ∷ zs) p l = (o.one_way c y p, l.1, l.2, LeafIn-raise c low high (z ∷ zs) (lt_trans lt o c y z p l.2) l.3)

  LeafIn-split : (low high : Option E) (x : E) (xs : List E) (c : E) (ys : List E) → LeafIn lt low high ((x ∷ xs) ++ c ∷ ys)
      → (lt x c ≡ true) × LeafIn lt low (Some c) (x ∷ xs) × Below lt c high × LeafIn lt (Some c) high (c ∷ ys)
  LeafIn-split low high x [] c ys l = (l.2, (l.0, l.2, tt, tt), l.3.1, (irrefl lt o c, l.3.1, l.3.2, LeafIn-raise c low high ys l.3.2 l.3.3))
  LeafIn-split low high x (y ∷ xs) c ys l =
      let more = LeafIn-split low high y xs c ys l.3 in
      let under = lt_trans lt o x y c l.2 more.0 in
      (under, (l.0, under, l.2, more.1), more.2, more.3)

  above_from : (low : Option E) (x c : E) → AtLeast lt low x → lt x c ≡ true → Above lt low c
  above_from None x c a l = tt
  above_from (Some w) x c a l = le_lt lt o w x c a l

  -- the halves of a leaf
  leaf_halves : (low high : Option E) (es : List E) → LeafIn lt low high es → length es ≤ 33 → KidsFrom lt (IsTree zero lt) low high (halves (λ x. x) es).0 (halves (λ x. x) es).1
  leaf_halves low high es l small = elim (halves_cases (λ x. x) es) [
    | inl whole ↦ rw whole.1 (l, whole.0)
    | inr w ↦
        let x = w.0 in let front = w.1.0 in let c = w.1.1.0 in let back = w.1.1.1.0 in let cut = w.1.1.1.1 in
        let all = rw cut.parts at l in
        let s = LeafIn-split low high x front c back all in
        let long = ap length cut.parts ∙ length-append (x ∷ front) (c ∷ back) in
        let sixteen = cut.first in
        rw cut.halves ((s.1, omega (arith, sixteen)), above_from low x c all.0 s.0, s.2, (s.3, omega (arith, sixteen, long)))
  ]

  Absent-left : (e : E) (xs ys : List E) → Absent lt e (xs ++ ys) → Absent lt e xs
  Absent-left e xs ys n = All-left (λ x. (lt x e || lt e x) ≡ true) xs ys n

  Absent-right : (e : E) (xs ys : List E) → Absent lt e (xs ++ ys) → Absent lt e ys
  Absent-right e xs ys n = All-right (λ x. (lt x e || lt e x) ≡ true) xs ys n

  module _ {T : Type 0} (P : Option E → Option E → T → Type 0) where
    KidsFrom-append : (low high : Option E) (t : T) (rs : List (E × T)) (kid : E × T) (kids : List (E × T)) → KidsFrom lt P low (Some kid.0) t rs → Above lt low kid.0 → Below lt kid.0 high → KidsFrom lt P (Some kid.0) high kid.1 kids
        → KidsFrom lt P low high t (rs ++ kid ∷ kids)
    KidsFrom-append low high t [] kid kids k a b rest = (k, a, b, rest)
    KidsFrom-append low high t (r ∷ rs) kid kids k a b rest = (k.0, k.1, Below-weaker lt o r.0 kid.0 high k.2 b, KidsFrom-append (Some r.0) high r.1 rs kid kids k.3 k.2 b rest)

    pub KidsFrom-split : (low high : Option E) (t : T) (ps : List (E × T)) (q : E × T) (qs : List (E × T)) → KidsFrom lt P low high t (ps ++ q ∷ qs)
        → KidsFrom lt P low (Some q.0) t ps × Above lt low q.0 × Below lt q.0 high × KidsFrom lt P (Some q.0) high q.1 qs
    KidsFrom-split low high t [] q qs k = k
    KidsFrom-split low high t (p ∷ ps) q qs k =
        let more = KidsFrom-split (Some p.0) high p.1 ps q qs k.3 in
        ((k.0, k.1, more.1, more.0), Above-more lt o low p.0 q.0 k.1 more.1, more.2, more.3)

    changed_kids : (e : E) (ent : T → List E) (f : T → T × List (E × T))
        → ((low high : Option E) (t : T) → P low high t → AtLeast lt low e → Below lt e high → Absent lt e (ent t) → KidsFrom lt P low high (f t).0 (f t).1)
        → (low high : Option E) (t : T) (kids : List (E × T)) → KidsFrom lt P low high t kids → AtLeast lt low e → Below lt e high → Absent lt e (ent t ++ flat_map (λ q. ent q.1) kids)
        → KidsFrom lt P low high (change_from (up_to lt e) f t kids).0 (change_from (up_to lt e) f t kids).1
    changed_kids e ent f step low high t [] k a b n = step low high t k a b (rw (append-nil (ent t)) at n)
    changed_kids e ent f step low high t (kid ∷ kids) k a b n = elim (cases_Bool (lt e kid.0)) [
      | inl stops ↦ rw stops (KidsFrom-append low high (f t).0 (f t).1 kid kids (step low (Some kid.0) t k.0 a stops (Absent-left e (ent t) (ent kid.1 ++ flat_map (λ q. ent q.1) kids) n)) k.1 k.2 k.3)
      | inr goes_on ↦ rw goes_on (k.0, k.1, k.2, changed_kids e ent f step (Some kid.0) high kid.1 kids k.3 goes_on b (Absent-right e (ent t) (ent kid.1 ++ flat_map (λ q. ent q.1) kids) n))
    ]

    -- the halves of a node above the leaves
    kids_halves : (low high : Option E) (xs : List (E × T)) → Kids lt P low high xs → length xs ≤ 33 → KidsFrom lt (λ lo hi ks. Kids lt P lo hi ks × (length ks ≤ 32)) low high (halves (λ q. q.0) xs).0 (halves (λ q. q.0) xs).1
    kids_halves low high xs k small = elim (halves_cases (λ (q : E × T). q.0) xs) [
      | inl whole ↦ rw whole.1 (k, whole.0)
      | inr w ↦
          let x = w.0 in let front = w.1.0 in let c = w.1.1.0 in let back = w.1.1.1.0 in let cut = w.1.1.1.1 in
          let all = rw cut.parts at k in
          let s = KidsFrom-split low high x.1 front c back all in
          let long = ap length cut.parts ∙ length-append (x ∷ front) (c ∷ back) in
          let sixteen = cut.first in
          rw cut.halves ((s.0, omega (arith, sixteen)), s.1, s.2, (s.3, omega (arith, sixteen, long)))
    ]

    all_changed_kids : (e : E) (ent : T → List E) (f : T → T × List (E × T))
        → ((low high : Option E) (t : T) → P low high t → AtLeast lt low e → Below lt e high → Absent lt e (ent t) → KidsFrom lt P low high (f t).0 (f t).1)
        → (low high : Option E) (kids : List (E × T)) → Kids lt P low high kids → AtLeast lt low e → Below lt e high → Absent lt e (flat_map (λ q. ent q.1) kids)
        → Kids lt P low high (change (up_to lt e) f kids)
    all_changed_kids e ent f step low high [] k a b n = absurd k
    all_changed_kids e ent f step low high (kid ∷ kids) k a b n = changed_kids e ent f step low high kid.1 kids k a b n

    changed_length : (goes : E → Bool) (f : T → T × List (E × T)) → ((t : T) → length (f t).1 ≤ 1) → (t : T) (kids : List (E × T)) → length (change_from goes f t kids).1 ≤ length kids + 1
    changed_length goes f one t [] = one t
    changed_length goes f one t (kid ∷ kids) = elim (cases_Bool (goes kid.0)) [
      | inl goes_on ↦ let more = changed_length goes f one kid.1 kids in rw goes_on (omega arith)
      | inr stops ↦ let here = one t in rw stops (omega (arith, length-append (f t).1 (kid ∷ kids)))
    ]

    all_changed_length : (goes : E → Bool) (f : T → T × List (E × T)) → ((t : T) → length (f t).1 ≤ 1) → (kids : List (E × T)) → length (change goes f kids) ≤ length kids + 1
    all_changed_length goes f one [] = omega arith
    all_changed_length goes f one (kid ∷ kids) = let more = changed_length goes f one kid.1 kids in omega arith

  halves_one : {X : Type 0} (low : X → E) (xs : List X) → length (halves low xs).1 ≤ 1
  halves_one low xs = elim (halves_cases low xs) [
    | inl whole ↦ rw whole.1 (omega arith)
    | inr w ↦ rw w.1.1.1.1.halves (omega arith)
  ]

  pub grown_one : (level : ℕ) (e : E) (t : Tree E level) → length (grow level lt e t).1 ≤ 1
  grown_one zero e t = halves_one (λ x. x) (placed lt e t)
  grown_one (suc level) e t = halves_one (λ kid. kid.0) (change (up_to lt e) (grow level lt e) t)

  -- an insertion leaves one or two sound trees within the same bounds
  pub grown_tree : (level : ℕ) (e : E) (low high : Option E) (t : Tree E level) → IsTree level lt low high t → AtLeast lt low e → Below lt e high → Absent lt e (entries_in level t)
      → KidsFrom lt (IsTree level lt) low high (grow level lt e t).0 (grow level lt e t).1
  grown_tree zero e low high t k a b n = let more = length-put e t in let small = k.1 in leaf_halves low high (placed lt e t) (LeafIn-put e low high t k.0 a b n) (omega arith)
  grown_tree (suc level) e low high t k a b n =
      let small = k.1 in
      let more = all_changed_length (IsTree level lt) (up_to lt e) (grow level lt e) (grown_one level e) t in
      kids_halves (IsTree level lt) low high (change (up_to lt e) (grow level lt e) t)
      (all_changed_kids (IsTree level lt) e (entries_in level) (grow level lt e) (grown_tree level e) low high t k.0 a b n) (omega arith)
