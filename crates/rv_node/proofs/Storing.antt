-- Trees of nodes after a change of some nodes.
use Rattle.std.proofs.Common.{ℕ, zero, suc, inl, inr, ◌+◌, ◌<◌, ◌≤◌, ◌≡◌, List, [], ◌∷◌, ◌++◌, length, take, drop, Option, Some, None, Bool, refl, ap, sym, ◌∙◌, subst, arith}
use Rattle.std.proofs.lemmas.Bool.{cases_Bool, eq-eqb}
use Rattle.rv_node.specs.Nodes.{Parts}
use Rattle.rv_node.specs.Trees.{change_from}
use Rattle.rv_node.specs.Descent.{child_from}
use Rattle.rv_node.specs.Stored.{kids_at, tree_at, EachOf, IsStored, uses, uses_by, same_id, rights, uses_right, RightIs, cut_list, id_list, add_lows, add_ids}

-- a tree whose nodes stay is the same tree
pub record IsKept (at at' : ℕ → Parts) (level id : ℕ) : Type 0 where
  pub tree : tree_at at' level id ≡ tree_at at level id
  pub uses : (n : ℕ) → uses at' level id n ≡ uses at level id n
  pub stored : IsStored at level id → IsStored at' level id

pub uses_self : (at : ℕ → Parts) (level id : ℕ) → 0 < uses at level id id
uses_self at zero id = rw (eq-eqb id id refl) (omega arith)
uses_self at (suc level) id = rw (eq-eqb id id refl) (omega arith)

pub EachOf-map : (P Q : ℕ → Type 0) (ids : List ℕ) → ((id : ℕ) → P id → Q id) → EachOf P ids → EachOf Q ids
EachOf-map P Q [] f a = tt
EachOf-map P Q (id ∷ ids) f a = (f id a.0, EachOf-map P Q ids f a.1)

pub kids_at-same : {E T : Type 0} (h h' : ℕ → T) (lows : List E) (ids : List ℕ) → EachOf (λ x. h' x ≡ h x) ids → kids_at h' lows ids ≡ kids_at h lows ids
kids_at-same h h' [] ids a = refl
kids_at-same h h' (low ∷ lows) [] a = refl
kids_at-same h h' (low ∷ lows) (id ∷ ids) a = rw (a.0, kids_at-same h h' lows ids a.1) refl

pub uses_by-same : (f g : ℕ → ℕ) (ids : List ℕ) → EachOf (λ x. g x ≡ f x) ids → uses_by g ids ≡ uses_by f ids
uses_by-same f g [] a = refl
uses_by-same f g (id ∷ ids) a = let more = uses_by-same f g ids a.1 in let here = a.0 in omega arith

pub kept_each : (at at' : ℕ → Parts) (level : ℕ) → ((id : ℕ) → ((n : ℕ) → 0 < uses at level id n → at' n ≡ at n) → IsKept at at' level id)
    → (ids : List ℕ) → ((n : ℕ) → 0 < uses_by (λ x. uses at level x n) ids → at' n ≡ at n) → EachOf (IsKept at at' level) ids
kept_each at at' level each [] h = tt
kept_each at at' level each (id ∷ ids) h = (each id (λ n l. h n (omega arith)), kept_each at at' level each ids (λ n l. h n (omega arith)))

pub EachOf-stored : (at at' : ℕ → Parts) (level : ℕ) (ids : List ℕ) → EachOf (IsKept at at' level) ids → EachOf (IsStored at level) ids → EachOf (IsStored at' level) ids
EachOf-stored at at' level [] k s = tt
EachOf-stored at at' level (id ∷ ids) k s = (k.0.stored s.0, EachOf-stored at at' level ids k.1 s.1)

pub kept : (at at' : ℕ → Parts) (level id : ℕ) → ((n : ℕ) → 0 < uses at level id n → at' n ≡ at n) → IsKept at at' level id
kept at at' zero id h = let e = h id (uses_self at zero id) in record { tree = ap (λ x. x.entries) e; uses = λ n. refl; stored = λ s. ap (λ x. x.level) e ∙ s }
kept at at' (suc level) id h =
    let e = h id (uses_self at (suc level) id) in
    let each = kept_each at at' level (kept at at' level) (at id).children (λ n l. h n (omega arith)) in
    record {
      tree = rw e (kids_at-same (tree_at at level) (tree_at at' level) (at id).entries (at id).children (EachOf-map (IsKept at at' level) (λ x. tree_at at' level x ≡ tree_at at level x) (at id).children (λ x k. k.tree) each));
      uses = λ n. rw e (ap (λ m. same_id id n + m) (uses_by-same (λ x. uses at level x n) (λ x. uses at' level x n) (at id).children (EachOf-map (IsKept at at' level) (λ x. uses at' level x n ≡ uses at level x n) (at id).children (λ x k. k.uses n) each)));
      stored = λ s. rw e (s.0, s.1, s.2, s.3, EachOf-stored at at' level (at id).children each s.4);
    }

pub kids_at-append : {E T : Type 0} (h : ℕ → T) (r : Option (E × ℕ)) (lows : List E) (ids : List ℕ) → kids_at h (cut_list r ++ lows) (id_list r ++ ids) ≡ rights h r ++ kids_at h lows ids
kids_at-append h None lows ids = refl
kids_at-append h (Some r) lows ids = refl

pub uses_by-append : {E : Type 0} (f : ℕ → ℕ) (r : Option (E × ℕ)) (ids : List ℕ) → uses_by f (id_list r ++ ids) ≡ uses_right f r + uses_by f ids
uses_by-append f None ids = omega arith
uses_by-append f (Some r) ids = refl

pub kid_within : {E : Type 0} (goes : E → Bool) (u : ℕ → ℕ → ℕ) (id : ℕ) (lows : List E) (ids : List ℕ) (next : Option E) (n : ℕ) → u (child_from goes id lows ids next).0 n ≤ u id n + uses_by (λ x. u x n) ids
kid_within goes u id [] ids next n = omega arith
kid_within goes u id (low ∷ lows) [] next n = omega arith
kid_within goes u id (low ∷ lows) (k ∷ ks) next n = elim (cases_Bool (goes low)) [
  | inl goes_on ↦ let more = kid_within goes u k lows ks next n in rw goes_on (omega arith)
  | inr stops ↦ rw stops (omega arith)
]

module _ {E T : Type 0} (goes : E → Bool) (f : T → T × List (E × T)) (h h' : ℕ → T) (u u' : ℕ → ℕ → ℕ) (P Q : ℕ → Type 0) (c : ℕ → ℕ) (kid : ℕ) (r : Option (E × ℕ))
    (others : (x : ℕ) → ((n : ℕ) → u x n + u kid n ≤ c n) → (h' x ≡ h x) × ((n : ℕ) → u' x n ≡ u x n) × (P x → Q x))
    (here : f (h kid) ≡ (h' kid, rights h' r)) where
  each_other : (ids : List ℕ) → ((n : ℕ) → u kid n + uses_by (λ x. u x n) ids ≤ c n) → EachOf (λ x. (h' x ≡ h x) × ((n : ℕ) → u' x n ≡ u x n) × (P x → Q x)) ids
  each_other [] o = tt
  each_other (id ∷ ids) o = (others id (λ n. let once = o n in omega arith), each_other ids (λ n. let once = o n in omega arith))

  -- the children after the change of one of them
  pub changed_at : (id : ℕ) (lows : List E) (ids : List ℕ) (next : Option E) → length lows ≡ length ids → kid ≡ (child_from goes id lows ids next).0 → ((n : ℕ) → u id n + uses_by (λ x. u x n) ids ≤ c n)
      → change_from goes f (h id) (kids_at h lows ids) ≡ (h' id, kids_at h' (add_lows goes r lows) (add_ids goes r lows ids))
  changed_at id [] [] next same k once = rw (← k) (here ∙ ap (λ ks. (h' kid, ks)) (sym (right_kids r)))
    where
      right_kids : (r : Option (E × ℕ)) → kids_at h' (cut_list r) (id_list r ++ []) ≡ rights h' r
      right_kids None = refl
      right_kids (Some q) = refl
  changed_at id [] (x ∷ xs) next same k once = absurd (omega arith)
  changed_at id (low ∷ lows) [] next same k once = absurd (omega arith)
  changed_at id (low ∷ lows) (x ∷ xs) next same k once = elim (cases_Bool (goes low)) [
    | inl goes_on ↦
        let k' = rw goes_on at k in
        let apart : (n : ℕ) → u id n + u kid n ≤ c n = λ n. let o = once n in let within = kid_within goes u x lows xs next n in rw k' (omega arith) in
        let more = changed_at x lows xs next (omega arith) k' (λ n. let o = once n in omega arith) in
        rw goes_on (rw (more, (others id apart).0) refl)
    | inr stops ↦
        let k' = rw stops at k in
        let rest = each_other (x ∷ xs) (λ n. let o = once n in rw k' o) in
        let same_rest = kids_at-same h h' (low ∷ lows) (x ∷ xs) (EachOf-map (λ y. (h' y ≡ h y) × ((n : ℕ) → u' y n ≡ u y n) × (P y → Q y)) (λ y. h' y ≡ h y) (x ∷ xs) (λ y w. w.0) rest) in
        rw stops (rw (kids_at-append h' r (low ∷ lows) (x ∷ xs), same_rest) (rw (← k') (ap (λ p. (p.0, p.1 ++ kids_at h (low ∷ lows) (x ∷ xs))) here)))
  ]

  pub changed_uses : (id : ℕ) (lows : List E) (ids : List ℕ) (next : Option E) → length lows ≡ length ids → kid ≡ (child_from goes id lows ids next).0 → ((n : ℕ) → u id n + uses_by (λ x. u x n) ids ≤ c n)
      → (n : ℕ) → u' id n + uses_by (λ x. u' x n) (add_ids goes r lows ids) + u kid n ≡ u id n + uses_by (λ x. u x n) ids + (u' kid n + uses_right (λ x. u' x n) r)
  changed_uses id [] [] next same k once n = rw (← k) (let e = uses_by-append (λ x. u' x n) r [] in omega arith)
  changed_uses id [] (x ∷ xs) next same k once n = absurd (omega arith)
  changed_uses id (low ∷ lows) [] next same k once n = absurd (omega arith)
  changed_uses id (low ∷ lows) (x ∷ xs) next same k once n = elim (cases_Bool (goes low)) [
    | inl goes_on ↦
        let k' = rw goes_on at k in
        let apart : (m : ℕ) → u id m + u kid m ≤ c m = λ m. let o = once m in let within = kid_within goes u x lows xs next m in rw k' (omega arith) in
        let more = changed_uses x lows xs next (omega arith) k' (λ m. let o = once m in omega arith) n in
        let e = (others id apart).1 n in
        rw goes_on (omega arith)
    | inr stops ↦
        let k' = rw stops at k in
        let rest = each_other (x ∷ xs) (λ m. let o = once m in rw k' o) in
        let e = uses_by-same (λ y. u y n) (λ y. u' y n) (x ∷ xs) (EachOf-map (λ y. (h' y ≡ h y) × ((n : ℕ) → u' y n ≡ u y n) × (P y → Q y)) (λ y. u' y n ≡ u y n) (x ∷ xs) (λ y w. w.1 n) rest) in
        let more = uses_by-append (λ y. u' y n) r (x ∷ xs) in
        rw stops (rw k' (omega arith))
  ]

  add_each : (r : Option (E × ℕ)) (ids : List ℕ) → RightIs Q r → EachOf Q ids → EachOf Q (id_list r ++ ids)
  add_each None ids q all = all
  add_each (Some p) ids q all = (q, all)

  each_kept : (ids : List ℕ) → EachOf (λ x. (h' x ≡ h x) × ((n : ℕ) → u' x n ≡ u x n) × (P x → Q x)) ids → EachOf P ids → EachOf Q ids
  each_kept [] k all = tt
  each_kept (id ∷ ids) k all = (k.0.2 all.0, each_kept ids k.1 all.1)

  pub changed_each : (id : ℕ) (lows : List E) (ids : List ℕ) (next : Option E) → length lows ≡ length ids → kid ≡ (child_from goes id lows ids next).0 → ((n : ℕ) → u id n + uses_by (λ x. u x n) ids ≤ c n)
      → P id → EachOf P ids → Q kid → RightIs Q r → Q id × EachOf Q (add_ids goes r lows ids)
  changed_each id [] [] next same k once p ps q right = (subst Q k q, add_each r [] right tt)
  changed_each id [] (x ∷ xs) next same k once p ps q right = absurd (omega arith)
  changed_each id (low ∷ lows) [] next same k once p ps q right = absurd (omega arith)
  changed_each id (low ∷ lows) (x ∷ xs) next same k once p ps q right = elim (cases_Bool (goes low)) [
    | inl goes_on ↦
        let k' = rw goes_on at k in
        let apart : (n : ℕ) → u id n + u kid n ≤ c n = λ n. let o = once n in let within = kid_within goes u x lows xs next n in rw k' (omega arith) in
        let more = changed_each x lows xs next (omega arith) k' (λ n. let o = once n in omega arith) ps.0 ps.1 q right in
        rw goes_on ((others id apart).2 p, (more.0, more.1))
    | inr stops ↦
        let k' = rw stops at k in
        let rest = each_other (x ∷ xs) (λ n. let o = once n in rw k' o) in
        rw stops (subst Q k' q, add_each r (x ∷ xs) right (each_kept (x ∷ xs) rest ps))
  ]

-- the halves of children by their numbers
pub kids_at-take : {E T : Type 0} (h : ℕ → T) (n : ℕ) (lows : List E) (ids : List ℕ) → take n (kids_at h lows ids) ≡ kids_at h (take n lows) (take n ids)
kids_at-take h zero lows ids = refl
kids_at-take h (suc n) [] ids = refl
kids_at-take h (suc n) (low ∷ lows) [] = refl
kids_at-take h (suc n) (low ∷ lows) (id ∷ ids) = ap (λ ks. (low, h id) ∷ ks) (kids_at-take h n lows ids)

pub kids_at-drop : {E T : Type 0} (h : ℕ → T) (n : ℕ) (lows : List E) (ids : List ℕ) → drop n (kids_at h lows ids) ≡ kids_at h (drop n lows) (drop n ids)
kids_at-drop h zero lows ids = refl
kids_at-drop h (suc n) [] ids = refl
kids_at-drop {E} {T} h (suc n) (low ∷ lows) [] = none (drop n lows)
  where
    none : (ls : List E) → [] ≡ kids_at h ls []
    none [] = refl
    none (l ∷ ls) = refl
kids_at-drop h (suc n) (low ∷ lows) (id ∷ ids) = kids_at-drop h n lows ids

pub length-kids_at : {E T : Type 0} (h : ℕ → T) (lows : List E) (ids : List ℕ) → length lows ≡ length ids → length (kids_at h lows ids) ≡ length lows
length-kids_at h [] ids same = refl
length-kids_at h (low ∷ lows) [] same = absurd (omega arith)
length-kids_at h (low ∷ lows) (id ∷ ids) same = let more = length-kids_at h lows ids (omega arith) in omega arith

pub uses_by-take-drop : (f : ℕ → ℕ) (n : ℕ) (ids : List ℕ) → uses_by f (take n ids) + uses_by f (drop n ids) ≡ uses_by f ids
uses_by-take-drop f zero ids = omega arith
uses_by-take-drop f (suc n) [] = refl
uses_by-take-drop f (suc n) (id ∷ ids) = let more = uses_by-take-drop f n ids in omega arith

pub EachOf-take : (P : ℕ → Type 0) (n : ℕ) (ids : List ℕ) → EachOf P ids → EachOf P (take n ids)
EachOf-take P zero ids a = tt
EachOf-take P (suc n) [] a = tt
EachOf-take P (suc n) (id ∷ ids) a = (a.0, EachOf-take P n ids a.1)

pub EachOf-drop : (P : ℕ → Type 0) (n : ℕ) (ids : List ℕ) → EachOf P ids → EachOf P (drop n ids)
EachOf-drop P zero ids a = a
EachOf-drop P (suc n) [] a = tt
EachOf-drop P (suc n) (id ∷ ids) a = EachOf-drop P n ids a.1

-- low entries and children stay beside one another
pub add_length : {E : Type 0} (goes : E → Bool) (r : Option (E × ℕ)) (lows : List E) (ids : List ℕ) → length lows ≡ length ids → length (add_lows goes r lows) ≡ length (add_ids goes r lows ids)
add_length goes None [] ids same = same
add_length goes (Some r) [] ids same = omega arith
add_length goes r (low ∷ lows) [] same = absurd (omega arith)
add_length {E = E} goes r (low ∷ lows) (id ∷ ids) same = elim (cases_Bool (goes low)) [
  | inl goes_on ↦ let more = add_length goes r lows ids (omega arith) in rw goes_on (omega arith)
  | inr stops ↦ rw stops (right_length r)
]
  where
    right_length : (r : Option (E × ℕ)) → length (cut_list r ++ low ∷ lows) ≡ length (id_list r ++ id ∷ ids)
    right_length None = same
    right_length (Some q) = omega arith

pub add_lows-none : {E : Type 0} (goes : E → Bool) (lows : List E) → add_lows goes None lows ≡ lows
add_lows-none goes [] = refl
add_lows-none goes (low ∷ lows) = elim (cases_Bool (goes low)) [
  | inl goes_on ↦ rw goes_on (ap (λ xs. low ∷ xs) (add_lows-none goes lows))
  | inr stops ↦ rw stops refl
]

pub add_ids-none : {E : Type 0} (goes : E → Bool) (lows : List E) (ids : List ℕ) → length lows ≡ length ids → add_ids goes None lows ids ≡ ids
add_ids-none goes [] ids same = refl
add_ids-none goes (low ∷ lows) [] same = absurd (omega arith)
add_ids-none goes (low ∷ lows) (id ∷ ids) same = elim (cases_Bool (goes low)) [
  | inl goes_on ↦ rw goes_on (ap (λ xs. id ∷ xs) (add_ids-none goes lows ids (omega arith)))
  | inr stops ↦ rw stops refl
]

pub add_more : {E : Type 0} (goes : E → Bool) (r : Option (E × ℕ)) (lows : List E) → length (add_lows goes r lows) ≤ length lows + 1
add_more goes None [] = omega arith
add_more goes (Some r) [] = omega arith
add_more {E = E} goes r (low ∷ lows) = elim (cases_Bool (goes low)) [
  | inl goes_on ↦ let more = add_more goes r lows in rw goes_on (omega arith)
  | inr stops ↦ rw stops (right_more r)
]
  where
    right_more : (r : Option (E × ℕ)) → length (cut_list r ++ low ∷ lows) ≤ length (low ∷ lows) + 1
    right_more None = omega arith
    right_more (Some q) = omega arith
