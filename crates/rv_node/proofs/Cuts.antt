-- The cuts of a tree after an insertion are cuts that were there, or entries; a deletion leaves them.
use Rattle.std.proofs.Common.{ℕ, zero, suc, true, false, inl, inr, ◌≤◌, ◌≡◌, List, [], ◌∷◌, ◌++◌, length, Bool, cond, refl, ap, sym, ◌∙◌, subst, arith, append-nil, append_assoc}
use Rattle.std.specs.Prelude.{flat_map}
use Rattle.std.specs.List.{AllByRecursion}
use Rattle.std.specs.Cmp.{IsStrictWeakOrder}
use Rattle.std.proofs.lemmas.Bool.{cases_Bool}
use Rattle.std.proofs.lemmas.Grind.{flat_map-append}
use Rattle.rv_value.proofs.Lists.{all_append}
use Rattle.rv_node.specs.Trees.{Tree, Whole, entries_in, entries_all, cuts_in, cuts_all, cuts_under, placed, halves, change, change_from, up_to, grow, raise, inserted, shrink, deleted}
use Rattle.rv_node.proofs.Lists.{All-left, All-right}
use Rattle.rv_node.proofs.Kept.{halves_cases, grown_one}

-- the cuts of trees after the first, and the entries at which these begin
abbrev further : {E T : Type 0} → (T → List E) → List (E × T) → List E
further cuts kids = flat_map (λ q. q.0 ∷ cuts q.1) kids

halved_cuts : {E T : Type 0} (cuts : T → List E) (xs : List (E × T)) → cuts_under cuts (halves (λ q. q.0) xs).0 ++ further (cuts_under cuts) (halves (λ q. q.0) xs).1 ≡ cuts_under cuts xs
halved_cuts cuts xs = elim (halves_cases (λ q. q.0) xs) [
  | inl whole ↦ rw whole.1 (append-nil (cuts_under cuts xs))
  | inr w ↦
      let x = w.0 in let front = w.1.0 in let c = w.1.1.0 in let back = w.1.1.1.0 in let cut = w.1.1.1.1 in
      let last = c.0 ∷ cuts c.1 ++ further cuts back in
      rw cut.halves (ap (λ zs. (cuts x.1 ++ further cuts front) ++ zs) (append-nil last) ∙ append_assoc (cuts x.1) (further cuts front) last
      ∙ ap (λ zs. cuts x.1 ++ zs) (sym (flat_map-append (λ q. q.0 ∷ cuts q.1) front (c ∷ back))) ∙ ap (cuts_under cuts) (sym cut.parts))
]

module _ {E : Type 0} (lt : E → E → Bool) (Q : E → Type 0) where
  placed_all : (e : E) (es : List E) → Q e → AllByRecursion Q es → AllByRecursion Q (placed lt e es)
  placed_all e [] q all = (q, tt)
  placed_all e (x ∷ xs) q all = let more = placed_all e xs q all.1 in elim (lt x e) as (λ b. AllByRecursion Q (cond b (x ∷ placed lt e xs) (e ∷ x ∷ xs))) [ true ↦ (all.0, more) | false ↦ (q, all) ]

  module _ {T : Type 0} (cuts ent : T → List E) (goes : E → Bool) (f : T → T × List (E × T))
      (step : (t : T) → AllByRecursion Q (cuts t) → AllByRecursion Q (ent t) → AllByRecursion Q (cuts (f t).0 ++ further cuts (f t).1)) where
    changed_cuts : (t : T) (kids : List (E × T)) → AllByRecursion Q (cuts t ++ further cuts kids) → AllByRecursion Q (ent t ++ flat_map (λ q. ent q.1) kids)
        → AllByRecursion Q (cuts (change_from goes f t kids).0 ++ further cuts (change_from goes f t kids).1)
    changed_cuts t [] c n = step t (All-left Q (cuts t) [] c) (All-left Q (ent t) [] n)
    changed_cuts t (kid ∷ kids) c n =
        let front = All-left Q (cuts t) (further cuts (kid ∷ kids)) c in
        let behind = All-right Q (cuts t) (further cuts (kid ∷ kids)) c in
        elim (cases_Bool (goes kid.0)) [
          | inl goes_on ↦
              let more = changed_cuts kid.1 kids behind.1 (All-right Q (ent t) (ent kid.1 ++ flat_map (λ q. ent q.1) kids) n) in
              rw goes_on (all_append Q (cuts t) (kid.0 ∷ cuts (change_from goes f kid.1 kids).0 ++ further cuts (change_from goes f kid.1 kids).1) front (behind.0, more))
          | inr stops ↦
              let here = step t front (All-left Q (ent t) (ent kid.1 ++ flat_map (λ q. ent q.1) kids) n) in
              let all = all_append Q (cuts (f t).0 ++ further cuts (f t).1) (further cuts (kid ∷ kids)) here behind in
              let same : (cuts (f t).0 ++ further cuts (f t).1) ++ further cuts (kid ∷ kids) ≡ cuts (f t).0 ++ further cuts ((f t).1 ++ kid ∷ kids) =
              append_assoc (cuts (f t).0) (further cuts (f t).1) (further cuts (kid ∷ kids)) ∙ ap (λ zs. cuts (f t).0 ++ zs) (sym (flat_map-append (λ q. q.0 ∷ cuts q.1) (f t).1 (kid ∷ kids))) in
              rw stops (subst (AllByRecursion Q) same all)
        ]

    all_changed_cuts : (kids : List (E × T)) → AllByRecursion Q (cuts_under cuts kids) → AllByRecursion Q (flat_map (λ q. ent q.1) kids) → AllByRecursion Q (cuts_under cuts (change goes f kids))
    all_changed_cuts [] c n = tt
    all_changed_cuts (kid ∷ kids) c n = changed_cuts kid.1 kids c n

  leaf_cuts : (es : List E) → AllByRecursion Q es → AllByRecursion Q (further (λ (xs : List E). []) (halves (λ x. x) es).1)
  leaf_cuts es all = elim (halves_cases (λ x. x) es) [
    | inl whole ↦ rw whole.1 tt
    | inr w ↦
        let x = w.0 in let front = w.1.0 in let c = w.1.1.0 in let back = w.1.1.1.0 in let cut = w.1.1.1.1 in
        rw cut.halves ((All-right Q (x ∷ front) (c ∷ back) (rw cut.parts at all)).0, tt)
  ]

  grown_cuts : (e : E) → Q e → (level : ℕ) (t : Tree E level) → AllByRecursion Q (cuts_in level t) → AllByRecursion Q (entries_in level t)
      → AllByRecursion Q (cuts_in level (grow level lt e t).0 ++ further (cuts_in level) (grow level lt e t).1)
  grown_cuts e q zero t c n = leaf_cuts (placed lt e t) (placed_all e t q n)
  grown_cuts e q (suc level) t c n =
      subst (AllByRecursion Q) (sym (halved_cuts (cuts_in level) (change (up_to lt e) (grow level lt e) t)))
      (all_changed_cuts (cuts_in level) (entries_in level) (up_to lt e) (grow level lt e) (grown_cuts e q level) t c n)

  raise_cuts : (level : ℕ) (t : Tree E level) (rs : List (E × Tree E level)) → length rs ≤ 1 → cuts_all (raise level t rs) ≡ cuts_in level t ++ further (cuts_in level) rs
  raise_cuts level t [] one = sym (append-nil (cuts_in level t))
  raise_cuts level t (r ∷ []) one = refl
  raise_cuts level t (r ∷ q ∷ qs) one = absurd (omega arith)

  pub inserted_cuts : (o : IsStrictWeakOrder lt) (e : E) (w : Whole E) → Q e → AllByRecursion Q (cuts_all w) → AllByRecursion Q (entries_all w) → AllByRecursion Q (cuts_all (inserted lt e w))
  inserted_cuts o e w q c n = subst (AllByRecursion Q) (sym (raise_cuts w.0 (grow w.0 lt e w.1).0 (grow w.0 lt e w.1).1 (grown_one lt o w.0 e w.1))) (grown_cuts e q w.0 w.1 c n)

-- a deletion
module _ {E : Type 0} (lt : E → E → Bool) (e : E) where
  module _ {T : Type 0} (cuts : T → List E) (goes : E → Bool) (f : T → T) (step : (t : T) → cuts (f t) ≡ cuts t) where
    left_cuts : (t : T) (kids : List (E × T)) → cuts (change_from goes (λ t. (f t, [])) t kids).0 ++ further cuts (change_from goes (λ t. (f t, [])) t kids).1 ≡ cuts t ++ further cuts kids
    left_cuts t [] = ap (λ zs. zs ++ []) (step t)
    left_cuts t (kid ∷ kids) = elim (cases_Bool (goes kid.0)) [
      | inl goes_on ↦ rw goes_on (ap (λ zs. cuts t ++ kid.0 ∷ zs) (left_cuts kid.1 kids))
      | inr stops ↦ rw stops (ap (λ zs. zs ++ further cuts (kid ∷ kids)) (step t))
    ]

    all_left_cuts : (kids : List (E × T)) → cuts_under cuts (change goes (λ t. (f t, [])) kids) ≡ cuts_under cuts kids
    all_left_cuts [] = refl
    all_left_cuts (kid ∷ kids) = left_cuts kid.1 kids

  shrunk_cuts : (level : ℕ) (t : Tree E level) → cuts_in level (shrink level lt e t) ≡ cuts_in level t
  shrunk_cuts zero t = refl
  shrunk_cuts (suc level) t = all_left_cuts (cuts_in level) (up_to lt e) (shrink level lt e) (shrunk_cuts level) t

  pub deleted_cuts : (w : Whole E) → cuts_all (deleted lt e w) ≡ cuts_all w
  deleted_cuts w = shrunk_cuts w.0 w.1
