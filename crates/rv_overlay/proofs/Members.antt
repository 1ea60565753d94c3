-- Lists of entries by their members.
use Rattle.std.proofs.Common.{◌≡◌, List, [], ◌∷◌, ◌++◌, Bool, true, false, not, ◌&&◌, ◌||◌, cond, inl, inr, refl, ap, sym, subst, ◌∙◌, filter, arith}
use Rattle.std.proofs.lemmas.Bool.{cases_Bool}
use Rattle.std.specs.List.{list_all, list_any}
use Rattle.std.specs.Ordering.{is_eq}
use Rattle.std.proofs.Math.Bool.{or-true, or-false, and_comm}
use Rattle.rv_value.specs.declared.record.IndexEntry.{IndexEntry}
use Rattle.rv_value.specs.Entries.{entry_cmp}
use Rattle.rv_rows.specs.Rising.{put_in}
use Rattle.rv_reader.specs.Entries.{comes_before, Ascend}
use Rattle.rv_reader.proofs.Orders.{one_way}
use Rattle.rv_reader.proofs.Sorting.{same, equal_entries}
use Rattle.rv_overlay.specs.Laying.{has, laid, with_all, without}
use Rattle.rv_overlay.specs.Members.{LaidHas, MembersTell}
use Rattle.rv_overlay.proofs.Placing.{before_found}
use Rattle.rv_overlay.proofs.Counted.{itself_true, not_there}

pub has_self : (x : IndexEntry) (xs : List IndexEntry) → has (x ∷ xs) x ≡ true
has_self x xs = rw (itself_true x) refl

tail_same : (x e : IndexEntry) (xs ys : List IndexEntry) → Ascend (x ∷ xs) → Ascend (x ∷ ys) → has (x ∷ xs) e ≡ has (x ∷ ys) e → has xs e ≡ has ys e
tail_same x e xs ys ax ay h = elim (cases_Bool (is_eq (entry_cmp x e))) [
  | inl t ↦
      let is : x ≡ e = equal_entries x e t in
      subst (λ d. has xs d ≡ has ys d) is (not_there x xs ax.0 ∙ sym (not_there x ys ay.0))
  | inr f ↦ rw f at h
]

behind_first : (x y : IndexEntry) (ys : List IndexEntry) → list_all (comes_before y) ys ≡ true → is_eq (entry_cmp x y) ≡ false → has (y ∷ ys) x ≡ true → comes_before y x ≡ true
behind_first x y ys all f back = elim (cases_Bool (is_eq (entry_cmp y x))) [
  | inl t ↦
      let is : y ≡ x = equal_entries y x t in
      let wrong : is_eq (entry_cmp x y) ≡ true = subst (λ d. is_eq (entry_cmp x d) ≡ true) (sym is) (itself_true x) in
      let no : true ≡ false = sym wrong ∙ f in
      cc
  | inr g ↦ before_found y x ys all (rw g at back)
]

pub members_tell : MembersTell
members_tell [] [] ax ay h = refl
members_tell [] (y ∷ ys) ax ay h = let no : false ≡ true = h y ∙ has_self y ys in cc
members_tell (x ∷ xs) [] ax ay h = let no : true ≡ false = sym (has_self x xs) ∙ h x in cc
members_tell (x ∷ xs) (y ∷ ys) ax ay h = elim (cases_Bool (is_eq (entry_cmp x y))) [
  | inl t ↦
      let is : y ≡ x = sym (equal_entries x y t) in
      let ay_too : Ascend (x ∷ ys) = subst (λ d. Ascend (d ∷ ys)) is ay in
      let same_members : (e : IndexEntry) → has (x ∷ xs) e ≡ has (x ∷ ys) e = λ e. h e ∙ ap (λ d. has (d ∷ ys) e) is in
      let rest = members_tell xs ys ax.1 ay.1 (λ e. tail_same x e xs ys ax ay_too (same_members e)) in
      λ i. sym is i ∷ rest i
  | inr f ↦
      let there : has (x ∷ xs) y ≡ true = h y ∙ has_self y ys in
      let x_first : comes_before x y ≡ true = before_found x y xs ax.0 (rw f at there) in
      let back : has (y ∷ ys) x ≡ true = sym (h x) ∙ has_self x xs in
      let y_first : comes_before y x ≡ true = behind_first x y ys ay.0 f back in
      let no = one_way x y x_first in
      cc
]

-- Members.

pub has_joined : (xs ys : List IndexEntry) (e : IndexEntry) → has (xs ++ ys) e ≡ (has xs e || has ys e)
has_joined [] ys e = refl
has_joined (x ∷ xs) ys e = elim (is_eq (entry_cmp x e)) as (λ b. (b || has (xs ++ ys) e) ≡ ((b || has xs e) || has ys e)) [ true ↦ refl | false ↦ has_joined xs ys e ]

and_or : (a b c : Bool) → (a && (b || c)) ≡ ((a && b) || (a && c))
and_or true b c = refl
and_or false b c = refl

pub has_filter : (p : IndexEntry → Bool) (xs : List IndexEntry) (e : IndexEntry) → has (filter p xs) e ≡ (p e && has xs e)
has_filter p [] e = elim (p e) as (λ b. false ≡ (b && false)) [ true ↦ refl | false ↦ refl ]
has_filter p (x ∷ xs) e =
    let rest = has_filter p xs e in
    elim (cases_Bool (is_eq (entry_cmp x e))) [
      | inl t ↦
          let is : x ≡ e = equal_entries x e t in
          let test : p x ≡ p e = ap p is in
          elim (cases_Bool (p e)) [
            | inl u ↦ rw (test ∙ u, t, u) refl
            | inr v ↦ rw (test ∙ v, v) (rest ∙ ap (λ b. b && has xs e) v)
          ]
      | inr f ↦ elim (cases_Bool (p x)) [ inl u ↦ rw (u, f) rest | inr v ↦ rw (v, f) rest ]
    ]

-- one that is put in is there, and all others are
pub has_put : (x : IndexEntry) (ys : List IndexEntry) (e : IndexEntry) → has (put_in comes_before x ys) e ≡ (is_eq (entry_cmp x e) || has ys e)
has_put x ys e =
    has_joined (filter (λ y. comes_before y x) ys) (x ∷ filter (λ y. comes_before x y) ys) e
    ∙ rw (has_filter (λ y. comes_before y x) ys e, has_filter (λ y. comes_before x y) ys e) (elim (cases_Bool (is_eq (entry_cmp x e))) [
      | inl t ↦ rw t (or-true (comes_before e x && has ys e))
      | inr f ↦ rw f (elim (cases_Bool (comes_before e x)) [
        | inl u ↦ rw (u, one_way e x u) (or-false (has ys e))
        | inr v ↦ elim (cases_Bool (comes_before x e)) [
          | inl w ↦ rw (v, w) refl
          | inr w ↦ let is : x ≡ e = same x e w v in let wrong : is_eq (entry_cmp x e) ≡ true = subst (λ d. is_eq (entry_cmp x d) ≡ true) is (itself_true x) in let no : true ≡ false = sym wrong ∙ f in cc
        ]
      ])
    ])

has_with : (es xs : List IndexEntry) (e : IndexEntry) → has (with_all es xs) e ≡ (has es e || has xs e)
has_with [] xs e = refl
has_with (x ∷ es) xs e = has_with es (put_in comes_before x xs) e ∙ ap (λ b. has es e || b) (has_put x xs e) ∙ turned (has es e) (is_eq (entry_cmp x e)) (has xs e)
  where
    turned : (a b c : Bool) → (a || (b || c)) ≡ ((b || a) || c)
    turned true true c = refl
    turned true false c = refl
    turned false true c = refl
    turned false false c = refl

pub laid_has : LaidHas
laid_has taken added entries e = has_with added (without taken entries) e ∙ ap (λ b. has added e || b) (has_filter (λ x. not (has taken x)) entries e ∙ and_comm (not (has taken e)) (has entries e))
