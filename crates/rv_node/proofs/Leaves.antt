-- A descent finds the leaf that stands between two cuts.
use Rattle.std.proofs.Common.{ℕ, zero, suc, true, false, inl, inr, ◌≡◌, List, [], ◌∷◌, ◌++◌, ◌≤◌, length, Option, Some, None, IfSome, Bool, cond, refl, ap, sym, ◌∙◌, append-nil}
use Rattle.std.specs.Prelude.{not, filter, flat_map}
use Rattle.std.specs.List.{AllByRecursion, list_all}
use Rattle.std.proofs.lemmas.Bool.{cases_Bool}
use Rattle.std.proofs.lemmas.List.Elements.{filter-append}
use Rattle.rv_value.proofs.Lists.{all_filter, all_more}
use Rattle.rv_value.specs.declared.record.IndexEntry.{IndexEntry}
use Rattle.rv_reader.specs.Entries.{comes_before}
use Rattle.rv_reader.specs.Leaves.{Leaf, from_on, up_to, leaf_from, leaf_entries}
use Rattle.rv_reader.proofs.Orders.{order, one_way, itself}
use Rattle.rv_node.specs.Trees.{Tree, entries_in, cuts_in, cuts_under}
use Rattle.rv_node.specs.Sound.{AtLeast, Above, Below, Kids, KidsFrom, IsTree}
use Rattle.rv_node.specs.Descent.{descend, descend_from, leaf_in}
use Rattle.rv_node.proofs.Orders.{lt_le}
use Rattle.rv_node.proofs.Lists.{All-left, All-right, filter-all, filter-none}
use Rattle.rv_node.proofs.Rising.{All-of}
use Rattle.rv_node.proofs.Bounds.{entries_within, kids_within, cuts_within, kid_cuts_within}

-- the cut that follows, or what follows the whole
abbrev pub or_next : Option IndexEntry → Option IndexEntry → Option IndexEntry
or_next None next = next
or_next (Some cut) next = Some cut

or_next-twice : (a : Option IndexEntry) (k : IndexEntry) (next : Option IndexEntry) → or_next a (Some k) ≡ or_next (or_next a (Some k)) next
or_next-twice None k next = refl
or_next-twice (Some c) k next = refl

pub or_next-none : (a : Option IndexEntry) → or_next a None ≡ a
or_next-none None = refl
or_next-none (Some c) = refl

-- What stands from a cut on and below a cut, over lists that are put together.

from_on-append : (low : Option IndexEntry) (xs ys : List IndexEntry) → from_on low (xs ++ ys) ≡ from_on low xs ++ from_on low ys
from_on-append None xs ys = refl
from_on-append (Some w) xs ys = filter-append (λ (e : IndexEntry). not (comes_before e w)) xs ys

up_to-append : (next : Option IndexEntry) (xs ys : List IndexEntry) → up_to next (xs ++ ys) ≡ up_to next xs ++ up_to next ys
up_to-append None xs ys = refl
up_to-append (Some w) xs ys = filter-append (λ (e : IndexEntry). comes_before e w) xs ys

All-from : (P : IndexEntry → Type 0) (low : Option IndexEntry) (xs : List IndexEntry) → AllByRecursion P xs → AllByRecursion P (from_on low xs)
All-from P None xs a = a
All-from P (Some w) xs a = all_filter P (λ (e : IndexEntry). not (comes_before e w)) xs a

from_all : (low : Option IndexEntry) (xs : List IndexEntry) → AllByRecursion (AtLeast comes_before low) xs → from_on low xs ≡ xs
from_all None xs a = refl
from_all (Some w) xs a = filter-all (λ (e : IndexEntry). not (comes_before e w)) xs (all_more (λ x. comes_before x w ≡ false) (λ x. not (comes_before x w) ≡ true) (λ x f. ap not f) xs a)

-- what is below a cut is not from it on, and the other way round
front : (next : Option IndexEntry) (k : IndexEntry) (xs ys : List IndexEntry) → AllByRecursion (λ x. comes_before x k ≡ true) xs → AllByRecursion (λ y. comes_before y k ≡ false) ys → IfSome next (λ c. comes_before c k ≡ true)
    → up_to next xs ≡ up_to (or_next next (Some k)) (xs ++ ys)
front None k xs ys below from n = sym (filter-append (λ (e : IndexEntry). comes_before e k) xs ys ∙ (λ i. filter-all (λ (e : IndexEntry). comes_before e k) xs below i ++ filter-none (λ (e : IndexEntry). comes_before e k) ys from i) ∙ append-nil xs)
front (Some c) k xs ys below from n =
    let none = filter-none (λ (e : IndexEntry). comes_before e c) ys (all_more (λ y. comes_before y k ≡ false) (λ y. comes_before y c ≡ false) (λ y f. order.chain y k c f (one_way c k n)) ys from) in
    sym (filter-append (λ (e : IndexEntry). comes_before e c) xs ys ∙ ap (λ zs. filter (λ (e : IndexEntry). comes_before e c) xs ++ zs) none ∙ append-nil (filter (λ (e : IndexEntry). comes_before e c) xs))

front_leaf : (leaf : Leaf) (k : IndexEntry) (xs ys : List IndexEntry) → AllByRecursion (λ x. comes_before x k ≡ true) xs → AllByRecursion (λ y. comes_before y k ≡ false) ys → IfSome leaf.next (λ c. comes_before c k ≡ true)
    → leaf_entries leaf xs ≡ up_to (or_next leaf.next (Some k)) (from_on leaf.low (xs ++ ys))
front_leaf leaf k xs ys below from n =
    front leaf.next k (from_on leaf.low xs) (from_on leaf.low ys) (All-from (λ x. comes_before x k ≡ true) leaf.low xs below) (All-from (λ y. comes_before y k ≡ false) leaf.low ys from) n
    ∙ ap (up_to (or_next leaf.next (Some k))) (sym (from_on-append leaf.low xs ys))

-- a leaf begins at a cut, which is not below another one
abbrev LowFrom : IndexEntry → Option IndexEntry → Type 0
LowFrom k None = ⊥
LowFrom k (Some w) = comes_before w k ≡ false

back : (low : Option IndexEntry) (k : IndexEntry) (xs ys : List IndexEntry) → LowFrom k low → AllByRecursion (λ x. comes_before x k ≡ true) xs → from_on low (xs ++ ys) ≡ from_on low ys
back None k xs ys l below = absurd l
back (Some w) k xs ys l below =
    let none = filter-none (λ (e : IndexEntry). not (comes_before e w)) xs (all_more (λ x. comes_before x k ≡ true) (λ x. not (comes_before x w) ≡ false) (λ x t. ap not (lt_le comes_before order x k w t l)) xs below) in
    filter-append (λ (e : IndexEntry). not (comes_before e w)) xs ys ∙ ap (λ zs. zs ++ filter (λ (e : IndexEntry). not (comes_before e w)) ys) none

module _ (goes : IndexEntry → Bool) where
  -- cuts that are all passed
  passing : (low : Option IndexEntry) (xs : List IndexEntry) (k : IndexEntry) (ys : List IndexEntry) → AllByRecursion (λ x. goes x ≡ true) xs → goes k ≡ true → leaf_from goes low (xs ++ k ∷ ys) ≡ leaf_from goes (Some k) ys
  passing low [] k ys all t = rw t refl
  passing low (x ∷ xs) k ys all t = rw all.0 (passing (Some x) xs k ys all.1 t)

  abbrev stopped : Leaf → IndexEntry → Leaf
  stopped leaf k = record { low = leaf.low; next = or_next leaf.next (Some k) }

  stopping : (low : Option IndexEntry) (xs : List IndexEntry) (k : IndexEntry) (ys : List IndexEntry) → goes k ≡ false → leaf_from goes low (xs ++ k ∷ ys) ≡ stopped (leaf_from goes low xs) k
  stopping low [] k ys f = rw f refl
  stopping low (x ∷ xs) k ys f = elim (cases_Bool (goes x)) [
    | inl t ↦ rw t (stopping (Some x) xs k ys f)
    | inr n ↦ rw n refl
  ]

  low_from : (k w : IndexEntry) (cuts : List IndexEntry) → comes_before w k ≡ false → AllByRecursion (λ c. comes_before k c ≡ true) cuts → LowFrom k (leaf_from goes (Some w) cuts).low
  low_from k w [] f above = f
  low_from k w (c ∷ cuts) f above = elim (goes c) as (λ b. LowFrom k (cond b (leaf_from goes (Some c) cuts) (record { low = Some w; next = Some c })).low) [
    | true ↦ low_from k c cuts (one_way k c above.0) above.1
    | false ↦ f
  ]

  next_below : (k : IndexEntry) (low : Option IndexEntry) (cuts : List IndexEntry) → AllByRecursion (λ c. comes_before c k ≡ true) cuts → IfSome (leaf_from goes low cuts).next (λ c. comes_before c k ≡ true)
  next_below k low [] below = tt
  next_below k low (c ∷ cuts) below = elim (goes c) as (λ b. IfSome (cond b (leaf_from goes (Some c) cuts) (record { low = low; next = Some c })).next (λ c. comes_before c k ≡ true)) [
    | true ↦ next_below k (Some c) cuts below.1
    | false ↦ below.0
  ]

  -- what a descent finds is a leaf between cuts
  pub record IsFound (low high : Option IndexEntry) (cuts es : List IndexEntry) (found : List IndexEntry × Option IndexEntry) : Type 0 where
    pub leaf : found.0 ≡ leaf_entries (leaf_from goes low cuts) es
    pub next : found.1 ≡ or_next (leaf_from goes low cuts).next high

  module _ (q : IndexEntry → Bool) (mono : (x c : IndexEntry) → q x ≡ true → q c ≡ true → comes_before x c ≡ true → goes c ≡ true → goes x ≡ true) where
    pass_all : (k : IndexEntry) (cuts : List IndexEntry) → AllByRecursion (λ c. q c ≡ true) cuts → AllByRecursion (λ c. comes_before c k ≡ true) cuts → q k ≡ true → goes k ≡ true → AllByRecursion (λ c. goes c ≡ true) cuts
    pass_all k [] all below t g = tt
    pass_all k (c ∷ cuts) all below t g = (mono c k all.0 t below.0 g, pass_all k cuts all.1 below.1 t g)

    module _ {T : Type 0} (P : Option IndexEntry → Option IndexEntry → T → Type 0) (ent cuts : T → List IndexEntry) (g : T → Option IndexEntry → List IndexEntry × Option IndexEntry)
        (each : (low high : Option IndexEntry) (t : T) → P low high t → AllByRecursion (λ x. AtLeast comes_before low x × Below comes_before x high) (ent t))
        (each_cut : (low high : Option IndexEntry) (t : T) → P low high t → AllByRecursion (λ x. Above comes_before low x × Below comes_before x high) (cuts t))
        (step : (low high : Option IndexEntry) (t : T) → P low high t → AllByRecursion (λ c. q c ≡ true) (cuts t) → IsFound low high (cuts t) (ent t) (g t high)) where
      kids_found : (low high : Option IndexEntry) (t : T) (kids : List (IndexEntry × T)) → KidsFrom comes_before P low high t kids → AllByRecursion (λ c. q c ≡ true) (cuts t ++ flat_map (λ k. k.0 ∷ cuts k.1) kids)
          → IsFound low high (cuts t ++ flat_map (λ k. k.0 ∷ cuts k.1) kids) (ent t ++ flat_map (λ k. ent k.1) kids) (descend_from goes g t kids high)
      kids_found low high t [] k all = rw (append-nil (cuts t), append-nil (ent t)) (step low high t k (rw (append-nil (cuts t)) at all))
      kids_found low high t (kid ∷ kids) k all =
          let rest_cuts = cuts kid.1 ++ flat_map (λ k. k.0 ∷ cuts k.1) kids in
          let rest = ent kid.1 ++ flat_map (λ k. ent k.1) kids in
          let here = All-left (λ c. q c ≡ true) (cuts t) (kid.0 ∷ rest_cuts) all in
          let there = All-right (λ c. q c ≡ true) (cuts t) (kid.0 ∷ rest_cuts) all in
          let cuts_below = all_more (λ x. Above comes_before low x × Below comes_before x (Some kid.0)) (λ x. comes_before x kid.0 ≡ true) (λ x w. w.1) (cuts t) (each_cut low (Some kid.0) t k.0) in
          let cuts_above = all_more (λ x. Above comes_before (Some kid.0) x × Below comes_before x high) (λ x. comes_before kid.0 x ≡ true) (λ x w. w.0) rest_cuts (kid_cuts_within comes_before order P cuts each_cut (Some kid.0) high kid.1 kids k.3) in
          let below = all_more (λ x. AtLeast comes_before low x × Below comes_before x (Some kid.0)) (λ x. comes_before x kid.0 ≡ true) (λ x w. w.1) (ent t) (each low (Some kid.0) t k.0) in
          let above = all_more (λ x. AtLeast comes_before (Some kid.0) x × Below comes_before x high) (λ x. comes_before x kid.0 ≡ false) (λ x w. w.0) rest (kids_within comes_before order P ent each (Some kid.0) high kid.1 kids k.3) in
          elim (cases_Bool (goes kid.0)) [
            | inl t1 ↦
                let more = kids_found (Some kid.0) high kid.1 kids k.3 there.1 in
                let passed = passing low (cuts t) kid.0 rest_cuts (pass_all kid.0 (cuts t) here cuts_below there.0 t1) t1 in
                let low_is = low_from kid.0 kid.0 rest_cuts (itself kid.0) cuts_above in
                let found : IsFound low high (cuts t ++ kid.0 ∷ rest_cuts) (ent t ++ rest) (descend_from goes g kid.1 kids high) = record {
                  leaf = more.leaf ∙ ap (up_to (leaf_from goes (Some kid.0) rest_cuts).next) (sym (back (leaf_from goes (Some kid.0) rest_cuts).low kid.0 (ent t) rest low_is below)) ∙ ap (λ leaf. leaf_entries leaf (ent t ++ rest)) (sym passed);
                  next = more.next ∙ ap (λ (leaf : Leaf). or_next leaf.next high) (sym passed);
                } in
                rw t1 found
            | inr f1 ↦
                let one = step low (Some kid.0) t k.0 here in
                let stops = stopping low (cuts t) kid.0 rest_cuts f1 in
                let next_is = next_below kid.0 low (cuts t) cuts_below in
                let found : IsFound low high (cuts t ++ kid.0 ∷ rest_cuts) (ent t ++ rest) (g t (Some kid.0)) = record {
                  leaf = one.leaf ∙ front_leaf (leaf_from goes low (cuts t)) kid.0 (ent t) rest below above next_is ∙ ap (λ leaf. leaf_entries leaf (ent t ++ rest)) (sym stops);
                  next = one.next ∙ or_next-twice (leaf_from goes low (cuts t)).next kid.0 high ∙ ap (λ (leaf : Leaf). or_next leaf.next high) (sym stops);
                } in
                rw f1 found
          ]

      all_found : (low high : Option IndexEntry) (kids : List (IndexEntry × T)) → Kids comes_before P low high kids → AllByRecursion (λ c. q c ≡ true) (cuts_under cuts kids)
          → IsFound low high (cuts_under cuts kids) (flat_map (λ k. ent k.1) kids) (descend goes g ([], high) kids high)
      all_found low high [] k all = absurd k
      all_found low high (kid ∷ kids) k all = kids_found low high kid.1 kids k all

    found_in : (level : ℕ) (low high : Option IndexEntry) (t : Tree IndexEntry level) → IsTree level comes_before low high t → AllByRecursion (λ c. q c ≡ true) (cuts_in level t)
        → IsFound low high (cuts_in level t) (entries_in level t) (leaf_in level goes t high)
    found_in zero low high t k all = record {
      leaf = sym (from_all low t (all_more (λ x. AtLeast comes_before low x × Below comes_before x high) (AtLeast comes_before low) (λ x w. w.0) t (entries_within comes_before order zero low high t k)));
      next = refl;
    }
    found_in (suc level) low high t k all = all_found (IsTree level comes_before) (entries_in level) (cuts_in level) (leaf_in level goes) (entries_within comes_before order level) (cuts_within comes_before order level) (found_in level) low high t k.0 all

    -- the leaf of a whole tree
    pub leaf_found : (level : ℕ) (t : Tree IndexEntry level) → IsTree level comes_before None None t → list_all q (cuts_in level t) ≡ true
        → ((leaf_in level goes t None).0 ≡ leaf_entries (leaf_from goes None (cuts_in level t)) (entries_in level t)) × ((leaf_in level goes t None).1 ≡ (leaf_from goes None (cuts_in level t)).next)
    leaf_found level t k all =
        let found = found_in level None None t k (All-of q (cuts_in level t) all) in
        (found.leaf, found.next ∙ or_next-none (leaf_from goes None (cuts_in level t)).next)

-- A leaf is short.

descend_short : {E T : Type 0} (lt : E → E → Bool) (P : Option E → Option E → T → Type 0) (goes : E → Bool) (g : T → Option E → List E × Option E)
    → ((low high : Option E) (t : T) → P low high t → (next : Option E) → length (g t next).0 ≤ 32)
    → (low high : Option E) (t : T) (kids : List (E × T)) → KidsFrom lt P low high t kids → (next : Option E) → length (descend_from goes g t kids next).0 ≤ 32
descend_short lt P goes g step low high t [] k next = step low high t k next
descend_short lt P goes g step low high t (kid ∷ kids) k next = elim (cases_Bool (goes kid.0)) [
  | inl goes_on ↦ rw goes_on (descend_short lt P goes g step (Some kid.0) high kid.1 kids k.3 next)
  | inr stops ↦ rw stops (step low (Some kid.0) t k.0 (Some kid.0))
]

all_short : {E T : Type 0} (lt : E → E → Bool) (P : Option E → Option E → T → Type 0) (goes : E → Bool) (g : T → Option E → List E × Option E)
    → ((low high : Option E) (t : T) → P low high t → (next : Option E) → length (g t next).0 ≤ 32)
    → (low high : Option E) (kids : List (E × T)) → Kids lt P low high kids → (next : Option E) → length (descend goes g ([], next) kids next).0 ≤ 32
all_short lt P goes g step low high [] k next = absurd k
all_short lt P goes g step low high (kid ∷ kids) k next = descend_short lt P goes g step low high kid.1 kids k next

pub leaf_short : {E : Type 0} (lt : E → E → Bool) (level : ℕ) (goes : E → Bool) (low high : Option E) (t : Tree E level) → IsTree level lt low high t → (next : Option E) → length (leaf_in level goes t next).0 ≤ 32
leaf_short lt zero goes low high t k next = k.1
leaf_short lt (suc level) goes low high t k next = all_short lt (IsTree level lt) goes (leaf_in level goes) (leaf_short lt level goes) low high t k.0 next
