-- Searches by halves among entries that ascend.
use Rattle.std.proofs.Common.{◌≡◌, ℕ, zero, suc, ◌+◌, ◌≤◌, List, [], ◌∷◌, Bool, true, not, refl, ap, sym, ◌∙◌, subst, arith, length, length-drop, length-take, filter, take, drop}
use Rattle.std.proofs.lemmas.Bool.{not-true}
use Rattle.std.specs.List.{list_all}
use Rattle.std.specs.List.Sorted.{IsPartitionedBy}
use Rattle.rv_value.specs.declared.record.IndexEntry.{IndexEntry}
use Rattle.rv_value.specs.declared.range.Range.{Range}
use Rattle.rv_rows.proofs.Cuts.{partitioned}
use Rattle.rv_reader.specs.Entries.{Ascend, comes_before}
use Rattle.rv_reader.proofs.Halving.{passes_further}
use Rattle.rv_reader.proofs.Orders.{one_way, order}
use Rattle.rv_reader.specs.Halves.{PassesTo, is_before, is_not_after}
use Rattle.rv_node.specs.Children.{first_child, last_child, last_place}
use Rattle.rv_node.specs.Ranks.{any}
use Rattle.rv_node.specs.Trees.{up_to}
use Rattle.rv_node.proofs.Orders.{lt_trans}

-- Tests that, once they fail, fail of all that comes after.

up_to_goes : (e x y : IndexEntry) → comes_before x y ≡ true → up_to comes_before e y ≡ true → up_to comes_before e x ≡ true
up_to_goes e x y h p = rw (order.chain e y x (not-true (comes_before e y) p) (one_way x y h)) refl

pub all_any : (es : List IndexEntry) → list_all any es ≡ true
all_any [] = refl
all_any (e ∷ es) = all_any es

pub up_to_parted : (e : IndexEntry) (es : List IndexEntry) → Ascend es → IsPartitionedBy (up_to comes_before e) es
up_to_parted e es ascend = partitioned comes_before any (up_to comes_before e) (λ x y h a b p. up_to_goes e x y h p) es ascend (all_any es)

pub less_parted : (e : IndexEntry) (es : List IndexEntry) → Ascend es → IsPartitionedBy (λ (x : IndexEntry). comes_before x e) es
less_parted e es ascend = partitioned comes_before any (λ (x : IndexEntry). comes_before x e) (λ x y h a b p. lt_trans comes_before order x y e h p) es ascend (all_any es)

-- What so many items that pass are.

none_last : {X : Type 0} (p : X → Bool) (xs : List X) (n b : ℕ) → PassesTo p zero xs → last_place p n b xs ≡ b
none_last p [] n b h = refl
none_last p (x ∷ xs) n b h = rw h.0 (none_last p xs (n + 1) b h.1)

pub last_passed : {X : Type 0} (p : X → Bool) (xs : List X) (k n b : ℕ) → PassesTo p k xs → k ≤ length xs → b + 1 ≡ n → last_place p n b xs ≡ b + k
last_passed p xs zero n b h l e = let same : b ≡ b + 0 = omega arith in none_last p xs n b h ∙ same
last_passed p [] (suc k) n b h l e = absurd (omega arith)
last_passed p (x ∷ xs) (suc k) n b h l e = let same : n + k ≡ b + suc k = omega (arith, e) in rw h.0 (last_passed p xs k (n + 1) n h.1 (omega arith) refl ∙ same)

pub passed_none : {X : Type 0} (p : X → Bool) (xs : List X) → PassesTo p zero xs → (filter p xs ≡ []) × (filter (λ x. not (p x)) xs ≡ xs)
passed_none p [] h = (refl, refl)
passed_none p (x ∷ xs) h = let rest = passed_none p xs h.1 in (rw h.0 rest.0, rw h.0 (ap (λ ys. x ∷ ys) rest.1))

-- those that pass stand in front
pub passed_parts : {X : Type 0} (p : X → Bool) (xs : List X) (k : ℕ) → PassesTo p k xs → k ≤ length xs → (take k xs ≡ filter p xs) × (drop k xs ≡ filter (λ x. not (p x)) xs)
passed_parts p xs zero h l = let none = passed_none p xs h in (sym none.0, sym none.1)
passed_parts p [] (suc k) h l = absurd (omega arith)
passed_parts p (x ∷ xs) (suc k) h l = let rest = passed_parts p xs k h.1 (omega arith) in (rw h.0 (ap (λ ys. x ∷ ys) rest.0), rw h.0 rest.1)

-- The children of a range.

pub found_last : (range : Range) (lows behind : List IndexEntry) (k : ℕ) → behind ≡ drop 1 lows → PassesTo (is_not_after range) k behind → k ≤ length behind → k ≡ last_child range lows
found_last range lows behind k is passes bound = let same : k ≡ 0 + k = omega arith in same ∙ sym (last_passed (is_not_after range) behind k 1 0 passes bound refl) ∙ ap (last_place (is_not_after range) 1 0) is

pub found_first : (range : Range) (lows behind front : List IndexEntry) (k last : ℕ) → behind ≡ drop 1 lows → front ≡ take last behind → last ≡ last_child range lows → k ≡ last_place (is_before range) 1 0 front → k ≡ first_child range lows
found_first range lows behind front k last is cut at first =
    let front_is : front ≡ take (last_child range lows) (drop 1 lows) = cut ∙ ap (λ (n : ℕ). take n behind) at ∙ ap (take (last_child range lows)) is in
    first ∙ ap (last_place (is_before range) 1 0) front_is

pub counted_place : {X : Type 0} (p : X → Bool) (xs : List X) (k : ℕ) → PassesTo p k xs → k ≤ length xs → k ≡ last_place p 1 0 xs
counted_place p xs k passes bound = let same : k ≡ 0 + k = omega arith in same ∙ sym (last_passed p xs k 1 0 passes bound refl)

-- those that pass stand in each longer front too
passes_front : {X : Type 0} (p : X → Bool) (n k : ℕ) (xs : List X) → PassesTo p n xs → n ≤ k → PassesTo p n (take k xs)
passes_front p n zero xs passes few = tt
passes_front p n (suc k) [] passes few = tt
passes_front p zero (suc k) (x ∷ xs) passes few = (passes.0, passes_front p zero k xs passes.1 (omega arith))
passes_front p (suc n) (suc k) (x ∷ xs) passes few = (passes.0, passes_front p n k xs passes.1 (omega arith))

-- by how many low entries behind the first one are before the range, and how many of the others are not after it
pub found_between : (range : Range) (lows behind rest : List IndexEntry) (first front : ℕ) → behind ≡ drop 1 lows → rest ≡ drop first behind → PassesTo (is_before range) first behind → first ≤ length behind → PassesTo (is_not_after range) front rest → front ≤ length rest → (first ≡ first_child range lows) × (first + front ≡ last_child range lows)
found_between range lows behind rest first front is cut before few passes few_more =
    let here = subst (PassesTo (is_not_after range) front) cut passes in
    let left = ap length cut ∙ length-drop first behind in
    let last = found_last range lows behind (first + front) is (passes_further range first front (first + front) behind refl before here) (omega (arith, left)) in
    let long = length-take (first + front) behind in
    let at = counted_place (is_before range) (take (first + front) behind) first (passes_front (is_before range) first (first + front) behind before (omega arith)) (omega (arith, left, long)) in
    (found_first range lows behind (take (first + front) behind) first (first + front) is refl last at, last)
