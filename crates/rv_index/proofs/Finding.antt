-- What searches by halves find in a node.
use Rattle.std.proofs.Common.{◌≡◌, ℕ, zero, suc, ◌≤◌, ◌<◌, List, [], ◌∷◌, Bool, true, false, not, ◌&&◌, ◌||◌, refl, ap, sym, ◌∙◌, inl, inr, subst, arith, length, filter, take, drop, get_or, slice_get, Option, Some, None}
use Rattle.std.proofs.lemmas.Bool.{cases_Bool}
use Rattle.std.proofs.lemmas.Option.{slice_get_read}
use Rattle.std.specs.List.Sorted.{IsPartitionedBy}
use Rattle.std.proofs.Math.Bool.{or-true}
use Rattle.rv_value.specs.declared.record.IndexEntry.{IndexEntry}
use Rattle.rv_value.specs.declared.range.Range.{Range}
use Rattle.rv_value.specs.declared.range.Side.{Side}
use Rattle.rv_value.specs.declared.range.Side.TheVariants.{Before, In, After}
use Rattle.rv_value.specs.Ranges.{in_side, place}
use Rattle.rv_rows.proofs.Cuts.{partitioned}
use Rattle.rv_rows.proofs.Filters.{filter_same, filter_twice}
use Rattle.rv_reader.specs.Entries.{AreLong, Ascend, comes_before}
use Rattle.rv_reader.specs.Leaves.{after_side, before_side, is_wanted}
use Rattle.rv_reader.proofs.Orders.{order}
use Rattle.rv_reader.specs.Halves.{PassesTo, is_not_after}
use Rattle.rv_node.specs.Descent.{child_from, child_in}
use Rattle.rv_node.specs.Ranks.{any, is_long}
use Rattle.rv_reader.proofs.Halving.{before_goes}
use Rattle.rv_node.proofs.Parted.{all_any, passed_parts}
use Rattle.rv_node.proofs.Orders.{lt_trans}
use Rattle.rv_index.specs.Steps.{is_ahead, passed_first}

-- so many pass in front
pub passed_count : (goes : IndexEntry → Bool) (xs : List IndexEntry) (k : ℕ) → PassesTo goes k xs → k ≤ length xs → k ≡ passed_first goes xs
passed_count goes [] zero h l = refl
passed_count goes [] (suc k) h l = absurd (omega arith)
passed_count goes (x ∷ xs) zero h l = rw h.0 refl
passed_count goes (x ∷ xs) (suc k) h l = rw h.0 (ap suc (passed_count goes xs k h.1 (omega arith)))

-- Entries ahead of what is wanted.

ahead_goes : (range : Range) (start : Option IndexEntry) (x y : IndexEntry) → comes_before x y ≡ true → is_long range x ≡ true → is_long range y ≡ true → is_ahead range start y ≡ true → is_ahead range start x ≡ true
ahead_goes range None x y h lx ly p = before_goes range x y h lx ly p
ahead_goes range (Some s) x y h lx ly p = elim (cases_Bool (comes_before y s)) [
  | inl t ↦ rw (lt_trans comes_before order x y s h t) refl
  | inr f ↦
      let b : before_side (place range y.key) ≡ true = rw f at p in
      rw (before_goes range x y h lx ly b) (or-true (comes_before x s))
]

pub ahead_parted : (range : Range) (start : Option IndexEntry) (es : List IndexEntry) → Ascend es → AreLong range es → IsPartitionedBy (is_ahead range start) es
ahead_parted range start es ascend long = partitioned comes_before (is_long range) (is_ahead range start) (ahead_goes range start) es ascend long

by_side : (s : Side) → (not (before_side s) && not (after_side s)) ≡ in_side s
by_side Before = refl
by_side In = refl
by_side After = refl

left_of : (a b c d : Bool) → (not b && not c) ≡ d → (not (a || b) && not c) ≡ (not a && d)
left_of true b c d h = refl
left_of false b c d h = h

wanted_test : (range : Range) (start : Option IndexEntry) (e : IndexEntry) → (not (is_ahead range start e) && is_not_after range e) ≡ is_wanted range start e
wanted_test range None e = by_side (place range e.key)
wanted_test range (Some s) e = left_of (comes_before e s) (before_side (place range e.key)) (after_side (place range e.key)) (in_side (place range e.key)) (by_side (place range e.key))

pub wanted_is : (range : Range) (start : Option IndexEntry) (leaf rest part : List IndexEntry) (k n : ℕ) → rest ≡ drop k leaf → part ≡ take n rest → PassesTo (is_ahead range start) k leaf → k ≤ length leaf → PassesTo (is_not_after range) n rest → n ≤ length rest
    → part ≡ filter (is_wanted range start) leaf
wanted_is range start leaf rest part k n behind front ahead bound passes most =
    let from : rest ≡ filter (λ (e : IndexEntry). not (is_ahead range start e)) leaf = behind ∙ (passed_parts (is_ahead range start) leaf k ahead bound).1 in
    front ∙ (passed_parts (is_not_after range) rest n passes most).0 ∙ ap (filter (is_not_after range)) from
    ∙ filter_twice (is_not_after range) (λ (e : IndexEntry). not (is_ahead range start e)) leaf
    ∙ filter_same any (λ (e : IndexEntry). not (is_ahead range start e) && is_not_after range e) (is_wanted range start) leaf (all_any leaf) (λ e h. wanted_test range start e)

-- The child in which a descent goes on.

cut_from : (goes : IndexEntry → Bool) (id : ℕ) (lows : List IndexEntry) (ids : List ℕ) (next : Option IndexEntry) (k d : ℕ) (cut : IndexEntry) → length lows ≡ length ids → PassesTo goes k lows → slice_get lows k ≡ Some cut
    → (get_or (id ∷ ids) k d, Some cut) ≡ child_from goes id lows ids next
cut_from goes id [] ids next k d cut same h at = cc
cut_from goes id (low ∷ lows) [] next k d cut same h at = absurd (omega arith)
cut_from goes id (low ∷ lows) (kid ∷ kids) next zero d cut same h at = rw h.0 (ap (λ (o : Option IndexEntry). (id, o)) (sym at))
cut_from goes id (low ∷ lows) (kid ∷ kids) next (suc k) d cut same h at = rw h.0 (cut_from goes kid lows kids next k d cut (omega arith) h.1 at)

end_from : (goes : IndexEntry → Bool) (id : ℕ) (lows : List IndexEntry) (ids : List ℕ) (next : Option IndexEntry) (k d : ℕ) → length lows ≡ length ids → PassesTo goes k lows → k ≡ length lows
    → (get_or (id ∷ ids) k d, next) ≡ child_from goes id lows ids next
end_from goes id [] ids next zero d same h l = refl
end_from goes id [] ids next (suc k) d same h l = absurd (omega arith)
end_from goes id (low ∷ lows) [] next k d same h l = absurd (omega arith)
end_from goes id (low ∷ lows) (kid ∷ kids) next zero d same h l = absurd (omega arith)
end_from goes id (low ∷ lows) (kid ∷ kids) next (suc k) d same h l = rw h.0 (end_from goes kid lows kids next k d (omega arith) h.1 (omega arith))

-- where a low entry behind stops it
pub found_cut : (goes : IndexEntry → Bool) (es lows behind : List IndexEntry) (cs ids : List ℕ) (next : Option IndexEntry) (k d : ℕ) (cut : IndexEntry) → lows ≡ es → ids ≡ cs → behind ≡ drop 1 lows → length es ≡ length cs → 0 < length cs
    → PassesTo goes k behind → k < length behind → cut ≡ get_or behind k cut → (get_or ids k d, Some cut) ≡ child_in goes es cs next
found_cut goes [] lows behind [] ids next k d cut l i b same some h low is = absurd (omega arith)
found_cut goes [] lows behind (c ∷ cs) ids next k d cut l i b same some h low is = absurd (omega arith)
found_cut goes (e ∷ es) lows behind [] ids next k d cut l i b same some h low is = absurd (omega arith)
found_cut goes (e ∷ es) lows behind (c ∷ cs) ids next k d cut l i b same some h low is =
    let rest : behind ≡ es = b ∙ ap (drop 1) l in
    let at : slice_get behind k ≡ Some cut = slice_get_read behind (length behind) k cut refl low is in
    ap (λ (xs : List ℕ). (get_or xs k d, Some cut)) i
    ∙ cut_from goes c es cs next k d cut (omega arith) (subst (PassesTo goes k) rest h) (subst (λ (xs : List IndexEntry). slice_get xs k ≡ Some cut) rest at)

-- where none stops it
pub found_end : (goes : IndexEntry → Bool) (es lows behind : List IndexEntry) (cs ids : List ℕ) (next : Option IndexEntry) (k d : ℕ) → lows ≡ es → ids ≡ cs → behind ≡ drop 1 lows → length es ≡ length cs → 0 < length cs
    → PassesTo goes k behind → k ≡ length behind → (get_or ids k d, next) ≡ child_in goes es cs next
found_end goes [] lows behind [] ids next k d l i b same some h long = absurd (omega arith)
found_end goes [] lows behind (c ∷ cs) ids next k d l i b same some h long = absurd (omega arith)
found_end goes (e ∷ es) lows behind [] ids next k d l i b same some h long = absurd (omega arith)
found_end goes (e ∷ es) lows behind (c ∷ cs) ids next k d l i b same some h long =
    let rest : behind ≡ es = b ∙ ap (drop 1) l in
    let all : k ≡ length es = long ∙ ap length rest in
    ap (λ (xs : List ℕ). (get_or xs k d, next)) i ∙ end_from goes c es cs next k d (omega arith) (subst (PassesTo goes k) rest h) all
