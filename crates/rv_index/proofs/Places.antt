-- Places in a node's lists: of an entry, and behind the child of an entry.
use Rattle.std.proofs.Common.{ℕ, suc, true, false, inl, inr, ◌<◌, ◌≤◌, ◌≡◌, List, [], ◌∷◌, length, Some, None, Bool, cond, get_or, refl, ap, arith}
use Rattle.std.specs.List.{insert}
use Rattle.std.proofs.lemmas.Bool.{cases_Bool}
use Rattle.rv_value.specs.declared.record.IndexEntry.{IndexEntry}
use Rattle.rv_reader.specs.Entries.{comes_before}
use Rattle.rv_node.specs.Trees.{placed, up_to}
use Rattle.rv_node.specs.Stored.{add_lows, add_ids, kid_lows, kid_ids}
use Rattle.rv_node.specs.Descent.{child_from, child_in}
use Rattle.rv_index.specs.Steps.{passed_first, behind_child}

-- an entry stands behind all that come before it
pub insert_placed : (e : IndexEntry) (es : List IndexEntry) → insert es (passed_first (λ x. comes_before x e) es) e ≡ placed comes_before e es
insert_placed e [] = refl
insert_placed e (x ∷ xs) = elim (cases_Bool (comes_before x e)) [
  | inl t ↦ rw t (ap (λ ys. x ∷ ys) (insert_placed e xs))
  | inr f ↦ rw f refl
]

pub passed_within : (goes : IndexEntry → Bool) (lows : List IndexEntry) → passed_first goes lows ≤ length lows
passed_within goes [] = omega arith
passed_within goes (low ∷ lows) = let rest = passed_within goes lows in elim (goes low) as (λ b. cond b (suc (passed_first goes lows)) 0 ≤ length (low ∷ lows)) [ true ↦ omega arith | false ↦ omega arith ]

insert_lows : (goes : IndexEntry → Bool) (cut : IndexEntry) (right : ℕ) (lows : List IndexEntry) → insert lows (passed_first goes lows) cut ≡ add_lows goes (Some (cut, right)) lows
insert_lows goes cut right [] = refl
insert_lows goes cut right (low ∷ lows) = elim (cases_Bool (goes low)) [
  | inl t ↦ rw t (ap (λ xs. low ∷ xs) (insert_lows goes cut right lows))
  | inr f ↦ rw f refl
]

insert_ids : (goes : IndexEntry → Bool) (cut : IndexEntry) (right : ℕ) (lows : List IndexEntry) (ids : List ℕ) → length lows ≡ length ids → insert ids (passed_first goes lows) right ≡ add_ids goes (Some (cut, right)) lows ids
insert_ids goes cut right [] ids same = refl
insert_ids goes cut right (low ∷ lows) [] same = absurd (omega arith)
insert_ids goes cut right (low ∷ lows) (id ∷ ids) same = elim (cases_Bool (goes low)) [
  | inl t ↦ rw t (ap (λ xs. id ∷ xs) (insert_ids goes cut right lows ids (omega arith)))
  | inr f ↦ rw f refl
]

-- a further child behind that of an entry
pub behind_lows : (e cut : IndexEntry) (right : ℕ) (lows : List IndexEntry) (ids : List ℕ) → length lows ≡ length ids → 0 < length ids → insert lows (behind_child e lows) cut ≡ kid_lows e (Some (cut, right)) lows
behind_lows e cut right [] [] same some = absurd (omega arith)
behind_lows e cut right [] (id ∷ ids) same some = absurd (omega arith)
behind_lows e cut right (low ∷ lows) ids same some = ap (λ xs. low ∷ xs) (insert_lows (up_to comes_before e) cut right lows)

pub behind_ids : (e cut : IndexEntry) (right : ℕ) (lows : List IndexEntry) (ids : List ℕ) → length lows ≡ length ids → 0 < length ids → insert ids (behind_child e lows) right ≡ kid_ids e (Some (cut, right)) lows ids
behind_ids e cut right [] [] same some = absurd (omega arith)
behind_ids e cut right [] (id ∷ ids) same some = absurd (omega arith)
behind_ids e cut right (low ∷ lows) [] same some = absurd (omega arith)
behind_ids e cut right (low ∷ lows) (id ∷ ids) same some = ap (λ xs. id ∷ xs) (insert_ids (up_to comes_before e) cut right lows ids (omega arith))

pub behind_within : (e : IndexEntry) (lows : List IndexEntry) → 0 < length lows → behind_child e lows ≤ length lows
behind_within e [] some = absurd (omega arith)
behind_within e (low ∷ lows) some = let rest = passed_within (up_to comes_before e) lows in omega arith

-- the child before that place
child_passed : (goes : IndexEntry → Bool) (id : ℕ) (lows : List IndexEntry) (ids : List ℕ) (d : ℕ) → length lows ≡ length ids → get_or (id ∷ ids) (passed_first goes lows) d ≡ (child_from goes id lows ids None).0
child_passed goes id [] ids d same = refl
child_passed goes id (low ∷ lows) [] d same = absurd (omega arith)
child_passed goes id (low ∷ lows) (kid ∷ kids) d same = elim (cases_Bool (goes low)) [
  | inl t ↦ rw t (child_passed goes kid lows kids d (omega arith))
  | inr f ↦ rw f refl
]

pub child_behind : (e : IndexEntry) (lows : List IndexEntry) (ids : List ℕ) (i d : ℕ) → suc i ≡ behind_child e lows → length lows ≡ length ids → 0 < length ids → get_or ids i d ≡ (child_in (up_to comes_before e) lows ids None).0
child_behind e [] [] i d at same some = absurd (omega arith)
child_behind e [] (id ∷ ids) i d at same some = absurd (omega arith)
child_behind e (low ∷ lows) [] i d at same some = absurd (omega arith)
child_behind e (low ∷ lows) (id ∷ ids) i d at same some =
    let place : i ≡ passed_first (up_to comes_before e) lows = omega arith in
    rw place (child_passed (up_to comes_before e) id lows ids d (omega arith))
