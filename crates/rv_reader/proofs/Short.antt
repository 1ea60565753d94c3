-- How long leaves are: a leaf is told by the cut at which it begins, so that what holds of the leaves which tests of a
-- front part find holds of those that any test finds.
use Rattle.std.proofs.Common.{◌≡◌, ◌≤◌, List, [], ◌∷◌, Bool, true, false, not, cond, Option, Some, None, IfSome, refl, length, subst}
use Rattle.std.specs.List.{list_all}
use Rattle.std.proofs.lemmas.Bool.{and_parts, not-true}
use Rattle.rv_value.specs.declared.record.IndexEntry.{IndexEntry}
use Rattle.rv_reader.specs.Entries.{comes_before, Ascend}
use Rattle.rv_reader.specs.Leaves.{Leaf, leaf_from, leaf_entries}
use Rattle.rv_reader.proofs.Orders.{itself, one_way, order}

-- not behind the cut at which a leaf begins
abbrev reached : Option IndexEntry → IndexEntry → Bool
reached None e = false
reached (Some low) e = not (comes_before low e)

reached_before : (low : Option IndexEntry) (x c : IndexEntry) → comes_before x c ≡ true → reached low c ≡ true → reached low x ≡ true
reached_before None x c h r = r
reached_before (Some low) x c h r = rw (order.chain low c x (not-true (comes_before low c) r) (one_way x c h)) refl

-- a leaf that begins at a cut, or at a later one, has reached the entries before them
low_reached : (passes : IndexEntry → Bool) (k low : IndexEntry) (cuts : List IndexEntry) → comes_before low k ≡ false → list_all (comes_before k) cuts ≡ true → reached (leaf_from passes (Some low) cuts).low k ≡ true
low_reached passes k low [] f above = rw f refl
low_reached passes k low (c ∷ cuts) f above =
    let parts = and_parts (comes_before k c) (list_all (comes_before k) cuts) above in
    elim (passes c) as (λ b. reached (cond b (leaf_from passes (Some c) cuts) (record { low = Some low; next = Some c })).low k ≡ true) [
      | true ↦ low_reached passes k c cuts (one_way k c parts.0) parts.1
      | false ↦ rw f refl
    ]

same_from : (passes : IndexEntry → Bool) (low : Option IndexEntry) (cuts : List IndexEntry) → Ascend cuts → IfSome low (λ w. list_all (comes_before w) cuts ≡ true) → leaf_from (reached (leaf_from passes low cuts).low) low cuts ≡ leaf_from passes low cuts
same_from passes low [] ascend l = refl
same_from passes low (c ∷ cuts) ascend l =
    elim (passes c) as (λ b. leaf_from (reached (cond b (leaf_from passes (Some c) cuts) (record { low = low; next = Some c })).low) low (c ∷ cuts) ≡ cond b (leaf_from passes (Some c) cuts) (record { low = low; next = Some c })) [
      | true ↦ rw (low_reached passes c c cuts (itself c) ascend.0) (same_from passes (Some c) cuts ascend.1 ascend.0)
      | false ↦ rw (stops low l) refl
    ]
  where
    stops : (w : Option IndexEntry) → IfSome w (λ x. list_all (comes_before x) (c ∷ cuts) ≡ true) → reached w c ≡ false
    stops None h = refl
    stops (Some x) h = rw ((and_parts (comes_before x c) (list_all (comes_before x) cuts) h).0) refl

-- Where each leaf that a test of a front part finds is short, each leaf is.
pub short_by : (entries cuts : List IndexEntry) → Ascend cuts
    → ((goes : IndexEntry → Bool) → ((x c : IndexEntry) → comes_before x c ≡ true → goes c ≡ true → goes x ≡ true) → length (leaf_entries (leaf_from goes None cuts) entries) ≤ 32)
    → (passes : IndexEntry → Bool) → length (leaf_entries (leaf_from passes None cuts) entries) ≤ 32
short_by entries cuts ascend each passes =
    let low = (leaf_from passes None cuts).low in
    subst (λ (leaf : Leaf). length (leaf_entries leaf entries) ≤ 32) (same_from passes None cuts ascend tt) (each (reached low) (reached_before low))
