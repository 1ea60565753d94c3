-- The parts of a view, and a list of changes, one more at a time.
use Rattle.std.proofs.Common.{◌≡◌, ℕ, zero, suc, ◌+◌, ◌<◌, arith, List, [], ◌∷◌, ◌++◌, true, Option, Some, refl, ap, sym, subst, ◌∙◌, take, drop, length}
use Rattle.std.specs.Prelude.{slice_get, slice_set}
use Rattle.std.proofs.lemmas.List.Folds.{list_all-append}
use Rattle.std.specs.List.{list_all}
use Rattle.std.proofs.lemmas.Bool.{and_parts}
use Rattle.std.proofs.lemmas.Option.{same_Some}
use Rattle.rv_value.specs.declared.record.Record.{Record}
use Rattle.rv_rows.specs.declared.changes.Change.{Change}
use Rattle.rv_rows.specs.Changes.{Rise, is_before, with_change}
use Rattle.rv_rows.proofs.Chains.{by_row}
use Rattle.rv_rows.proofs.Filters.{filter_none}
use Rattle.rv_rows.proofs.Puts.{filter_all}
use Rattle.rv_catalog.specs.declared.def.IndexDef.{IndexDef}
use Rattle.rv_overlay.specs.declared.frozen.Part.{Part}
use Rattle.rv_view.specs.Making.{empty_part, empty_parts, part_after, parts_after}

-- The item of a place has what all have.

-- The part of a place.

pub record There (ps : List Part) (k : ℕ) : Type 0 where
  pub part : Part
  pub is : slice_get ps k ≡ Some part

pub part_there : (ps : List Part) (k : ℕ) → k < length ps → There ps k
part_there [] k low = absurd (omega (arith, low))
part_there (p ∷ ps) zero low = record { part = p; is = refl }
part_there (p ∷ ps) (suc k) low =
    let rest = part_there ps k (omega (arith, low)) in
    record { part = rest.part; is = rest.is }

-- A part put where it stood leaves the parts as they are.

-- One part more is brought up to date.

pub parts_step : (ds : List IndexDef) (k : ℕ) (d : IndexDef) (table : ℕ) (base old new : Option Record) (ps : List Part) (p : Part) → slice_get ds k ≡ Some d
    → slice_get (parts_after (take k ds) table base old new ps) k ≡ Some p
    → slice_set (parts_after (take k ds) table base old new ps) k (part_after d table base old new p) ≡ parts_after (take (suc k) ds) table base old new ps
parts_step [] k d table base old new ps p is got = cc
parts_step (e ∷ ds) zero d table base old new [] p is got = cc
parts_step (e ∷ ds) zero d table base old new (q ∷ ps) p is got =
    let def : d ≡ e = sym (same_Some e d is) in
    let part : p ≡ q = sym (same_Some q p got) in
    λ i. part_after (def i) table base old new (part i) ∷ ps
parts_step (e ∷ ds) (suc k) d table base old new [] p is got = cc
parts_step (e ∷ ds) (suc k) d table base old new (q ∷ ps) p is got = ap (λ xs. part_after e table base old new q ∷ xs) (parts_step ds k d table base old new ps p is got)

-- Changes that rise, one more at a time.

all_front : (xs : List Change) (c : Change) (ys : List Change) → Rise (xs ++ c ∷ ys) → list_all (λ d. is_before d c) xs ≡ true
all_front [] c ys rise = refl
all_front (x ∷ xs) c ys rise =
    let parts = and_parts (list_all (is_before x) xs) (list_all (is_before x) (c ∷ ys)) (sym (list_all-append (is_before x) xs (c ∷ ys)) ∙ rise.0) in
    let here = and_parts (is_before x c) (list_all (is_before x) ys) parts.1 in
    rw here.0 (all_front xs c ys rise.1)

pub change_next : (xs : List Change) (c : Change) (ys : List Change) → Rise (xs ++ c ∷ ys) → with_change c xs ≡ xs ++ c ∷ []
change_next xs c ys rise =
    let front = all_front xs c ys rise in
    let none = filter_none (λ d. is_before d c) (λ d. is_before c d) xs front (λ d h. by_row.one_way d c h) in
    λ i. filter_all (λ d. is_before d c) xs front i ++ c ∷ none i

pub taken_next : (xs : List Change) (k : ℕ) (c : Change) → slice_get xs k ≡ Some c → Rise xs → with_change c (take k xs) ≡ take (suc k) xs
taken_next xs k c is rise = change_next (take k xs) c (drop (suc k) xs) (subst Rise (sym (cut xs k c is)) rise) ∙ more xs k c is
  where
    more : (ys : List Change) (n : ℕ) (d : Change) → slice_get ys n ≡ Some d → take n ys ++ d ∷ [] ≡ take (suc n) ys
    more [] n d is = cc
    more (y ∷ ys) zero d is = ap (λ x. x ∷ []) (sym (same_Some y d is))
    more (y ∷ ys) (suc n) d is = ap (λ zs. y ∷ zs) (more ys n d is)

    cut : (ys : List Change) (n : ℕ) (d : Change) → slice_get ys n ≡ Some d → take n ys ++ d ∷ drop (suc n) ys ≡ ys
    cut [] n d is = cc
    cut (y ∷ ys) zero d is = ap (λ x. x ∷ ys) (sym (same_Some y d is))
    cut (y ∷ ys) (suc n) d is = ap (λ zs. y ∷ zs) (cut ys n d is)

-- The empty parts, one more at a time.

pub empty_more : (ds : List IndexDef) (k : ℕ) (d : IndexDef) → slice_get ds k ≡ Some d → empty_parts (take k ds) ++ empty_part d ∷ [] ≡ empty_parts (take (suc k) ds)
empty_more [] k d is = cc
empty_more (e ∷ ds) zero d is = ap (λ (x : IndexDef). empty_part x ∷ []) (sym (same_Some e d is))
empty_more (e ∷ ds) (suc k) d is = ap (λ ps. empty_part e ∷ ps) (empty_more ds k d is)
