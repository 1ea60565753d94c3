-- What a reader tells of an index over the table that a statement writes: the store, and the store under a view.
use Rattle.std.proofs.Common.{◌≡◌, ℕ, zero, suc, ◌<◌, List, [], ◌∷◌, ◌++◌, true, Option, Some, None, ap, sym, subst, ◌∙◌, filter, length, arith, nat_eq}
use Rattle.std.proofs.lemmas.Bool.Decides.{nat_tests}
use Rattle.std.specs.Prelude.{slice_get}
use Rattle.rv_reader.proofs.Rows.{applied_ascends}
use Rattle.rv_value.specs.declared.record.IndexEntry.{IndexEntry}
use Rattle.rv_rows.specs.Changes.{rows_with_changes}
use Rattle.rv_catalog.specs.declared.def.IndexDef.{IndexDef}
use Rattle.rv_reader.specs.Entries.{comes_before, entries_of}
use Rattle.rv_reader.specs.Shown.{Shown, CanRead, CanScan, IsSnapshot}
use Rattle.rv_reader.specs.Storing.{AreKeys, IsStored}
use Rattle.rv_model.specs.declared.transactions.Transaction.{Transaction}
use Rattle.rv_reader.proofs.Sorting.{keys_filter}
use Rattle.rv_overlay.specs.declared.frozen.Frozen.{Frozen}
use Rattle.rv_overlay.specs.Laying.{laid, marks, sixteenths, with_all}
use Rattle.rv_overlay.specs.Overlaid.{part_at}
use Rattle.rv_overlay.proofs.Viewing.{view_is}
use Rattle.rv_view.specs.Making.{AreIndexes, KeepsPart}
use Rattle.rv_view.specs.Sights.{LaysSome, laid_over}
use Rattle.rv_view.proofs.Laying.{lays_kept}
use Rattle.rv_own.specs.Views.{Freezes, IsFrozenOf}
use Rattle.rv_rivals.specs.Lookups.{HasIndex, IsPlace, Tells}

-- Keys of the view's cuts.

keys_joined : (n : ℕ) (xs ys : List IndexEntry) → AreKeys n xs → AreKeys n ys → AreKeys n (xs ++ ys)
keys_joined n [] ys first then = then
keys_joined n (x ∷ xs) ys first then = (first.0, keys_joined n xs ys first.1 then)

pub keys_all : (n : ℕ) (es cuts : List IndexEntry) → AreKeys n es → AreKeys n cuts → AreKeys n (with_all es cuts)
keys_all n [] cuts more all = all
keys_all n (e ∷ es) cuts more all = keys_all n es _ more.1
    (keys_joined n (filter (λ x. comes_before x e) cuts) (e ∷ filter (λ x. comes_before e x) cuts) (keys_filter n _ cuts all) (more.0, keys_filter n _ cuts all))

pub keys_marks : (n left : ℕ) (es : List IndexEntry) → AreKeys n es → AreKeys n (marks left es)
keys_marks n left [] all = tt
keys_marks n zero (e ∷ es) all = (all.0, keys_marks n 15 es all.1)
keys_marks n (suc left) (e ∷ es) all = keys_marks n left es all.1

-- An index in its place.

pub has_index : (shown : Shown) (indexes : List IndexDef) (table number : ℕ) (columns : List ℕ) → AreIndexes shown indexes → IsPlace indexes table number columns → HasIndex shown table number columns
has_index shown indexes table number columns are place =
    let low = within indexes number place.def place.at in
    let count = are.count in
    record {
      there = omega (arith, count, low);
      over = are.over number place.def place.at ∙ place.over;
      keys = are.keys number place.def place.at ∙ place.of;
    }
  where
    within : (xs : List IndexDef) (i : ℕ) (d : IndexDef) → slice_get xs i ≡ Some d → i < length xs
    within [] i d is = cc
    within (x ∷ xs) zero d is = omega arith
    within (x ∷ xs) (suc i) d is = (let rest = within xs i d is in omega (arith, rest))

-- THE STORE.

pub store_tells : (shown : Shown) (table number snap : ℕ) (columns : List ℕ) → IsStored shown → HasIndex shown table number columns → IsSnapshot shown snap → Tells shown number snap columns (shown.rows table snap)
store_tells shown table number snap columns stored index at =
    let can : CanScan shown number snap = record { there = index.there; snapshot = at } in
    let kept = stored.kept number snap can in
    let read : CanRead shown table snap = record { there = subst (λ (t : ℕ). t < shown.tables) index.over (stored.over number index.there).table; snapshot = at } in
    record {
      can = can;
      ascend = stored.ascend table snap read;
      entries = kept.entries ∙ (λ i. entries_of (index.keys i) (shown.rows (index.over i) snap));
      cuts = subst (λ (ks : List ℕ). AreKeys (length ks) (shown.cuts number snap)) index.keys kept.cuts;
    }

-- THE STORE UNDER A VIEW.

pub lays : (shown : Shown) (t : Transaction) (view : Option Frozen) → IsStored shown → Freezes shown t view → LaysSome shown view
lays shown t None stored freezes = tt
lays shown t (Some f) stored freezes = lays_kept shown f freezes.written stored freezes.keeps

frozen_tells : (shown : Shown) (t : Transaction) (f : Frozen) (table number : ℕ) (columns : List ℕ) → IsStored shown → HasIndex shown table number columns → IsSnapshot shown t.base → IsFrozenOf shown t f
    → Tells (laid_over shown (Some f)) number t.base columns (rows_with_changes table t.changes (shown.rows table t.base))
frozen_tells shown t f table number columns stored index at frozen =
    let own = store_tells shown table number t.base columns stored index at in
    let base = frozen.base in
    let here : nat_eq t.base f.base ≡ true = grind (arith, nat_tests, base) in
    let part = part_at f.parts number in
    let rows = shown.rows table t.base in
    let can : CanScan shown number f.base = subst (CanScan shown number) (sym base) own.can in
    let kept : KeepsPart columns table f.changes rows part =
    subst (λ ks. KeepsPart ks table f.changes rows part) index.keys
    (subst (λ n. KeepsPart (shown.keys number) n f.changes (shown.rows n t.base) part) index.over
    (subst (λ s. KeepsPart (shown.keys number) (shown.over number) f.changes (shown.rows (shown.over number) s) part) base (frozen.keeps.each number can))) in
    let lays_index = (lays_kept shown f frozen.written stored frozen.keeps).each number can in
    let entries = ap (λ es. laid part.taken part.added es) own.entries ∙ view_is columns table f.changes rows part.taken part.added own.ascend frozen.keeps.rise kept.freezes
    ∙ ap (λ cs. entries_of columns (rows_with_changes table cs rows)) frozen.changes in
    record {
      can = record { there = own.can.there; snapshot = record { kept = own.can.snapshot.kept; known = own.can.snapshot.known } };
      ascend = applied_ascends table t.changes rows own.ascend;
      entries = rw here entries;
      cuts = rw here (keys_all (length columns) (sixteenths part.added) (shown.cuts number t.base) (keys_marks (length columns) 0 part.added (subst (λ n. AreKeys n part.added) kept.width lays_index.added_keys)) own.cuts);
    }

pub view_tells : (shown : Shown) (t : Transaction) (view : Option Frozen) (table number : ℕ) (columns : List ℕ) → IsStored shown → HasIndex shown table number columns → IsSnapshot shown t.base → Freezes shown t view
    → Tells (laid_over shown view) number t.base columns (rows_with_changes table t.changes (shown.rows table t.base))
view_tells shown t None table number columns stored index at freezes =
    let none : t.changes ≡ [] = freezes in
    subst (λ cs. Tells shown number t.base columns (rows_with_changes table cs (shown.rows table t.base))) (sym none) (store_tells shown table number t.base columns stored index at)
view_tells shown t (Some f) table number columns stored index at freezes = frozen_tells shown t f table number columns stored index at freezes
