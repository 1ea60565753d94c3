-- What a snapshot shows stays, as long as the reader keeps it.
use Rattle.std.proofs.Common.{◌≡◌, ℕ, ◌<◌, List, [], refl, ap, sym, subst, arith, Bool, true, false, nat_lt, nat_eq, max, min, inl, inr, if◌then◌else◌}
use Rattle.std.proofs.Math.Path.{fun_ext}
use Rattle.std.proofs.lemmas.Bool.{cases_Bool, ltb-true, cond-true}
use Rattle.std.proofs.lemmas.Bool.Decides.{nat_tests}
use Rattle.rv_value.specs.declared.record.Record.{Record}
use Rattle.rv_value.specs.declared.record.IndexEntry.{IndexEntry}
use Rattle.rv_value.specs.declared.range.Range.{Range}
use Rattle.rv_reader.specs.declared.reader.Estimate.{Estimate}
use Rattle.rv_reader.specs.Entries.{AreLong}
use Rattle.rv_reader.specs.Shown.{Shown, IsSnapshot, CanRead, CanScan, Suits}
use Rattle.rv_reader.specs.Storing.{Stays}
use Rattle.rv_view.specs.Alone.{alone, is_there, no_estimate}

-- a snapshot of one snapshot is that one, and is the reader's
same_snapshot : (shown : Shown) (snap s : ℕ) → IsSnapshot (alone shown snap) s → s ≡ snap
same_snapshot shown snap s h = omega (arith, h.kept, h.known)

own_snapshot : (shown : Shown) (snap s : ℕ) → IsSnapshot (alone shown snap) s → IsSnapshot shown s
own_snapshot shown snap s h = record { kept = omega (arith, h.kept); known = omega (arith, h.known) }

there : (count snap number at : ℕ) → number < count → at ≡ snap → is_there count snap number at ≡ true
there count snap number at h e = let l : nat_lt number count ≡ true = grind (arith, nat_tests) in let q : nat_eq at snap ≡ true = grind (arith, nat_tests) in rw (l, q) refl

-- What it shows is what the reader shows.

pub can_read : (shown : Shown) (snap table s : ℕ) → CanRead (alone shown snap) table s → CanRead shown table s
can_read shown snap table s can = record { there = can.there; snapshot = own_snapshot shown snap s can.snapshot }

pub can_scan : (shown : Shown) (snap index s : ℕ) → CanScan (alone shown snap) index s → CanScan shown index s
can_scan shown snap index s can = record { there = can.there; snapshot = own_snapshot shown snap s can.snapshot }

pub same_rows : (shown : Shown) (snap table s : ℕ) → CanRead (alone shown snap) table s → (alone shown snap).rows table s ≡ shown.rows table s
same_rows shown snap table s can = cond-true (is_there shown.tables snap table s) (shown.rows table s) [] (there shown.tables snap table s can.there (same_snapshot shown snap s can.snapshot))

pub same_pages : (shown : Shown) (snap table s : ℕ) → CanRead (alone shown snap) table s → (alone shown snap).pages table s ≡ shown.pages table s
same_pages shown snap table s can = cond-true (is_there shown.tables snap table s) (shown.pages table s) 0 (there shown.tables snap table s can.there (same_snapshot shown snap s can.snapshot))

pub same_entries : (shown : Shown) (snap index s : ℕ) → CanScan (alone shown snap) index s → (alone shown snap).entries index s ≡ shown.entries index s
same_entries shown snap index s can = cond-true (is_there shown.indexes snap index s) (shown.entries index s) [] (there shown.indexes snap index s can.there (same_snapshot shown snap s can.snapshot))

pub same_cuts : (shown : Shown) (snap index s : ℕ) → CanScan (alone shown snap) index s → (alone shown snap).cuts index s ≡ shown.cuts index s
same_cuts shown snap index s can = cond-true (is_there shown.indexes snap index s) (shown.cuts index s) [] (there shown.indexes snap index s can.there (same_snapshot shown snap s can.snapshot))

pub same_estimate : (shown : Shown) (snap index s : ℕ) (range : Range) → CanScan (alone shown snap) index s → (alone shown snap).estimates index s range ≡ shown.estimates index s range
same_estimate shown snap index s range can = cond-true (is_there shown.indexes snap index s) (shown.estimates index s range) no_estimate (there shown.indexes snap index s can.there (same_snapshot shown snap s can.snapshot))

pub suits_own : (shown : Shown) (snap index s : ℕ) (range : Range) → CanScan (alone shown snap) index s → Suits (alone shown snap) index s range → Suits shown index s range
suits_own shown snap index s range can h = record {
  entries = subst (AreLong range) (same_entries shown snap index s can) h.entries;
  cuts = subst (AreLong range) (same_cuts shown snap index s can) h.cuts;
}

-- The other way, at the snapshot itself.

pub at_alone : (shown : Shown) (snap : ℕ) → IsSnapshot shown snap → IsSnapshot (alone shown snap) snap
at_alone shown snap h = record { kept = omega (arith, h.kept); known = omega (arith, h.known) }

pub reads_alone : (shown : Shown) (snap table : ℕ) → CanRead shown table snap → CanRead (alone shown snap) table snap
reads_alone shown snap table can = record { there = can.there; snapshot = at_alone shown snap can.snapshot }

pub scans_alone : (shown : Shown) (snap index : ℕ) → CanScan shown index snap → CanScan (alone shown snap) index snap
scans_alone shown snap index can = record { there = can.there; snapshot = at_alone shown snap can.snapshot }

-- THE SNAPSHOT STAYS: with the same tables and indexes, a reader that keeps it shows the same at it.

one_same : {X : Type 0} (b c : Bool) (x y z : X) → b ≡ c → (b ≡ true → y ≡ x) → (if c then y else z) ≡ (if b then x else z)
one_same true c x y z e h = rw (← e) (h refl)
one_same false c x y z e h = rw (← e) refl

split_there : (count snap number at : ℕ) → is_there count snap number at ≡ true → (number < count) × (at ≡ snap)
split_there count snap number at h = elim (cases_Bool (nat_lt number count)) [
  | inl l ↦ (ltb-true number count l, equal (rw l at h))
  | inr g ↦ absurd (no_way (rw g at h))
]
  where
    equal : nat_eq at snap ≡ true → at ≡ snap
    equal k = grind (arith, nat_tests)

    no_way : false ≡ true → ⊥
    no_way k = cc

pub alone_stays : (old new : Shown) (snap : ℕ) → new.tables ≡ old.tables → new.indexes ≡ old.indexes → IsSnapshot old snap → IsSnapshot new snap → Stays old new → alone new snap ≡ alone old snap
alone_stays old new snap tables indexes was is stays =
    let horizon : max new.horizon snap ≡ max old.horizon snap = omega (arith, was.kept, is.kept) in
    let newest : min new.newest snap ≡ min old.newest snap = omega (arith, was.known, is.known) in
    let counted : (t : ℕ) → nat_lt t old.tables ≡ nat_lt t new.tables = λ t. ap (nat_lt t) (sym tables) in
    let numbered : (i : ℕ) → nat_lt i old.indexes ≡ nat_lt i new.indexes = λ i. ap (nat_lt i) (sym indexes) in
    let tabled : (t s : ℕ) → is_there old.tables snap t s ≡ is_there new.tables snap t s = λ t s. ap (λ n. is_there n snap t s) (sym tables) in
    let indexed : (i s : ℕ) → is_there old.indexes snap i s ≡ is_there new.indexes snap i s = λ i s. ap (λ n. is_there n snap i s) (sym indexes) in
    let read : (t s : ℕ) → is_there old.tables snap t s ≡ true → CanRead old t s = λ t s h. let p = split_there old.tables snap t s h in record { there = p.0; snapshot = rw p.1 was } in
    let scan : (i s : ℕ) → is_there old.indexes snap i s ≡ true → CanScan old i s = λ i s h. let p = split_there old.indexes snap i s h in record { there = p.0; snapshot = rw p.1 was } in
    let still_t : (t s : ℕ) → is_there old.tables snap t s ≡ true → IsSnapshot new s = λ t s h. rw (split_there old.tables snap t s h).1 is in
    let still_i : (i s : ℕ) → is_there old.indexes snap i s ≡ true → IsSnapshot new s = λ i s h. rw (split_there old.indexes snap i s h).1 is in
    let columns : (alone new snap).columns ≡ (alone old snap).columns = fun_ext (λ t. one_same (nat_lt t old.tables) (nat_lt t new.tables) (old.columns t) (new.columns t) 0 (counted t) (λ h. stays.columns t (ltb-true t old.tables h))) in
    let over : (alone new snap).over ≡ (alone old snap).over = fun_ext (λ i. one_same (nat_lt i old.indexes) (nat_lt i new.indexes) (old.over i) (new.over i) 0 (numbered i) (λ h. stays.over i (ltb-true i old.indexes h))) in
    let keys : (alone new snap).keys ≡ (alone old snap).keys = fun_ext (λ i. one_same (nat_lt i old.indexes) (nat_lt i new.indexes) (old.keys i) (new.keys i) [] (numbered i) (λ h. stays.keys i (ltb-true i old.indexes h))) in
    let rows : (alone new snap).rows ≡ (alone old snap).rows = fun_ext (λ t. fun_ext (λ s. one_same (is_there old.tables snap t s) (is_there new.tables snap t s) (old.rows t s) (new.rows t s) [] (tabled t s) (λ h. stays.rows t s (read t s h) (still_t t s h)))) in
    let pages : (alone new snap).pages ≡ (alone old snap).pages = fun_ext (λ t. fun_ext (λ s. one_same (is_there old.tables snap t s) (is_there new.tables snap t s) (old.pages t s) (new.pages t s) 0 (tabled t s) (λ h. stays.pages t s (read t s h) (still_t t s h)))) in
    let entries : (alone new snap).entries ≡ (alone old snap).entries = fun_ext (λ i. fun_ext (λ s. one_same (is_there old.indexes snap i s) (is_there new.indexes snap i s) (old.entries i s) (new.entries i s) [] (indexed i s) (λ h. stays.entries i s (scan i s h) (still_i i s h)))) in
    let cuts : (alone new snap).cuts ≡ (alone old snap).cuts = fun_ext (λ i. fun_ext (λ s. one_same (is_there old.indexes snap i s) (is_there new.indexes snap i s) (old.cuts i s) (new.cuts i s) [] (indexed i s) (λ h. stays.cuts i s (scan i s h) (still_i i s h)))) in
    let estimates : (alone new snap).estimates ≡ (alone old snap).estimates = fun_ext (λ i. fun_ext (λ s. fun_ext (λ (range : Range). one_same (is_there old.indexes snap i s) (is_there new.indexes snap i s) (old.estimates i s range) (new.estimates i s range) no_estimate (indexed i s) (λ h. stays.estimates i s range (scan i s h) (still_i i s h))))) in
    shown_is (alone new snap) (alone old snap) tables indexes horizon newest columns over keys rows pages entries cuts estimates
  where
    made : ℕ → ℕ → ℕ → ℕ → (ℕ → ℕ) → (ℕ → ℕ) → (ℕ → List ℕ) → (ℕ → ℕ → List Record) → (ℕ → ℕ → ℕ) → (ℕ → ℕ → List IndexEntry) → (ℕ → ℕ → List IndexEntry) → (ℕ → ℕ → Range → Estimate) → Shown
    made t i h n c o k r p e u s = record { tables = t; indexes = i; horizon = h; newest = n; columns = c; over = o; keys = k; rows = r; pages = p; entries = e; cuts = u; estimates = s }

    shown_is : (a b : Shown) → a.tables ≡ b.tables → a.indexes ≡ b.indexes → a.horizon ≡ b.horizon → a.newest ≡ b.newest → a.columns ≡ b.columns → a.over ≡ b.over → a.keys ≡ b.keys → a.rows ≡ b.rows → a.pages ≡ b.pages → a.entries ≡ b.entries → a.cuts ≡ b.cuts → a.estimates ≡ b.estimates → a ≡ b
    shown_is a b t i h n c o k r p e u s =
        let same : made a.tables a.indexes a.horizon a.newest a.columns a.over a.keys a.rows a.pages a.entries a.cuts a.estimates ≡ made b.tables b.indexes b.horizon b.newest b.columns b.over b.keys b.rows b.pages b.entries b.cuts b.estimates = rw (t, i, h, n, c, o, k, r, p, e, u, s) refl in
        same
