-- The first scan's list: what a leaf adds to it, and what it is when the scan is over.
use Rattle.std.proofs.Common.{◌≡◌, ℕ, ◌+◌, ◌≤◌, List, [], ◌++◌, Bool, true, false, ◌&&◌, ◌||◌, nat_eq, nat_lt, refl, ap, sym, ◌∙◌, arith, subst, Option, Some, None, inl, inr, Result, Ok, Err, IfOk, OnErr, IsPermutation, is_some, length, not}
use Rattle.std.proofs.lemmas.Bool.Decides.{nat_tests}
use Rattle.std.proofs.lemmas.List.Elements.{filter-append}
use Rattle.std.proofs.lemmas.List.Sorted.{list_any-IsPermutation}
use Rattle.std.proofs.Math.Bool.{or-false}
use Rattle.rv_value.proofs.Tests.{no_way}
use Rattle.rv_value.specs.declared.record.IndexEntry.{IndexEntry}
use Rattle.rv_keylist.specs.Keys.{has_key}
use Rattle.rv_keylist.proofs.Onces.{key_append}
use Rattle.rv_restrict.specs.Parts.{Parted, passes}
use Rattle.rv_reader.specs.Leaves.{run_after}
use Rattle.rv_reader.specs.Shown.{Shown}
use Rattle.rv_jscan.specs.Entries.{has_entry}
use Rattle.rv_jscan.specs.Joint.{Joint, passing, present, to_sieve, under_way}
use Rattle.rv_jscan.specs.Pieces.{kept_by, may}
use Rattle.rv_jscan.specs.Steps.{Accepts, TakeLeaves, Works, going, held_next, kept_of}
use Rattle.rv_jscan.proofs.Fits.{by_held}
use Rattle.rv_jscan.proofs.Kept.{kept_has}
use Rattle.rv_jscan.proofs.Parts.{has_append}
use Rattle.rv_retrieval.specs.Opened.{Completes, GoesOn, ScansFirst, will_have}

-- A leaf is taken up where no list is complete.

moved_over : (b e a ea m k bk : Bool) → ea ≡ (e || a) → k ≡ (e && m) → m ≡ true → bk ≡ (b || k) → (bk || a) ≡ (b || ea)
moved_over b e a ea m k bk h1 h2 h3 h4 = grind arith

-- a row stands in the list with what is kept of the leaf, or behind the leaf, where it stood in the list or ahead
passed_over : (building : List ℕ) (list : Option (List ℕ)) (part : Parted) (n : ℕ) (entries after : List IndexEntry) → list ≡ None → (has_key n (building ++ kept_by (may list) part entries) || has_entry n (passing part after)) ≡ (has_key n building || has_entry n (passing part (entries ++ after)))
passed_over building list part n entries after none =
    let s = ap (has_entry n) (filter-append (λ (e : IndexEntry). passes part e.key) entries after) in
    let h = s ∙ has_append n (passing part entries) (passing part after) in
    let k = kept_has (may list) part n entries in
    let m : may list n ≡ true = ap (λ (l : Option (List ℕ)). may l n) none in
    moved_over (has_key n building) (has_entry n (passing part entries)) (has_entry n (passing part after)) _ (may list n) _ _ h k m (key_append n building (kept_by (may list) part entries))

going_has : (j : Joint) (shown : Shown) (n : ℕ) (entries : List IndexEntry) (cut : IndexEntry) → j.list ≡ None → to_sieve j shown ≡ entries ++ run_after (shown.entries (present j).index j.snap) (present j).range (Some cut) → will_have (going j entries cut) shown n ≡ will_have j shown n
going_has j shown n entries cut none parts =
    let after = run_after (shown.entries (present j).index j.snap) (present j).range (Some cut) in
    passed_over j.building j.list (present j).part n entries after none ∙ ap (λ (left : List IndexEntry). has_key n j.building || has_entry n (passing (present j).part left)) (sym parts)

completed_has : (j : Joint) (shown : Shown) (n : ℕ) (entries : List IndexEntry) (keys : List ℕ) → j.list ≡ None → to_sieve j shown ≡ entries ++ [] → IsPermutation (j.building ++ kept_of j entries) keys → has_key n keys ≡ will_have j shown n
completed_has j shown n entries keys none parts perm = sym (list_any-IsPermutation (nat_eq n) (j.building ++ kept_of j entries) keys perm) ∙ sym (or-false _) ∙ passed_over j.building j.list (present j).part n entries [] none ∙ ap (λ (left : List IndexEntry). has_key n j.building || has_entry n (passing (present j).part left)) (sym parts)

-- What was taken up.

took_on : (shown : Shown) (old new : Joint) → TakeLeaves old new → GoesOn shown old new
took_on shown old new t = record {
  same = subst (λ (j : Joint). j ≡ record old { counts = j.counts; number = j.number; place = j.place; held = j.held; building = j.building }) (sym t.same) refl;
  has = λ n. ap (λ (j : Joint). will_have j shown n) t.same;
}

stayed_on : (shown : Shown) (old new : Joint) → new ≡ old → GoesOn shown old new
stayed_on shown old new e = record {
  same = subst (λ (j : Joint). j ≡ record old { counts = j.counts; number = j.number; place = j.place; held = j.held; building = j.building }) (sym e) refl;
  has = λ n. ap (λ (j : Joint). will_have j shown n) e;
}

then_on : (shown : Shown) (old mid new : Joint) → GoesOn shown old mid → GoesOn shown mid new → GoesOn shown old new
then_on shown old mid new g h = record {
  same = h.same ∙ ap (λ (j : Joint). record j { counts = new.counts; number = new.number; place = new.place; held = new.held; building = new.building }) g.same;
  has = λ n. h.has n ∙ g.has n;
}

then_completes : (shown : Shown) (old mid new : Joint) → GoesOn shown old mid → Completes shown mid new → Completes shown old new
then_completes shown old mid new g c = record {
  keys = c.keys;
  same = c.same ∙ ap (λ (j : Joint). record j { counts = new.counts; ended = j.ended + 1; number = new.number; place = None; held = None; building = []; list = Some c.keys }) g.same;
  has = λ n. c.has n ∙ g.has n;
  ascend = c.ascend;
}

accepted_first : (shown : Shown) (old new : Joint) (entries : List IndexEntry) (next : Option IndexEntry) → old.list ≡ None → Accepts old new entries next → to_sieve old shown ≡ entries ++ run_after (shown.entries (present old).index old.snap) (present old).range next → ScansFirst shown old new
accepted_first shown old new entries (Some cut) none a parts = record {
  either = inl (record {
    same = subst (λ (j : Joint). j ≡ record old { counts = j.counts; number = j.number; place = j.place; held = j.held; building = j.building }) (sym a) refl;
    has = λ n. ap (λ (j : Joint). will_have j shown n) a ∙ going_has old shown n entries cut none parts;
  });
}
accepted_first shown old new entries None none a parts = record {
  either = inr (record {
    keys = a.0;
    same = subst (λ (j : Joint). j ≡ record old { counts = j.counts; ended = old.ended + 1; number = j.number; place = None; held = None; building = []; list = Some a.0 }) (sym a.3) refl;
    has = λ n. completed_has old shown n entries a.0 none parts a.1;
    ascend = a.2;
  });
}

then_first : (shown : Shown) (old mid new : Joint) → GoesOn shown old mid → ScansFirst shown mid new → ScansFirst shown old new
then_first shown old mid new g f = elim f.either [
  | inl h ↦ record { either = inl (then_on shown old mid new g h) }
  | inr c ↦ record { either = inr (then_completes shown old mid new g c) }
]

works_first : (shown : Shown) (old new : Joint) → old.list ≡ None → Works shown old new → ScansFirst shown old new
works_first shown old new none w =
    let took = took_on shown old w.taken w.leaves in
    let parts = by_held w.taken shown w.piece.entries w.taken.held w.gives.0.entries w.fits.drawn in
    then_first shown old w.taken new took (accepted_first shown w.taken new w.piece.entries (held_next w.taken.held) (ap (λ (j : Joint). j.list) w.leaves.same ∙ none) w.gives.1 parts)

pub worked_first : {E : Type 0} (r : Result Bool E) (shown : Shown) (old new : Joint) → IfOk r (λ more. more ≡ true → Works shown old new) → IfOk r (λ more. more ≡ false → (under_way old ≡ false) × (new ≡ old)) → OnErr r (TakeLeaves old new) → old.list ≡ None → ScansFirst shown old new
worked_first (Ok true) shown old new works off err none = works_first shown old new none (works refl)
worked_first (Ok false) shown old new works off err none = record { either = inl (stayed_on shown old new (off refl).1) }
worked_first (Err e) shown old new works off err none = record { either = inl (took_on shown old new err) }

-- where no scan is under way nothing is taken up
pub worked_stays : {E : Type 0} (r : Result Bool E) (shown : Shown) (old new : Joint) → IfOk r (λ more. more ≡ true → Works shown old new) → IfOk r (λ more. more ≡ false → (under_way old ≡ false) × (new ≡ old)) → OnErr r (TakeLeaves old new) → under_way old ≡ false → new ≡ old
worked_stays (Ok true) shown old new works off err idle =
    let w = works refl in
    no_way (sym w.gives.0.way ∙ ap under_way w.leaves.same ∙ idle)
worked_stays (Ok false) shown old new works off err idle = (off refl).1
worked_stays (Err e) shown old new works off err idle = err.none (ap (λ (b : Bool). b && not (is_some old.held)) idle)

-- One scan alone, leaf by leaf.

pub first_begins : (shown : Shown) (j : Joint) → ScansFirst shown j j
first_begins shown j = record { either = inl (stayed_on shown j j refl) }

over_after : (ended count : ℕ) (more : Bool) → count ≤ 1 → (nat_lt (ended + 1) count && more) ≡ false
over_after ended count more few = grind (arith, nat_tests)

pub first_then : (shown : Shown) (old mid new : Joint) → length old.plans ≤ 1 → old.list ≡ None → ScansFirst shown old mid → (mid.list ≡ None → ScansFirst shown mid new) → (under_way mid ≡ false → new ≡ mid) → ScansFirst shown old new
first_then shown old mid new few none f more idle = elim f.either [
  | inl g ↦ then_first shown old mid new g (more (ap (λ (j : Joint). j.list) g.same ∙ none))
  | inr c ↦ subst (ScansFirst shown old) (sym (idle (ap under_way c.same ∙ over_after old.ended (length old.plans) _ few))) f
]

-- the scan is over
pub first_over : (shown : Shown) (old mid new : Joint) → under_way old ≡ true → under_way mid ≡ false → ScansFirst shown old mid → new ≡ mid → Completes shown old new
first_over shown old mid new way over f e = subst (Completes shown old) (sym e) (elim f.either [
  | inl g ↦ no_way (sym way ∙ sym (ap under_way g.same) ∙ over)
  | inr c ↦ c
])
