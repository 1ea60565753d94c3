-- What stands in a place of a list, what is found in it and taken out, and steps of the loops.
use Rattle.std.proofs.Common.{◌≡◌, ℕ, zero, suc, ◌<◌, ◌≤◌, List, [], ◌∷◌, ◌++◌, Bool, true, false, not, ◌==◌, Some, None, Result, Ok, Err, OnOk, OnErr, ◌⊎◌, inl, inr, refl, ap, sym, subst, ◌∙◌, arith, cond, length, take, filter, find, remove}
use Rattle.std.specs.Prelude.{position, slice_get, slice_index_or}
use Rattle.std.specs.List.{AllByRecursion, position_or_len}
use Rattle.std.proofs.lemmas.Bool.{cases_Bool}
use Rattle.std.proofs.lemmas.Bool.Decides.{nat_tests}
use Rattle.std.proofs.lemmas.Grind.{common_steps}
use Rattle.std.proofs.lemmas.List.Folds.{find_at}
use Rattle.std.proofs.lemmas.List.Quantifiers.{position-Some}
use Rattle.std.proofs.lemmas.Option.{same_Some, slice_get_past}
use Rattle.rv_value.proofs.Lists.{all_at, all_last}
use Rattle.rv_value.proofs.Places.{read_as}
use Rattle.rv_rows.specs.declared.changes.Change.{Change}
use Rattle.rv_rows.specs.Changes.{with_change, with_changes}
use Rattle.rv_reader.specs.Shown.{Shown, CanRead}
use Rattle.rv_overlay.specs.declared.frozen.Frozen.{Frozen}
use Rattle.rv_model.specs.declared.transactions.Transaction.{Transaction}
use Rattle.rv_view.specs.Making.{Keeps}
use Rattle.rv_own.specs.declared.views.OwnView.{OwnView}
use Rattle.rv_own.specs.Views.{AreOwn, CanKeep, IsFrozenOf, IsMadeOf, IsOwnOf, MayJoin, others, view_of}

-- ---- lists

-- ---- the first that passes

place_is : {X : Type 0} (p : X → Bool) (xs : List X) (i : ℕ) → position p xs ≡ Some i → position_or_len p xs ≡ i
place_is p xs i e = grind (arith, common_steps)

first_found : {X : Type 0} (p : X → Bool) (xs : List X) (i : ℕ) (x : X) → position p xs ≡ Some i → slice_get xs i ≡ Some x → Some x ≡ find p xs
first_found p xs i x at got = sym (find_at p xs ∙ ap (slice_get xs) (place_is p xs i at) ∙ got)

place_behind : {X : Type 0} (p : X → Bool) (xs : List X) → position p xs ≡ None → length xs ≤ position_or_len p xs
place_behind p xs e = grind (arith, common_steps)

none_found : {X : Type 0} (p : X → Bool) (xs : List X) → position p xs ≡ None → None ≡ find p xs
none_found p xs e = sym (find_at p xs ∙ slice_get_past xs (position_or_len p xs) (place_behind p xs e))

-- what is taken out of a list and does not pass leaves those that pass
filter_removed : {X : Type 0} (q : X → Bool) (xs : List X) (i : ℕ) (x : X) → slice_get xs i ≡ Some x → q x ≡ false → filter q (remove xs i) ≡ filter q xs
filter_removed q [] i x got out = cc
filter_removed q (y ∷ ys) zero x got out = sym (ap (λ b. cond b (y ∷ filter q ys) (filter q ys)) (ap q (same_Some y x got) ∙ out))
filter_removed q (y ∷ ys) (suc i) x got out = ap (λ zs. cond (q y) (y ∷ zs) zs) (filter_removed q ys i x got out)

-- ---- the view that is kept for a session

pub view_found : (session : ℕ) (views seen : List OwnView) (place : ℕ) (v : OwnView) → seen ≡ views → Some place ≡ position (λ (w : OwnView). w.session == session) seen
    → slice_get views place ≡ Some v → Some v ≡ view_of session views
view_found session views seen place v same at got = first_found (λ (w : OwnView). w.session == session) views place v (sym (at ∙ ap (position (λ (w : OwnView). w.session == session)) same)) got

pub no_view : (session : ℕ) (views seen : List OwnView) → seen ≡ views → None ≡ position (λ (w : OwnView). w.session == session) seen → None ≡ view_of session views
no_view session views seen same at = none_found (λ (w : OwnView). w.session == session) views (sym (at ∙ ap (position (λ (w : OwnView). w.session == session)) same))

pub others_left : (session : ℕ) (views seen : List OwnView) (place : ℕ) (v : OwnView) → seen ≡ views → Some place ≡ position (λ (w : OwnView). w.session == session) seen
    → slice_get views place ≡ Some v → others session (remove views place) ≡ others session views
others_left session views seen place v same at got =
    let its = position-Some (λ (w : OwnView). w.session == session) views place v (sym (at ∙ ap (position (λ (w : OwnView). w.session == session)) same)) in
    let here : (v.session == session) ≡ true = ap (λ (w : OwnView). w.session == session) (sym (read_as views place v v got)) ∙ its.1 in
    filter_removed (λ (w : OwnView). not (w.session == session)) views place v got (ap not here)

-- the view that is kept for the session of a transaction is what its changes make
pub view_made : (shown : Shown) (t : Transaction) (views : List OwnView) (v : OwnView) → AreOwn shown t views → Some v ≡ view_of t.session views → IsMadeOf shown t.session t.base t.changes v
view_made shown t [] v own is = cc
view_made shown t (w ∷ ws) v own is =
    elim (cases_Bool (w.session == t.session)) [
      | inl here ↦
          let same : v ≡ w = same_Some v w (is ∙ ap (λ b. cond b (Some w) (view_of t.session ws)) here) in
          let its : w.session ≡ t.session = grind (arith, nat_tests) in
          subst (IsMadeOf shown t.session t.base t.changes) (sym same) (own.0 its)
      | inr other ↦ view_made shown t ws v own.1 (is ∙ ap (λ b. cond b (Some w) (view_of t.session ws)) other)
    ]

-- and what freezing gives
pub found_freezes : (shown : Shown) (t : Transaction) (views seen read : List OwnView) (place : ℕ) (f : Frozen) → seen ≡ views → read ≡ views → AreOwn shown t views
    → Some place ≡ position (λ (w : OwnView). w.session == t.session) seen → ((d : OwnView) → f ≡ (slice_index_or read place d).view) → IsFrozenOf shown t f
found_freezes shown t views seen read place f same same_too own at is =
    let d : OwnView = record { session = 0; view = f; written = [] } in
    let its = position-Some (λ (w : OwnView). w.session == t.session) views place d (sym (at ∙ ap (position (λ (w : OwnView). w.session == t.session)) same)) in
    let v : OwnView = slice_index_or views place d in
    let test = its.1 in
    let there : v.session ≡ t.session = grind (arith, nat_tests, test) in
    let made : IsMadeOf shown t.session t.base t.changes v = all_at (IsOwnOf shown t) views place d own its.0 there in
    let told : f ≡ v.view = is d ∙ ap (λ (xs : List OwnView). (slice_index_or xs place d).view) same_too in
    subst (IsFrozenOf shown t) (sym told) (record { base = made.base; changes = made.changes; written = v.written; keeps = made.keeps })

pub made_freezes : (shown : Shown) (t : Transaction) (v : OwnView) (f : Frozen) → IsMadeOf shown t.session t.base t.changes v → f ≡ v.view → IsFrozenOf shown t f
made_freezes shown t v f made told = subst (IsFrozenOf shown t) (sym told) (record { base = made.base; changes = made.changes; written = v.written; keeps = made.keeps })

-- ---- what changes make

-- what is asked of changes, as the maker asks it
pub can_make : (shown : Shown) (base : ℕ) (cs : List Change) → AllByRecursion (CanKeep shown base) cs → AllByRecursion (λ (c : Change). CanRead shown c.table base × (c.row.0 < 4294967296)) cs
can_make shown base [] can = tt
can_make shown base (c ∷ cs) can = ((can.0.read, can.0.low), can_make shown base cs can.1)

pub made_is : (shown : Shown) (session base : ℕ) (changes written : List Change) (frozen view : Frozen) → view ≡ frozen → Keeps shown frozen written → frozen.changes ≡ changes → frozen.base ≡ base
    → IsMadeOf shown session base changes (record { session = session; view = view; written = written })
made_is shown session base changes written frozen view is keeps its at = record {
  session = refl;
  base = ap (λ (f : Frozen). f.base) is ∙ at;
  changes = ap (λ (f : Frozen). f.changes) is ∙ its;
  keeps = subst (λ (f : Frozen). Keeps shown f written) (sym is) keeps;
}

-- one change more
pub changes_next : (cs : List Change) (k : ℕ) (c : Change) (changes : List Change) → slice_get cs k ≡ Some c → with_change c (with_changes (take k cs) changes) ≡ with_changes (take (suc k) cs) changes
changes_next [] k c changes is = cc
changes_next (d ∷ ds) zero c changes is = ap (λ (x : Change). with_change x changes) (same_Some c d (sym is))
changes_next (d ∷ ds) (suc k) c changes is = changes_next ds k c (with_change d changes) is

-- further changes of what was made
pub made_further : (shown : Shown) (session base : ℕ) (changes new : List Change) (kept v : OwnView) → IsMadeOf shown session base changes kept
    → IsMadeOf shown kept.session kept.view.base (with_changes new kept.view.changes) v → IsMadeOf shown session base (with_changes new changes) v
made_further shown session base changes new kept v first then_made = record {
  session = then_made.session ∙ first.session;
  base = then_made.base ∙ first.base;
  changes = then_made.changes ∙ ap (with_changes new) first.changes;
  keeps = then_made.keeps;
}

-- ---- one that joins

pub put_or_not : {T E A B : Type 0} (r : Result T E) → OnOk r A → OnErr r B → B ⊎ A
put_or_not (Ok t) ok err = inr ok
put_or_not (Err e) ok err = inl err

pub joins : (P : OwnView → Type 0) (old new : List OwnView) (v : OwnView) → (new ≡ old) ⊎ (new ≡ old ++ v ∷ []) → P v → MayJoin P old new
joins P old new v (inl same) its = inl same
joins P old new v (inr more) its = inr (v, more, its)

pub all_joined : (P Q : OwnView → Type 0) (old new : List OwnView) → MayJoin P old new → AllByRecursion Q old → ((v : OwnView) → P v → Q v) → AllByRecursion Q new
all_joined P Q old new (inl same) all its = subst (AllByRecursion Q) (sym same) all
all_joined P Q old new (inr more) all its = subst (AllByRecursion Q) (sym more.1) (all_last Q old more.0 all (its more.0 more.2))
