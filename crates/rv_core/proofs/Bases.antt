-- The base of a session's transaction stays where others begin, change rows or end.
use Rattle.std.proofs.Common.{◌≡◌, ℕ, zero, suc, List, [], ◌∷◌, ◌++◌, false, ◌==◌, refl, ap, subst, arith, inl, inr, remove, Option, Some, if◌then◌else◌}
use Rattle.std.specs.List.{AllByRecursion}
use Rattle.std.proofs.lemmas.Bool.{cases_Bool}
use Rattle.std.proofs.lemmas.Grind.{common_steps}
use Rattle.rv_rows.specs.declared.changes.Change.{Change}
use Rattle.rv_reader.specs.Shown.{Shown, IsSnapshot}
use Rattle.rv_model.specs.declared.transactions.Transaction.{Transaction}
use Rattle.rv_model.specs.Transactions.{transaction_at}
use Rattle.rv_own.specs.Views.{changes_in}
use Rattle.rv_core.specs.Db.{IsActive, base_of}

pub base_pushed : (active : List Transaction) (t : Transaction) (session base : ℕ) → base_of active session ≡ Some base → base_of (active ++ t ∷ []) session ≡ Some base
base_pushed [] t session base h = cc
base_pushed (u ∷ us) t session base h = elim (cases_Bool (u.session == session)) [
  | inl own ↦ rw own (rw own at h)
  | inr other ↦ rw other (base_pushed us t session base (rw other at h))
]

none_left : (own : ℕ) → ◌≡◌ {A = List Transaction} (remove [] own) []
none_left own = grind (arith, common_steps)

pub base_without : (active : List Transaction) (own session : ℕ) → ((transaction_at active own).session == session) ≡ false → base_of (remove active own) session ≡ base_of active session
base_without [] own session other = ap (λ (ts : List Transaction). base_of ts session) (none_left own)
base_without (t ∷ ts) zero session other = rw other refl
base_without (t ∷ ts) (suc own) session other = ap (λ (r : Option ℕ). if t.session == session then Some t.base else r) (base_without ts own session other)

pub base_known : (shown : Shown) (touched : List (List ℕ)) (active : List Transaction) (session base : ℕ) → base_of active session ≡ Some base → AllByRecursion (IsActive shown touched) active → IsSnapshot shown base
base_known shown touched [] session base h all = cc
base_known shown touched (t ∷ ts) session base h all = elim (cases_Bool (t.session == session)) [
  | inl own ↦ let same : t.base ≡ base = some_is t.base base (rw own at h) in subst (IsSnapshot shown) same all.0.base
  | inr other ↦ base_known shown touched ts session base (rw other at h) all.1
]
  where
    some_is : (a b : ℕ) → Some a ≡ Some b → a ≡ b
    some_is a b e = cc

-- The changes of a session's transaction, in the same way.

-- of a session that has a transaction, where another one begins
pub changes_pushed : (active : List Transaction) (t : Transaction) (session base : ℕ) → base_of active session ≡ Some base → changes_in (active ++ t ∷ []) session ≡ changes_in active session
changes_pushed [] t session base h = cc
changes_pushed (u ∷ us) t session base h = elim (cases_Bool (u.session == session)) [
  | inl own ↦ rw own refl
  | inr other ↦ rw other (changes_pushed us t session base (rw other at h))
]

pub changes_without : (active : List Transaction) (own session : ℕ) → ((transaction_at active own).session == session) ≡ false → changes_in (remove active own) session ≡ changes_in active session
changes_without [] own session other = ap (λ (ts : List Transaction). changes_in ts session) (none_left own)
changes_without (t ∷ ts) zero session other = rw other refl
changes_without (t ∷ ts) (suc own) session other = ap (λ (cs : List Change). if t.session == session then t.changes else cs) (changes_without ts own session other)
